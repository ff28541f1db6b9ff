-- An act drops one link at most, and tells it.
use Rattle.proxy_engine.specs.declared.endpoints.activities.Activity.TheVariants.{Free}
use Rattle.std.proofs.Common.{◌≡◌, ◌⊎◌, inl, inr, ℕ, zero, suc, ◌+◌, ◌-◌, ◌<◌, ◌≤◌, List, [], ◌∷◌, ◌++◌, length, get_or, set, refl, sym, ap, ◌∙◌, subst, arith, Bool, true, false, cond, ◌||◌, Option, Some, is_some, Result, Ok, Err, None}
use Rattle.std.specs.Option.{option_map}
use Rattle.hx_framing.specs.declared.messages.Request.{Request}
use Rattle.hx_framing.specs.declared.frame_fault.FrameFault.TheVariants as frame
use Rattle.hx_framing.specs.declared.messages.Next.{Next}
use Rattle.hx_framing.specs.declared.messages.Next.TheVariants as next
use Rattle.hx_framing.specs.Progress.{progress_after_piece, progress_after_end}
use Rattle.hx_hop.specs.declared.request_view.Asked.{Asked}
use Rattle.hx_status.specs.declared.cause.Cause.{Cause}
use Rattle.proxy_core.specs.declared.event.Event.{Event}
use Rattle.hx_status.specs.declared.question.MethodAndTarget.{MethodAndTarget}
use Rattle.proxy_script.specs.declared.effect_list.Effect.{Effect}
use Rattle.proxy_script.specs.declared.effect_list.Effect.TheVariants as effects
use Rattle.proxy_engine.specs.Admitted.{Refusal}
use Rattle.proxy_engine.specs.Happenings.{Accepts, Sends, Hears, Ends, Leaves, Retires, Overdues, Shuts, Fails}
use Rattle.proxy_engine.specs.EngineModel.{EngineModel, LinkModel, no_link, new_link_model, link_at, link_after_bytes, link_after_end, link_after_its_failure, model_with_core, with_changed_connection}
use Rattle.proxy_engine.specs.Questions.{question_of_request}
use Rattle.proxy_engine.specs.Due.{Abandons, Finishes, Wakes, Serves, Gives, Breaks}
use Rattle.proxy_engine.specs.Acts.{request_is_head, OutcomeOnConnection, Replies, Forwards, Nothing, outcome_with_origin_address, effects_of_outcome, next_link_number, model_after_outcome, model_after_link_freed, link_model_dropped, CoreIsStepped, ConnectionRequestIsServed, RequestArrivesOrIsRefused, RequestIsRefusedAndClosed, ConnectionIsClosedWithEffect, Queues, connection_with_activity}
use Rattle.proxy_engine.specs.Drops.{EffectsDropNoLink, OnlyFirstEffectMayDropALink, ActHasFewEffects, EachDroppedLinkIsEmitted, HappeningsDropNoLink}

-- ---- how many effects

-- two at most, and none of them drops a link
abbrev IsPlain : List Effect → Type 0
IsPlain emitted = (length emitted ≤ 2) × EffectsDropNoLink emitted

on_plain : (i n : ℕ) (question : Option MethodAndTarget) (q : OutcomeOnConnection) → IsPlain (effects_of_outcome i n question q)
on_plain i n question (Replies bytes about true) = (omega arith, (refl, (refl, tt)))
on_plain i n question (Replies bytes about false) = (omega arith, (refl, tt))
on_plain i n question (Forwards address bytes) = (omega arith, (refl, tt))
on_plain i n question Queues = (omega arith, tt)
on_plain i n question Nothing = (omega arith, tt)

abbrev IsShort : List Effect → Type 0
IsShort emitted = (length emitted ≤ 3) × OnlyFirstEffectMayDropALink emitted

first_drops : (emitted : List Effect) → EffectsDropNoLink emitted → OnlyFirstEffectMayDropALink emitted
first_drops [] h = tt
first_drops (e ∷ emitted) h = h.1

short_of : (emitted said : List Effect) → emitted ≡ said → IsPlain said → IsShort emitted
short_of emitted said e h = subst IsShort (sym e) (let few = h.0 in omega (arith, few), first_drops said h.1)

short_behind : (emitted said : List Effect) (l : ℕ) → emitted ≡ effects.Drop l ∷ said → IsPlain said → IsShort emitted
short_behind emitted said l e h = subst IsShort (sym e) (let few = h.0 in omega (arith, few), h.1)

stepped_short : (s t : EngineModel) (i l : ℕ) (asked : Option Asked) (event : Event) (emitted : List Effect) (after : EngineModel) → CoreIsStepped s t i asked event (effects.Drop l ∷ []) emitted after → IsShort emitted
stepped_short s t i l asked event emitted after h = short_behind emitted _ l h.emitted_is (on_plain i (next_link_number s) _ (outcome_with_origin_address s.core.table h.outcome))

plain_short : (s t : EngineModel) (i : ℕ) (asked : Option Asked) (event : Event) (emitted : List Effect) (after : EngineModel) → CoreIsStepped s t i asked event [] emitted after → IsShort emitted
plain_short s t i asked event emitted after h = short_of emitted _ h.emitted_is (on_plain i (next_link_number s) _ (outcome_with_origin_address s.core.table h.outcome))

refused_short : (s : EngineModel) (now i : ℕ) (why : Cause) (head : Bool) (question : Option MethodAndTarget) (emitted : List Effect) (after : EngineModel) → RequestIsRefusedAndClosed s now i why head question emitted after → IsShort emitted
refused_short s now i why head question emitted after h = short_of emitted _ h.emitted_is (omega arith, (refl, (refl, tt)))

closed_short : (s : EngineModel) (i : ℕ) (emitted : List Effect) (after : EngineModel) → ConnectionIsClosedWithEffect s i emitted after → IsShort emitted
closed_short s i emitted after h = short_of emitted _ h.0 (omega arith, (refl, tt))

arrived_short : (s : EngineModel) (now i : ℕ) (r : Request) (judged : Result Asked Refusal) (emitted : List Effect) (after : EngineModel) → RequestArrivesOrIsRefused s now i r judged emitted after → IsShort emitted
arrived_short s now i r (Ok asked) emitted after h = short_of emitted _ h.1.emitted_is (on_plain i (next_link_number s) _ (outcome_with_origin_address s.core.table h.1.outcome))
arrived_short s now i r (Err refusal) emitted after h = refused_short s now i _ _ _ emitted after h

served_short : (s : EngineModel) (now i : ℕ) (w : Next Request) (emitted : List Effect) (after : EngineModel) → ConnectionRequestIsServed s now i w emitted after → IsShort emitted
served_short s now i next.More emitted after h = absurd h
served_short s now i next.NeedsContinue emitted after h = short_of emitted _ h.0 (omega arith, (refl, tt))
served_short s now i (next.Message r) emitted after h = arrived_short s now i r h.0 emitted after h.2
served_short s now i (next.Refused frame.Truncated) emitted after h = closed_short s i emitted after h
served_short s now i (next.Refused frame.Head) emitted after h = refused_short s now i _ _ _ emitted after h
served_short s now i (next.Refused frame.Version) emitted after h = refused_short s now i _ _ _ emitted after h
served_short s now i (next.Refused frame.BothLengths) emitted after h = refused_short s now i _ _ _ emitted after h
served_short s now i (next.Refused frame.Length) emitted after h = refused_short s now i _ _ _ emitted after h
served_short s now i (next.Refused frame.Coding) emitted after h = refused_short s now i _ _ _ emitted after h
served_short s now i (next.Refused frame.Chunk) emitted after h = refused_short s now i _ _ _ emitted after h
served_short s now i (next.Refused frame.TooLarge) emitted after h = refused_short s now i _ _ _ emitted after h
served_short s now i (next.Refused frame.Expect) emitted after h = refused_short s now i _ _ _ emitted after h
served_short s now i (next.Refused frame.Status) emitted after h = refused_short s now i _ _ _ emitted after h
served_short s now i next.End emitted after h = closed_short s i emitted after h

pub acts_are_short : ActHasFewEffects
acts_are_short s now (Abandons i (Some l)) emitted after h = stepped_short s _ i _ _ _ emitted after h
acts_are_short s now (Abandons i None) emitted after h = plain_short s _ i _ _ emitted after h
acts_are_short s now (Finishes j (Gives r)) emitted after h = stepped_short s _ _ _ _ _ emitted after h.1
acts_are_short s now (Finishes j (Breaks kind)) emitted after h = stepped_short s _ _ _ _ _ emitted after h
acts_are_short s now (Wakes i) emitted after h = plain_short s _ i _ _ emitted after h.1
acts_are_short s now (Serves i w) emitted after h = served_short s now i w emitted after h

-- ---- what is told of a link that is dropped

abbrev IsDropped : List LinkModel → ℕ → Type 0
IsDropped ks j = (j < length ks) × ((get_or ks j no_link).dropped ≡ true)

dropped_set : (ks : List LinkModel) (i : ℕ) (y : LinkModel) (j : ℕ) → IsDropped (set ks i y) j → (j ≡ i) ⊎ IsDropped ks j
dropped_set [] i y j h = inr h
dropped_set (k ∷ ks) zero y zero h = inl refl
dropped_set (k ∷ ks) zero y (suc j) h = inr h
dropped_set (k ∷ ks) (suc i) y zero h = inr (omega arith, h.1)
dropped_set (k ∷ ks) (suc i) y (suc j) h = by_rest (dropped_set ks i y j (let below = h.0 in omega (arith, below), h.1))
  where
    by_rest : (j ≡ i) ⊎ IsDropped ks j → (suc j ≡ suc i) ⊎ IsDropped (k ∷ ks) (suc j)
    by_rest (inl e) = inl (ap suc e)
    by_rest (inr d) = inr (let below = d.0 in omega (arith, below), d.1)

dropped_push : (ks : List LinkModel) (y : LinkModel) (j : ℕ) → y.dropped ≡ false → IsDropped (ks ++ y ∷ []) j → IsDropped ks j
dropped_push [] y zero e h = let both : true ≡ false = sym h.1 ∙ e in absurd (cc)
dropped_push [] y (suc j) e h = let below = h.0 in absurd (omega (arith, below))
dropped_push (k ∷ ks) y zero e h = (omega arith, h.1)
dropped_push (k ∷ ks) y (suc j) e h = let d = dropped_push ks y j e (let below = h.0 in omega (arith, below), h.1) in (let below = d.0 in omega (arith, below), d.1)

dropped_on : (i : ℕ) (to_head : Bool) (q : OutcomeOnConnection) (s : EngineModel) (j : ℕ) → IsDropped (model_after_outcome i to_head q s).links j → IsDropped s.links j
dropped_on i to_head (Replies bytes about close) s j h = h
dropped_on i to_head (Forwards address bytes) s j h = dropped_push s.links (new_link_model s.core.table.max_body to_head i) j refl h
dropped_on i to_head Queues s j h = h
dropped_on i to_head Nothing s j h = h

dropped_equal : (s t : EngineModel) (j : ℕ) → s ≡ t → IsDropped s.links j → IsDropped t.links j
dropped_equal s t j e h = subst (λ (u : EngineModel). IsDropped u.links j) e h

abbrev IsEmitted : EngineModel → List Effect → ℕ → Type 0
IsEmitted s emitted j = IsDropped s.links j ⊎ ((rest : List Effect) × (emitted ≡ effects.Drop (s.first + j) ∷ rest))

stepped_emitted : (s : EngineModel) (k c i : ℕ) (asked : Option Asked) (event : Event) (emitted : List Effect) (after : EngineModel) (j : ℕ) → CoreIsStepped s (model_after_link_freed s k c) i asked event (effects.Drop (s.first + k) ∷ []) emitted after →
    IsDropped after.links j → IsEmitted s emitted j
stepped_emitted s k c i asked event emitted after j h d =
    by_place (dropped_set s.links k (link_model_dropped (link_at s k)) j (dropped_on i (request_is_head asked) (outcome_with_origin_address s.core.table h.outcome) (model_with_core (model_after_link_freed s k c) h.core) j (dropped_equal after _ j h.after_is d)))
  where
    by_place : (j ≡ k) ⊎ IsDropped s.links j → IsEmitted s emitted j
    by_place (inl e) = inr (_, h.emitted_is ∙ ap (λ n. effects.Drop (s.first + n) ∷ effects_of_outcome i (next_link_number s) (option_map question_of_request asked) (outcome_with_origin_address s.core.table h.outcome)) (sym e))
    by_place (inr before) = inl before

plain_emitted : (s : EngineModel) (i : ℕ) (asked : Option Asked) (event : Event) (emitted : List Effect) (after : EngineModel) (j : ℕ) → CoreIsStepped s (with_changed_connection s i (connection_with_activity Free)) i asked event [] emitted after → IsDropped after.links j → IsDropped s.links j
plain_emitted s i asked event emitted after j h d =
    dropped_on i (request_is_head asked) (outcome_with_origin_address s.core.table h.outcome) (model_with_core (with_changed_connection s i (connection_with_activity Free)) h.core) j (dropped_equal after _ j h.after_is d)

arrived_emitted : (s : EngineModel) (now i : ℕ) (r : Request) (judged : Result Asked Refusal) (emitted : List Effect) (after : EngineModel) (j : ℕ) → RequestArrivesOrIsRefused s now i r judged emitted after → IsDropped after.links j → IsDropped s.links j
arrived_emitted s now i r (Ok asked) emitted after j h d = dropped_on i _ (outcome_with_origin_address s.core.table h.1.outcome) _ j (dropped_equal after _ j h.1.after_is d)
arrived_emitted s now i r (Err refusal) emitted after j h d = dropped_equal after _ j h.after_is d

served_emitted : (s : EngineModel) (now i : ℕ) (w : Next Request) (emitted : List Effect) (after : EngineModel) (j : ℕ) → ConnectionRequestIsServed s now i w emitted after → IsDropped after.links j → IsDropped s.links j
served_emitted s now i next.More emitted after j h d = absurd h
served_emitted s now i next.NeedsContinue emitted after j h d = dropped_equal after _ j h.1 d
served_emitted s now i (next.Message r) emitted after j h d = arrived_emitted s now i r h.0 emitted after j h.2 d
served_emitted s now i (next.Refused frame.Truncated) emitted after j h d = dropped_equal after _ j h.1 d
served_emitted s now i (next.Refused frame.Head) emitted after j h d = dropped_equal after _ j h.after_is d
served_emitted s now i (next.Refused frame.Version) emitted after j h d = dropped_equal after _ j h.after_is d
served_emitted s now i (next.Refused frame.BothLengths) emitted after j h d = dropped_equal after _ j h.after_is d
served_emitted s now i (next.Refused frame.Length) emitted after j h d = dropped_equal after _ j h.after_is d
served_emitted s now i (next.Refused frame.Coding) emitted after j h d = dropped_equal after _ j h.after_is d
served_emitted s now i (next.Refused frame.Chunk) emitted after j h d = dropped_equal after _ j h.after_is d
served_emitted s now i (next.Refused frame.TooLarge) emitted after j h d = dropped_equal after _ j h.after_is d
served_emitted s now i (next.Refused frame.Expect) emitted after j h d = dropped_equal after _ j h.after_is d
served_emitted s now i (next.Refused frame.Status) emitted after j h d = dropped_equal after _ j h.after_is d
served_emitted s now i next.End emitted after j h d = dropped_equal after _ j h.1 d

pub acts_emit_drops : EachDroppedLinkIsEmitted
acts_emit_drops s now (Abandons i (Some l)) emitted after j h below d = stepped_emitted s l i i _ _ emitted after j h (below, d)
acts_emit_drops s now (Abandons i None) emitted after j h below d = inl (plain_emitted s i _ _ emitted after j h (below, d))
acts_emit_drops s now (Finishes k (Gives r)) emitted after j h below d = stepped_emitted s k (link_at s k).connection (link_at s k).connection _ _ emitted after j h.1 (below, d)
acts_emit_drops s now (Finishes k (Breaks kind)) emitted after j h below d = stepped_emitted s k (link_at s k).connection (link_at s k).connection _ _ emitted after j h (below, d)
acts_emit_drops s now (Wakes i) emitted after j h below d = inl (plain_emitted s i _ _ emitted after j h.1 (below, d))
acts_emit_drops s now (Serves i w) emitted after j h below d = inl (served_emitted s now i w emitted after j h (below, d))

-- ---- what happens drops no link

same_set : (ks : List LinkModel) (i : ℕ) (y : LinkModel) (j : ℕ) → y.dropped ≡ (get_or ks i no_link).dropped → (get_or (set ks i y) j no_link).dropped ≡ (get_or ks j no_link).dropped
same_set [] i y j e = refl
same_set (k ∷ ks) zero y zero e = e
same_set (k ∷ ks) zero y (suc j) e = refl
same_set (k ∷ ks) (suc i) y zero e = refl
same_set (k ∷ ks) (suc i) y (suc j) e = same_set ks i y j e

same_by : (b : Bool) (k l : LinkModel) → l.dropped ≡ k.dropped → (cond b k l).dropped ≡ k.dropped
same_by true k l e = refl
same_by false k l e = e

pub takes_drop_none : HappeningsDropNoLink
takes_drop_none s (Accepts n) j = refl
takes_drop_none s (Sends n bytes) j = refl
takes_drop_none s (Ends n) j = refl
takes_drop_none s (Leaves n) j = refl
takes_drop_none s (Retires n) j = refl
takes_drop_none s (Overdues n) j = refl
takes_drop_none s (Hears l bytes) j =
    let k = link_at s (l - s.first) in
    same_set s.links (l - s.first) (link_after_bytes bytes k) j (same_by (k.dropped || (is_some k.failed || k.progress.ended)) k (record k { progress = progress_after_piece k.progress bytes }) refl)
takes_drop_none s (Shuts l) j =
    let k = link_at s (l - s.first) in
    same_set s.links (l - s.first) (link_after_end k) j (same_by (k.dropped || is_some k.failed) k (record k { progress = progress_after_end k.progress }) refl)
takes_drop_none s (Fails l kind) j =
    let k = link_at s (l - s.first) in
    same_set s.links (l - s.first) (link_after_its_failure kind k) j (same_by (k.dropped || is_some k.failed) k (record k { failed = Some kind }) refl)
