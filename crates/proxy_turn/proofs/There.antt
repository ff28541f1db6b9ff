-- Ends whose numbers were given: those that are read, and those that the effects of an act name.
use Rattle.std.proofs.Common.{◌≡◌, inl, inr, ℕ, zero, suc, ◌+◌, ◌-◌, ◌<◌, ◌≤◌, List, [], ◌∷◌, ◌++◌, length, map, get_or, refl, sym, ap, ◌∙◌, subst, arith, Bool, true, false, cond, ◌&&◌, nat_lt, nat_le, Option, None, Some, Result, Ok, Err}
use Rattle.std.proofs.Math.ListN.{get_or-eq_default}
use Rattle.std.proofs.lemmas.List.{length-set, length-append}
use Rattle.std.proofs.lemmas.Bool.{cases_order}
use Rattle.std.specs.Option.{option_map}
use Rattle.hx_framing.specs.declared.frame_fault.FrameFault.TheVariants as frame
use Rattle.hx_framing.specs.declared.messages.Next.{Next}
use Rattle.hx_framing.specs.declared.messages.Next.TheVariants as next
use Rattle.hx_framing.specs.declared.messages.Request.{Request}
use Rattle.hx_hop.specs.declared.request_view.Asked.{Asked}
use Rattle.hx_status.specs.declared.about.StatusAndReason.{StatusAndReason}
use Rattle.hx_status.specs.declared.question.MethodAndTarget.{MethodAndTarget}
use Rattle.proxy_core.specs.declared.event.Event.{Event}
use Rattle.proxy_core.specs.declared.event.Event.TheVariants as events
use Rattle.proxy_script.specs.declared.effect_list.Effect.{Effect}
use Rattle.proxy_script.specs.declared.effect_list.Effect.TheVariants as effects
use Rattle.proxy_engine.specs.Admitted.{Refusal}
use Rattle.proxy_engine.specs.EngineModel.{EngineModel, ConnectionModel, LinkModel, no_connection, no_link, new_link_model, connection_at, link_at, with_changed_connection, model_with_core, fault_of_unknown_connection, fault_of_unknown_link}
use Rattle.proxy_engine.specs.declared.endpoints.activities.Activity.TheVariants.{Free}
use Rattle.proxy_engine.specs.Due.{Act, Abandons, Finishes, Wakes, Serves, Gives, Breaks}
use Rattle.proxy_engine.specs.Questions.{question_of_request}
use Rattle.proxy_engine.specs.Acts.{request_is_head, ActIsDone, CoreIsStepped, RequestIsRefusedAndClosed, ConnectionIsClosedWithEffect, ConnectionRequestIsServed, RequestArrivesOrIsRefused, OutcomeOnConnection, Replies, Forwards, Queues, Nothing, outcome_with_origin_address, effects_of_outcome, model_after_outcome, next_link_number, model_after_link_freed, connection_with_activity, link_model_dropped, connection_with_due_answer_used}
use Rattle.proxy_engine.specs.Orderly.{ConnectionIsOpen, LinkIsDropped, EffectsNameOpenEnds, EndedEndsStayEnded}
use Rattle.proxy_engine.specs.declared.work.EngineFault.TheVariants.{NotAccepted, WrongNumber}
use Rattle.proxy_engine.specs.declared.work.End.{End}
use Rattle.proxy_engine.specs.declared.work.End.TheVariants as ends
use Rattle.hx_status.specs.declared.cause.Cause.{Cause}
use Rattle.hx_status.specs.declared.cause.FailKind.{FailKind}
use Rattle.proxy_turn.specs.Turn.{happening_of_bytes, happening_of_input_end, happening_of_loss, end_of_effect}
use Rattle.proxy_turn.specs.Parts.{EndNumberWasGiven, EndNumbersWereGiven, HappeningCanBeTaken}

-- ---- numbers

lt_true : (a b : ℕ) → a < b → nat_lt a b ≡ true
lt_true a b l = search (arith, l)

le_true : (a b : ℕ) → a ≤ b → nat_le a b ≡ true
le_true a b l = search (arith, l)

lt_from : (a b : ℕ) → nat_lt a b ≡ true → a < b
lt_from a b e = search (arith, e)

le_from : (a b : ℕ) → nat_le a b ≡ true → a ≤ b
le_from a b e = search (arith, e)

both_true : (a b : Bool) → a ≡ true → b ≡ true → a && b ≡ true
both_true true b e f = f
both_true false b e f = absurd cc

left_true : (a b : Bool) → a && b ≡ true → a ≡ true
left_true true b e = refl
left_true false b e = absurd cc

right_true : (a b : Bool) → a && b ≡ true → b ≡ true
right_true true b e = e
right_true false b e = absurd cc

none_true : {A : Type 0} (b : Bool) (x : A) → cond b None (Some x) ≡ None → b ≡ true
none_true true x e = refl
none_true false x e = absurd cc

client_there : (count n : ℕ) → 0 < n → n ≤ count → fault_of_unknown_connection count n ≡ None
client_there count n positive within =
    ap (λ (b : Bool). cond b None (Some NotAccepted)) (both_true (nat_lt 0 n) (nat_le n count) (lt_true 0 n positive) (le_true n count within))

link_there : (first count l : ℕ) → first ≤ l → l - first < count → fault_of_unknown_link first count l ≡ None
link_there first count l from within =
    ap (λ (b : Bool). cond b None (Some WrongNumber)) (both_true (nat_le first l) (nat_lt (l - first) count) (le_true first l from) (lt_true (l - first) count within))

client_within : (count n : ℕ) → fault_of_unknown_connection count n ≡ None → (0 < n) × (n ≤ count)
client_within count n free =
    let b = none_true (nat_lt 0 n && nat_le n count) NotAccepted free in
    (lt_from 0 n (left_true (nat_lt 0 n) (nat_le n count) b), le_from n count (right_true (nat_lt 0 n) (nat_le n count) b))

link_within : (first count l : ℕ) → fault_of_unknown_link first count l ≡ None → (first ≤ l) × (l - first < count)
link_within first count l free =
    let b = none_true (nat_le first l && nat_lt (l - first) count) WrongNumber free in
    (le_from first l (left_true (nat_le first l) (nat_lt (l - first) count) b), lt_from (l - first) count (right_true (nat_le first l) (nat_lt (l - first) count) b))

-- ---- an end that is there stays so

pub there_later : (s t : EngineModel) (end : End) → EndedEndsStayEnded s t → EndNumberWasGiven s end → EndNumberWasGiven t end
there_later s t ends.Listener stays there = tt
there_later s t (ends.Client n) stays there =
    let within = client_within (length s.connections) n there in
    let more = stays.connections in
    let above = within.0 in
    let below = within.1 in
    client_there (length t.connections) n above (omega (arith, below, more))
there_later s t (ends.Link l) stays there =
    let within = link_within s.first (length s.links) l there in
    let more = stays.links in
    let same = stays.first in
    let above = within.0 in
    let below = within.1 in
    link_there t.first (length t.links) l (omega (arith, above, same)) (omega (arith, below, same, more))

pub all_there_later : (s t : EngineModel) (es : List End) → EndedEndsStayEnded s t → EndNumbersWereGiven s es → EndNumbersWereGiven t es
all_there_later s t [] stays there = tt
all_there_later s t (end ∷ es) stays there = (there_later s t end stays there.0, all_there_later s t es stays there.1)

-- ---- what comes of it can be taken

pub arrived_free : (s : EngineModel) (end : End) (bytes : List ℕ) → EndNumberWasGiven s end → HappeningCanBeTaken s (happening_of_bytes end bytes)
arrived_free s ends.Listener bytes there = tt
arrived_free s (ends.Client n) bytes there = there
arrived_free s (ends.Link l) bytes there = there

pub ended_free : (s : EngineModel) (end : End) → EndNumberWasGiven s end → HappeningCanBeTaken s (happening_of_input_end end)
ended_free s ends.Listener there = tt
ended_free s (ends.Client n) there = there
ended_free s (ends.Link l) there = there

pub lost_free : (s : EngineModel) (end : End) (kind : FailKind) → EndNumberWasGiven s end → HappeningCanBeTaken s (happening_of_loss end kind)
lost_free s ends.Listener kind there = tt
lost_free s (ends.Client n) kind there = there
lost_free s (ends.Link l) kind there = there

-- ---- the ends of a list

pub there_at : (s : EngineModel) (es : List End) (i : ℕ) (end : End) → EndNumbersWereGiven s es → i < length es → end ≡ get_or es i end → EndNumberWasGiven s end
there_at s [] i end there l e = absurd (omega (arith, l))
there_at s (e ∷ es) zero end there l is = subst (EndNumberWasGiven s) (sym is) there.0
there_at s (e ∷ es) (suc i) end there l is = there_at s es i end there.1 (omega (arith, l)) is

-- ---- the ends that the effects of an act name

-- a request goes forward among them
abbrev forwards : List Effect → Bool
forwards [] = false
forwards (effects.Client n bytes replied ∷ rest) = forwards rest
forwards (effects.Close n ∷ rest) = forwards rest
forwards (effects.Forward l address bytes ∷ rest) = true
forwards (effects.Drop l ∷ rest) = forwards rest

not_both : {A : Type 0} (b : Bool) → b ≡ true → b ≡ false → A
not_both true e f = absurd cc
not_both false e f = absurd cc

replies_none : (i number : ℕ) (question : Option MethodAndTarget) (bytes : List ℕ) (about : StatusAndReason) (close : Bool) → forwards (effects_of_outcome i number question (Replies bytes about close)) ≡ false
replies_none i number question bytes about true = refl
replies_none i number question bytes about false = refl

-- a step whose effects name a new link opens it
steps_open : (s t : EngineModel) (i : ℕ) (asked : Option Asked) (event : Event) (before emitted : List Effect) (after : EngineModel) → length t.links ≡ length s.links → ((more : List Effect) → forwards (before ++ more) ≡ forwards more)
    → CoreIsStepped s t i asked event before emitted after → forwards emitted ≡ true → length s.links < length after.links
steps_open s t i asked event before emitted after same apart steps e = by (outcome_with_origin_address s.core.table steps.outcome) steps.emitted_is steps.after_is
  where
    by : (c : OutcomeOnConnection) → emitted ≡ before ++ effects_of_outcome i (next_link_number s) (option_map question_of_request asked) c → after ≡ model_after_outcome i (request_is_head asked) c (model_with_core t steps.core) → length s.links < length after.links
    by (Replies bytes about close) emitted_is after_is = not_both (forwards emitted) e (ap forwards emitted_is ∙ (apart (effects_of_outcome i (next_link_number s) (option_map question_of_request asked) (Replies bytes about close)) ∙ replies_none i (next_link_number s) (option_map question_of_request asked) bytes about close))
    by (Forwards address bytes) emitted_is after_is =
        let long = ap (λ (u : EngineModel). length u.links) after_is ∙ length-append t.links (new_link_model steps.core.table.max_body (request_is_head asked) i ∷ []) in
        omega (arith, same, long)
    by Queues emitted_is after_is = not_both (forwards emitted) e (ap forwards emitted_is ∙ apart [])
    by Nothing emitted_is after_is = not_both (forwards emitted) e (ap forwards emitted_is ∙ apart [])

-- an act whose effects name a new link opens it
opens : (s : EngineModel) (now : ℕ) (act : Act) (emitted : List Effect) (after : EngineModel) → ActIsDone s now act emitted after → forwards emitted ≡ true → length s.links < length after.links
opens s now (Abandons i (Some l)) emitted after done e =
    steps_open s (model_after_link_freed s l i) i None (events.Abandon (i + 1)) (effects.Drop (s.first + l) ∷ []) emitted after (length-set s.links l (link_model_dropped (link_at s l))) (λ more. refl) done e
opens s now (Abandons i None) emitted after done e = steps_open s (with_changed_connection s i (connection_with_activity Free)) i None (events.Abandon (i + 1)) [] emitted after refl (λ more. refl) done e
opens s now (Finishes j (Gives r)) emitted after done e = steps_open s (model_after_link_freed s j (link_at s j).connection) _ _ _ (effects.Drop (s.first + j) ∷ []) emitted after (length-set s.links j (link_model_dropped (link_at s j))) (λ more. refl) done.1 e
opens s now (Finishes j (Breaks kind)) emitted after done e = steps_open s (model_after_link_freed s j (link_at s j).connection) _ _ _ (effects.Drop (s.first + j) ∷ []) emitted after (length-set s.links j (link_model_dropped (link_at s j))) (λ more. refl) done e
opens s now (Wakes i) emitted after done e = steps_open s (with_changed_connection s i (connection_with_activity Free)) i _ (events.Wake now (i + 1)) [] emitted after refl (λ more. refl) done.1 e
opens s now (Serves i action) emitted after done e = by_action action done
  where
    refuses : (why : Cause) (head : Bool) (question : Option MethodAndTarget) → RequestIsRefusedAndClosed s now i why head question emitted after → length s.links < length after.links
    refuses why head question d = not_both (forwards emitted) e (ap forwards d.emitted_is)

    closes : ConnectionIsClosedWithEffect s i emitted after → length s.links < length after.links
    closes d = not_both (forwards emitted) e (ap forwards d.0)

    arrives : (r : Request) (judged : Result Asked Refusal) → RequestArrivesOrIsRefused s now i r judged emitted after → length s.links < length after.links
    arrives r (Ok asked) d = steps_open s (with_changed_connection s i (connection_with_due_answer_used (next.Message r))) _ _ _ [] emitted after refl (λ more. refl) d.1 e
    arrives r (Err refusal) d = refuses _ _ _ d

    by_action : (w : Next Request) → ConnectionRequestIsServed s now i w emitted after → length s.links < length after.links
    by_action next.More d = absurd d
    by_action next.NeedsContinue d = not_both (forwards emitted) e (ap forwards d.0)
    by_action (next.Message r) d = arrives r d.0 d.2
    by_action (next.Refused frame.Truncated) d = closes d
    by_action (next.Refused frame.Head) d = refuses _ _ _ d
    by_action (next.Refused frame.Version) d = refuses _ _ _ d
    by_action (next.Refused frame.BothLengths) d = refuses _ _ _ d
    by_action (next.Refused frame.Length) d = refuses _ _ _ d
    by_action (next.Refused frame.Coding) d = refuses _ _ _ d
    by_action (next.Refused frame.Chunk) d = refuses _ _ _ d
    by_action (next.Refused frame.TooLarge) d = refuses _ _ _ d
    by_action (next.Refused frame.Expect) d = refuses _ _ _ d
    by_action (next.Refused frame.Status) d = refuses _ _ _ d
    by_action next.End d = closes d

-- what isn't closed, or isn't dropped, is no stand-in
open_inside : (s : EngineModel) (i : ℕ) → (connection_at s i).closed ≡ false → i < length s.connections
open_inside s i unclosed = elim (cases_order i (length s.connections)) [
  | inl is ↦ beyond (omega (arith, is))
  | inr (inl less) ↦ less
  | inr (inr more) ↦ beyond (omega (arith, more))
]
  where
    beyond : length s.connections ≤ i → i < length s.connections
    beyond l = not_both true refl (sym (ap (λ (c : ConnectionModel). c.closed) (get_or-eq_default s.connections no_connection l)) ∙ unclosed)

link_inside : (s : EngineModel) (j : ℕ) → (link_at s j).dropped ≡ false → j < length s.links
link_inside s j undropped = elim (cases_order j (length s.links)) [
  | inl is ↦ beyond (omega (arith, is))
  | inr (inl less) ↦ less
  | inr (inr more) ↦ beyond (omega (arith, more))
]
  where
    beyond : length s.links ≤ j → j < length s.links
    beyond l = not_both true refl (sym (ap (λ (k : LinkModel). k.dropped) (get_or-eq_default s.links no_link l)) ∙ undropped)

module _ (s after : EngineModel) (stays : EndedEndsStayEnded s after) where
  client_named : (n : ℕ) → ConnectionIsOpen s n → EndNumberWasGiven after (ends.Client n)
  client_named n is =
      let inside = open_inside s is.place is.closed in
      let number = is.number in
      let more = stays.connections in
      client_there (length after.connections) n (omega (arith, number)) (omega (arith, number, inside, more))

  dropped_named : (l : ℕ) → LinkIsDropped s after l → EndNumberWasGiven after (ends.Link l)
  dropped_named l is =
      let inside = link_inside s is.place is.still in
      let number = is.number in
      let more = stays.links in
      let same = stays.first in
      link_there after.first (length after.links) l (omega (arith, number, same)) (omega (arith, number, same, inside, more))

  opened_named : (l : ℕ) → l ≡ next_link_number s → length s.links < length after.links → EndNumberWasGiven after (ends.Link l)
  opened_named l number long =
      let same = stays.first in
      link_there after.first (length after.links) l (omega (arith, number, same)) (omega (arith, number, same, long))

  named : (emitted : List Effect) → EffectsNameOpenEnds s after emitted → (forwards emitted ≡ true → length s.links < length after.links) → EndNumbersWereGiven after (map end_of_effect emitted)
  named [] names long = tt
  named (effects.Client n bytes replied ∷ rest) names long = (client_named n names.0, named rest names.1 long)
  named (effects.Close n ∷ rest) names long = (client_named n names.0, named_last rest names.2)
    where
      named_last : (rest : List Effect) → rest ≡ [] → EndNumbersWereGiven after (map end_of_effect rest)
      named_last [] e = tt
      named_last (x ∷ rest) e = absurd cc
  named (effects.Forward l address bytes ∷ rest) names long = (opened_named l names.0 (long refl), named rest names.1 (λ e. long refl))
  named (effects.Drop l ∷ rest) names long = (dropped_named l names.0, named rest names.1 long)

-- what the effects of an act name is there behind it
pub effects_there : (s : EngineModel) (now : ℕ) (act : Act) (emitted : List Effect) (after : EngineModel) → EndedEndsStayEnded s after → EffectsNameOpenEnds s after emitted → ActIsDone s now act emitted after → EndNumbersWereGiven after (map end_of_effect emitted)
effects_there s now act emitted after stays names done = named s after stays emitted names (opens s now act emitted after done)
