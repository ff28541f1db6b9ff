-- What a pending reply leaves of the held responses is what its step leaves of them.
use Rattle.std.proofs.Common.{◌≡◌, inl, inr, ℕ, Bool, true, false, not, ◌&&◌, ◌||◌, ◌==◌, eqb, cond, Option, None, Some, is_some, List, [], ◌∷◌, refl, sym, ◌∙◌, ap, subst}
use Rattle.std.specs.Option.{option_and_then}
use Rattle.hx_target.specs.declared.keys.Key.{Key}
use Rattle.hx_target.specs.Keys.{same_key}
use Rattle.std.specs.Prelude.{option_map, Result, Ok, Err, IfOk}
use Rattle.std.proofs.lemmas.Bool.{eqb-true, eq-eqb, cases_Bool, false≢true}
use Rattle.std.proofs.lemmas.Option.{same_Some}
use Rattle.hx_framing.specs.declared.messages.Response.{Response}
use Rattle.hx_store.specs.Stored.{Stored}
use Rattle.hx_store.specs.Shelf.{find_entry_of_serial, holds_serial, without_serials, entries_with_first_if_any, entries_with_promoted}
use Rattle.hx_status.specs.declared.cause.FailKind.{FailKind}
use Rattle.hx_validate.specs.Answering.{is_validated_by_304, freshened_of}
use Rattle.hx_hop.specs.Answering.{answered_of}
use Rattle.proxy_core.specs.declared.steps.condition.Condition.{Condition}
use Rattle.proxy_core.specs.declared.open.exchange.Exchange.{Exchange}
use Rattle.proxy_core.specs.declared.event.Event.{Event}
use Rattle.proxy_core.specs.declared.event.Event.TheVariants.{Answer, Fail, Wake}
use Rattle.proxy_core.specs.declared.replies.pending.Change.{Change}
use Rattle.proxy_core.specs.declared.replies.pending.Change.TheVariants.{Keep, Use, Freshen, Remove, Store}
use Rattle.proxy_core.specs.declared.replies.pending.PendingReply.{PendingReply}
use Rattle.proxy_core.specs.declared.replies.pending.AfterAnswer.{AfterAnswer}
use Rattle.proxy_core.specs.declared.replies.pending.AfterAnswer.TheVariants.{Ends, GoesOn}
use Rattle.proxy_core.specs.Validating.{is_304_to_own_conditions, stored_response_is_answered_by_304, condition_is_answered_by_304, stored_response_asked_about, stored_response_if_answered_by_304, stored_response_validated_by_304, freshened_by_304}
use Rattle.hx_store.specs.Weights.{StoreBounds}
use Rattle.proxy_core.specs.State.{cut_to_bounds_if_stored_or_used, entries_without_serials, stored_response_freshened_by_event, entries_after_use, entries_after_removal_and_storing}
use Rattle.proxy_core.specs.Pending.{serial_stored_by_change, serial_used_by_change, entries_before_eviction, ChangeIsMadeByAnswer, ChangeOnlyKeepsOrUses, IsChangeAfterFreshening, StoresUnderNextSerial, FreshensHeldResponse, HeldAfterReplyIsThatOfStep, HeldAfterAnswerIsThatOfStep, AnswerChangeIsApplicable, AnswerOnlyKeepsOrUsesStored}

and_left : (a b : Bool) → (a && true) ≡ false → (a && b) ≡ false
and_left true b h = absurd (cc)
and_left false b h = refl

-- what isn't a 304 to the proxy's conditions answers no held response
unanswered_by : (c : Option Condition) (r : Response) (now : ℕ) (e : Stored) → ((r.status == 304) && is_some c) ≡ false → condition_is_answered_by_304 c r now e ≡ false
unanswered_by None r now e h = refl
unanswered_by (Some c) r now e h = and_left (r.status == 304) ((c.serial == e.serial) && is_validated_by_304 e c.sent (answered_of r now)) h

pub unanswered : (x : Exchange) (r : Response) (now : ℕ) (e : Stored) → is_304_to_own_conditions x r ≡ false → stored_response_is_answered_by_304 x r now e ≡ false
unanswered x r now e h = unanswered_by x.condition r now e h

module _ (bounds : StoreBounds) (es : List Stored) (x : Exchange) (now id : ℕ) where
  same_use : (event : Event) (o : Option Stored) → ((e : Stored) → stored_response_freshened_by_event (Some x) event e ≡ e) → option_map (stored_response_freshened_by_event (Some x) event) o ≡ o
  same_use event None h = refl
  same_use event (Some e) h = ap Some (h e)

  same_used : (event : Event) (serial : ℕ) → ((e : Stored) → stored_response_freshened_by_event (Some x) event e ≡ e) → entries_with_promoted serial es ≡ entries_after_use (Some x) event (Some serial) es
  same_used event serial h = ap (λ (o : Option Stored). entries_with_first_if_any o (without_serials (serial ∷ []) es)) (sym (same_use event (find_entry_of_serial serial es) h))

  made_by : (r : Response) (removed : List ℕ) (c : Change) → ((e : Stored) → stored_response_freshened_by_event (Some x) (Answer now id r) e ≡ e) → ChangeIsMadeByAnswer x r now c
      → entries_before_eviction removed c es ≡ entries_after_removal_and_storing (Some x) (Answer now id r) (serial_stored_by_change c) removed (entries_after_use (Some x) (Answer now id r) (serial_used_by_change c) es)
  made_by r removed Keep h m = refl
  made_by r removed (Use serial) h m = ap (entries_without_serials removed) (same_used (Answer now id r) serial h)
  made_by r removed (Freshen e) h m = absurd m
  made_by r removed (Remove serial) h m = absurd m
  made_by r removed (Store e) h m = ap (λ (z : Stored). z ∷ without_serials removed es) m

  -- an answer that is passed on, or in whose place a held response is sent as it is
  pub makes_leaves : (r : Response) (t : PendingReply) → is_304_to_own_conditions x r ≡ false → ChangeIsMadeByAnswer x r now t.change → HeldAfterReplyIsThatOfStep bounds es x (Answer now id r) t
  makes_leaves r t h m =
      ap (cut_to_bounds_if_stored_or_used bounds (serial_stored_by_change t.change) (serial_used_by_change t.change))
      (made_by r t.removed t.change (λ e. ap (λ b. cond b (freshened_by_304 x r now e) e) (unanswered x r now e h)) m)

  plain_by : (event : Event) (same : (e : Stored) → stored_response_freshened_by_event (Some x) event e ≡ e) (removed : List ℕ) (c : Change) → ChangeOnlyKeepsOrUses c
      → entries_before_eviction removed c es ≡ entries_after_removal_and_storing (Some x) event (serial_stored_by_change c) removed (entries_after_use (Some x) event (serial_used_by_change c) es)
  plain_by event same removed Keep m = refl
  plain_by event same removed (Use serial) m = ap (entries_without_serials removed) (same_used event serial same)
  plain_by event same removed (Freshen e) m = absurd m
  plain_by event same removed (Remove serial) m = absurd m
  plain_by event same removed (Store e) m = absurd m

  -- a failure
  pub fail_leaves : (kind : FailKind) (t : PendingReply) → ChangeOnlyKeepsOrUses t.change → HeldAfterReplyIsThatOfStep bounds es x (Fail now id kind) t
  fail_leaves kind t m = ap (cut_to_bounds_if_stored_or_used bounds (serial_stored_by_change t.change) (serial_used_by_change t.change)) (plain_by (Fail now id kind) (λ e. refl) t.removed t.change m)

  -- a wake
  pub wake_leaves : (t : PendingReply) → ChangeOnlyKeepsOrUses t.change → HeldAfterReplyIsThatOfStep bounds es x (Wake now id) t
  wake_leaves t m = ap (cut_to_bounds_if_stored_or_used bounds (serial_stored_by_change t.change) (serial_used_by_change t.change)) (plain_by (Wake now id) (λ e. refl) t.removed t.change m)

-- a pending reply that stores and freshens nothing
pub plain_makes : (x : Exchange) (r : Response) (now : ℕ) (c : Change) → ChangeOnlyKeepsOrUses c → ChangeIsMadeByAnswer x r now c
plain_makes x r now Keep h = tt
plain_makes x r now (Use serial) h = tt
plain_makes x r now (Freshen e) h = h
plain_makes x r now (Remove serial) h = h
plain_makes x r now (Store e) h = absurd h

pub plain_next : (next : Option ℕ) (c : Change) → ChangeOnlyKeepsOrUses c → StoresUnderNextSerial next c
plain_next next Keep h = tt
plain_next next (Use serial) h = tt
plain_next next (Freshen e) h = tt
plain_next next (Remove serial) h = tt
plain_next next (Store e) h = absurd h

pub plain_held : (es : List Stored) (c : Change) → ChangeOnlyKeepsOrUses c → FreshensHeldResponse c es
plain_held es Keep h = tt
plain_held es (Use serial) h = tt
plain_held es (Freshen e) h = absurd h
plain_held es (Remove serial) h = tt
plain_held es (Store e) h = tt

-- what an answer makes is held without being freshened
pub made_held : (x : Exchange) (r : Response) (now : ℕ) (es : List Stored) (c : Change) → ChangeIsMadeByAnswer x r now c → FreshensHeldResponse c es
made_held x r now es Keep h = tt
made_held x r now es (Use serial) h = tt
made_held x r now es (Freshen e) h = absurd h
made_held x r now es (Remove serial) h = tt
made_held x r now es (Store e) h = tt

pub plain_is : (serial : ℕ) (c : Change) → c ≡ Use serial → ChangeOnlyKeepsOrUses c
plain_is serial c h = subst ChangeOnlyKeepsOrUses (sym h) tt

pub plain_keep : (c : Change) → c ≡ Keep → ChangeOnlyKeepsOrUses c
plain_keep c h = subst ChangeOnlyKeepsOrUses (sym h) tt

-- ---- a 304 that answers a held response

find_serial : (s : ℕ) (es : List Stored) (e : Stored) → find_entry_of_serial s es ≡ Some e → e.serial ≡ s
find_serial s [] e h = absurd (cc)
find_serial s (f ∷ es) e h = elim (cases_Bool (eqb f.serial s)) [
  | inl t ↦ (let k : Some f ≡ Some e = sym (ap (λ b. cond b (Some f) (find_entry_of_serial s es)) t) ∙ h in sym (ap (λ (z : Stored). z.serial) (same_Some f e k)) ∙ eqb-true f.serial s t)
  | inr n ↦ find_serial s es e (sym (ap (λ b. cond b (Some f) (find_entry_of_serial s es)) n) ∙ h)
]

find_holds : (s : ℕ) (es : List Stored) (e : Stored) → find_entry_of_serial s es ≡ Some e → holds_serial s es ≡ true
find_holds s [] e h = absurd (cc)
find_holds s (f ∷ es) e h = elim (cases_Bool (eqb f.serial s)) [
  | inl t ↦ ap (λ b. b || holds_serial s es) t
  | inr n ↦ ap (λ b. b || holds_serial s es) n ∙ find_holds s es e (sym (ap (λ b. cond b (Some f) (find_entry_of_serial s es)) n) ∙ h)
]

-- the held response that a 304 answers
pub record IsValidated (es : List Stored) (x : Exchange) (r : Response) (now : ℕ) (e : Stored) : Type 0 where
  pub found : find_entry_of_serial e.serial es ≡ Some e
  pub answered : stored_response_is_answered_by_304 x r now e ≡ true

if_parts : (x : Exchange) (r : Response) (now : ℕ) (b : Bool) (f e : Stored) → b ≡ stored_response_is_answered_by_304 x r now f → cond b (Some f) None ≡ Some e → (f ≡ e) × (stored_response_is_answered_by_304 x r now f ≡ true)
if_parts x r now true f e b h = (same_Some f e h, sym b)
if_parts x r now false f e b h = absurd (cc)

asked_parts : (es : List Stored) (x : Exchange) (r : Response) (now : ℕ) (o : Option ℕ) (e : Stored)
    → stored_response_if_answered_by_304 x r now (option_and_then (λ serial. find_entry_of_serial serial es) o) ≡ Some e → IsValidated es x r now e
asked_parts es x r now None e h = absurd (cc)
asked_parts es x r now (Some s) e h = held (find_entry_of_serial s es) refl h
  where
    held : (o : Option Stored) → find_entry_of_serial s es ≡ o → stored_response_if_answered_by_304 x r now o ≡ Some e → IsValidated es x r now e
    held None f h = absurd (cc)
    held (Some g) f h =
        let p = if_parts x r now (stored_response_is_answered_by_304 x r now g) g e refl h in
        let here : find_entry_of_serial s es ≡ Some e = f ∙ ap Some p.0 in
        record {
          found = ap (λ z. find_entry_of_serial z es) (find_serial s es e here) ∙ here;
          answered = ap (stored_response_is_answered_by_304 x r now) (sym p.0) ∙ p.1;
        }

pub validated_is : (es : List Stored) (x : Exchange) (r : Response) (now : ℕ) (e : Stored) → stored_response_validated_by_304 es x r now ≡ Some e → IsValidated es x r now e
validated_is es x r now e h = asked_parts es x r now (option_map (λ (c : Condition). c.serial) x.condition) e h

pub serial_stays : (x : Exchange) (r : Response) (now : ℕ) (e : Stored) → (freshened_by_304 x r now e).serial ≡ e.serial
unfolding freshened_of
serial_stays x r now e = refl

pub key_stays : (x : Exchange) (r : Response) (now : ℕ) (e : Stored) → (freshened_by_304 x r now e).key ≡ e.key
unfolding freshened_of
key_stays x r now e = refl

gone_first : (k : ℕ) (f : Stored) (es : List Stored) → k ≡ f.serial → entries_without_serials (k ∷ []) es ≡ entries_without_serials (k ∷ []) (f ∷ es)
gone_first k f es h = ap (λ b. cond (not (b || false)) (f ∷ without_serials (k ∷ []) es) (without_serials (k ∷ []) es)) (sym (eq-eqb k f.serial h))

module _ (bounds : StoreBounds) (es : List Stored) (x : Exchange) (now id : ℕ) (r : Response) (e : Stored) (v : IsValidated es x r now e) where
  -- the response that is sent comes first, as the 304 makes it
  comes_first : (s : ℕ) (f : Stored) → s ≡ e.serial → f ≡ freshened_by_304 x r now e → f ∷ without_serials (s ∷ []) es ≡ entries_after_use (Some x) (Answer now id r) (Some s) es
  comes_first s f h k =
      let uf = stored_response_freshened_by_event (Some x) (Answer now id r) in
      let used : option_map uf (find_entry_of_serial s es) ≡ Some f =
      ap (option_map uf) (ap (λ z. find_entry_of_serial z es) h ∙ v.found) ∙ (ap (λ b. Some (cond b (freshened_by_304 x r now e) e)) v.answered ∙ ap Some (sym k)) in
      ap (λ (o : Option Stored). entries_with_first_if_any o (without_serials (s ∷ []) es)) (sym used)

  refresh_by : (removed : List ℕ) (kept : Bool) (f : Stored) (c : Change) → f ≡ freshened_by_304 x r now e → IsChangeAfterFreshening kept f c → removed ≡ cond kept [] (f.serial ∷ [])
      → entries_before_eviction removed c es ≡ entries_after_removal_and_storing (Some x) (Answer now id r) (serial_stored_by_change c) removed (entries_after_use (Some x) (Answer now id r) (serial_used_by_change c) es)
  refresh_by removed kept f Keep k h gone = absurd h
  refresh_by removed kept f (Use serial) k h gone = absurd h
  refresh_by removed kept f (Freshen g) k h gone =
      ap (entries_without_serials removed) (comes_first g.serial g (ap (λ (z : Stored). z.serial) (h.0 ∙ k) ∙ serial_stays x r now e) (h.0 ∙ k))
  refresh_by removed kept f (Remove s) k h gone =
      let only : removed ≡ f.serial ∷ [] = gone ∙ ap (λ b. cond b [] (f.serial ∷ [])) h.1 in
      let w = without_serials (s ∷ []) es in
      ap (λ zs. entries_without_serials zs w) only
      ∙ (gone_first f.serial f w refl
      ∙ (ap (entries_without_serials (f.serial ∷ [])) (comes_first s f (h.0 ∙ (ap (λ (z : Stored). z.serial) k ∙ serial_stays x r now e)) k)
      ∙ ap (λ zs. entries_without_serials zs (entries_after_use (Some x) (Answer now id r) (Some s) es)) (sym only)))
  refresh_by removed kept f (Store g) k h gone = absurd h

  -- a 304 that answers a held response
  pub refresh_leaves : (kept : Bool) (f : Stored) (t : PendingReply) → f ≡ freshened_by_304 x r now e → IsChangeAfterFreshening kept f t.change → t.removed ≡ cond kept [] (f.serial ∷ []) → HeldAfterReplyIsThatOfStep bounds es x (Answer now id r) t
  refresh_leaves kept f t k h gone =
      ap (cut_to_bounds_if_stored_or_used bounds (serial_stored_by_change t.change) (serial_used_by_change t.change)) (refresh_by t.removed kept f t.change k h gone)

  held_as : ((key : Key) → same_key key key ≡ true) → (g : Stored) → g ≡ freshened_by_304 x r now e → FreshensHeldResponse (Freshen g) es
  held_as itself g k =
      let here : find_entry_of_serial g.serial es ≡ Some e = ap (λ z. find_entry_of_serial z es) (ap (λ (z : Stored). z.serial) k ∙ serial_stays x r now e) ∙ v.found in
      let key_is : g.key ≡ e.key = ap (λ (z : Stored). z.key) k ∙ key_stays x r now e in
      let same : same_key e.key g.key ≡ true = ap (λ (key : Key). same_key e.key key) key_is ∙ itself e.key in
      (find_holds g.serial es e here, λ old k. subst (λ (z : Stored). same_key z.key g.key ≡ true) (same_Some e old (sym here ∙ k)) same)

  fits_by : ((key : Key) → same_key key key ≡ true) → (next : Option ℕ) (kept : Bool) (f : Stored) (c : Change) → f ≡ freshened_by_304 x r now e → IsChangeAfterFreshening kept f c → StoresUnderNextSerial next c × FreshensHeldResponse c es
  fits_by itself next kept f Keep k h = absurd h
  fits_by itself next kept f (Use serial) k h = absurd h
  fits_by itself next kept f (Freshen g) k h = (tt, held_as itself g (h.0 ∙ k))
  fits_by itself next kept f (Remove s) k h = (tt, tt)
  fits_by itself next kept f (Store g) k h = absurd h

  pub refresh_fits : ((key : Key) → same_key key key ≡ true) → (next : Option ℕ) (kept : Bool) (f : Stored) (t : PendingReply) → f ≡ freshened_by_304 x r now e → IsChangeAfterFreshening kept f t.change → StoresUnderNextSerial next t.change × FreshensHeldResponse t.change es
  refresh_fits itself next kept f t k h = fits_by itself next kept f t.change k h

-- ---- a 304 that answers none

none_answered : (es : List Stored) (x : Exchange) (r : Response) (now : ℕ) (o : Option Stored) → stored_response_if_answered_by_304 x r now o ≡ None → (e : Stored) → o ≡ Some e → stored_response_is_answered_by_304 x r now e ≡ false
none_answered es x r now None h e k = absurd (cc)
none_answered es x r now (Some f) h e k =
    let same : f ≡ e = same_Some f e k in
    elim (cases_Bool (stored_response_is_answered_by_304 x r now e)) [
      | inl t ↦ absurd (false≢true (ap is_some (sym h ∙ ap (λ b. cond b (Some f) None) (ap (stored_response_is_answered_by_304 x r now) same ∙ t))))
      | inr n ↦ n
    ]

other_serial : (x : Exchange) (c : Option Condition) (r : Response) (now s : ℕ) (es : List Stored) (e : Stored)
    → ((f : Stored) → option_and_then (λ serial. find_entry_of_serial serial es) (option_map (λ (k : Condition). k.serial) c) ≡ Some f → condition_is_answered_by_304 c r now f ≡ false)
    → find_entry_of_serial s es ≡ Some e → condition_is_answered_by_304 c r now e ≡ false
other_serial x None r now s es e h found = refl
other_serial x (Some c) r now s es e h found = elim (cases_Bool (c.serial == e.serial)) [
  | inl t ↦ h e (ap (λ z. find_entry_of_serial z es) (eqb-true c.serial e.serial t ∙ find_serial s es e found) ∙ found)
  | inr n ↦ ap (λ b. (r.status == 304) && (b && is_validated_by_304 e c.sent (answered_of r now))) n ∙ and_false (r.status == 304)
]
  where
    and_false : (a : Bool) → (a && false) ≡ false
    and_false true = refl
    and_false false = refl

module _ (bounds : StoreBounds) (es : List Stored) (x : Exchange) (now id : ℕ) (r : Response) (none : stored_response_validated_by_304 es x r now ≡ None) where
  pub same_at : (s : ℕ) (e : Stored) → find_entry_of_serial s es ≡ Some e → stored_response_freshened_by_event (Some x) (Answer now id r) e ≡ e
  same_at s e found =
      ap (λ b. cond b (freshened_by_304 x r now e) e) (other_serial x x.condition r now s es e (λ f k. none_answered es x r now (stored_response_asked_about es x) none f k) found)

  same_all : (s : ℕ) (o : Option Stored) → find_entry_of_serial s es ≡ o → option_map (stored_response_freshened_by_event (Some x) (Answer now id r)) o ≡ o
  same_all s None h = refl
  same_all s (Some e) h = ap Some (same_at s e h)

  retry_by : (removed : List ℕ) (c : Change) → ChangeOnlyKeepsOrUses c
      → entries_before_eviction removed c es ≡ entries_after_removal_and_storing (Some x) (Answer now id r) (serial_stored_by_change c) removed (entries_after_use (Some x) (Answer now id r) (serial_used_by_change c) es)
  retry_by removed Keep m = refl
  retry_by removed (Use s) m = ap (λ (o : Option Stored). entries_without_serials removed (entries_with_first_if_any o (without_serials (s ∷ []) es))) (sym (same_all s (find_entry_of_serial s es) refl))
  retry_by removed (Freshen e) m = absurd m
  retry_by removed (Remove s) m = absurd m
  retry_by removed (Store e) m = absurd m

  retry_after : (c : AfterAnswer) → AnswerOnlyKeepsOrUsesStored c → HeldAfterAnswerIsThatOfStep bounds es x (Answer now id r) c
  retry_after (Ends t) m = ap (cut_to_bounds_if_stored_or_used bounds (serial_stored_by_change t.change) (serial_used_by_change t.change)) (retry_by t.removed t.change m)
  retry_after (GoesOn bytes) m = tt

  -- a held response is sent as it is, or the request goes forward once more
  pub retry_leaves : {E : Type 0} (q : Result AfterAnswer E) → IfOk q AnswerOnlyKeepsOrUsesStored → IfOk q (λ c. HeldAfterAnswerIsThatOfStep bounds es x (Answer now id r) c)
  retry_leaves (Ok c) m = retry_after c m
  retry_leaves (Err error) m = tt

plain_after_fits : (next : Option ℕ) (es : List Stored) (c : AfterAnswer) → AnswerOnlyKeepsOrUsesStored c → AnswerChangeIsApplicable next es c
plain_after_fits next es (Ends t) m = (plain_next next t.change m, plain_held es t.change m)
plain_after_fits next es (GoesOn bytes) m = tt

pub retry_fits : {E : Type 0} (next : Option ℕ) (es : List Stored) (q : Result AfterAnswer E) → IfOk q AnswerOnlyKeepsOrUsesStored → IfOk q (λ c. AnswerChangeIsApplicable next es c)
retry_fits next es (Ok c) m = plain_after_fits next es c m
retry_fits next es (Err error) m = tt
