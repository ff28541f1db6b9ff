-- The next serial is counted, and a good trace leaves no choice.
use Rattle.std.proofs.Common.{◌≡◌, ℕ, ◌+◌, ◌^◌, Bool, true, false, cond, Option, None, Some, is_some, List, [], ◌∷◌, refl, sym, ◌∙◌, ap, arith}
use Rattle.std.specs.Prelude.{nat_lt}
use Rattle.std.proofs.lemmas.Option.{same_Some}
use Rattle.hx_allow.specs.TableLines.{Table}
use Rattle.hx_store.specs.Stored.{Stored}
use Rattle.proxy_core.specs.declared.open.exchange.Exchange.{Exchange}
use Rattle.proxy_core.specs.declared.outcome.Outcome.{Outcome}
use Rattle.proxy_core.specs.declared.event.Event.{Event}
use Rattle.proxy_core.specs.Outcomes.{outcome_of_event}
use Rattle.proxy_core.specs.State.{serial_stored_by_outcome, next_serial_after_storing}
use Rattle.proxy_core.specs.Starts.{StoreAtStart}
use Rattle.proxy_core.specs.Traces.{Item, initial_state, state_after_trace}
use Rattle.proxy_core.specs.Histories.{IsGoodHistory, next_serial, held_entries, open_exchanges}
use Rattle.proxy_core.specs.TraceMeaning.{count_of_items_that_store, events_of_trace, NextSerialIsFirstPlusStoredCount, StoredResponseHasTheNextSerial, EventsDetermineTheTrace}
use Rattle.proxy_core.proofs.StepKinds.{Kind, idle, uses, stores, kind_in}
use Rattle.proxy_core.proofs.HeldLaw.{good_plain, stands_for, next_is_counted}

-- a serial, while it is one
abbrev left_over : ℕ → Option ℕ
left_over n = cond (nat_lt n (2 ^ 64)) (Some n) None

-- what is stored has the next serial
stores_next : (es : List Stored) (x : Option Exchange) (event : Event) (next st us : Option ℕ) (rm : List ℕ) (s : ℕ) → Kind es x event next st us rm → st ≡ Some s → next ≡ Some s
stores_next es x event next st us rm s (idle a b) h = absurd (cc)
stores_next es x event next st us rm s (uses t e a b f) h = absurd (cc)
stores_next es x event next st us rm s (stores t e a b q f k off) h = q ∙ sym a ∙ h

stored_next : (table : Table) (start : StoreAtStart) (first s : ℕ) (i : Item) (past : List Item) → IsGoodHistory table start first (i ∷ past) → serial_stored_by_outcome i.outcome ≡ Some s → next_serial first past ≡ Some s
stored_next table start first s i past g h =
    let p = good_plain table start first (i ∷ past) g in
    let st = state_after_trace (initial_state table start first) past in
    sym (next_is_counted table start first past p.1)
    ∙ stores_next st.entries _ i.event st.next _ _ _ s (kind_in table st i (stands_for table start first past p.1).fresh p.0) h

left_over_is : (n s : ℕ) → left_over n ≡ Some s → s ≡ n
left_over_is n s h = by_test (nat_lt n (2 ^ 64)) h
  where
    by_test : (b : Bool) → cond b (Some n) None ≡ Some s → s ≡ n
    by_test true h = sym (same_Some n s h)
    by_test false h = absurd (cc)

more_stored : (first count : ℕ) (next st : Option ℕ) → next ≡ left_over (first + count) → ((s : ℕ) → st ≡ Some s → next ≡ Some s) →
    next_serial_after_storing next st ≡ left_over (first + cond (is_some st) (count + 1) count)
more_stored first count next None h k = h
more_stored first count next (Some s) h k =
    let same : s ≡ first + count = left_over_is (first + count) s (sym h ∙ k s refl) in
    let one : s + 1 ≡ first + (count + 1) = omega arith in
    ap left_over one

pub next_counted : NextSerialIsFirstPlusStoredCount
next_counted table start first [] g h =
    let none : first ≡ first + 0 = omega arith in
    sym (ap (λ b. cond b (Some first) None) h) ∙ ap left_over none
next_counted table start first (i ∷ past) g h =
    more_stored first (count_of_items_that_store past) (next_serial first past) (serial_stored_by_outcome i.outcome) (next_counted table start first past g.1 h)
    (λ s e. stored_next table start first s i past g e)

pub stored_has_the_next : StoredResponseHasTheNextSerial
stored_has_the_next table start first s i past g h e =
    left_over_is (first + count_of_items_that_store past) s (sym (next_counted table start first past g.1 h) ∙ stored_next table start first s i past g e)

-- ---- no choice

cons_parts : (a b : Event) (xs ys : List Event) → a ∷ xs ≡ b ∷ ys → (a ≡ b) × (xs ≡ ys)
cons_parts a b xs ys h = (cc, cc)

same_item : (i j : Item) → i.event ≡ j.event → i.outcome ≡ j.outcome → i ≡ j
same_item i j e o =
    ap (λ (v : Event). record { event = v; outcome = i.outcome }) e ∙ ap (λ (p : Outcome). record { event = j.event; outcome = p }) o

pub leaves_no_choice : EventsDetermineTheTrace
leaves_no_choice table start first [] [] g k h = refl
leaves_no_choice table start first [] (j ∷ other) g k h = absurd (cc)
leaves_no_choice table start first (i ∷ past) [] g k h = absurd (cc)
leaves_no_choice table start first (i ∷ past) (j ∷ other) g k h =
    let p = cons_parts i.event j.event (events_of_trace past) (events_of_trace other) h in
    let same : past ≡ other = leaves_no_choice table start first past other g.1 k.1 p.1 in
    let outcome : i.outcome ≡ j.outcome =
    g.0.outcome_is
    ∙ ap (λ (v : Event). outcome_of_event table (held_entries table start past) (open_exchanges table start past) (next_serial first past) v) p.0
    ∙ ap (λ (zs : List Item). outcome_of_event table (held_entries table start zs) (open_exchanges table start zs) (next_serial first zs) j.event) same
    ∙ sym k.0.outcome_is
    in
    ap (λ (k : Item). k ∷ past) (same_item i j p.0 outcome) ∙ ap (λ (zs : List Item). j ∷ zs) same
