-- Whatever is held has a head of so many lines and bytes, however often it was freshened.
use Rattle.std.proofs.Common.{◌≡◌, inl, inr, ◌+◌, ℕ, Bool, true, false, not, ◌&&◌, ◌||◌, ◌==◌, cond, List, [], ◌∷◌, length, refl, sym, ap, ◌∙◌, subst, arith, nat_le}
use Rattle.std.specs.Prelude.{Option, Some, None, option_map, is_none}
use Rattle.std.specs.List.{AllByRecursion}
use Rattle.std.specs.Option.{option_and_then}
use Rattle.std.proofs.lemmas.Bool.{and_parts, eqb-true, eq-eqb, false≢true, leb-true}
use Rattle.hx_framing.specs.declared.messages.Response.{Response}
use Rattle.hx_framing.specs.Text.{field_lines_text}
use Rattle.hx_allow.specs.TableLines.{Table}
use Rattle.hx_allow.specs.Matching.{policy_of}
use Rattle.hx_hop.specs.Answering.{answered_of}
use Rattle.hx_reuse.specs.Rules.{decision_of}
use Rattle.hx_reuse.specs.declared.decision.Decision.{Decision}
use Rattle.hx_age.specs.declared.moments.Times.{Times}
use Rattle.hx_store.specs.Stored.{Stored}
use Rattle.hx_store.specs.Serials.{serial_is_in}
use Rattle.hx_store.specs.Shelf.{find_entry_of_serial, holds_serial, serials}
use Rattle.hx_store.specs.Recency.{option_is_serial, stores_or_uses}
use Rattle.hx_store.proofs.Recency.{is_in-after}
use Rattle.hx_store.proofs.EntryLists.{find-serial, find_holds}
use Rattle.hx_storable.specs.Rules.{rule_against_storing}
use Rattle.hx_validate.specs.Answering.{is_validated_by_304}
use Rattle.hx_validate.specs.Room.{head_leaves_room}
use Rattle.proxy_core.specs.declared.steps.condition.Condition.{Condition}
use Rattle.proxy_core.specs.declared.open.exchange.Exchange.{Exchange}
use Rattle.proxy_core.specs.declared.outcome.Outcome.{Outcome}
use Rattle.proxy_core.specs.declared.event.Event.{Event}
use Rattle.proxy_core.specs.declared.event.Event.TheVariants.{Arrive, Answer, Fail, Wake, Abandon, Overdue}
use Rattle.hx_status.specs.declared.cause.FailKind.TheVariants.{BadAnswer}
use Rattle.proxy_core.specs.Histories.{IsGoodHistory, store_change_of, held_entries, entry_held_after, held_serials, next_serial, open_exchanges}
use Rattle.proxy_core.specs.Moments.{moment_too_late_fault}
use Rattle.proxy_core.specs.Outcomes.{outcome_of_failure, fallback_for_failed_answer, fault_at_exchange, find_exchange, exchange_id_of_event, is_stale_if_error_status, fault_if_not_forwarded, outcome_of_event_at_exchange, outcome_of_passing_on_or_stale, outcome_of_304}
use Rattle.proxy_core.specs.ReadAnswers.{EventIsReadFromAStream}
use Rattle.proxy_core.specs.State.{serials_expired_by_outcome, serials_removed_by_outcome, stored_response_by_answer, serial_stored_by_outcome, stored_response_freshened_by_event, serial_used_by_outcome}
use Rattle.proxy_core.specs.Starts.{StoreAtStart, HoldsForEachResponseAtStart}
use Rattle.proxy_core.specs.Storing.{is_304_without_condition, stored_response_made}
use Rattle.proxy_core.specs.Traces.{Item, initial_state, state_after_trace}
use Rattle.proxy_core.specs.Validating.{as_get_request, head_of_stored, stored_response_if_answered_by_304, stored_response_is_answered_by_304, condition_is_answered_by_304, freshened_may_be_kept, is_304_to_own_conditions, storing_facts_of_freshened, freshened_by_304, serial_asked_about, stored_response_validated_by_304}
use Rattle.proxy_core.proofs.ExpiredEntries.{was_there}
use Rattle.proxy_core.proofs.HeldEntries.{EachIs-find, held_found}
use Rattle.proxy_core.proofs.HeldLaw.{held_before_cut, entries_are_held, good_plain, stands_for}
use Rattle.proxy_core.proofs.Leaving.{serial_stays, unanswered, validated_is}
use Rattle.proxy_core.proofs.SentResponses.{sends_what_is_held}
use Rattle.proxy_core_laws.specs.HeldHeads.{FreshenedHeadLeavesRoom, HeldHeadIsBounded, HeldHeadLeavesRoomOrIsAsStored, LeavesRoomOrIsAsStored, StoredHeadSizeIsBounded, FreshenedHeadIsBounded}
use Rattle.proxy_core_laws.proofs.HeldReplies.{first_none, in_time}
use Rattle.proxy_core_laws.proofs.ReadHeads.{stores_bounded}

-- ---- what leaves room

roomy : (e : Stored) → head_leaves_room e.fields ≡ true → StoredHeadSizeIsBounded e
roomy e room =
    let parts = and_parts (nat_le (length e.fields + 4) 100) (nat_le (length (field_lines_text e.fields) + 256) 32768) room in
    let lines = leb-true (length e.fields + 4) 100 parts.0 in
    let bytes = leb-true (length (field_lines_text e.fields) + 256) 32768 parts.1 in
    record { lines = omega (arith, lines); bytes = omega (arith, bytes) }

pub keeps_bounded : FreshenedHeadIsBounded
keeps_bounded table x r e kept =
    let parts = and_parts (is_none (rule_against_storing (as_get_request x.asked) (head_of_stored e) (storing_facts_of_freshened table x r e))) (head_leaves_room e.fields) kept in
    (parts.1, roomy e parts.1)

-- ---- what is held under a serial

some_same : {B : Type 0} {x y : B} → Some x ≡ Some y → x ≡ y
some_same h = cc

module _ (table : Table) (start : StoreAtStart) (first : ℕ) (past : List Item) (good : IsGoodHistory table start first past) where
  abbrev es : List Stored
  es = (state_after_trace (initial_state table start first) past).entries

  same_list : es ≡ held_entries table start past
  same_list = entries_are_held table start first past (good_plain table start first past good)

  pub entry_of : (s : ℕ) (e : Stored) → find_entry_of_serial s (held_entries table start past) ≡ Some e → entry_held_after table start past s ≡ Some e
  entry_of s e found =
      EachIs-find (entry_held_after table start past) s es e (subst (λ zs. find_entry_of_serial s zs ≡ Some e) (sym same_list) found)
      (stands_for table start first past (good_plain table start first past good)).entries_are

  same_serials : serials (held_entries table start past) ≡ held_serials table start past
  same_serials = ap serials (sym same_list) ∙ (stands_for table start first past (good_plain table start first past good)).serials_are

  pub held_in : (s : ℕ) (e : Stored) → find_entry_of_serial s (held_entries table start past) ≡ Some e → serial_is_in s (held_serials table start past) ≡ true
  held_in s e found =
      ap (serial_is_in s) (sym same_serials) ∙ ap (λ n. holds_serial n (held_entries table start past)) (sym (find-serial s (held_entries table start past) e found)) ∙ find_holds s (held_entries table start past) e found

  pub found_again : (s : ℕ) (e : Stored) → serial_is_in s (held_serials table start past) ≡ true → entry_held_after table start past s ≡ Some e → find_entry_of_serial s (held_entries table start past) ≡ Some e
  found_again s e inside look =
      let some = held_found s (held_entries table start past) (ap (serial_is_in s) same_serials ∙ inside) in
      let same : some.0 ≡ e = some_same (sym (entry_of s some.0 some.1) ∙ look) in
      subst (λ (f : Stored). find_entry_of_serial s (held_entries table start past) ≡ Some f) same some.1

-- ---- what a 304 answers

module _ (table : Table) (es : List Stored) (xs : List Exchange) (next : Option ℕ) where
  by_condition : (c : Option Condition) (r : Response) (now : ℕ) (e : Stored) → condition_is_answered_by_304 c r now e ≡ true → find_entry_of_serial e.serial es ≡ Some e
      → option_and_then (λ s. find_entry_of_serial s es) (serial_asked_about c) ≡ Some e
  by_condition None r now e h found = absurd cc
  by_condition (Some c) r now e h found =
      let status = and_parts (r.status == 304) ((c.serial == e.serial) && is_validated_by_304 e c.sent (answered_of r now)) h in
      let same = and_parts (c.serial == e.serial) (is_validated_by_304 e c.sent (answered_of r now)) status.1 in
      ap (λ s. find_entry_of_serial s es) (eqb-true c.serial e.serial same.0) ∙ found

  validated_so : (x : Exchange) (r : Response) (now : ℕ) (e : Stored) → stored_response_is_answered_by_304 x r now e ≡ true → find_entry_of_serial e.serial es ≡ Some e → stored_response_validated_by_304 es x r now ≡ Some e
  validated_so x r now e h found = ap (stored_response_if_answered_by_304 x r now) (by_condition x.condition r now e h found) ∙ ap (λ b. cond b (Some e) None) h

  validation_so : (x : Exchange) (r : Response) (now : ℕ) (e : Stored) → stored_response_is_answered_by_304 x r now e ≡ true → is_304_to_own_conditions x r ≡ true
  validation_so x r now e h = by_test (is_304_to_own_conditions x r) refl
    where
      by_test : (t : Bool) → is_304_to_own_conditions x r ≡ t → t ≡ true
      by_test true is = refl
      by_test false is = absurd (false≢true (sym (unanswered x r now e is) ∙ h))

  stays : (k : Bool) (s n : ℕ) → n ≡ s → serial_is_in s (cond k [] (n ∷ [])) ≡ false → k ≡ true
  stays true s n same out = refl
  stays false s n same out = absurd (false≢true (sym out ∙ ap (λ b. b || false) (eq-eqb n s same)))

  -- it is kept, or its serial is among those that go
  pub kept_so : (x : Exchange) (now id : ℕ) (r : Response) (s : ℕ) (e : Stored) → stored_response_is_answered_by_304 x r now e ≡ true → find_entry_of_serial s es ≡ Some e
      → serial_is_in s (serials_removed_by_outcome (outcome_of_event_at_exchange table es xs (Some x) next (Answer now id r))) ≡ false → freshened_may_be_kept table x r (freshened_by_304 x r now e) ≡ true
  kept_so x now id r s e h found out =
      let serial = find-serial s es e found in
      let d : Decision = decision_of (policy_of table.lines x.line) es x.asked now in
      let other : Outcome = cond (is_304_without_condition (policy_of table.lines x.line) x.asked r) (outcome_of_failure table es now x BadAnswer (Some r.status) (fallback_for_failed_answer (policy_of table.lines x.line) es x.asked now d)) (outcome_of_passing_on_or_stale table es now x r next (is_stale_if_error_status r.status) (fallback_for_failed_answer (policy_of table.lines x.line) es x.asked now d)) in
      let outcome : outcome_of_event_at_exchange table es xs (Some x) next (Answer now id r) ≡ outcome_of_304 table es now x r (Some e) d =
      ap (λ b. cond b (outcome_of_304 table es now x r (stored_response_validated_by_304 es x r now) d) other) (validation_so x r now e h)
      ∙ ap (λ o. outcome_of_304 table es now x r o d) (validated_so x r now e h (ap (λ n. find_entry_of_serial n es) serial ∙ found))
      in
      stays (freshened_may_be_kept table x r (freshened_by_304 x r now e)) s (freshened_by_304 x r now e).serial (serial_stays x r now e ∙ serial) (ap (λ o. serial_is_in s (serials_removed_by_outcome o)) (sym outcome) ∙ out)

  used_so : (x : Option Exchange) (event : Event) (s : ℕ) (e : Stored) → find_entry_of_serial s es ≡ Some e → LeavesRoomOrIsAsStored s e
      → serial_is_in s (serials_removed_by_outcome (outcome_of_event_at_exchange table es xs x next event)) ≡ false → LeavesRoomOrIsAsStored s (stored_response_freshened_by_event x event e)
  used_so (Some x) (Answer now id r) s e found is out = by_test (stored_response_is_answered_by_304 x r now e) refl
    where
      by_test : (t : Bool) → stored_response_is_answered_by_304 x r now e ≡ t → LeavesRoomOrIsAsStored s (cond t (freshened_by_304 x r now e) e)
      by_test true h = inl (keeps_bounded table x r (freshened_by_304 x r now e) (kept_so x now id r s e h found out)).0
      by_test false h = is
  used_so (Some x) (Arrive now id asked) s e found is out = is
  used_so (Some x) (Fail now id kind) s e found is out = is
  used_so (Some x) (Wake now id) s e found is out = is
  used_so (Some x) (Abandon id) s e found is out = is
  used_so (Some x) (Overdue id) s e found is out = is
  used_so None event s e found is out = is

-- ---- what an answer makes

as_made : (f e : Stored) → e ≡ f → e ≡ record f { times = e.times }
as_made f e h = h ∙ ap (λ (g : Stored). record f { times = g.times }) (sym h)

-- and what is so of whatever times
with_times : (s : ℕ) (e : Stored) (t : Times) → LeavesRoomOrIsAsStored s e → LeavesRoomOrIsAsStored s (record e { times = t })
with_times s e t (inl room) = inl room
with_times s e t (inr stored) = inr (record {
  exchange = stored.exchange;
  response = stored.response;
  now = stored.now;
  was_read = stored.was_read;
  early = stored.early;
  is = ap (λ (g : Stored). record g { times = t }) stored.is;
})

made_so : (x : Option Exchange) (event : Event) (s : ℕ) (e : Stored) → fault_at_exchange x event ≡ None → EventIsReadFromAStream event → stored_response_by_answer x event s ≡ Some e → LeavesRoomOrIsAsStored s e
made_so (Some x) (Answer now id r) s e allowed is h =
    inr (record {
      exchange = x;
      response = r;
      now = now;
      was_read = is;
      early = in_time now (first_none (moment_too_late_fault now) (fault_if_not_forwarded x.stage) allowed);
      is = as_made (stored_response_made s x r now) e (some_same (sym h));
    })
made_so (Some x) (Arrive now id asked) s e allowed is h = absurd cc
made_so (Some x) (Fail now id kind) s e allowed is h = absurd cc
made_so (Some x) (Wake now id) s e allowed is h = absurd cc
made_so (Some x) (Abandon id) s e allowed is h = absurd cc
made_so (Some x) (Overdue id) s e allowed is h = absurd cc
made_so None event s e allowed is h = absurd cc

-- ---- the law

after_parts : (t h o : Bool) → ((t || h) && not o) ≡ true → (o ≡ false) × (t ≡ false → h ≡ true)
after_parts true h true is = absurd cc
after_parts true h false is = (refl, λ none. absurd cc)
after_parts false true true is = absurd cc
after_parts false true false is = (refl, λ none. refl)
after_parts false false o is = absurd cc

both_false : (a b : Bool) → a ≡ false → b ≡ false → (a || b) ≡ false
both_false true b h k = absurd cc
both_false false b h k = k

the_serial : (o : Option ℕ) (s : ℕ) → option_is_serial o s ≡ true → o ≡ Some s
the_serial None s h = absurd cc
the_serial (Some x) s h = ap (λ (n : ℕ). Some n) (eqb-true x s h)

-- among what is held after an item: it isn't removed there, and was held before where the item doesn't touch it
module _ (table : Table) (start : StoreAtStart) (item : Item) (past : List Item) (s : ℕ) (inside : serial_is_in s (held_serials table start (item ∷ past)) ≡ true) where
  left_in : ((stores_or_uses (store_change_of item) s || serial_is_in s (held_serials table start past)) && not (serial_is_in s (serials_removed_by_outcome item.outcome))) ≡ true
  left_in =
      sym (is_in-after s (store_change_of item) (held_serials table start past))
      ∙ held_before_cut table start item past s inside

  pub stays_in : (serial_is_in s (serials_removed_by_outcome item.outcome) ≡ false) × (stores_or_uses (store_change_of item) s ≡ false → serial_is_in s (held_serials table start past) ≡ true)
  stays_in = after_parts (stores_or_uses (store_change_of item) s) (serial_is_in s (held_serials table start past)) (serial_is_in s (serials_removed_by_outcome item.outcome)) left_in

  pub not_removed : serial_is_in s (serials_removed_by_outcome item.outcome) ≡ false
  not_removed = stays_in.0

module _ (table : Table) (start : StoreAtStart) (first : ℕ) where
  abbrev Earlier : ℕ → List Item → Type 0
  Earlier s past = (f : Stored) → serial_is_in s (held_serials table start past) ≡ true → entry_held_after table start past s ≡ Some f → LeavesRoomOrIsAsStored s f

  -- before a purge may have ended its lifetime
  held_after : (item : Item) (past : List Item) → IsGoodHistory table start first (item ∷ past) → AllByRecursion (λ item. EventIsReadFromAStream item.event) (item ∷ past) → (s : ℕ) (e : Stored)
      → serial_is_in s (held_serials table start (item ∷ past)) ≡ true → Earlier s past
      → cond (option_is_serial (serial_stored_by_outcome item.outcome) s) (stored_response_by_answer (find_exchange (exchange_id_of_event item.event) (open_exchanges table start past)) item.event s)
      (cond (option_is_serial (serial_used_by_outcome item.outcome) s) (option_map (stored_response_freshened_by_event (find_exchange (exchange_id_of_event item.event) (open_exchanges table start past)) item.event) (entry_held_after table start past s)) (entry_held_after table start past s)) ≡ Some e
      → LeavesRoomOrIsAsStored s e
  held_after item past good read s e inside earlier h =
      by_tests earlier (option_is_serial (serial_stored_by_outcome item.outcome) s) refl (option_is_serial (serial_used_by_outcome item.outcome) s) refl h
    where
      x : Option Exchange
      x = find_exchange (exchange_id_of_event item.event) (open_exchanges table start past)

      before : List Stored
      before = held_entries table start past

      by_used : Earlier s past → serial_used_by_outcome item.outcome ≡ Some s → option_map (stored_response_freshened_by_event x item.event) (entry_held_after table start past s) ≡ Some e → LeavesRoomOrIsAsStored s e
      by_used earlier used k =
          let is = sends_what_is_held table start first s item past good used in
          let look : entry_held_after table start past s ≡ Some is.response = entry_of table start first past good.1 s is.response is.is_held in
          let either = earlier is.response (held_in table start first past good.1 s is.response is.is_held) look in
          let same : stored_response_freshened_by_event x item.event is.response ≡ e = some_same (sym (ap (option_map (stored_response_freshened_by_event x item.event)) look) ∙ k) in
          subst (LeavesRoomOrIsAsStored s) same (used_so table before (open_exchanges table start past) (next_serial first past) x item.event s is.response is.is_held either
          (ap (λ o. serial_is_in s (serials_removed_by_outcome o)) (sym good.0.outcome_is) ∙ not_removed table start item past s inside))

      by_tests : Earlier s past → (t : Bool) → option_is_serial (serial_stored_by_outcome item.outcome) s ≡ t → (u : Bool) → option_is_serial (serial_used_by_outcome item.outcome) s ≡ u
          → cond t (stored_response_by_answer x item.event s) (cond u (option_map (stored_response_freshened_by_event x item.event) (entry_held_after table start past s)) (entry_held_after table start past s)) ≡ Some e → LeavesRoomOrIsAsStored s e
      by_tests earlier true is u using k = made_so x item.event s e good.0.allowed read.0 k
      by_tests earlier false is true using k = by_used earlier (the_serial (serial_used_by_outcome item.outcome) s using) k
      by_tests earlier false is false using k = earlier e ((stays_in table start item past s inside).1 (both_false (option_is_serial (serial_stored_by_outcome item.outcome) s) (option_is_serial (serial_used_by_outcome item.outcome) s) is using)) k

  held_either : HoldsForEachResponseAtStart LeavesRoomOrIsAsStored start → (trace : List Item) → IsGoodHistory table start first trace → AllByRecursion (λ item. EventIsReadFromAStream item.event) trace → (s : ℕ) (e : Stored)
      → serial_is_in s (held_serials table start trace) ≡ true → entry_held_after table start trace s ≡ Some e → LeavesRoomOrIsAsStored s e
  held_either begins [] good read s e inside h = begins s e h
  held_either begins (item ∷ past) good read s e inside h =
      let there = was_there item.event (serials_expired_by_outcome item.outcome) _ e h in
      subst (LeavesRoomOrIsAsStored s) (sym there.is)
      (with_times s there.response there.times (held_after item past good read s there.response inside (λ f k look. held_either begins past good.1 read.1 s f k look) there.was))

pub holds_with_room : HeldHeadLeavesRoomOrIsAsStored
holds_with_room table start first trace good begins read s e inside h = held_either table start first begins trace good read s e inside h

bounded_with_times : (e : Stored) (t : Times) → StoredHeadSizeIsBounded e → StoredHeadSizeIsBounded (record e { times = t })
bounded_with_times e t h = record { lines = h.lines; bytes = h.bytes }

pub holds_bounded : HeldHeadIsBounded
holds_bounded table start first trace good begins read s e inside h = by_case (held_either table start first begins trace good read s e inside h)
  where
    by_case : LeavesRoomOrIsAsStored s e → StoredHeadSizeIsBounded e
    by_case (inl room) = roomy e room
    by_case (inr as_stored) =
        let read = as_stored.was_read in
        subst StoredHeadSizeIsBounded (sym as_stored.is) (bounded_with_times (stored_response_made s as_stored.exchange as_stored.response as_stored.now) e.times
        (stores_bounded read.max_body s as_stored.now read.to_head read.ended read.bytes read.rest as_stored.exchange as_stored.response read.reads as_stored.early))

-- ---- what was freshened

pub freshens_with_room : FreshenedHeadLeavesRoom
freshens_with_room table start first now id x r e item past good event_is open_is valid inside =
    let es : List Stored = held_entries table start past in
    let is = validated_is es x r now e valid in
    let from : outcome_of_event_at_exchange table es (open_exchanges table start past) (Some x) (next_serial first past) (Answer now id r) ≡ item.outcome =
    ap (λ o. outcome_of_event_at_exchange table es (open_exchanges table start past) o (next_serial first past) (Answer now id r)) (sym open_is)
    ∙ ap (λ (v : Event). outcome_of_event_at_exchange table es (open_exchanges table start past) (find_exchange (exchange_id_of_event v) (open_exchanges table start past)) (next_serial first past) v) (sym event_is)
    ∙ sym good.0.outcome_is
    in
    let out = not_removed table start item past e.serial inside in
    let kept = kept_so table es (open_exchanges table start past) (next_serial first past) x now id r e.serial e is.answered is.found (ap (λ o. serial_is_in e.serial (serials_removed_by_outcome o)) from ∙ out) in
    (keeps_bounded table x r (freshened_by_304 x r now e) kept).0
