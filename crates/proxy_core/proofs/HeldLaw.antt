-- What a bounded list has after a trace is what is held by the count: a trace that is good over the one is good over the other.
use Rattle.std.proofs.Common.{◌≡◌, ℕ, Bool, true, false, not, cond, eqb, Option, None, Some, List, [], ◌∷◌, refl, sym, ◌∙◌, ap, subst, arith, inl, inr}
use Rattle.std.specs.Prelude.{option_map}
use Rattle.std.specs.List.{filter, filter_map}
use Rattle.std.proofs.lemmas.List.Elements.{filter_agree}
use Rattle.std.proofs.lemmas.Bool.{and_parts, false≢true, eq-eqb, eqb-true, false_from_ne_true}
use Rattle.std.proofs.lemmas.Bool.Decides.{nat_tests}
use Rattle.hx_allow.specs.TableLines.{Table}
use Rattle.hx_store.specs.Stored.{Stored}
use Rattle.hx_store.specs.Serials.{serial_is_in}
use Rattle.hx_store.specs.Shelf.{serials, holds_serial, find_entry_of_serial, without_serials, entries_with_first_if_any}
use Rattle.hx_store.specs.Recency.{option_is_serial, moved_to_front, recent_after_change}
use Rattle.hx_store.specs.Weights.{StoreBounds, IsWithinBounds, weight_of_entry, longest_prefix_within, cut_to_bounds}
use Rattle.hx_store.proofs.Recency.{filter_all}
use Rattle.hx_store.proofs.EntryLists.{find-serial, find_holds, without_gone, filter_keeps}
use Rattle.hx_store.proofs.EntryWeights.{filter_is_within, serials_are_cut}
use Rattle.hx_store.proofs.Fronts.{cut_is_longest, within_stays}
use Rattle.hx_store.specs.WeightedRecency.{serial_is_within_bounds}
use Rattle.hx_store.proofs.WeightedRecency.{is_in-within, weighed_held_more}
use Rattle.proxy_core.specs.declared.open.exchange.Exchange.{Exchange}
use Rattle.proxy_core.specs.declared.outcome.Outcome.{Outcome}
use Rattle.proxy_core.specs.declared.event.Event.{Event}
use Rattle.proxy_core.specs.declared.event.Event.TheVariants.{Arrive, Answer, Fail, Wake, Abandon, Overdue}
use Rattle.proxy_core.specs.declared.core_fault.CoreFault.{CoreFault}
use Rattle.proxy_core.specs.Validating.{stored_response_is_answered_by_304, freshened_by_304}
use Rattle.proxy_core.specs.Outcomes.{find_exchange, exchange_id_of_event, outcome_of_event, step_fault}
use Rattle.proxy_core.specs.State.{State, state_after_event, open_exchanges_after_event, entries_after_event, NoSerialIsHeldFrom, serial_stored_by_outcome, serial_used_by_outcome, serials_removed_by_outcome, next_serial_after_storing, serial_after_this, stored_response_by_answer, stored_response_freshened_by_event, entries_after_removal_and_storing, entries_after_use, entries_without_serials, bounds_of, cut_to_bounds_if_stored_or_used, serials_expired_by_outcome, entries_after_expiring}
use Rattle.proxy_core.specs.Starts.{StoreAtStart, weight_of_stored_if_any}
use Rattle.proxy_core.specs.Traces.{Item, initial_state, state_after_trace, TraceIsGood, ItemIsAccepted, RunStopsWithFault}
use Rattle.proxy_core.specs.Histories.{store_change_of, store_changes, held_serials, open_exchanges, entry_held_after, held_entries, next_serial, IsGoodHistory, stored_response_after_event, response_if_any_after_expiring, HistoryStopsWithFault}
use Rattle.proxy_core.proofs.Held.{NoneFrom-taken, NoneFrom-fresh, NoneFrom-next, NoneFrom-cut}
use Rattle.proxy_core.proofs.Leaving.{serial_stays}
use Rattle.proxy_core.proofs.Beginning.{held_at_start, found_at_start}
use Rattle.proxy_core.proofs.ExpiredEntries.{weight_stays, serials_stay, EachIs-expired, within_stays_expired, NoneFrom-expired}
use Rattle.proxy_core.proofs.HeldEntries.{EachIs, EachIs-all, EachIs-filter, EachIs-cut, EachIs-weights, EachIs-taken, EachIs-cons, EachIs-but, EachIs-same, EachIs-find, serials-filter, serials-taken, taken_is}
use Rattle.proxy_core.proofs.StepKinds.{Kind, idle, uses, stores, kind_in}

-- the list after a step before the last ones go, by what it stored, used and removed
list_before : List Stored → Option Exchange → Event → Option ℕ → Option ℕ → List ℕ → List Stored
list_before es x event st us rm = entries_after_removal_and_storing x event st rm (entries_after_use x event us es)

entries_are : (bounds : StoreBounds) (es : List Stored) (x : Option Exchange) (event : Event) (o : Outcome) →
    entries_after_event bounds es x event o
    ≡ entries_after_expiring event (serials_expired_by_outcome o)
    (cut_to_bounds_if_stored_or_used bounds (serial_stored_by_outcome o) (serial_used_by_outcome o) (list_before es x event (serial_stored_by_outcome o) (serial_used_by_outcome o) (serials_removed_by_outcome o)))
unfolding list_before
entries_are bounds es x event o = refl

-- the response of a serial after a step, by what it stored and used
abbrev pub look_after : Option Exchange → Event → Option ℕ → Option ℕ → (ℕ → Option Stored) → ℕ → Option Stored
look_after x event st us look s = cond (option_is_serial st s) (stored_response_by_answer x event s) (cond (option_is_serial us s) (option_map (stored_response_freshened_by_event x event) (look s)) (look s))

used_serial : (x : Option Exchange) (event : Event) (e : Stored) → (stored_response_freshened_by_event x event e).serial ≡ e.serial
used_serial None event e = refl
used_serial (Some x) (Arrive now id asked) e = refl
used_serial (Some x) (Answer now id r) e = elim (stored_response_is_answered_by_304 x r now e) as (λ b. (cond b (freshened_by_304 x r now e) e).serial ≡ e.serial) [
  | true ↦ serial_stays x r now e
  | false ↦ refl
]
used_serial (Some x) (Fail now id kind) e = refl
used_serial (Some x) (Wake now id) e = refl
used_serial (Some x) (Abandon id) e = refl
used_serial (Some x) (Overdue id) e = refl

-- what has to be known of that list
record Kept (next : Option ℕ) (st us : Option ℕ) (rm : List ℕ) (look : ℕ → Option Stored) (es zs : List Stored) : Type 0 where
  serials_are : serials zs ≡ filter (λ s. not (serial_is_in s rm)) (moved_to_front st (moved_to_front us (serials es)))
  entries_are : EachIs look zs
  fresh : NoSerialIsHeldFrom next zs

kept_idle : (es : List Stored) (x : Option Exchange) (event : Event) (next : Option ℕ) (rm : List ℕ) (look : ℕ → Option Stored) →
    EachIs look es → NoSerialIsHeldFrom next es →
    Kept (next_serial_after_storing next None) None None rm (look_after x event None None look) es (list_before es x event None None rm)
unfolding list_before
kept_idle es x event next rm look h n = record {
  serials_are = serials-taken rm es;
  entries_are = EachIs-taken look rm es h;
  fresh = NoneFrom-taken next rm es n;
}

only : (s t : ℕ) → not (serial_is_in t (s ∷ [])) ≡ not (eqb t s)
only s t = ap not (grind (arith, nat_tests))

kept_uses : (es : List Stored) (x : Option Exchange) (event : Event) (next : Option ℕ) (s : ℕ) (e : Stored) (rm : List ℕ) (look : ℕ → Option Stored) →
    find_entry_of_serial s es ≡ Some e → EachIs look es → NoSerialIsHeldFrom next es →
    Kept (next_serial_after_storing next None) None (Some s) rm (look_after x event None (Some s) look) es (list_before es x event None (Some s) rm)
unfolding list_before
kept_uses es x event next s e rm look f h n =
    let u = stored_response_freshened_by_event x event e in
    let rest = without_serials (s ∷ []) es in
    let us : u.serial ≡ s = used_serial x event e ∙ find-serial s es e f in
    let m : holds_serial s es ≡ true = ap (λ z. holds_serial z es) (sym (find-serial s es e f)) ∙ find_holds s es e f in
    let now : entries_without_serials rm (entries_with_first_if_any (option_map (stored_response_freshened_by_event x event) (find_entry_of_serial s es)) rest) ≡ entries_without_serials rm (u ∷ rest) =
    ap (λ o. entries_without_serials rm (entries_with_first_if_any (option_map (stored_response_freshened_by_event x event) o) rest)) f
    in
    let look' : ℕ → Option Stored = λ t. cond (eqb s t) (option_map (stored_response_freshened_by_event x event) (look t)) (look t) in
    let yes : eqb s u.serial ≡ true = eq-eqb s u.serial (sym us) in
    let head : look' u.serial ≡ Some u =
    ap (λ b. cond b (option_map (stored_response_freshened_by_event x event) (look u.serial)) (look u.serial)) yes
    ∙ ap (λ t. option_map (stored_response_freshened_by_event x event) (look t)) us
    ∙ ap (option_map (stored_response_freshened_by_event x event)) (EachIs-find look s es e f h)
    in
    let tail : EachIs look' rest = EachIs-but look look' s rest (without_gone s es)
    (λ t off. ap (λ b. cond b (option_map (stored_response_freshened_by_event x event) (look t)) (look t)) off) (EachIs-filter look (λ e. not (serial_is_in e.serial (s ∷ []))) es h) in
    let line : serials (entries_without_serials rm (u ∷ rest)) ≡ filter (λ s. not (serial_is_in s rm)) (s ∷ filter (λ x. not (eqb x s)) (serials es)) =
    serials-taken rm (u ∷ rest)
    ∙ ap (λ z. filter (λ s. not (serial_is_in s rm)) (z ∷ serials rest)) us
    ∙ ap (λ zs. filter (λ s. not (serial_is_in s rm)) (s ∷ zs)) (serials-filter (λ t. not (serial_is_in t (s ∷ []))) es ∙ filter_agree _ _ (only s) (serials es))
    in
    let fresh : NoSerialIsHeldFrom next (u ∷ rest) = subst (λ t. NoSerialIsHeldFrom next (u ∷ without_serials (t ∷ []) es)) us (NoneFrom-fresh next u es (ap (λ z. holds_serial z es) us ∙ m) n) in
    record {
      serials_are = ap serials now ∙ line;
      entries_are = subst (EachIs look') (sym now) (EachIs-taken look' rm (u ∷ rest) (EachIs-cons look' u rest head tail));
      fresh = subst (NoSerialIsHeldFrom next) (sym now) (NoneFrom-taken next rm (u ∷ rest) fresh);
    }

kept_stores : (es : List Stored) (x : Option Exchange) (event : Event) (next : Option ℕ) (s : ℕ) (e : Stored) (rm : List ℕ) (look : ℕ → Option Stored) →
    next ≡ Some s → stored_response_by_answer x event s ≡ Some e → e.serial ≡ s → serial_is_in s rm ≡ false → EachIs look es → NoSerialIsHeldFrom next es →
    Kept (next_serial_after_storing next (Some s)) (Some s) None rm (look_after x event (Some s) None look) es (list_before es x event (Some s) None rm)
unfolding list_before
kept_stores es x event next s e rm look q f us off h n =
    let now : entries_with_first_if_any (stored_response_by_answer x event s) (without_serials rm es) ≡ e ∷ without_serials rm es =
    ap (λ o. entries_with_first_if_any o (without_serials rm es)) f in
    let gone : holds_serial s es ≡ false = subst (λ o. NoSerialIsHeldFrom o es) q n s (omega arith) in
    let look' : ℕ → Option Stored = λ t. cond (eqb s t) (stored_response_by_answer x event t) (look t) in
    let yes : eqb s e.serial ≡ true = eq-eqb s e.serial (sym us) in
    let head : look' e.serial ≡ Some e = ap (λ b. cond b (stored_response_by_answer x event e.serial) (look e.serial)) yes ∙ ap (stored_response_by_answer x event) us ∙ f in
    let tail : EachIs look' (without_serials rm es) = EachIs-but look look' s (without_serials rm es) (filter_keeps (λ e. not (serial_is_in e.serial rm)) s es gone)
    (λ t ne. ap (λ b. cond b (stored_response_by_answer x event t) (look t)) ne) (EachIs-filter look (λ e. not (serial_is_in e.serial rm)) es h) in
    let p : ℕ → Bool = λ s. not (serial_is_in s rm) in
    let alone : filter (λ x. not (eqb x s)) (serials es) ≡ serials es =
    filter_all (λ x. not (eqb x s)) (serials es) (λ t i. ap not (false_from_ne_true _ (λ k. false≢true (sym gone ∙ ap (λ z. holds_serial z es) (sym (eqb-true t s k)) ∙ i)))) in
    let line : serials (e ∷ without_serials rm es) ≡ filter p (s ∷ filter (λ x. not (eqb x s)) (serials es)) =
    ap (λ z. z ∷ serials (without_serials rm es)) us
    ∙ ap (λ zs. s ∷ zs) (serials-filter p es)
    ∙ sym (ap (λ b. cond (not b) (s ∷ filter p (serials es)) (filter p (serials es))) off)
    ∙ sym (ap (λ zs. filter p (s ∷ zs)) alone)
    in
    record {
      serials_are = ap serials now ∙ line;
      entries_are = subst (EachIs look') (sym now) (EachIs-cons look' e (without_serials rm es) head tail);
      fresh = NoneFrom-next s rm es _ e next (serial_after_this s) refl now us q n;
    }

kept : (es : List Stored) (x : Option Exchange) (event : Event) (next st us : Option ℕ) (rm : List ℕ) (look : ℕ → Option Stored) →
    Kind es x event next st us rm → EachIs look es → NoSerialIsHeldFrom next es →
    Kept (next_serial_after_storing next st) st us rm (look_after x event st us look) es (list_before es x event st us rm)
kept es x event next st us rm look (idle a b) h n =
    let P : Option ℕ → Option ℕ → Type 0 = λ st us. Kept (next_serial_after_storing next st) st us rm (look_after x event st us look) es (list_before es x event st us rm) in
    subst (λ o. P o us) (sym a) (subst (P None) (sym b) (kept_idle es x event next rm look h n))
kept es x event next st us rm look (uses s e a b f) h n =
    let P : Option ℕ → Option ℕ → Type 0 = λ st us. Kept (next_serial_after_storing next st) st us rm (look_after x event st us look) es (list_before es x event st us rm) in
    subst (λ o. P o us) (sym a) (subst (P None) (sym b) (kept_uses es x event next s e rm look f h n))
kept es x event next st us rm look (stores s e a b q f k off) h n =
    let P : Option ℕ → Option ℕ → Type 0 = λ st us. Kept (next_serial_after_storing next st) st us rm (look_after x event st us look) es (list_before es x event st us rm) in
    subst (λ o. P o us) (sym a) (subst (P (Some s)) (sym b) (kept_stores es x event next s e rm look q f k off h n))

-- ---- the last ones go

within_taken : (bounds : StoreBounds) (rm : List ℕ) (es : List Stored) → IsWithinBounds bounds weight_of_entry es → IsWithinBounds bounds weight_of_entry (entries_without_serials rm es)
within_taken bounds rm es h = subst (IsWithinBounds bounds weight_of_entry) (sym (taken_is rm es)) (filter_is_within bounds (λ e. not (serial_is_in e.serial rm)) es h)

-- where nothing was stored or used, all that stays is within the bounds as before
touched_is_cut : (bounds : StoreBounds) (es : List Stored) (x : Option Exchange) (event : Event) (next st us : Option ℕ) (rm : List ℕ) →
    Kind es x event next st us rm → IsWithinBounds bounds weight_of_entry es →
    cut_to_bounds_if_stored_or_used bounds st us (list_before es x event st us rm) ≡ cut_to_bounds bounds (list_before es x event st us rm)
unfolding list_before
touched_is_cut bounds es x event next st us rm (idle a b) h =
    let P : Option ℕ → Option ℕ → Type 0 = λ st us. cut_to_bounds_if_stored_or_used bounds st us (list_before es x event st us rm) ≡ cut_to_bounds bounds (list_before es x event st us rm) in
    subst (λ o. P o us) (sym a) (subst (P None) (sym b) (sym (within_stays bounds weight_of_entry (entries_without_serials rm es) (within_taken bounds rm es h))))
touched_is_cut bounds es x event next st us rm (uses s e a b f) h =
    let P : Option ℕ → Option ℕ → Type 0 = λ st us. cut_to_bounds_if_stored_or_used bounds st us (list_before es x event st us rm) ≡ cut_to_bounds bounds (list_before es x event st us rm) in
    subst (λ o. P o us) (sym a) (subst (P None) (sym b) refl)
touched_is_cut bounds es x event next st us rm (stores s e a b q f k off) h =
    let P : Option ℕ → Option ℕ → Type 0 = λ st us. cut_to_bounds_if_stored_or_used bounds st us (list_before es x event st us rm) ≡ cut_to_bounds bounds (list_before es x event st us rm) in
    subst (λ o. P o us) (sym a) refl

-- ---- one item more

-- the weights of an item's responses, by which the last ones go of what was held before with what it did
pub held_serials_more : (table : Table) (start : StoreAtStart) (i : Item) (past : List Item) → (weights : ℕ → ℕ)
    × (held_serials table start (i ∷ past) ≡ longest_prefix_within (bounds_of table start.limit) weights (recent_after_change (store_change_of i) (held_serials table start past)))
held_serials_more table start i past =
    let weights : ℕ → ℕ = λ s. weight_of_stored_if_any (stored_response_after_event (find_exchange (exchange_id_of_event i.event) (open_exchanges table start past)) i.event i.outcome (entry_held_after table start past) s) in
    (weights, weighed_held_more (bounds_of table start.limit) (record { change = store_change_of i; weights = weights }) (store_changes table start past))

-- what is held after an item was held before it, or is what it stored
pub held_before_cut : (table : Table) (start : StoreAtStart) (i : Item) (past : List Item) (s : ℕ) → serial_is_in s (held_serials table start (i ∷ past)) ≡ true →
    serial_is_in s (recent_after_change (store_change_of i) (held_serials table start past)) ≡ true
held_before_cut table start i past s h =
    let q = held_serials_more table start i past in
    let xs = recent_after_change (store_change_of i) (held_serials table start past) in
    (and_parts (serial_is_in s xs) (serial_is_within_bounds (bounds_of table start.limit) q.0 xs s)
    (sym (is_in-within (bounds_of table start.limit) q.0 s xs) ∙ sym (ap (serial_is_in s) q.1) ∙ h)).0

-- the core stands for a trace
pub record Stands (table : Table) (start : StoreAtStart) (first : ℕ) (past : List Item) (st : State) : Type 0 where
  pub table_is : st.table ≡ table
  pub limit_is : st.limit ≡ start.limit
  pub serials_are : serials st.entries ≡ held_serials table start past
  pub entries_are : EachIs (entry_held_after table start past) st.entries
  pub within : IsWithinBounds (bounds_of table start.limit) weight_of_entry st.entries
  pub exchanges_are : st.exchanges ≡ open_exchanges table start past
  pub next_is : st.next ≡ next_serial first past
  pub fresh : NoSerialIsHeldFrom st.next st.entries

held_is : (table : Table) (start : StoreAtStart) (first : ℕ) (past : List Item) (st : State) → Stands table start first past st → st.entries ≡ held_entries table start past
held_is table start first past st p =
    sym (EachIs-all (entry_held_after table start past) st.entries p.entries_are) ∙ ap (filter_map (entry_held_after table start past)) p.serials_are

stands_more : (table : Table) (start : StoreAtStart) (first : ℕ) (past : List Item) (st : State) (i : Item) → Stands table start first past st →
    ItemIsAccepted table st.entries st.exchanges st.next i → Stands table start first (i ∷ past) (state_after_event st i.event i.outcome)
stands_more table start first past st i p a =
    let event = i.event in
    let o = i.outcome in
    let es = st.entries in
    let x = find_exchange (exchange_id_of_event event) st.exchanges in
    let look : ℕ → Option Stored = entry_held_after table start past in
    let kind : Kind es x event st.next (serial_stored_by_outcome o) (serial_used_by_outcome o) (serials_removed_by_outcome o) = kind_in table st i p.fresh a in
    let item = store_change_of i in
    let bounds = bounds_of table start.limit in
    let raw = list_before es x event (serial_stored_by_outcome o) (serial_used_by_outcome o) (serials_removed_by_outcome o) in
    let k = kept es x event st.next (serial_stored_by_outcome o) (serial_used_by_outcome o) (serials_removed_by_outcome o) look kind p.entries_are p.fresh in
    let look' : ℕ → Option Stored = look_after x event (serial_stored_by_outcome o) (serial_used_by_outcome o) look in
    let bounds_are : bounds_of st.table st.limit ≡ bounds = ap (λ (t : Table). bounds_of t st.limit) p.table_is ∙ ap (bounds_of table) p.limit_is in
    let gone : List ℕ = serials_expired_by_outcome o in
    let cut : List Stored = cut_to_bounds bounds raw in
    let e : entries_after_event (bounds_of st.table st.limit) es x event o ≡ entries_after_expiring event gone cut =
    entries_are (bounds_of st.table st.limit) es x event o
    ∙ ap (entries_after_expiring event gone) (ap (λ (b : StoreBounds). cut_to_bounds_if_stored_or_used b (serial_stored_by_outcome o) (serial_used_by_outcome o) raw) bounds_are
    ∙ touched_is_cut bounds es x event st.next (serial_stored_by_outcome o) (serial_used_by_outcome o) (serials_removed_by_outcome o) kind p.within)
    in
    let same_weights : (s : ℕ) → weight_of_stored_if_any (look_after (find_exchange (exchange_id_of_event event) (open_exchanges table start past)) event (serial_stored_by_outcome o) (serial_used_by_outcome o) look s)
    ≡ weight_of_stored_if_any (stored_response_after_event (find_exchange (exchange_id_of_event event) (open_exchanges table start past)) event o look s) =
    λ s. sym (weight_stays event gone (look_after (find_exchange (exchange_id_of_event event) (open_exchanges table start past)) event (serial_stored_by_outcome o) (serial_used_by_outcome o) look s))
    in
    record {
      table_is = p.table_is;
      limit_is = p.limit_is;
      serials_are = ap serials e
          ∙ serials_stay event gone cut
          ∙ serials_are_cut bounds (λ s. weight_of_stored_if_any (look' s)) raw (EachIs-weights look' raw k.entries_are)
          ∙ ap (longest_prefix_within bounds (λ s. weight_of_stored_if_any (look' s))) k.serials_are
          ∙ ap (λ xs. longest_prefix_within bounds (λ s. weight_of_stored_if_any (look' s)) (recent_after_change item xs)) p.serials_are
          ∙ ap (λ xs. longest_prefix_within bounds (λ s. weight_of_stored_if_any (look_after (find_exchange (exchange_id_of_event event) xs) event (serial_stored_by_outcome o) (serial_used_by_outcome o) look s)) (recent_after_change item (held_serials table start past))) p.exchanges_are
          ∙ ap (λ (w : ℕ → ℕ). longest_prefix_within bounds w (recent_after_change item (held_serials table start past))) (λ i. λ s. same_weights s i)
          ∙ sym (weighed_held_more bounds (record {
            change = item;
            weights = λ s. weight_of_stored_if_any (stored_response_after_event (find_exchange (exchange_id_of_event event) (open_exchanges table start past)) event o look s);
          }) (store_changes table start past));
      entries_are = EachIs-same (λ s. response_if_any_after_expiring event gone (look' s)) (stored_response_after_event (find_exchange (exchange_id_of_event event) (open_exchanges table start past)) event o look) _
          (λ s. ap (λ xs. response_if_any_after_expiring event gone (look_after (find_exchange (exchange_id_of_event event) xs) event (serial_stored_by_outcome o) (serial_used_by_outcome o) look s)) (sym p.exchanges_are))
          (subst (EachIs (λ s. response_if_any_after_expiring event gone (look' s))) (sym e) (EachIs-expired event gone look' cut (EachIs-cut look' bounds raw k.entries_are)));
      within = subst (IsWithinBounds bounds weight_of_entry) (sym e) (within_stays_expired bounds event gone cut (cut_is_longest bounds weight_of_entry raw).is_within);
      exchanges_are = ap (λ (t : Table). open_exchanges_after_event t st.entries st.exchanges event o) p.table_is
          ∙ ap (λ zs. open_exchanges_after_event table zs st.exchanges event o) (held_is table start first past st p)
          ∙ ap (λ xs. open_exchanges_after_event table (held_entries table start past) xs event o) p.exchanges_are;
      next_is = ap (λ n. next_serial_after_storing n (serial_stored_by_outcome o)) p.next_is;
      fresh = subst (NoSerialIsHeldFrom (next_serial_after_storing st.next (serial_stored_by_outcome o))) (sym e)
          (NoneFrom-expired (next_serial_after_storing st.next (serial_stored_by_outcome o)) event gone cut (NoneFrom-cut (next_serial_after_storing st.next (serial_stored_by_outcome o)) bounds raw k.fresh));
    }

-- what a good trace leaves stands for it
pub stands_for : (table : Table) (start : StoreAtStart) (first : ℕ) (past : List Item) → TraceIsGood (initial_state table start first) past → Stands table start first past (state_after_trace (initial_state table start first) past)
stands_for table start first [] g = record {
  table_is = refl;
  limit_is = refl;
  serials_are = sym (held_at_start (bounds_of table start.limit) start.entries g.distinct g.within);
  entries_are = found_at_start start.entries g.distinct;
  within = g.within;
  exchanges_are = refl;
  next_is = refl;
  fresh = g.below_next;
}
stands_for table start first (i ∷ past) g =
    stands_more table start first past (state_after_trace (initial_state table start first) past) i (stands_for table start first past g.1) g.0

-- the bounded list has what is held
pub entries_are_held : (table : Table) (start : StoreAtStart) (first : ℕ) (past : List Item) → TraceIsGood (initial_state table start first) past →
    (state_after_trace (initial_state table start first) past).entries ≡ held_entries table start past
entries_are_held table start first past g = held_is table start first past (state_after_trace (initial_state table start first) past) (stands_for table start first past g)

-- the other things that a trace leaves
pub exchanges_are_open : (table : Table) (start : StoreAtStart) (first : ℕ) (past : List Item) → TraceIsGood (initial_state table start first) past →
    (state_after_trace (initial_state table start first) past).exchanges ≡ open_exchanges table start past
exchanges_are_open table start first past g = (stands_for table start first past g).exchanges_are

pub next_is_counted : (table : Table) (start : StoreAtStart) (first : ℕ) (past : List Item) → TraceIsGood (initial_state table start first) past →
    (state_after_trace (initial_state table start first) past).next ≡ next_serial first past
next_is_counted table start first past g = (stands_for table start first past g).next_is

-- the passage: from what is good over a bounded list to what is good over what is held
pub good_held : (table : Table) (start : StoreAtStart) (first : ℕ) (past : List Item) → TraceIsGood (initial_state table start first) past → IsGoodHistory table start first past
good_held table start first [] g = g
good_held table start first (i ∷ past) g =
    let p = stands_for table start first past g.1 in
    let st = state_after_trace (initial_state table start first) past in
    let a = g.0 in (
      record {
        allowed = ap (λ xs. step_fault xs i.event) (sym p.exchanges_are) ∙ a.allowed;
        outcome_is = a.outcome_is
            ∙ ap (λ es. outcome_of_event table es st.exchanges st.next i.event) (held_is table start first past st p)
            ∙ ap (λ xs. outcome_of_event table (held_entries table start past) xs st.next i.event) p.exchanges_are
            ∙ ap (λ n. outcome_of_event table (held_entries table start past) (open_exchanges table start past) n i.event) p.next_is;
      },
      good_held table start first past g.1,
    )

-- and back
pub good_plain : (table : Table) (start : StoreAtStart) (first : ℕ) (past : List Item) → IsGoodHistory table start first past → TraceIsGood (initial_state table start first) past
good_plain table start first [] g = g
good_plain table start first (i ∷ past) g =
    let plain = good_plain table start first past g.1 in
    let p = stands_for table start first past plain in
    let st = state_after_trace (initial_state table start first) past in
    let a = g.0 in (
      record {
        allowed = ap (λ xs. step_fault xs i.event) p.exchanges_are ∙ a.allowed;
        outcome_is = a.outcome_is
            ∙ sym (ap (λ es. outcome_of_event table es st.exchanges st.next i.event) (held_is table start first past st p)
            ∙ ap (λ xs. outcome_of_event table (held_entries table start past) xs st.next i.event) p.exchanges_are
            ∙ ap (λ n. outcome_of_event table (held_entries table start past) (open_exchanges table start past) n i.event) p.next_is);
      },
      plain,
    )

-- the fault at the next event, said of the exchanges that are open
pub stops_held : (table : Table) (start : StoreAtStart) (first : ℕ) (past : List Item) (next : Option Event) (fault : CoreFault) → TraceIsGood (initial_state table start first) past →
    RunStopsWithFault (state_after_trace (initial_state table start first) past) next fault → HistoryStopsWithFault (open_exchanges table start past) next fault
stops_held table start first past None fault g r = r
stops_held table start first past (Some e) fault g r =
    let k : step_fault (state_after_trace (initial_state table start first) past).exchanges e ≡ step_fault (open_exchanges table start past) e = ap (λ xs. step_fault xs e) (exchanges_are_open table start first past g) in
    elim r [ inl a ↦ inl (sym k ∙ a) | inr b ↦ inr (sym k ∙ b.0, b.1) ]
