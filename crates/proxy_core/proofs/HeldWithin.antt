-- What is held is within the bounds of the store, and what is stored is held behind it.
use Rattle.std.proofs.Common.{◌≡◌, ℕ, ◌≤◌, not, cond, ◌||◌, Bool, true, false, Option, None, Some, List, [], ◌∷◌, ◌++◌, map, refl, sym, ◌∙◌, ap, subst, arith}
use Rattle.std.specs.Prelude.{IfSome, codes, unwrap_or, option_map}
use Rattle.std.proofs.lemmas.Bool.{eq-eqb}
use Rattle.std.proofs.lemmas.List.Sums.{sum_by-cons}
use Rattle.std.proofs.lemmas.List.Filters.{sum_by-filter_both}
use Rattle.std.proofs.lemmas.Option.{IfSome_then}
use Rattle.hx_fields.specs.Line.{Field}
use Rattle.hx_fields.specs.FieldLines.{without_named, is_named}
use Rattle.hx_framing.specs.declared.messages.Response.{Response}
use Rattle.hx_hop.specs.Answering.{answered_of}
use Rattle.hx_allow.specs.TableLines.{Table}
use Rattle.hx_store.specs.Stored.{Stored}
use Rattle.hx_store.specs.Serials.{serial_is_in}
use Rattle.hx_store.specs.Shelf.{serials, without_serials, entries_with_first_if_any}
use Rattle.hx_store.specs.Recency.{option_is_serial, held_serials_of}
use Rattle.hx_store.specs.WeightedRecency.{serials_within_bounds}
use Rattle.hx_store.specs.Weights.{StoreBounds, IsWithinBounds, weight_of_entry, weight_of_field_line, weight_of_lines, cut_to_bounds}
use Rattle.hx_store.proofs.Fronts.{first_stays}
use Rattle.hx_store.proofs.WeightedRecency.{held_by_number}
use Rattle.proxy_core.specs.declared.open.exchange.Exchange.{Exchange}
use Rattle.proxy_core.specs.declared.event.Event.{Event}
use Rattle.proxy_core.specs.declared.event.Event.TheVariants.{Answer}
use Rattle.proxy_core.specs.Outcomes.{find_exchange, exchange_id_of_event}
use Rattle.proxy_core.specs.Storing.{stored_response_made, weight_of_answer}
use Rattle.proxy_core.specs.Validating.{without_set_cookie_if}
use Rattle.proxy_core.specs.State.{bounds_of, serial_stored_by_outcome, serial_used_by_outcome, serials_removed_by_outcome, stored_response_by_answer, entries_after_event, entries_after_use, entries_after_removal_and_storing, cut_to_bounds_if_stored_or_used, serials_expired_by_outcome, stored_response_freshened_by_event, entries_after_expiring}
use Rattle.proxy_core.specs.Starts.{StoreAtStart, change_that_stores}
use Rattle.proxy_core.specs.Traces.{Item, initial_state, state_after_trace}
use Rattle.proxy_core.specs.Histories.{store_change_of, store_changes, entry_held_after, held_entries, open_exchanges, response_if_any_after_expiring, IsGoodHistory}
use Rattle.proxy_core.specs.StoredAnswers.{OutcomeExpiresExactlyWhatItMust}
use Rattle.proxy_core.specs.Bounds.{HeldResponsesAreWithinTheBounds, StoredResponseIsHeldIfRoom, StoredWeighsNoMoreThanTheStore, WithoutByteBoundHeldIsByNumber, StoreChangesFollowFromOutcomes}
use Rattle.proxy_core.proofs.Beginning.{changes_are_start}
use Rattle.proxy_core.proofs.Expiring.{expires_just_that}
use Rattle.proxy_core.proofs.HeldLaw.{good_plain, entries_are_held, stands_for}
use Rattle.proxy_core.proofs.StoredAnswers.{stored_at}

pub held_is_within : HeldResponsesAreWithinTheBounds
held_is_within table start first trace good =
    let plain = good_plain table start first trace good in
    subst (IsWithinBounds (bounds_of table start.limit) weight_of_entry) (entries_are_held table start first trace plain) (stands_for table start first trace plain).within

-- ---- without a bound of bytes

pub changes_are_those : StoreChangesFollowFromOutcomes
changes_are_those table start [] = changes_are_start start.entries
changes_are_those table start (i ∷ past) = ap (λ xs. store_change_of i ∷ xs) (changes_are_those table start past)

pub held_by_number_alone : WithoutByteBoundHeldIsByNumber
held_by_number_alone table start past none =
    let bounds_are : bounds_of table start.limit ≡ record { entries = start.limit; bytes = None } = ap (λ (bytes : Option ℕ). record { entries = start.limit; bytes = bytes }) none in
    by_bounds (bounds_of table start.limit) bounds_are
  where
    open_held : StoreBounds → List ℕ
    open_held bounds = serials_within_bounds bounds (store_changes table start past)

    by_bounds : (bounds : StoreBounds) → bounds ≡ record { entries = start.limit; bytes = None } → open_held bounds ≡ held_serials_of start.limit (map store_change_of past ++ map change_that_stores start.entries)
    by_bounds bounds are = ap open_held are ∙ held_by_number start.limit (store_changes table start past) ∙ ap (held_serials_of start.limit) (changes_are_those table start past)

-- ---- what is stored

fewer_weigh : (name : List ℕ) (fields : List Field) → weight_of_lines (without_named fields name) ≤ weight_of_lines fields
fewer_weigh name fields = omega (arith, sum_by-filter_both (λ f. not (is_named name f)) (λ f. not (not (is_named name f))) (λ f. refl) weight_of_field_line fields)

others_weigh : (removes : Bool) (fields : List Field) → weight_of_lines (without_set_cookie_if removes fields) ≤ weight_of_lines fields
others_weigh true fields = fewer_weigh (codes "Set-Cookie") fields
others_weigh false fields = omega arith

-- what is kept of an answer weighs no more than the answer
made_weighs : (serial : ℕ) (x : Exchange) (r : Response) (now : ℕ) → weight_of_entry (stored_response_made serial x r now) ≤ weight_of_answer x r now
made_weighs serial x r now =
    let fields = (answered_of r now).fields in
    let others = others_weigh x.removes_set_cookie fields in
    let fewer = fewer_weigh (codes "Age") (without_set_cookie_if x.removes_set_cookie fields) in
    omega (arith, others, fewer)

made_fits : (bound : Option ℕ) (serial : ℕ) (x : Exchange) (r : Response) (now : ℕ) → IfSome bound (λ most. weight_of_answer x r now ≤ most) → IfSome bound (λ most. weight_of_entry (stored_response_made serial x r now) ≤ most)
made_fits bound serial x r now h = IfSome_then bound h (λ most p. let less = made_weighs serial x r now in omega arith)

alone_fits : (table : Table) (start : StoreAtStart) (e : Stored) → 1 ≤ start.limit → IfSome table.max_store (λ most. weight_of_entry e ≤ most) → IsWithinBounds (bounds_of table start.limit) weight_of_entry (e ∷ [])
alone_fits table start e room h = record {
  number = omega arith;
  weighs = IfSome_then table.max_store h (λ most p. omega (arith, sum_by-cons weight_of_entry e []));
}

some_same : {B : Type 0} {x y : B} → ◌≡◌ {A = Option B} (Some x) (Some y) → x ≡ y
some_same h = cc

-- what stores expires nothing
stores_expires : (table : Table) (start : StoreAtStart) (first serial : ℕ) (item : Item) (past : List Item) → IsGoodHistory table start first (item ∷ past) → serial_stored_by_outcome item.outcome ≡ Some serial → serials_expired_by_outcome item.outcome ≡ []
stores_expires table start first serial item past good stored =
    let a = (stored_at table start first serial item past good stored).answer in
    ap (λ (o : Option (List ℕ)). unwrap_or o [])
    (subst (λ (v : Event). OutcomeExpiresExactlyWhatItMust table (held_entries table start past) v item.outcome) a.event_is (expires_just_that table start first item past good))

first_of : (s : ℕ) (o : Option ℕ) (a b : Option Stored) → o ≡ Some s → cond (option_is_serial o s) a b ≡ a
first_of s o a b h = ap (λ (o : Option ℕ). cond (option_is_serial o s) a b) h ∙ ap (λ t. cond t a b) (eq-eqb s s refl)

-- the response that an item stores
record Made (table : Table) (start : StoreAtStart) (serial : ℕ) (item : Item) (past : List Item) : Type 0 where
  made : Stored
  serial_is : made.serial ≡ serial
  is : stored_response_by_answer (find_exchange (exchange_id_of_event item.event) (open_exchanges table start past)) item.event serial ≡ Some made
  fits : IfSome table.max_store (λ most. weight_of_entry made ≤ most)

made_by : (table : Table) (start : StoreAtStart) (first serial : ℕ) (item : Item) (past : List Item) → IsGoodHistory table start first (item ∷ past) → serial_stored_by_outcome item.outcome ≡ Some serial → Made table start serial item past
made_by table start first serial item past good stored =
    let is = stored_at table start first serial item past good stored in
    let a = is.answer in
    record {
      made = stored_response_made serial a.exchange a.response a.now;
      serial_is = refl;
      is = ap (λ e. stored_response_by_answer (find_exchange (exchange_id_of_event e) (open_exchanges table start past)) e serial) a.event_is
          ∙ ap (λ (o : Option Exchange). stored_response_by_answer o (Answer a.now a.id a.response) serial) a.is_open;
      fits = made_fits table.max_store serial a.exchange a.response a.now is.fits;
    }

pub stored_weighs_no_more : StoredWeighsNoMoreThanTheStore
stored_weighs_no_more table start first serial e item past good stored look =
    let m = made_by table start first serial item past good stored in
    let x = find_exchange (exchange_id_of_event item.event) (open_exchanges table start past) in
    let before = entry_held_after table start past serial in
    let made_or_used : Option Stored = cond (option_is_serial (serial_stored_by_outcome item.outcome) serial) (stored_response_by_answer x item.event serial) (cond (option_is_serial (serial_used_by_outcome item.outcome) serial) (option_map (stored_response_freshened_by_event x item.event) before) before) in
    let form : entry_held_after table start (item ∷ past) serial ≡ Some m.made =
    ap (λ gone. response_if_any_after_expiring item.event gone made_or_used) (stores_expires table start first serial item past good stored)
    ∙ first_of serial (serial_stored_by_outcome item.outcome) (stored_response_by_answer x item.event serial) (cond (option_is_serial (serial_used_by_outcome item.outcome) serial) (option_map (stored_response_freshened_by_event x item.event) before) before) stored ∙ m.is in
    subst (λ (f : Stored). IfSome table.max_store (λ most. weight_of_entry f ≤ most)) (some_same (sym form ∙ look)) m.fits

pub stored_is_held : StoredResponseIsHeldIfRoom
stored_is_held table start first serial item past room good stored =
    let m = made_by table start first serial item past good stored in
    let plain = good_plain table start first (item ∷ past) good in
    let st = state_after_trace (initial_state table start first) past in
    let p = stands_for table start first past plain.1 in
    let x = find_exchange (exchange_id_of_event item.event) st.exchanges in
    let used = serial_used_by_outcome item.outcome in
    let removed = serials_removed_by_outcome item.outcome in
    let bounds_are : bounds_of st.table st.limit ≡ bounds_of table start.limit = ap (λ (t : Table). bounds_of t st.limit) p.table_is ∙ ap (bounds_of table) p.limit_is in
    let rest = without_serials removed (entries_after_use x item.event used st.entries) in
    let here : stored_response_by_answer x item.event serial ≡ Some m.made = ap (λ xs. stored_response_by_answer (find_exchange (exchange_id_of_event item.event) xs) item.event serial) p.exchanges_are ∙ m.is in
    let after : entries_after_event (bounds_of st.table st.limit) st.entries x item.event item.outcome ≡ cut_to_bounds (bounds_of table start.limit) (m.made ∷ rest) =
    ap (λ gone. entries_after_expiring item.event gone (cut_to_bounds_if_stored_or_used (bounds_of st.table st.limit) (serial_stored_by_outcome item.outcome) used (entries_after_removal_and_storing x item.event (serial_stored_by_outcome item.outcome) removed (entries_after_use x item.event used st.entries)))) (stores_expires table start first serial item past good stored)
    ∙ ap (λ o. cut_to_bounds_if_stored_or_used (bounds_of st.table st.limit) o used (entries_after_removal_and_storing x item.event o removed (entries_after_use x item.event used st.entries))) stored
    ∙ ap (λ (b : StoreBounds). cut_to_bounds b (entries_with_first_if_any (stored_response_by_answer x item.event serial) rest)) bounds_are
    ∙ ap (λ (o : Option Stored). cut_to_bounds (bounds_of table start.limit) (entries_with_first_if_any o rest)) here
    in
    let front = first_stays (bounds_of table start.limit) weight_of_entry m.made rest (alone_fits table start m.made room m.fits) in
    let held = stands_for table start first (item ∷ past) plain in
    ap (serial_is_in serial) (sym held.serials_are ∙ ap serials (after ∙ front.1))
    ∙ ap (λ b. b || serial_is_in serial (serials front.0)) (eq-eqb m.made.serial serial m.serial_is)
