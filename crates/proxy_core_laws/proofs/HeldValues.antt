-- What is held of answers that were read: its validators are field values, and its content is within the table's limit.
use Rattle.std.proofs.Common.{◌≡◌, ℕ, ◌≤◌, ◌<◌, ◌^◌, ◌==◌, Bool, true, false, cond, List, [], ◌∷◌, length, refl, sym, ap, ◌∙◌, subst, arith}
use Rattle.std.specs.Prelude.{All, IfSome, Option, None, Some, codes, option_map, filter}
use Rattle.std.specs.List.{AllByRecursion, cons_option, filter_map}
use Rattle.std.proofs.lemmas.Bool.{eqb-true}
use Rattle.std.proofs.lemmas.List.Elements.{All-filter, All-head, All-map, All-weaker}
use Rattle.hx_fields.specs.Line.{Field}
use Rattle.hx_fields.specs.FieldLines.{is_named, value_if_only_one, only_value, values_of}
use Rattle.hx_framing.specs.Written.{FieldIsWritable}
use Rattle.hx_framing.specs.declared.messages.Response.{Response}
use Rattle.hx_framing.proofs.ReadResponses.{final_status}
use Rattle.hx_allow.specs.TableLines.{Table}
use Rattle.hx_store.specs.Stored.{Stored}
use Rattle.hx_store.specs.Recency.{option_is_serial}
use Rattle.hx_store.specs.Shelf.{find_entry_of_serial}
use Rattle.hx_validate.specs.Answering.{freshened_of}
use Rattle.hx_validate.specs.Validators.{validating_conditions_of, value_is_http_date, is_entity_tag, value_if_it_passes_test}
use Rattle.hx_hop_laws.specs.OneMessage.{ConditionsAreFieldValues, IsFieldValue}
use Rattle.proxy_core.specs.declared.open.exchange.Exchange.{Exchange}
use Rattle.proxy_core.specs.declared.event.Event.{Event}
use Rattle.proxy_core.specs.declared.event.Event.TheVariants.{Arrive, Answer, Fail, Wake, Abandon, Overdue}
use Rattle.proxy_core.specs.Histories.{IsGoodHistory, entry_held_after, open_exchanges}
use Rattle.proxy_core.specs.Outcomes.{find_exchange, exchange_id_of_event}
use Rattle.proxy_core.specs.ReadAnswers.{EventIsReadFromAStream}
use Rattle.proxy_core.specs.State.{serials_expired_by_outcome, stored_response_by_answer, serial_stored_by_outcome, stored_response_freshened_by_event, serial_used_by_outcome}
use Rattle.proxy_core.specs.Starts.{StoreAtStart, HoldsForEachResponseAtStart}
use Rattle.proxy_core.specs.Storing.{stored_response_made}
use Rattle.proxy_core.specs.Traces.{Item}
use Rattle.proxy_core.specs.Validating.{stored_response_is_answered_by_304, freshened_by_304}
use Rattle.hx_allow.specs.Tables.{TableWasRead}
use Rattle.proxy_core_laws.specs.SentMessages.{StartResponseCanBeSent, ConditionsOfHistoryAreFieldValues, HeldContentIsAtMostMaxStored}
use Rattle.proxy_core_laws.proofs.HeldReplies.{holds_sendable}
use Rattle.proxy_core_laws.proofs.ReadTables.{stores_none_too_long}
use Rattle.proxy_core.proofs.ExpiredEntries.{was_there}
use Rattle.proxy_core.proofs.StoredAnswers.{stores_nowhere_else}

-- ---- validators

only_fits : (values : List (List ℕ)) → All IsFieldValue values → IfSome (value_if_only_one values) IsFieldValue
only_fits [] all = tt
only_fits (value ∷ []) all = All-head IsFieldValue value [] all
only_fits (value ∷ other ∷ more) all = tt

passing_fits : (test : List ℕ → Bool) (o : Option (List ℕ)) → IfSome o IsFieldValue → IfSome (value_if_it_passes_test test o) IsFieldValue
passing_fits test None is = tt
passing_fits test (Some value) is = by_test (test value)
  where
    by_test : (t : Bool) → IfSome (cond t (Some value) None) IsFieldValue
    by_test true = is
    by_test false = tt

value_fits : (fields : List Field) (name : List ℕ) → All FieldIsWritable fields → IfSome (only_value fields name) IsFieldValue
value_fits fields name all =
    only_fits (values_of fields name) (All-map IsFieldValue (λ (f : Field). f.value) (filter (is_named name) fields)
    (All-weaker FieldIsWritable (λ (f : Field). IsFieldValue f.value) (λ f is. (is.value, is.trimmed)) (filter (is_named name) fields) (All-filter (is_named name) FieldIsWritable fields all)))

pub conditions_fit : (fields : List Field) → All FieldIsWritable fields → ConditionsAreFieldValues (validating_conditions_of fields)
conditions_fit fields all = record {
  etag = passing_fits is_entity_tag (only_value fields (codes "ETag")) (value_fits fields (codes "ETag") all);
  modified = passing_fits value_is_http_date (only_value fields (codes "Last-Modified")) (value_fits fields (codes "Last-Modified") all);
}

pub asks_by_field_values : ConditionsOfHistoryAreFieldValues
asks_by_field_values table start first trace good begins read serial e h = conditions_fit e.fields (holds_sendable table start first trace good begins read serial e h).fields

-- ---- a content

some_same : {B : Type 0} {x y : B} → Some x ≡ Some y → x ≡ y
some_same h = cc

refreshed_content : (x : Exchange) (r : Response) (now : ℕ) (e : Stored) → (freshened_by_304 x r now e).content ≡ e.content
unfolding freshened_of
refreshed_content x r now e = refl

pub used_content : (x : Option Exchange) (event : Event) (e : Stored) → (stored_response_freshened_by_event x event e).content ≡ e.content
used_content (Some x) (Answer now id r) e = elim (stored_response_is_answered_by_304 x r now e) as (λ b. (cond b (freshened_by_304 x r now e) e).content ≡ e.content) [ true ↦ refreshed_content x r now e | false ↦ refl ]
used_content (Some x) (Arrive now id asked) e = refl
used_content (Some x) (Fail now id kind) e = refl
used_content (Some x) (Wake now id) e = refl
used_content (Some x) (Abandon id) e = refl
used_content (Some x) (Overdue id) e = refl
used_content None event e = refl

the_serial : (o : Option ℕ) (s : ℕ) → option_is_serial o s ≡ true → o ≡ Some s
the_serial None s h = absurd cc
the_serial (Some x) s h = ap (λ (n : ℕ). Some n) (eqb-true x s h)

module _ (table : Table) (start : StoreAtStart) (first : ℕ) where
  made_fits : (item : Item) (past : List Item) (s : ℕ) (e : Stored) → IsGoodHistory table start first (item ∷ past) → EventIsReadFromAStream item.event → serial_stored_by_outcome item.outcome ≡ Some s
      → stored_response_by_answer (find_exchange (exchange_id_of_event item.event) (open_exchanges table start past)) item.event s ≡ Some e → length e.content ≤ table.max_stored
  made_fits item past s e good read stored h =
      let is = stores_nowhere_else table start first s item past good stored in
      let answer : EventIsReadFromAStream (Answer is.now is.id is.response) = subst EventIsReadFromAStream is.event_is read in
      let final = final_status answer.max_body answer.to_head answer.ended answer.bytes is.response answer.rest answer.reads in
      let fits : length is.response.content ≤ table.max_stored = (is.may_be_stored final.0).fits in
      let open_is : find_exchange (exchange_id_of_event item.event) (open_exchanges table start past) ≡ Some is.exchange = ap (λ (v : Event). find_exchange (exchange_id_of_event v) (open_exchanges table start past)) is.event_is ∙ is.is_open in
      let form : stored_response_by_answer (find_exchange (exchange_id_of_event item.event) (open_exchanges table start past)) item.event s ≡ Some (stored_response_made s is.exchange is.response is.now) =
      ap (λ (o : Option Exchange). stored_response_by_answer o item.event s) open_is ∙ ap (λ (v : Event). stored_response_by_answer (Some is.exchange) v s) is.event_is in
      subst (λ (f : Stored). length f.content ≤ table.max_stored) (some_same (sym form ∙ h)) fits

  used_fits : (most : ℕ) (x : Option Exchange) (event : Event) (o : Option Stored) (e : Stored) → ((f : Stored) → o ≡ Some f → length f.content ≤ most)
      → option_map (stored_response_freshened_by_event x event) o ≡ Some e → length e.content ≤ most
  used_fits most x event None e before h = absurd cc
  used_fits most x event (Some f) e before h = subst (λ (c : List ℕ). length c ≤ most) (sym (used_content x event f) ∙ ap (λ (g : Stored). g.content) (some_same h)) (before f refl)

  -- the same before a purge may have ended its lifetime
  fits_before : (most : ℕ) → table.max_stored ≤ most → (item : Item) (past : List Item) → IsGoodHistory table start first (item ∷ past) → AllByRecursion (λ item. EventIsReadFromAStream item.event) (item ∷ past) → (s : ℕ) (e : Stored)
      → ((f : Stored) → entry_held_after table start past s ≡ Some f → length f.content ≤ most)
      → cond (option_is_serial (serial_stored_by_outcome item.outcome) s) (stored_response_by_answer (find_exchange (exchange_id_of_event item.event) (open_exchanges table start past)) item.event s)
      (cond (option_is_serial (serial_used_by_outcome item.outcome) s) (option_map (stored_response_freshened_by_event (find_exchange (exchange_id_of_event item.event) (open_exchanges table start past)) item.event) (entry_held_after table start past s)) (entry_held_after table start past s)) ≡ Some e
      → length e.content ≤ most
  fits_before most larger item past good read s e earlier h =
      by_tests (option_is_serial (serial_stored_by_outcome item.outcome) s) refl (option_is_serial (serial_used_by_outcome item.outcome) s) earlier h
    where
      x : Option Exchange
      x = find_exchange (exchange_id_of_event item.event) (open_exchanges table start past)

      by_tests : (t : Bool) → option_is_serial (serial_stored_by_outcome item.outcome) s ≡ t → (u : Bool) → ((f : Stored) → entry_held_after table start past s ≡ Some f → length f.content ≤ most)
          → cond t (stored_response_by_answer x item.event s) (cond u (option_map (stored_response_freshened_by_event x item.event) (entry_held_after table start past s)) (entry_held_after table start past s)) ≡ Some e → length e.content ≤ most
      by_tests true is u before k = omega (arith, larger, made_fits item past s e good read.0 (the_serial (serial_stored_by_outcome item.outcome) s is) k)
      by_tests false is true before k = used_fits most x item.event (entry_held_after table start past s) e before k
      by_tests false is false before k = before e k

  -- within any bound that is no smaller than the table's, and that each keeps to that was held at first
  pub fits_after : (most : ℕ) → table.max_stored ≤ most → HoldsForEachResponseAtStart (λ s e. length e.content ≤ most) start
      → (trace : List Item) → IsGoodHistory table start first trace → AllByRecursion (λ item. EventIsReadFromAStream item.event) trace → (s : ℕ) (e : Stored)
      → entry_held_after table start trace s ≡ Some e → length e.content ≤ most
  fits_after most larger begins [] good read s e h = begins s e h
  fits_after most larger begins (item ∷ past) good read s e h =
      let there = was_there item.event (serials_expired_by_outcome item.outcome) _ e h in
      subst (λ (f : Stored). length f.content ≤ most) (sym there.is)
      (fits_before most larger item past good read s there.response (λ f k. fits_after most larger begins past good.1 read.1 s f k) there.was)

pub holds_what_fits : HeldContentIsAtMostMaxStored
holds_what_fits table start first trace good begins read serial e h = fits_after table start first table.max_stored (omega arith) begins trace good read serial e h

-- and so it is in memory, where the table was read
pub fits_in_memory : (table : Table) (start : StoreAtStart) (first : ℕ) (trace : List Item) → TableWasRead table → HoldsForEachResponseAtStart StartResponseCanBeSent start → IsGoodHistory table start first trace
    → AllByRecursion (λ item. EventIsReadFromAStream item.event) trace → (s : ℕ) (e : Stored) → entry_held_after table start trace s ≡ Some e → length e.content < 2 ^ 64
fits_in_memory table start first trace table_of_members begins good read s e h =
    let small = stores_none_too_long table table_of_members in
    let larger : table.max_stored ≤ 18446744073709551615 = omega (arith, small) in
    let fits = fits_after table start first 18446744073709551615 larger (λ t f k. let short = (begins t f k).fits in omega (arith, short)) trace good read s e h in
    omega (arith, fits)

-- ---- what is found among what is held

pub found_held : (look : ℕ → Option Stored) (serials : List ℕ) (s : ℕ) (e : Stored) → find_entry_of_serial s (filter_map look serials) ≡ Some e → (t : ℕ) × (look t ≡ Some e)
found_held look [] s e h = absurd cc
found_held look (t ∷ serials) s e h = by_look (look t) refl (λ k. found_held look serials s e k) h
  where
    by_look : (o : Option Stored) → look t ≡ o → (find_entry_of_serial s (filter_map look serials) ≡ Some e → (t : ℕ) × (look t ≡ Some e))
        → find_entry_of_serial s (cons_option o (filter_map look serials)) ≡ Some e → (t : ℕ) × (look t ≡ Some e)
    by_look None is later k = later k
    by_look (Some f) is later k = by_serial (f.serial == s) k
      where
        by_serial : (b : Bool) → cond b (Some f) (find_entry_of_serial s (filter_map look serials)) ≡ Some e → (t : ℕ) × (look t ≡ Some e)
        by_serial true j = (t, is ∙ j)
        by_serial false j = later j
