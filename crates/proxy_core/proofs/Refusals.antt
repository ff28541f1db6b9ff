-- How a wrong trace is refused: by what its last item should have been, or since its event can't come.
use Rattle.std.proofs.Common.{◌≡◌, ℕ, ◌≤◌, Bool, true, false, cond, ◌&&◌, Option, None, Some, List, [], ◌∷◌, refl, sym, ◌∙◌, ap, subst, arith}
use Rattle.std.specs.Prelude.{nat_le, bytes_eq, is_none, is_some, length, ◌==◌}
use Rattle.std.proofs.lemmas.Bool.{eq-eqb, false≢true}
use Rattle.std.proofs.lemmas.Bool.Decides.{nat_tests}
use Rattle.std.proofs.lemmas.Option.{same_Some}
use Rattle.hx_hop.specs.declared.request_view.Asked.{Asked}
use Rattle.hx_allow.specs.Matching.{policy_of}
use Rattle.proxy_core.specs.Allowing.{verdict_of_asked}
use Rattle.hx_allow.specs.declared.verdicts.Verdict.TheVariants.{Allowed}
use Rattle.hx_allow.specs.declared.verdicts.RouteOverLine.{RouteOverLine}
use Rattle.hx_store.specs.Recency.{option_is_serial}
use Rattle.hx_reuse.specs.ChosenAndNamed.{RuleOnChosenNamesItsSerial}
use Rattle.hx_reuse.specs.Rules.{decision_of}
use Rattle.hx_reuse.specs.declared.rule.ReuseRule.{ReuseRule}
use Rattle.hx_reuse.specs.declared.decision.Decision.TheVariants as decision
use Rattle.hx_reuse.proofs.MeaningLemmas.{names_the_least}
use Rattle.hx_status.specs.declared.about.StatusAndReason.{StatusAndReason}
use Rattle.hx_status.specs.declared.about.Told.{Told}
use Rattle.hx_status.specs.declared.about.Told.TheVariants.{Handled, Purged, Refused}
use Rattle.proxy_core.specs.declared.steps.condition.Condition.{Condition}
use Rattle.proxy_core.specs.declared.outcome.Outcome.{Outcome}
use Rattle.proxy_core.specs.declared.outcome.Outcome.TheVariants.{Reply, Forward, Waits, Ended, WaitsNoMore}
use Rattle.proxy_core.specs.declared.event.Event.{Event}
use Rattle.proxy_core.specs.declared.event.Event.TheVariants.{Arrive, Answer, Fail, Wake, Abandon, Overdue}
use Rattle.proxy_core.specs.declared.core_fault.CoreFault.{CoreFault}
use Rattle.proxy_core.specs.Validating.{condition_to_revalidate_serial}
use Rattle.proxy_core.specs.Outcomes.{step_fault, forward_text, outcome_of_event}
use Rattle.proxy_core.specs.State.{serials_removed_by_outcome, serial_stored_by_outcome, serial_used_by_outcome}
use Rattle.proxy_core.specs.Starts.{empty_store}
use Rattle.proxy_core.specs.Traces.{Item}
use Rattle.proxy_core.specs.Histories.{held_entries, next_serial, open_exchanges}
use Rattle.proxy_core.specs.Promises.{latest_request_of}
use Rattle.proxy_core.specs.GoingOn.{ConditionIsSentAtEvent}
use Rattle.proxy_core.specs.Headline.{HoldsAtEachItem, AnswerHasFinalStatus}
use Rattle.proxy_core.specs.Cases.{bytes_of_outcome}
use Rattle.proxy_core.specs.WrongTraces.{HeadlineRefuses, three_line_table, trace_of_good_events, item_with_outcome, GoingForwardIsWrong, trace_with_wrong_item}
use Rattle.proxy_core.proofs.Awaits.{one_rule, one_named}
use Rattle.proxy_core.proofs.OneOutcome.{no_other_trace_has_it}

-- each answer has a final status
abbrev pub is_final : Event → Bool
is_final (Answer now id r) = nat_le 200 r.status
is_final (Arrive now id asked) = true
is_final (Fail now id kind) = true
is_final (Wake now id) = true
is_final (Abandon id) = true
is_final (Overdue id) = true

abbrev pub finals : List Item → Bool
finals [] = true
finals (item_with_outcome ∷ past) = is_final item_with_outcome.event && finals past

both : (p q : Bool) → p && q ≡ true → (p ≡ true) × (q ≡ true)
both true q h = (refl, h)
both false q h = absurd (false≢true h)

at_least : (n : ℕ) → nat_le 200 n ≡ true → 200 ≤ n
at_least n h = grind (arith, nat_tests, h)

all_final : (trace : List Item) → finals trace ≡ true → HoldsAtEachItem AnswerHasFinalStatus trace
all_final [] h = tt
all_final (item_with_outcome ∷ past) h =
    let parts = both (is_final item_with_outcome.event) (finals past) h in (
      λ now id r e. at_least r.status (sym (ap is_final e) ∙ parts.0),
      all_final past parts.1,
    )

-- a test that the last outcome passes, and the right one doesn't
pub refuse : (before : List Event) (event : Event) (outcome : Outcome) (test : Outcome → Bool) → finals (trace_with_wrong_item before event outcome) ≡ true → test outcome ≡ true →
    test (outcome_of_event three_line_table (held_entries three_line_table (empty_store 2) (trace_of_good_events before)) (open_exchanges three_line_table (empty_store 2) (trace_of_good_events before)) (next_serial 1 (trace_of_good_events before)) event) ≡ false → HeadlineRefuses (trace_with_wrong_item before event outcome)
refuse before event outcome test final passes fails h =
    let is = (no_other_trace_has_it three_line_table (empty_store 2) 1 (trace_with_wrong_item before event outcome) h (all_final (trace_with_wrong_item before event outcome) final)).0.outcome_is in
    false≢true (sym fails ∙ sym (ap test is) ∙ passes)

-- the event can't come
pub never_comes : (before : List Event) (event : Event) (outcome : Outcome) (fault : CoreFault) → finals (trace_with_wrong_item before event outcome) ≡ true →
    step_fault (open_exchanges three_line_table (empty_store 2) (trace_of_good_events before)) event ≡ Some fault → HeadlineRefuses (trace_with_wrong_item before event outcome)
never_comes before event outcome fault final applies h =
    let allowed = (no_other_trace_has_it three_line_table (empty_store 2) 1 (trace_with_wrong_item before event outcome) h (all_final (trace_with_wrong_item before event outcome) final)).0.allowed in
    let never : Some fault ≡ None = sym applies ∙ allowed in
    absurd (cc)

-- ---- tests of outcomes

abbrev pub uses : ℕ → Outcome → Bool
uses s o = option_is_serial (serial_used_by_outcome o) s

abbrev pub stores : Outcome → Bool
stores o = is_some (serial_stored_by_outcome o)

abbrev pub stores_as : ℕ → Outcome → Bool
stores_as s o = option_is_serial (serial_stored_by_outcome o) s

abbrev pub removes_none : Outcome → Bool
removes_none o = length (serials_removed_by_outcome o) == 0

abbrev pub has_bytes : List ℕ → Outcome → Bool
has_bytes bytes o = bytes_eq (bytes_of_outcome o) bytes

abbrev pub goes_by : ℕ → Outcome → Bool
goes_by n (Forward line bytes) = line.number == n
goes_by n (Reply r) = false
goes_by n (Waits leader) = false
goes_by n Ended = false
goes_by n WaitsNoMore = false

abbrev pub waits_on : ℕ → Outcome → Bool
waits_on n (Waits leader) = leader == n
waits_on n (Forward line bytes) = false
waits_on n (Reply r) = false
waits_on n Ended = false
waits_on n WaitsNoMore = false

abbrev pub is_end : Outcome → Bool
is_end Ended = true
is_end WaitsNoMore = false
is_end (Waits leader) = false
is_end (Forward line bytes) = false
is_end (Reply r) = false

abbrev pub closes : Outcome → Bool
closes (Reply r) = r.close
closes (Forward line bytes) = false
closes (Waits leader) = false
closes Ended = false
closes WaitsNoMore = false

abbrev tells : (StatusAndReason → Bool) → Outcome → Bool
tells test (Reply r) = test r.about
tells test (Forward line bytes) = false
tells test (Waits leader) = false
tells test Ended = false
tells test WaitsNoMore = false

abbrev pub tells_status : ℕ → Outcome → Bool
tells_status status o = tells (λ (a : StatusAndReason). a.status == status) o

abbrev is_refused : Told → Bool
is_refused (Refused cause) = true
is_refused (Handled status) = false
is_refused (Purged count) = false

abbrev pub tells_refused : Outcome → Bool
tells_refused o = tells (λ (a : StatusAndReason). is_refused a.told) o

abbrev pub tells_no_content : Outcome → Bool
tells_no_content o = tells (λ (a : StatusAndReason). a.content_length == 0) o

abbrev pub tells_an_origin : Outcome → Bool
tells_an_origin o = tells (λ (a : StatusAndReason). is_some a.origin_line) o

abbrev pub tells_no_origin : Outcome → Bool
tells_no_origin o = tells (λ (a : StatusAndReason). is_none a.origin_line) o

-- ---- what goes forward at an arrival

module _ (past : List Item) (now id : ℕ) (line : RouteOverLine) (asked : Asked) (bytes : List ℕ) (rule : ReuseRule) (against : Option ℕ)
    (decided : decision_of (policy_of three_line_table.lines line) (held_entries three_line_table (empty_store 2) past) asked now ≡ decision.Forward rule against) where
  condition_is : (condition : Option Condition) → ConditionIsSentAtEvent (policy_of three_line_table.lines line) (held_entries three_line_table (empty_store 2) past) asked (Arrive now id asked) condition →
      condition ≡ condition_to_revalidate_serial (held_entries three_line_table (empty_store 2) past) against
  condition_is condition (r, named, least, names, is) =
      let known = names_the_least (policy_of three_line_table.lines line) (held_entries three_line_table (empty_store 2) past) asked now rule against decided in
      let same : r ≡ rule = one_rule (policy_of three_line_table.lines line) (held_entries three_line_table (empty_store 2) past) asked now r rule least known.0 in
      is
      ∙ ap (condition_to_revalidate_serial (held_entries three_line_table (empty_store 2) past))
      (one_named (policy_of three_line_table.lines line) (held_entries three_line_table (empty_store 2) past) asked now rule named against (subst (λ q. RuleOnChosenNamesItsSerial (held_entries three_line_table (empty_store 2) past) asked q named) same names) known.1)

  -- a test that these bytes pass, and those that have to go forward don't
  pub refuse_bytes : (test : List ℕ → Bool) → test bytes ≡ true → test (forward_text three_line_table line asked (condition_to_revalidate_serial (held_entries three_line_table (empty_store 2) past) against)) ≡ false → GoingForwardIsWrong past (Arrive now id asked) (Forward line bytes)
  refuse_bytes test passes fails h = by_parts (h line bytes refl)
    where
      by_parts : (q : Asked) × (condition : Option Condition) × (latest_request_of id (item_with_outcome (Arrive now id asked) (Forward line bytes) ∷ past) ≡ Some q) × (verdict_of_asked three_line_table q ≡ Allowed line)
          × ConditionIsSentAtEvent (policy_of three_line_table.lines line) (held_entries three_line_table (empty_store 2) past) q (Arrive now id asked) condition × (bytes ≡ forward_text three_line_table line q condition) → ⊥
      by_parts (q, condition, is, allowed, carries, text) =
          let own : asked ≡ q = same_Some asked q (sym (ap (λ b. cond b (Some asked) (latest_request_of id past)) (eq-eqb id id refl)) ∙ is) in
          let carried = condition_is condition (subst (λ z. ConditionIsSentAtEvent (policy_of three_line_table.lines line) (held_entries three_line_table (empty_store 2) past) z (Arrive now id asked) condition) (sym own) carries) in
          false≢true
          (sym fails ∙ ap (λ c. test (forward_text three_line_table line asked c)) (sym carried) ∙ ap (λ z. test (forward_text three_line_table line z condition)) own ∙ sym (ap test text) ∙ passes)

-- the line isn't the one that allows it
pub refuse_line : (now id : ℕ) (line : RouteOverLine) (asked : Asked) (bytes : List ℕ) → (verdict_of_asked three_line_table asked ≡ Allowed line → ⊥) → GoingForwardIsWrong [] (Arrive now id asked) (Forward line bytes)
refuse_line now id line asked bytes never h =
    let parts = h line bytes refl in
    let own : asked ≡ parts.0 = same_Some asked parts.0 (sym (ap (λ b. cond b (Some asked) None) (eq-eqb id id refl)) ∙ parts.2) in
    never (ap (λ z. verdict_of_asked three_line_table z) own ∙ parts.3)
