-- A request that is allowed and that no stored response answers opens an exchange, which waits or goes forward.
use Rattle.std.proofs.Common.{◌≡◌, ℕ, Bool, false, Option, None, Some, [], ◌∷◌, ◌++◌, refl, sym, ◌∙◌, ap, Result, Ok, Err, IfOk, OnOk, List}
use Rattle.hx_hop.specs.declared.request_view.Asked.{Asked}
use Rattle.hx_allow.specs.Matching.{policy_of, vary_names_of_line}
use Rattle.proxy_core.specs.Allowing.{verdict_of_asked}
use Rattle.hx_allow.specs.declared.verdicts.Verdict.{Verdict}
use Rattle.hx_allow.specs.declared.verdicts.Verdict.TheVariants as verdict
use Rattle.std.specs.Prelude.{option_map}
use Rattle.hx_store.specs.Stored.{Stored}
use Rattle.hx_store.specs.Shelf.{find_entry_of_serial, without_serials, entries_with_first_if_any, entries_with_promoted}
use Rattle.hx_store.specs.Weights.{cut_to_bounds}
use Rattle.hx_allow.specs.declared.verdicts.RouteOverLine.{RouteOverLine}
use Rattle.hx_reuse.specs.Rules.{decision_of}
use Rattle.hx_reuse.specs.declared.rule.ReuseRule.{ReuseRule}
use Rattle.hx_reuse.specs.declared.decision.Decision.{Decision}
use Rattle.hx_reuse.specs.declared.decision.Decision.TheVariants as decision
use Rattle.proxy_core.specs.declared.steps.condition.Condition.{Condition}
use Rattle.proxy_core.specs.declared.open.stage.Stage.{Stage}
use Rattle.proxy_core.specs.declared.open.stage.Stage.TheVariants.{Forwarded, Waiting}
use Rattle.proxy_core.specs.declared.open.exchange.Exchange.{Exchange}
use Rattle.proxy_core.specs.declared.outcome.Outcome.{Outcome}
use Rattle.proxy_core.specs.declared.event.Event.{Event}
use Rattle.proxy_core.specs.declared.event.Event.TheVariants.{Arrive}
use Rattle.proxy_core.specs.Leading.{request_has_no_store}
use Rattle.proxy_core.specs.Validating.{condition_to_revalidate_serial}
use Rattle.proxy_core.specs.declared.replies.stored_reply.StoredCacheStatusInfo.{StoredCacheStatusInfo}
use Rattle.proxy_core.specs.Outcomes.{find_exchange, outcome_of_waiting_or_forwarding, outcome_of_sending_stored}
use Rattle.proxy_core.specs.State.{State, rule_of_decision, serial_named_by_rule_of_decision, line_of_verdict, exchange_waiting_if_leader, stored_response_freshened_by_event, bounds_of, state_after_event}

abbrev form : State → ℕ → ℕ → Asked → RouteOverLine → Stage → Decision → Exchange
form s now id asked line stage d = record {
  id = id;
  asked = asked;
  line = line;
  vary = vary_names_of_line s.table.lines line.number;
  removes_set_cookie = (policy_of s.table.lines line).removes_set_cookie;
  rule = rule_of_decision d;
  named = serial_named_by_rule_of_decision d;
  request_time = now;
  condition = condition_to_revalidate_serial s.entries (serial_named_by_rule_of_decision d);
  overtaken = false;
  no_store = request_has_no_store asked;
  stage = stage;
}

abbrev with_one_more : State → Exchange → State
with_one_more s x = record s { exchanges = s.exchanges ++ x ∷ [] }

pub opens_of : (s : State) (now id : ℕ) (line : RouteOverLine) (asked : Asked) (rule : ReuseRule) (against o : Option ℕ) → verdict_of_asked s.table asked ≡ verdict.Allowed line →
    decision_of (policy_of s.table.lines line) s.entries asked now ≡ decision.Forward rule against →
    record s { exchanges = s.exchanges ++ exchange_waiting_if_leader o (form s now id asked line Forwarded (decision.Forward rule against)) ∷ [] }
    ≡ state_after_event s (Arrive now id asked) (outcome_of_waiting_or_forwarding s.table line asked (condition_to_revalidate_serial s.entries against) o)
opens_of s now id line asked rule against None v d = ap (λ (k : Decision). with_one_more s (form s now id asked line Forwarded k)) (sym d)
opens_of s now id line asked rule against (Some leader) v d =
    ap (λ (k : Decision). with_one_more s (form s now id asked line (Waiting leader) k)) (sym d)
    ∙ ap (λ (w : Verdict). with_one_more s (form s now id asked (line_of_verdict w) (Waiting leader) (decision_of (policy_of s.table.lines (line_of_verdict w)) s.entries asked now))) (sym v)

-- what a call gives, and leaves where it gives that
pub both : {E : Type 0} (s : State) (event : Event) (t u : State) (a : Outcome) (r : Result Outcome E) → IfOk r (λ o. o ≡ a) → OnOk r (t ≡ u) → u ≡ state_after_event s event a → IfOk r (λ o. t ≡ state_after_event s event o)
both s event t u a (Ok o) is leaves m = leaves ∙ (m ∙ ap (state_after_event s event) (sym is))
both s event t u a (Err e) is leaves m = tt

-- the same of what the parts of the exchange are known to be
pub opens_by : (s : State) (now id : ℕ) (line : RouteOverLine) (asked other : Asked) (rule : ReuseRule) (against o : Option ℕ) (condition : Option Condition) (no_store : Bool) (vary : List (List ℕ)) (removes : Bool) →
    verdict_of_asked s.table asked ≡ verdict.Allowed line → decision_of (policy_of s.table.lines line) s.entries asked now ≡ decision.Forward rule against →
    other ≡ asked → condition ≡ condition_to_revalidate_serial s.entries against → no_store ≡ request_has_no_store asked → vary ≡ vary_names_of_line s.table.lines line.number → removes ≡ (policy_of s.table.lines line).removes_set_cookie →
    record s {
      exchanges = s.exchanges ++ exchange_waiting_if_leader o (record { id = id; asked = other; line = line; vary = vary; removes_set_cookie = removes; rule = rule; named = against; request_time = now; condition = condition; overtaken = false; no_store = no_store; stage = Forwarded }) ∷ [];
    } ≡ state_after_event s (Arrive now id asked) (outcome_of_waiting_or_forwarding s.table line other condition o)
opens_by s now id line asked other rule against o condition no_store vary removes v d same asks is names drops = rw same (rw asks (rw is (rw names (rw drops (opens_of s now id line asked rule against o v d)))))

-- ---- a request that is sent a stored response

as_it_is : (event : Event) (o : Option Stored) → o ≡ option_map (stored_response_freshened_by_event None event) o
as_it_is event None = refl
as_it_is event (Some e) = refl

pub sends_of : (s : State) (now id serial : ℕ) (asked : Asked) (info : StoredCacheStatusInfo) → find_exchange id s.exchanges ≡ None →
    record s { entries = cut_to_bounds (bounds_of s.table s.limit) (entries_with_promoted serial s.entries) } ≡ state_after_event s (Arrive now id asked) (outcome_of_sending_stored s.table s.entries serial now info asked)
sends_of s now id serial asked info free =
    ap (λ (o : Option Stored). record s { entries = cut_to_bounds (bounds_of s.table s.limit) (entries_with_first_if_any o (without_serials (serial ∷ []) s.entries)) }) (as_it_is (Arrive now id asked) (find_entry_of_serial serial s.entries))
    ∙ ap (λ (x : Option Exchange). record s { entries = cut_to_bounds (bounds_of s.table s.limit) (entries_with_first_if_any (option_map (stored_response_freshened_by_event x (Arrive now id asked)) (find_entry_of_serial serial s.entries)) (without_serials (serial ∷ []) s.entries)) }) (sym free)

-- what such a call gives, and leaves where it gives that
pub sends_by : {E : Type 0} (s t : State) (now id serial : ℕ) (asked : Asked) (info : StoredCacheStatusInfo) (r : Result Outcome E) → find_exchange id s.exchanges ≡ None →
    IfOk r (λ o. o ≡ outcome_of_sending_stored s.table s.entries serial now info asked) → OnOk r (t ≡ record s { entries = cut_to_bounds (bounds_of s.table s.limit) (entries_with_promoted serial s.entries) }) →
    IfOk r (λ o. t ≡ state_after_event s (Arrive now id asked) o)
sends_by s t now id serial asked info r free is leaves = both s (Arrive now id asked) t _ _ r is leaves (sends_of s now id serial asked info free)
