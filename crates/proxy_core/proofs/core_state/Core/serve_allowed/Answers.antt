use Rattle.std.proofs.Common.{rules, false, ◌≡◌, ◌∙◌, ◌∷◌, [], ◌++◌, ℕ, None, Option, List, Result, IfOk, OnOk, ap, sym, subst}
use Rattle.hx_allow.specs.Matching.{policy_of, vary_names_of_line}
use Rattle.hx_reuse.specs.Rules.{decision_of}
use Rattle.hx_reuse.specs.declared.decision.Decision.TheVariants as decision
use Rattle.proxy_core.specs.Allowing.{exchanges_to_wait_for}
use Rattle.proxy_core.specs.declared.event.Event.TheVariants.{Arrive}
use Rattle.proxy_core.specs.declared.open.stage.Stage.TheVariants.{Forwarded}
use Rattle.proxy_core.specs.declared.open.exchange.Exchange.{Exchange}
use Rattle.proxy_core.specs.declared.outcome.Outcome.{Outcome}
use Rattle.proxy_core.specs.Leading.{leader_id_if_awaited}
use Rattle.proxy_core.specs.Validating.{condition_to_revalidate_serial}
use Rattle.proxy_core.specs.Outcomes.{outcome_of_waiting_or_forwarding}
use Rattle.proxy_core.specs.State.{State, exchange_waiting_if_leader}
use Rattle.proxy_core.proofs.Openings.{both, opens_by}
use Rattle.hx_allow.specs.TableLines.{Table}
use Rattle.hx_hop.specs.declared.request_view.Asked.{Asked}
use Rattle.hx_policy.specs.declared.words.Policy.{Policy}
use Rattle.hx_allow.specs.declared.verdicts.RouteOverLine.{RouteOverLine}
use Rattle.hx_store.specs.Stored.{Stored}
use Rattle.hx_reuse.specs.declared.rule.ReuseRule.{ReuseRule}
use Rattle.proxy_core.specs.declared.steps.condition.Condition.{Condition}
use Rattle.proxy_core.specs.declared.open.awaited.Awaited.{Awaited}
use Rattle.proxy_core.specs.Awaiting.{response_awaited_by_request}
use Rattle.proxy_core.specs.Revalidating.{serial_sent_while_revalidating}
use Rattle.proxy_core.specs.Outcomes.{is_only_if_cached, outcome_of_allowed_request, outcome_where_reuse_rule_applies, outcome_unless_stale_is_sent}
use Rattle.proxy_core.proofs.core_state.Core.serve_allowed.Goals as goal

-- a request that no stored response answers waits or goes forward
goes : (table : Table) (es : List Stored) (xs : List Exchange) (line : RouteOverLine) (now : ℕ) (asked : Asked) (rule : ReuseRule) (against : Option ℕ) (awaited : Option Awaited) →
    decision_of (policy_of table.lines line) es asked now ≡ decision.Forward rule against → is_only_if_cached asked ≡ false → awaited ≡ response_awaited_by_request (policy_of table.lines line) es asked rule →
    serial_sent_while_revalidating (policy_of table.lines line) es asked now awaited (leader_id_if_awaited (policy_of table.lines line) asked (exchanges_to_wait_for table line asked xs) awaited) ≡ None →
    outcome_of_allowed_request table es xs line now asked (decision_of (policy_of table.lines line) es asked now)
    ≡ outcome_of_waiting_or_forwarding table line asked (condition_to_revalidate_serial es against) (leader_id_if_awaited (policy_of table.lines line) asked (exchanges_to_wait_for table line asked xs) awaited)
goes table es xs line now asked rule against awaited decided held_or_not is none =
    let p = policy_of table.lines line in
    let ws = exchanges_to_wait_for table line asked xs in
    let condition = condition_to_revalidate_serial es against in
    ap (outcome_of_allowed_request table es xs line now asked) decided
    ∙ (ap (outcome_where_reuse_rule_applies table es xs line now asked rule condition) held_or_not
    ∙ (ap (λ (w : Option Awaited). outcome_unless_stale_is_sent table es line now asked (serial_sent_while_revalidating p es asked now w (leader_id_if_awaited p asked ws w)) (outcome_of_waiting_or_forwarding table line asked condition (leader_id_if_awaited p asked ws w))) (sym is)
    ∙ ap (λ (o : Option ℕ). outcome_unless_stale_is_sent table es line now asked o (outcome_of_waiting_or_forwarding table line asked condition (leader_id_if_awaited p asked ws awaited))) none))

pub returns-clause-outcome : goal.returns-clause-outcome
returns-clause-outcome g c =
    let s : State = c.args.self.now in
    let asked : Asked = c.args.asked.now in
    let line = c.args.line in
    let rule = c.in-Forward.rule in
    let named = c.in-Forward.named in
    let awaited = c.in_ok-awaited-in-Forward.awaited in
    let decided : decision_of (policy_of s.table.lines line) s.entries asked c.args.now ≡ decision.Forward rule named = search rules in
    let none_only : is_only_if_cached asked ≡ false = search rules in
    let asks : c.in_ok-condition_to_revalidate_serial-in-Forward.field-0 ≡ condition_to_revalidate_serial s.entries named = search rules in
    let same : c.in_ok-copy-in-Forward.field-0 ≡ asked = c.in_ok-copy-in-Forward.ensures in
    let policy : c.policy-policy.result ≡ policy_of s.table.lines line = search rules in
    let is : awaited ≡ response_awaited_by_request (policy_of s.table.lines line) s.entries asked rule =
    subst (λ (p : Policy). awaited ≡ response_awaited_by_request p s.entries asked rule) policy c.in_ok-awaited-in-Forward.ensures in
    let left : c.serial_sent_while_revalidating-beside.result ≡ None = search rules in
    let none : serial_sent_while_revalidating (policy_of s.table.lines line) s.entries asked c.args.now awaited (leader_id_if_awaited (policy_of s.table.lines line) asked (exchanges_to_wait_for s.table line asked s.exchanges) awaited) ≡ None =
    subst (λ (p : Policy). serial_sent_while_revalidating p s.entries asked c.args.now awaited (leader_id_if_awaited p asked (exchanges_to_wait_for s.table line asked s.exchanges) awaited) ≡ None) policy (sym c.serial_sent_while_revalidating-beside.ensures ∙ left) in
    let given : IfOk c.wait_or_forward.result (λ (o : Outcome). o ≡ outcome_of_waiting_or_forwarding s.table line c.in_ok-copy-in-Forward.field-0 c.in_ok-condition_to_revalidate_serial-in-Forward.field-0 (leader_id_if_awaited c.policy-policy.result c.in_ok-copy-in-Forward.field-0 (exchanges_to_wait_for s.table line c.in_ok-copy-in-Forward.field-0 s.exchanges) awaited)) = c.wait_or_forward.ensures.outcome in
    let of_policy = subst (λ (p : Policy). IfOk c.wait_or_forward.result (λ (o : Outcome). o ≡ outcome_of_waiting_or_forwarding s.table line c.in_ok-copy-in-Forward.field-0 c.in_ok-condition_to_revalidate_serial-in-Forward.field-0 (leader_id_if_awaited p c.in_ok-copy-in-Forward.field-0 (exchanges_to_wait_for s.table line c.in_ok-copy-in-Forward.field-0 s.exchanges) awaited))) policy given in
    let of_asked = subst (λ (a : Asked). IfOk c.wait_or_forward.result (λ (o : Outcome). o ≡ outcome_of_waiting_or_forwarding s.table line a c.in_ok-condition_to_revalidate_serial-in-Forward.field-0 (leader_id_if_awaited (policy_of s.table.lines line) a (exchanges_to_wait_for s.table line a s.exchanges) awaited))) same of_policy in
    let of_condition = subst (λ (d : Option Condition). IfOk c.wait_or_forward.result (λ (o : Outcome). o ≡ outcome_of_waiting_or_forwarding s.table line asked d (leader_id_if_awaited (policy_of s.table.lines line) asked (exchanges_to_wait_for s.table line asked s.exchanges) awaited))) asks of_asked in
    subst (λ (v : Outcome). IfOk c.wait_or_forward.result (λ (o : Outcome). o ≡ v)) (sym (goes s.table s.entries s.exchanges line c.args.now asked rule named awaited decided none_only is none)) of_condition

pub returns-clause-after : goal.returns-clause-after
returns-clause-after g c =
    let s : State = c.args.self.now in
    let rule = c.in-Forward.rule in
    let named = c.in-Forward.named in
    let x : Exchange = record { id = c.args.id; asked = c.in_ok-copy-in-Forward.field-0; line = c.args.line; vary = c.in_ok-copy_of-in-Forward.field-0; removes_set_cookie = c.policy-policy.result.removes_set_cookie; rule = rule; named = named; request_time = c.args.now; condition = c.in_ok-condition_to_revalidate_serial-in-Forward.field-0; overtaken = false; no_store = c.request_has_no_store.result; stage = Forwarded } in
    let outcome : IfOk c.wait_or_forward.result (λ (o : Outcome). o ≡ outcome_of_waiting_or_forwarding s.table x.line x.asked x.condition (leader_id_if_awaited c.policy-policy.result x.asked (exchanges_to_wait_for s.table x.line x.asked s.exchanges) c.in_ok-awaited-in-Forward.awaited)) = c.wait_or_forward.ensures.outcome in
    let leaves : OnOk c.wait_or_forward.result (c.wait_or_forward.new.self ≡ record s { exchanges = s.exchanges ++ exchange_waiting_if_leader (leader_id_if_awaited c.policy-policy.result x.asked (exchanges_to_wait_for s.table x.line x.asked s.exchanges) c.in_ok-awaited-in-Forward.awaited) x ∷ [] }) = c.wait_or_forward.ensures.after in
    let decided : decision_of (policy_of s.table.lines c.args.line) s.entries c.args.asked.now c.args.now ≡ decision.Forward rule named = search rules in
    let told : c.vary.result.now ≡ vary_names_of_line s.table.lines c.args.line.number =
    c.vary.ensures ∙ ap (λ (st : State). vary_names_of_line st.table.lines c.args.line.number) c.self.view_is in
    let names : x.vary ≡ vary_names_of_line s.table.lines c.args.line.number = c.in_ok-copy_of-in-Forward.ensures ∙ told in
    let drops : x.removes_set_cookie ≡ (policy_of s.table.lines c.args.line).removes_set_cookie = search rules in
    let asks : x.condition ≡ condition_to_revalidate_serial s.entries named = search rules in
    both s (Arrive c.args.now c.args.id c.args.asked.now) c.wait_or_forward.new.self _ _ c.wait_or_forward.result outcome leaves
    (opens_by s c.args.now c.args.id c.args.line c.args.asked.now x.asked rule named (leader_id_if_awaited c.policy-policy.result x.asked (exchanges_to_wait_for s.table x.line x.asked s.exchanges) c.in_ok-awaited-in-Forward.awaited) x.condition x.no_store x.vary x.removes_set_cookie c.requires.line decided
    c.in_ok-copy-in-Forward.ensures asks c.request_has_no_store.ensures names drops)
