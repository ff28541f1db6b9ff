-- What the core's step gives for what stands on a link, and which exchanges it leaves open.
use Rattle.std.proofs.Common.{◌≡◌, ◌∙◌, ℕ, ◌≤◌, ◌==◌, Bool, true, false, cond, List, map, refl, ap, sym, subst, arith, Option, Some, None, is_some}
use Rattle.hx_framing.specs.declared.messages.Response.{Response}
use Rattle.hx_framing.specs.declared.messages.Next.TheVariants as next
use Rattle.hx_allow.specs.TableLines.{Table}
use Rattle.hx_allow.specs.Matching.{policy_of}
use Rattle.hx_reuse.specs.Rules.{decision_of}
use Rattle.hx_status.specs.declared.cause.FailKind.{FailKind}
use Rattle.hx_store.specs.Stored.{Stored}
use Rattle.proxy_core.specs.declared.open.exchange.Exchange.{Exchange}
use Rattle.proxy_core.specs.declared.event.Event.TheVariants as events
use Rattle.proxy_core.specs.declared.outcome.Outcome.{Outcome}
use Rattle.proxy_core.specs.declared.outcome.Outcome.TheVariants as outcomes
use Rattle.proxy_core.specs.declared.steps.fallback.FallbackDecision.{FallbackDecision}
use Rattle.proxy_core.specs.declared.steps.fallback.FallbackDecision.TheVariants.{Sends, Refuses}
use Rattle.proxy_core.specs.Outcomes.{find_exchange, outcome_of_event_at_exchange, outcome_of_failure, fallback_for_failed_answer}
use Rattle.proxy_core.specs.Leading.{is_forwarded}
use Rattle.proxy_core.specs.Validating.{condition_to_revalidate_serial}
use Rattle.proxy_core.specs.Scopes.{Scope}
use Rattle.proxy_core.specs.State.{State as CoreState, StepIsAccepted, open_exchanges_after_event, exchanges_after_end_and_release, exchanges_after_exchange_end, exchange_gone_forward, exchanges_after_wake, rule_of_decision, serial_named_by_rule_of_decision, target_invalidated_by_response}
use Rattle.proxy_core.proofs.Waits.{is_wait, late_no_wait}
use Rattle.proxy_engine.specs.declared.endpoints.lookahead.Lookahead.TheVariants.{Due}
use Rattle.proxy_engine.specs.Due.{LinkResult, Gives, Breaks}
use Rattle.proxy_engine.specs.State.{link_result_of_lookahead, link_result_at}
use Rattle.proxy_engine.specs.Actions.{ExchangeIsFinishedBy, link_result_is_answer, outcome_needs_link, due_act_count_after_outcome}
use Rattle.proxy_engine.specs.declared.endpoints.ends.Link.{Link}

-- a link that shows a response
pub given_seen : (k : Link) (m : Response) → k.reader.ahead ≡ Due (next.Message m) → link_result_at (Some k) ≡ Some (Gives m)
given_seen k m shown = ap (λ l. link_result_of_lookahead l k.failed) shown

abbrev pub is_reply : Outcome → Bool
is_reply (outcomes.Reply r) = true
is_reply (outcomes.Forward line bytes) = false
is_reply (outcomes.Waits leader) = false
is_reply outcomes.Ended = false
is_reply outcomes.WaitsNoMore = false

failed_replies : (table : Table) (es : List Stored) (now : ℕ) (x : Exchange) (kind : FailKind) (came : Option ℕ) (fallback : FallbackDecision) → is_reply (outcome_of_failure table es now x kind came fallback) ≡ true
failed_replies table es now x kind came (Sends serial detail) = refl
failed_replies table es now x kind came (Refuses rule error) = refl

-- a failure ends its exchange by a reply
pub failure_replies : (table : Table) (es : List Stored) (xs : List Exchange) (x : Option Exchange) (o : Option ℕ) (now id : ℕ) (kind : FailKind) → is_some x ≡ true → is_reply (outcome_of_event_at_exchange table es xs x o (events.Fail now id kind)) ≡ true
failure_replies table es xs (Some x) o now id kind e = failed_replies table es now x kind None (fallback_for_failed_answer (policy_of table.lines x.line) es x.asked now (decision_of (policy_of table.lines x.line) es x.asked now))
failure_replies table es xs None o now id kind e = absurd (cc)

goes_by : (o : Outcome) → is_reply o ≡ true → outcome_needs_link o ≡ false
goes_by (outcomes.Reply r) e = refl
goes_by (outcomes.Forward line bytes) e = absurd (cc)
goes_by (outcomes.Waits leader) e = absurd (cc)
goes_by outcomes.Ended e = refl
goes_by outcomes.WaitsNoMore e = refl

-- what goes forward once more was answered
pub goes_given : (core core1 : CoreState) (now id : ℕ) (f : LinkResult) (o : Outcome) → is_some (find_exchange id core.exchanges) ≡ true → ExchangeIsFinishedBy core now id f o core1 → outcome_needs_link o ≡ true → link_result_is_answer f ≡ true
goes_given core core1 now id (Gives r) o there h goes = refl
goes_given core core1 now id (Breaks kind) o there h goes =
    let stays = goes_by o (ap is_reply h.outcome_is ∙ failure_replies core.table core.entries core.exchanges (find_exchange id core.exchanges) core.next now id kind there) in
    let both : true ≡ false = sym goes ∙ stays in absurd (cc)

-- ---- the exchanges that are left open

-- the exchange of an id goes forward, as it is changed by that
abbrev pub renewed : ℕ → (Exchange → Exchange) → Exchange → Exchange
renewed id g x = cond (x.id == id) (g x) x

-- it keeps its id, and its request is at the origin
pub record Renews (g : Exchange → Exchange) : Type 0 where
  pub id : (x : Exchange) → (g x).id ≡ x.id
  pub stage : (x : Exchange) → is_forwarded (g x).stage ≡ true

-- a reply closes the exchange of an id and may overtake others; one that goes forward stays open; none waits
abbrev pub Remains : Outcome → ℕ → List Exchange → List Exchange → Type 0
Remains (outcomes.Reply r) id xs ys = (key : Option Scope) × (ys ≡ exchanges_after_exchange_end key id xs)
Remains (outcomes.Forward line bytes) id xs ys = (g : Exchange → Exchange) × Renews g × (ys ≡ map (renewed id g) xs)
Remains (outcomes.Waits leader) id xs ys = ⊥
Remains outcomes.Ended id xs ys = (key : Option Scope) × (ys ≡ exchanges_after_exchange_end key id xs)
Remains outcomes.WaitsNoMore id xs ys = (key : Option Scope) × (ys ≡ exchanges_after_exchange_end key id xs)

answer_remains : (table : Table) (es : List Stored) (xs : List Exchange) (now id : ℕ) (r : Response) (o : Outcome) → is_wait o ≡ false → Remains o id xs (open_exchanges_after_event table es xs (events.Answer now id r) o)
answer_remains table es xs now id r (outcomes.Reply reply) n = (target_invalidated_by_response (find_exchange id xs) r, refl)
answer_remains table es xs now id r (outcomes.Forward line bytes) n = ((λ (x : Exchange). exchange_gone_forward now x.rule x.named None x), record { id = λ x. refl; stage = λ x. refl }, refl)
answer_remains table es xs now id r (outcomes.Waits leader) n = absurd (cc)
answer_remains table es xs now id r outcomes.Ended n = (target_invalidated_by_response (find_exchange id xs) r, refl)
answer_remains table es xs now id r outcomes.WaitsNoMore n = (target_invalidated_by_response (find_exchange id xs) r, refl)

wake_remains : (table : Table) (es : List Stored) (xs : List Exchange) (now id : ℕ) (o : Outcome) (w : Option Exchange) → is_some w ≡ true → is_wait o ≡ false → find_exchange id xs ≡ w → Remains o id xs (open_exchanges_after_event table es xs (events.Wake now id) o)
wake_remains table es xs now id (outcomes.Reply reply) w there n f = (None, refl)
wake_remains table es xs now id (outcomes.Forward line bytes) None there n f = absurd (cc)
wake_remains table es xs now id (outcomes.Forward line bytes) (Some x) there n f =
    let d = decision_of (policy_of table.lines x.line) es x.asked now in
    ((λ (y : Exchange). exchange_gone_forward now (rule_of_decision d) (serial_named_by_rule_of_decision d) (condition_to_revalidate_serial es (serial_named_by_rule_of_decision d)) y), record { id = λ y. refl; stage = λ y. refl }, ap (λ (w : Option Exchange). exchanges_after_wake table es id now w xs) f)
wake_remains table es xs now id (outcomes.Waits leader) w there n f = absurd (cc)
wake_remains table es xs now id outcomes.Ended w there n f = (None, refl)
wake_remains table es xs now id outcomes.WaitsNoMore w there n f = (None, refl)

reply_remains : (o : Outcome) (id : ℕ) (xs : List Exchange) → is_reply o ≡ true → Remains o id xs (exchanges_after_end_and_release id xs)
reply_remains (outcomes.Reply r) id xs e = (None, refl)
reply_remains (outcomes.Forward line bytes) id xs e = absurd (cc)
reply_remains (outcomes.Waits leader) id xs e = absurd (cc)
reply_remains outcomes.Ended id xs e = absurd (cc)
reply_remains outcomes.WaitsNoMore id xs e = absurd (cc)

pub failure_remains : (table : Table) (es : List Stored) (xs : List Exchange) (next : Option ℕ) (now id : ℕ) (kind : FailKind) (o : Outcome) → is_some (find_exchange id xs) ≡ true → o ≡ outcome_of_event_at_exchange table es xs (find_exchange id xs) next (events.Fail now id kind)
    → Remains o id xs (exchanges_after_end_and_release id xs)
failure_remains table es xs next now id kind o there e = reply_remains o id xs (ap is_reply e ∙ failure_replies table es xs (find_exchange id xs) next now id kind there)

pub remains : (core core1 : CoreState) (now id : ℕ) (f : LinkResult) (o : Outcome) → is_some (find_exchange id core.exchanges) ≡ true → ExchangeIsFinishedBy core now id f o core1 → Remains o id core.exchanges core1.exchanges
remains core core1 now id (Gives r) o there h =
    let none : is_wait o ≡ false = ap is_wait h.outcome_is ∙ late_no_wait core.table core.entries core.exchanges (find_exchange id core.exchanges) core.next (events.Answer now id r) refl in
    subst (λ (ys : List Exchange). Remains o id core.exchanges ys) (sym (ap (λ (k : CoreState). k.exchanges) h.leaves)) (answer_remains core.table core.entries core.exchanges now id r o none)
remains core core1 now id (Breaks kind) o there h =
    subst (λ (ys : List Exchange). Remains o id core.exchanges ys) (sym (ap (λ (k : CoreState). k.exchanges) h.leaves))
    (failure_remains core.table core.entries core.exchanges core.next now id kind o there h.outcome_is)

-- what a wake leaves
pub woken_remains : (core core1 : CoreState) (now id : ℕ) (o : Outcome) → is_some (find_exchange id core.exchanges) ≡ true → StepIsAccepted core (events.Wake now id) o core1 → Remains o id core.exchanges core1.exchanges
woken_remains core core1 now id o there h =
    let none : is_wait o ≡ false = ap is_wait h.outcome_is ∙ late_no_wait core.table core.entries core.exchanges (find_exchange id core.exchanges) core.next (events.Wake now id) refl in
    subst (λ (ys : List Exchange). Remains o id core.exchanges ys) (sym (ap (λ (k : CoreState). k.exchanges) h.leaves))
    (wake_remains core.table core.entries core.exchanges now id o (find_exchange id core.exchanges) there none refl)

-- what isn't a wait leaves one thing to do at most
pub one_more : (o : Outcome) (id : ℕ) (xs ys : List Exchange) → Remains o id xs ys → due_act_count_after_outcome o ≤ 1
one_more (outcomes.Reply r) id xs ys h = omega arith
one_more (outcomes.Forward line bytes) id xs ys h = omega arith
one_more (outcomes.Waits leader) id xs ys h = absurd h
one_more outcomes.Ended id xs ys h = omega arith
one_more outcomes.WaitsNoMore id xs ys h = omega arith

-- and whatever comes two
pub two_more : (o : Outcome) → due_act_count_after_outcome o ≤ 2
two_more (outcomes.Reply r) = omega arith
two_more (outcomes.Forward line bytes) = omega arith
two_more (outcomes.Waits leader) = omega arith
two_more outcomes.Ended = omega arith
two_more outcomes.WaitsNoMore = omega arith
