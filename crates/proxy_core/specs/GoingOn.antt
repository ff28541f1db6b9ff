-- When an event may come, and what follows it: until a client has its answer, each step of its
-- exchange gives it, sends its request forward once more, or ends it. A trace has its latest item
-- first.
--
-- EventSuitsExchange: the exchange is open, and in the stage of the event
-- NeedsSecondForward, ExchangeContinuesByEvent: what follows an event
-- ConditionIsSentAtEvent: what a request carries to the origin
-- closes_by: whether the client's connection closes
use Rattle.std.specs.Prelude.{◌≡◌, ◌⊎◌, ℕ, ◌<◌, true, List, Option, Some, None}
use Rattle.hx_policy.specs.declared.words.Policy.{Policy}
use Rattle.hx_fields.specs.declared.limits.TheConstants.{START_OF_YEAR_10000}
use Rattle.hx_framing.specs.declared.messages.Response.{Response}
use Rattle.hx_hop.specs.declared.request_view.Asked.{Asked}
use Rattle.hx_allow.specs.TableLines.{Table}
use Rattle.hx_store.specs.Stored.{Stored}
use Rattle.hx_reuse.specs.ChosenAndNamed.{IsLeastReuseRule, RuleOnChosenNamesItsSerial}
use Rattle.hx_reuse.specs.declared.rule.ReuseRule.{ReuseRule}
use Rattle.proxy_core.specs.declared.steps.condition.Condition.{Condition}
use Rattle.proxy_core.specs.declared.open.exchange.Exchange.{Exchange}
use Rattle.proxy_core.specs.declared.outcome.Reply.{Reply}
use Rattle.proxy_core.specs.declared.outcome.Outcome.{Outcome}
use Rattle.proxy_core.specs.declared.outcome.Outcome.TheVariants.{Reply as ReplyData, Forward, Ended, WaitsNoMore}
use Rattle.proxy_core.specs.declared.event.Event.{Event}
use Rattle.proxy_core.specs.declared.event.Event.TheVariants.{Arrive, Answer, Fail, Wake, Abandon, Overdue}
use Rattle.proxy_core.specs.Leading.{is_forwarded, is_waiting, is_released}
use Rattle.proxy_core.specs.Validating.{condition_to_revalidate_serial, is_304_to_own_conditions}
use Rattle.proxy_core.specs.Outcomes.{forward_text}
use Rattle.proxy_core.specs.Sending.{StoredResponseMayBeSentAtEvent, RequestGoesForward}

-- A request arrives under an id that no open exchange has; an answer or a failure is of one that is
-- at the origin; only who waits can be overdue; who waited is woken behind the end of the exchange
-- that it waited for, or behind the end of its time to wait; any open one may be abandoned. Moments
-- lie before the year 10000.
abbrev pub EventSuitsExchange : Option Exchange → Event → Type 0
EventSuitsExchange None (Arrive now id asked) = now < START_OF_YEAR_10000
EventSuitsExchange (Some x) (Answer now id r) = (now < START_OF_YEAR_10000) × (is_forwarded x.stage ≡ true)
EventSuitsExchange (Some x) (Fail now id kind) = (now < START_OF_YEAR_10000) × (is_forwarded x.stage ≡ true)
EventSuitsExchange (Some x) (Wake now id) = (now < START_OF_YEAR_10000) × (is_released x.stage ≡ true)
EventSuitsExchange (Some x) (Abandon id) = Unit {0}
EventSuitsExchange (Some x) (Overdue id) = is_waiting x.stage ≡ true
EventSuitsExchange (Some x) (Arrive now id asked) = ⊥
EventSuitsExchange None (Answer now id r) = ⊥
EventSuitsExchange None (Fail now id kind) = ⊥
EventSuitsExchange None (Wake now id) = ⊥
EventSuitsExchange None (Abandon id) = ⊥
EventSuitsExchange None (Overdue id) = ⊥

-- the answer is a 304 to the proxy's own conditions, and there is no stored response to send for it
abbrev pub NeedsSecondForward : Table → List Stored → Exchange → ℕ → ℕ → Response → Type 0
NeedsSecondForward table held x now id r =
    (is_304_to_own_conditions x r ≡ true)
    × ((s : ℕ) → StoredResponseMayBeSentAtEvent table held (Some x) (Answer now id r) s → ⊥)

abbrev pub IsClientReply : Outcome → Type 0
IsClientReply outcome = (reply : Reply) × (outcome ≡ ReplyData reply)

-- Behind an arrival (`RequestReachesCacheOrOrigin` and `RequestIsRefusedByTheTable` say what that gives) an answer
-- gives the
-- client
-- its reply, unless the client's own request has to go forward without the proxy's conditions; a
-- failure gives it its reply; a wake does, or sends the request forward by the rule that stands
-- now; a client that went away ends its exchange; and who is overdue waits no more, and is given
-- nothing yet.
abbrev pub ExchangeContinuesByEvent : Table → List Stored → Option Exchange → Event → Outcome → Type 0
ExchangeContinuesByEvent table held x (Arrive now id asked) outcome = Unit {0}
ExchangeContinuesByEvent table held (Some x) (Answer now id r) outcome =
    (NeedsSecondForward table held x now id r → outcome ≡ Forward x.line (forward_text table x.line x.asked None))
    × ((NeedsSecondForward table held x now id r → ⊥) → IsClientReply outcome)
ExchangeContinuesByEvent table held (Some x) (Fail now id kind) outcome = IsClientReply outcome
ExchangeContinuesByEvent table held (Some x) (Wake now id) outcome =
    IsClientReply outcome ⊎ ((rule : ReuseRule) × RequestGoesForward table held x.asked now x.line rule outcome)
ExchangeContinuesByEvent table held None (Answer now id r) outcome = ⊥
ExchangeContinuesByEvent table held None (Fail now id kind) outcome = ⊥
ExchangeContinuesByEvent table held None (Wake now id) outcome = ⊥
ExchangeContinuesByEvent table held x (Abandon id) outcome = outcome ≡ Ended
ExchangeContinuesByEvent table held x (Overdue id) outcome = outcome ≡ WaitsNoMore

-- What a request carries beside its client's own fields: where it is judged, which is at its
-- arrival or its wake, the conditions about the response that the least rule is on; behind a 304
-- that answered none, nothing.
abbrev pub ConditionIsSentAtEvent : Policy → List Stored → Asked → Event → Option Condition → Type 0
ConditionIsSentAtEvent policy held asked (Arrive now id other) condition =
    (rule : ReuseRule) × (against : Option ℕ) × IsLeastReuseRule policy held asked now rule
    × RuleOnChosenNamesItsSerial held asked rule against × (condition ≡ condition_to_revalidate_serial held against)
ConditionIsSentAtEvent policy held asked (Wake now id) condition =
    (rule : ReuseRule) × (against : Option ℕ) × IsLeastReuseRule policy held asked now rule
    × RuleOnChosenNamesItsSerial held asked rule against × (condition ≡ condition_to_revalidate_serial held against)
ConditionIsSentAtEvent policy held asked (Answer now id r) condition = condition ≡ None
ConditionIsSentAtEvent policy held asked (Fail now id kind) condition = ⊥
ConditionIsSentAtEvent policy held asked (Abandon id) condition = ⊥
ConditionIsSentAtEvent policy held asked (Overdue id) condition = ⊥
