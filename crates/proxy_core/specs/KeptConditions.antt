-- What becomes of a client's own condition that stays with the proxy (RFC 9110, sections 13.1 and 15.4.5; RFC 9111,
-- section 4.3.2): none goes forward, and who set it is sent a 304 exactly where it is false of the answer.
--
-- AnswerWhereConditionsWereWithheld: an answer of the origin is passed on to such a request
-- Below it are the statements that the law `a_kept_condition_is_judged_on_the_answer` proves.
use Rattle.std.specs.Prelude.{◌≡◌, ℕ, true, false, List, ◌∷◌, codes, Some, None, is_some}
use Rattle.hx_fields.specs.FieldLines.{has_field}
use Rattle.hx_framing.specs.Text.{request_text}
use Rattle.hx_framing.specs.declared.messages.Request.{Request}
use Rattle.hx_framing.specs.declared.messages.Response.{Response}
use Rattle.hx_hop.specs.Answering.{answered_of}
use Rattle.hx_hop.specs.declared.request_view.Asked.{Asked}
use Rattle.hx_policy.specs.declared.words.Policy.{Policy}
use Rattle.hx_allow.specs.Matching.{policy_of}
use Rattle.hx_allow.specs.TableLines.{Table}
use Rattle.hx_allow.specs.declared.verdicts.RouteOverLine.{RouteOverLine}
use Rattle.hx_reuse.specs.Conditions.{withholds_conditions}
use Rattle.hx_validate.specs.ClientConditions.{ConditionIsFalse}
use Rattle.proxy_core.specs.declared.open.exchange.Exchange.{Exchange}
use Rattle.proxy_core.specs.declared.outcome.Outcome.TheVariants.{Reply as ReplyData}
use Rattle.proxy_core.specs.declared.outcome.Reply.{Reply}
use Rattle.proxy_core.specs.declared.event.Event.TheVariants.{Answer}
use Rattle.proxy_core.specs.Histories.{IsGoodHistory, next_serial, open_exchanges}
use Rattle.proxy_core.specs.Leading.{sends_clients_condition}
use Rattle.proxy_core.specs.Outcomes.{find_exchange, forward_text}
use Rattle.proxy_core.specs.Replies.{text_of_answer_or_its_range, not_modified_answer_text, part_of_answer_to_send}
use Rattle.proxy_core.specs.Starts.{StoreAtStart}
use Rattle.proxy_core.specs.Storing.{is_304_without_condition, storing_rule_to_explain}
use Rattle.proxy_core.specs.Traces.{Item}

-- In a good history the origin answers an open exchange whose request has its conditions kept, and the client is sent
-- no stored response in place of the answer, nor told that it is a 304 that nobody asked for.
pub record AnswerWhereConditionsWereWithheld (table : Table) (start : StoreAtStart) (first : ℕ) (item : Item)
    (past : List Item)
    (now : ℕ) (x : Exchange) (r : Response) (reply : Reply) : Type 0 where
  pub id : ℕ
  pub good : IsGoodHistory table start first (item ∷ past)
  pub answers : item.event ≡ Answer now id r
  pub is_open : find_exchange id (open_exchanges table start past) ≡ Some x
  pub keeps : withholds_conditions (policy_of table.lines x.line) x.asked ≡ true
  pub asked_for : is_304_without_condition (policy_of table.lines x.line) x.asked r ≡ false
  pub is_reply : item.outcome ≡ ReplyData reply
  pub uses_no_stored_response : reply.used ≡ None

-- ---- the statements

-- the client's own condition is false of the answer, which it would have been sent: it is sent a 304 in its place
abbrev pub FalseConditionGetsA304 : Type 0
FalseConditionGetsA304 = (table : Table) (start : StoreAtStart) (first now : ℕ) (item : Item) (past : List Item)
    (x : Exchange) (r : Response) (reply : Reply)
    → AnswerWhereConditionsWereWithheld table start first item past now x r reply
    → ConditionIsFalse x.asked r.status (answered_of r now).fields
    → reply.bytes ≡ not_modified_answer_text (policy_of table.lines x.line) table.name x r now (is_some reply.stored)
    (storing_rule_to_explain table x r now (next_serial first past))

-- it isn't, or the request has none: the client is sent the answer, or what it asked for of it where its range stayed
-- with the proxy, too
abbrev pub TrueOrNoConditionGetsTheAnswer : Type 0
TrueOrNoConditionGetsTheAnswer = (table : Table) (start : StoreAtStart) (first now : ℕ) (item : Item) (past : List Item)
    (x : Exchange) (r : Response) (reply : Reply)
    → AnswerWhereConditionsWereWithheld table start first item past now x r reply
    → (ConditionIsFalse x.asked r.status (answered_of r now).fields → ⊥)
    → reply.bytes ≡ text_of_answer_or_its_range (policy_of table.lines x.line) table.name x r now (is_some reply.stored)
    (storing_rule_to_explain table x r now (next_serial first past))
    (part_of_answer_to_send (policy_of table.lines x.line) x r now)

-- what goes forward has none of the two conditions, where the proxy has none of its own to send
abbrev pub NoClientsConditionGoesForward : Type 0
NoClientsConditionGoesForward = (table : Table) (line : RouteOverLine) (asked : Asked) →
    withholds_conditions (policy_of table.lines line) asked ≡ true →
    (request : Request) × (forward_text table line asked None ≡ request_text request)
    × (has_field request.fields (codes "If-None-Match") ≡ false)
    × (has_field request.fields (codes "If-Modified-Since") ≡ false)

-- so its answer may serve others as that of a request without conditions
abbrev pub WithheldConditionLeadsLikeNone : Type 0
WithheldConditionLeadsLikeNone = (policy : Policy) (x : Exchange) → withholds_conditions policy x.asked ≡ true
    → sends_clients_condition policy x ≡ false

-- and a 304 to it, where the proxy sent no condition, is a failure of its origin
abbrev pub Unrequested304IsAnOriginFailure : Type 0
Unrequested304IsAnOriginFailure = (policy : Policy) (asked : Asked) (r : Response) → withholds_conditions policy asked
    ≡ true
    → r.status ≡ 304 → is_304_without_condition policy asked r ≡ true
