-- What becomes of a client's own condition that stays with the proxy.
use Rattle.std.proofs.Common.{◌≡◌, inl, inr, ℕ, Bool, true, false, List, codes, Option, Some, None, refl, sym, subst, ◌∙◌, ap, cond}
use Rattle.std.specs.Prelude.{not, ◌&&◌, ◌||◌, is_none, is_some}
use Rattle.hx_fields.specs.FieldLines.{has_field}
use Rattle.hx_framing.specs.Text.{request_text}
use Rattle.hx_framing.specs.declared.messages.Response.{Response}
use Rattle.hx_hop.specs.Answering.{answered_of}
use Rattle.hx_hop.specs.Forwarding.{forwarded_of}
use Rattle.hx_hop.proofs.SentLines.{keeps_conditions_behind}
use Rattle.hx_allow.specs.Matching.{policy_of}
use Rattle.hx_allow.specs.TableLines.{Table}
use Rattle.hx_hop.specs.declared.request_view.Asked.{Asked}
use Rattle.hx_reuse.specs.Conditions.{withholds_conditions}
use Rattle.hx_reuse.specs.FilledRanges.{request_without_filled_range}
use Rattle.hx_validate.specs.NotModified.{answer_gets_304}
use Rattle.hx_validate.proofs.ClientConditions.{false_gets_304, no_other_gets_304}
use Rattle.proxy_core.specs.declared.open.exchange.Exchange.{Exchange}
use Rattle.proxy_core.specs.declared.outcome.Reply.{Reply}
use Rattle.proxy_core.specs.declared.event.Event.{Event}
use Rattle.proxy_core.specs.declared.event.Event.TheVariants.{Answer}
use Rattle.proxy_core.specs.Histories.{next_serial, open_exchanges}
use Rattle.proxy_core.specs.KeptConditions.{AnswerWhereConditionsWereWithheld, Unrequested304IsAnOriginFailure, FalseConditionGetsA304, WithheldConditionLeadsLikeNone, NoClientsConditionGoesForward, TrueOrNoConditionGetsTheAnswer}
use Rattle.proxy_core.specs.Naming.{AnswerNamesItsRule, AnswerNamesFirstRule}
use Rattle.proxy_core.specs.Outcomes.{exchange_id_of_event, find_exchange}
use Rattle.proxy_core.specs.Replies.{text_of_answer_or_its_range, client_wants_304_for_answer, not_modified_answer_text, passed_answer_text, part_of_answer_to_send}
use Rattle.proxy_core.specs.Starts.{StoreAtStart}
use Rattle.proxy_core.specs.Storing.{storing_rule_to_explain}
use Rattle.proxy_core.specs.Traces.{Item}
use Rattle.proxy_core.proofs.FirstRules.{names_first_rules}

module _ (table : Table) (start : StoreAtStart) (first now : ℕ) (item : Item) (past : List Item) (x : Exchange) (r : Response) (reply : Reply) (is : AnswerWhereConditionsWereWithheld table start first item past now x r reply) where
  -- the answer is passed on
  passed : reply.bytes ≡ passed_answer_text (policy_of table.lines x.line) table.name x r now (is_some reply.stored) (storing_rule_to_explain table x r now (next_serial first past))
  passed =
      let xs = open_exchanges table start past in
      let named = names_first_rules table start first item past is.good in
      let at_answer = subst (λ (e : Event). AnswerNamesFirstRule table start past (next_serial first past) (find_exchange (exchange_id_of_event e) xs) e item.outcome) is.answers named in
      let at_open = subst (λ (o : Option Exchange). AnswerNamesFirstRule table start past (next_serial first past) o (Answer now is.id r) item.outcome) is.is_open at_answer in
      let at_reply = subst (λ o. AnswerNamesFirstRule table start past (next_serial first past) (Some x) (Answer now is.id r) o) is.is_reply at_open in
      by_case (at_reply (ap is_none is.uses_no_stored_response))
    where
      by_case : AnswerNamesItsRule table start past (next_serial first past) (Some x) (Answer now is.id r) reply.bytes reply.stored
          → reply.bytes ≡ passed_answer_text (policy_of table.lines x.line) table.name x r now (is_some reply.stored) (storing_rule_to_explain table x r now (next_serial first past))
      by_case (inl (asked, names)) = names.1
      by_case (inr (unasked, names)) = let no : true ≡ false = sym unasked ∙ is.asked_for in cc

  shown : (has : Bool) → answer_gets_304 x.asked r.status (answered_of r now).fields ≡ has
      → reply.bytes ≡ cond has (not_modified_answer_text (policy_of table.lines x.line) table.name x r now (is_some reply.stored) (storing_rule_to_explain table x r now (next_serial first past)))
      (text_of_answer_or_its_range (policy_of table.lines x.line) table.name x r now (is_some reply.stored) (storing_rule_to_explain table x r now (next_serial first past)) (part_of_answer_to_send (policy_of table.lines x.line) x r now))
  shown has e =
      let test : client_wants_304_for_answer (policy_of table.lines x.line) x r now ≡ has = ap (λ b. b && answer_gets_304 x.asked r.status (answered_of r now).fields) is.keeps ∙ e in
      passed
      ∙ ap (λ b. cond b (not_modified_answer_text (policy_of table.lines x.line) table.name x r now (is_some reply.stored) (storing_rule_to_explain table x r now (next_serial first past)))
      (text_of_answer_or_its_range (policy_of table.lines x.line) table.name x r now (is_some reply.stored) (storing_rule_to_explain table x r now (next_serial first past)) (part_of_answer_to_send (policy_of table.lines x.line) x r now))) test

pub answers_304 : FalseConditionGetsA304
answers_304 table start first now item past x r reply is false_condition =
    shown table start first now item past x r reply is true (false_gets_304 x.asked r.status (answered_of r now).fields false_condition)

pub answers_in_range : TrueOrNoConditionGetsTheAnswer
answers_in_range table start first now item past x r reply is other = by_test (answer_gets_304 x.asked r.status (answered_of r now).fields) refl
  where
    by_test : (has : Bool) → answer_gets_304 x.asked r.status (answered_of r now).fields ≡ has
        → reply.bytes ≡ text_of_answer_or_its_range (policy_of table.lines x.line) table.name x r now (is_some reply.stored) (storing_rule_to_explain table x r now (next_serial first past)) (part_of_answer_to_send (policy_of table.lines x.line) x r now)
    by_test true e = absurd (other (no_other_gets_304 x.asked r.status (answered_of r now).fields e))
    by_test false e = shown table start first now item past x r reply is false e

pub forwards_no_condition : NoClientsConditionGoesForward
unfolding forwarded_of
forwards_no_condition table line asked keeps =
    let sent : Asked = request_without_filled_range (policy_of table.lines line) asked in
    (forwarded_of true sent table.name None, ap (λ k. request_text (forwarded_of k sent table.name None)) keeps, (keeps_conditions_behind sent table.name).0, (keeps_conditions_behind sent table.name).1)

pub leads_as_others : WithheldConditionLeadsLikeNone
leads_as_others policy x keeps = by_condition (is_none x.condition)
  where
    by_condition : (b : Bool) → b && (not (withholds_conditions policy x.asked) && (has_field x.asked.fields (codes "If-None-Match") || has_field x.asked.fields (codes "If-Modified-Since"))) ≡ false
    by_condition true = rw keeps refl
    by_condition false = refl

pub unasked_fails : Unrequested304IsAnOriginFailure
unasked_fails policy asked r keeps status = rw status (rw keeps refl)
