use Rattle.std.proofs.Common.{◌≡◌, IfOk, List, ℕ, Bool, is_some, subst, ap}
use Rattle.hx_allow.specs.Matching.{policy_of}
use Rattle.hx_allow.specs.TableLines.{Table}
use Rattle.hx_policy.specs.declared.words.Policy.{Policy}
use Rattle.proxy_core.specs.Abouts.{report_of_passed_answer}
use Rattle.proxy_core.specs.Replies.{passed_answer_text}
use Rattle.proxy_core.specs.State.{State}
use Rattle.proxy_core.proofs.core_state.Core.passed_text.Goals as goal

pub returns-clause-text : goal.returns-clause-text
returns-clause-text g c =
    let x = c.args.answer.now.exchange.now in
    let r = c.args.answer.now.response.now in
    let now = c.args.answer.now.response_time in
    subst (λ (t : Table). IfOk c.passed_answer_text.result (λ sent. sent.bytes ≡ passed_answer_text (policy_of t.lines x.line) t.name x r now (is_some c.args.stored) c.args.rule)) (ap (λ (s : State). s.table) c.self.view_is)
    (subst (λ (p : Policy). IfOk c.passed_answer_text.result (λ sent. sent.bytes ≡ passed_answer_text p c.self.inside.config.name x r now (is_some c.args.stored) c.args.rule)) c.policy-policy.ensures
    (subst (λ (n : List ℕ). IfOk c.passed_answer_text.result (λ sent. sent.bytes ≡ passed_answer_text c.policy-policy.result n x r now (is_some c.args.stored) c.args.rule)) c.name.ensures
    (subst (λ (b : Bool). IfOk c.passed_answer_text.result (λ sent. sent.bytes ≡ passed_answer_text c.policy-policy.result c.name.result.now x r now b c.args.rule)) c.is_some.ensures c.passed_answer_text.ensures.text)))

pub returns-clause-about : goal.returns-clause-about
returns-clause-about g c =
    let x = c.args.answer.now.exchange.now in
    let r = c.args.answer.now.response.now in
    let now = c.args.answer.now.response_time in
    subst (λ (t : Table). IfOk c.passed_answer_text.result (λ sent. sent.about ≡ report_of_passed_answer (policy_of t.lines x.line) x r now (is_some c.args.stored) c.args.rule)) (ap (λ (s : State). s.table) c.self.view_is)
    (subst (λ (p : Policy). IfOk c.passed_answer_text.result (λ sent. sent.about ≡ report_of_passed_answer p x r now (is_some c.args.stored) c.args.rule)) c.policy-policy.ensures
    (subst (λ (b : Bool). IfOk c.passed_answer_text.result (λ sent. sent.about ≡ report_of_passed_answer c.policy-policy.result x r now b c.args.rule)) c.is_some.ensures c.passed_answer_text.ensures.about))
