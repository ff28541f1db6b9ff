use Rattle.std.proofs.Common.{◌≡◌, subst}
use Rattle.hx_allow.specs.Matching.{policy_of}
use Rattle.hx_reuse.specs.Rules.{decision_of}
use Rattle.proxy_core.specs.declared.event.Event.TheVariants.{Answer}
use Rattle.proxy_core.specs.declared.replies.pending.AfterAnswer.{AfterAnswer}
use Rattle.proxy_core.specs.Outcomes.{outcome_of_answer}
use Rattle.proxy_core.specs.State.{bounds_of}
use Rattle.proxy_core.specs.Pending.{outcome_after_answer, HeldAfterAnswerIsThatOfStep}
use Rattle.proxy_core.proofs.Stepping.{answer_done}
use Rattle.proxy_core.proofs.core_state.Core.answer.Goals as goal

pub returns-in_ok-finish-in-Ends-clause-ok : goal.returns-in_ok-finish-in-Ends-clause-ok
returns-in_ok-finish-in-Ends-clause-ok g c =
    let s = c.args.self.now in
    let x = c.in_ok-x.x.now in
    let reply =
    subst (λ (a : AfterAnswer). outcome_after_answer x a ≡ outcome_of_answer s.table s.entries c.args.now x c.args.response.now s.next (decision_of (policy_of s.table.lines x.line) s.entries x.asked c.args.now)) c.in-Ends.is
    c.in_ok-pending.ensures.outcome in
    let leaves =
    subst (λ (a : AfterAnswer). HeldAfterAnswerIsThatOfStep (bounds_of s.table s.limit) s.entries x (Answer c.args.now x.id c.args.response.now) a) c.in-Ends.is c.in_ok-pending.ensures.leaves in
    answer_done s c.args.now c.args.id c.in_ok-x.ensures.moment x c.args.response.now c.in-Ends.pending c.in_ok-invalidated.invalidated c.in_ok-finish-in-Ends.field-0.outcome c.finish.new.self
    c.in_ok-x.ensures.found c.in_ok-x.ensures.forwarded reply leaves c.in_ok-invalidated.ensures c.in_ok-finish-in-Ends.ensures.outcome c.in_ok-finish-in-Ends.ensures.after
