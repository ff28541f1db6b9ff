use Rattle.std.proofs.Common.{subst}
use Rattle.hx_allow.specs.Matching.{policy_of}
use Rattle.hx_reuse.specs.Rules.{decision_of}
use Rattle.proxy_core.specs.Waking.{AfterWakeMatchesDecision}
use Rattle.proxy_core.specs.declared.steps.waking.AfterWake.{AfterWake}
use Rattle.proxy_core.proofs.Stepping.{wake_ends}
use Rattle.proxy_core.proofs.core_state.Core.wake.Goals as goal

pub returns-in_ok-finish-in-Ends-clause-ok : goal.returns-in_ok-finish-in-Ends-clause-ok
returns-in_ok-finish-in-Ends-clause-ok g c =
    let s = c.args.self.now in
    let x = c.in_ok-x.x.now in
    let made =
    subst (λ (a : AfterWake). AfterWakeMatchesDecision s.table s.entries c.args.now x (decision_of (policy_of s.table.lines x.line) s.entries x.asked c.args.now) a) c.in-Ends.is c.in_ok-pending.ensures in
    wake_ends s c.args.now c.args.id c.in_ok-x.ensures.moment x c.in-Ends.pending c.in_ok-finish-in-Ends.field-0.outcome c.finish.new.self
    c.in_ok-x.ensures.found c.in_ok-x.ensures.released made c.in_ok-finish-in-Ends.ensures.outcome c.in_ok-finish-in-Ends.ensures.after
