use Rattle.std.proofs.Common.{rules, ◌≡◌, None}
use Rattle.hx_allow.specs.declared.verdicts.Verdict.TheVariants as verdict
use Rattle.proxy_core.specs.Allowing.{verdict_of_asked}
use Rattle.proxy_core.specs.Moments.{moment_too_late_fault}
use Rattle.proxy_core.specs.Outcomes.{find_exchange}
use Rattle.proxy_core.proofs.PurgeSteps.{purge_done}
use Rattle.proxy_core.proofs.core_state.Core.arrive.Goals as goal

pub returns-in_ok-purge-in-Purged-clause-ok : goal.returns-in_ok-purge-in-Purged-clause-ok
returns-in_ok-purge-in-Purged-clause-ok g c =
    let s = c.args.self.now in
    let early : moment_too_late_fault c.args.now ≡ None = search rules in
    let free : find_exchange c.args.id s.exchanges ≡ None = search rules in
    let judged : verdict.Purged c.in-Purged.field-0 ≡ verdict_of_asked s.table c.args.asked.now = search rules in
    purge_done s c.args.now c.args.id c.args.asked.now c.in-Purged.field-0 c.in_ok-purge-in-Purged.field-0 c.purge.new.self early free judged
    c.in_ok-purge-in-Purged.ensures.outcome c.in_ok-purge-in-Purged.ensures.after
