use Rattle.std.proofs.Common.{ap, ◌∙◌}
use Rattle.hx_hop.specs.Asking.{asked_with_judged_target}
use Rattle.hx_hop.proofs.asking.ask.Goals as goal

pub returns-clause-asked : goal.returns-clause-asked
returns-clause-asked c = λ free.
    let is = c.asked_with_judged_target.ensures.asked free in
    (c.read_target.result, c.read_target.ensures.judged (λ e. free (is ∙ ap (asked_with_judged_target c.args.request.now) e)), is)
