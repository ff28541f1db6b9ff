use Rattle.hx_hop.proofs.SentLines.{keeps_conditions_behind}
use Rattle.hx_hop.proofs.laws.withheld_conditions_are_not_forwarded.Goals as goal

pub returns : goal.returns
returns c = keeps_conditions_behind
