use Rattle.hx_validate.proofs.ClientConditions.{false_gets_304, no_other_gets_304, judged_alike}
use Rattle.hx_validate.proofs.laws.client_gets_304_where_its_condition_is_false.Goals as goal

pub returns : goal.returns
returns c = record { every = false_gets_304; only = no_other_gets_304; alike = judged_alike }
