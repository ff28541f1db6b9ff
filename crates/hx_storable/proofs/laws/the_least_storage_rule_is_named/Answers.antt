use Rattle.hx_storable.proofs.LeastRule.{rule_is_least, least_is_rule, no_rule_applies}
use Rattle.hx_storable.proofs.laws.the_least_storage_rule_is_named.Goals as goal

pub returns : goal.returns
returns c = record { least = rule_is_least; every = least_is_rule; none = no_rule_applies }
