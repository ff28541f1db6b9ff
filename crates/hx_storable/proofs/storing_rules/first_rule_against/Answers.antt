use Rattle.std.proofs.Common.{arith}
use Rattle.std.proofs.lemmas.Grind.{common_steps}
use Rattle.hx_storable.specs.Rules.{rule_against_storing}
use Rattle.hx_storable.proofs.storing_rules.first_rule_against.Goals as goal

pub returns-else-not-response_allows_storing : goal.returns-else-not-response_allows_storing
unfolding rule_against_storing
returns-else-not-response_allows_storing c = grind (arith, common_steps, c.rule_after_the_head.ensures)
