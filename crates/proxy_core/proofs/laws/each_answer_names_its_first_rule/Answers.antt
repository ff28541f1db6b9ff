use Rattle.proxy_core.proofs.FirstRules.{names_first_rules}
use Rattle.proxy_core.proofs.laws.each_answer_names_its_first_rule.Goals as goal

pub returns : goal.returns
returns c = names_first_rules
