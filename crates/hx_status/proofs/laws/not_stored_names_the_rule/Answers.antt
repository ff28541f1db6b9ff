use Rattle.hx_status.proofs.StoringWords.{shown_with_the_rule}
use Rattle.hx_status.proofs.laws.not_stored_names_the_rule.Goals as goal

pub returns : goal.returns
returns c = shown_with_the_rule
