use Rattle.hx_validate.proofs.Echoes.{a_304_with_the_same_tag_answers}
use Rattle.hx_validate.proofs.laws.a_304_with_the_same_tag_answers.Goals as goal

pub returns : goal.returns
returns c = a_304_with_the_same_tag_answers
