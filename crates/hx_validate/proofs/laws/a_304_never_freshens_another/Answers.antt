use Rattle.hx_validate.proofs.IdentifiedLemmas.{never_freshens_another, several_tags_answer_nothing}
use Rattle.hx_validate.proofs.laws.a_304_never_freshens_another.Goals as goal

pub returns : goal.returns
returns c = record { another = never_freshens_another; several = several_tags_answer_nothing }
