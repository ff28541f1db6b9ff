use Rattle.hx_validate.proofs.Tags.{reads_each_tag, reads_the_grammar}
use Rattle.hx_validate.proofs.laws.entity_tags_are_those_of_the_grammar.Goals as goal

pub returns : goal.returns
returns c = record { only_these = reads_the_grammar; each = reads_each_tag }
