use Rattle.hx_validate.proofs.Tags.{compares_both_ways, strong_is_weak}
use Rattle.hx_validate.proofs.laws.entity_tag_equality_is_symmetric.Goals as goal

pub returns : goal.returns
returns c = record { narrower = strong_is_weak; turned = compares_both_ways }
