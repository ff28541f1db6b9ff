use Rattle.hx_validate.proofs.RangeLemmas.{none_is_asked, what_is_asked, within}
use Rattle.hx_validate.proofs.range_laws.a_206_part_is_exactly_what_is_asked_for.Goals as goal

pub returns : goal.returns
returns c = record { within = within; asked = what_is_asked; beyond = none_is_asked }
