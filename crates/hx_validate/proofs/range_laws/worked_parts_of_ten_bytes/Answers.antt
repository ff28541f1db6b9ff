use Rattle.std.proofs.Common.{refl}
use Rattle.std.specs.Fmt.{digits}
use Rattle.hx_validate.proofs.range_laws.worked_parts_of_ten_bytes.Goals as goal

pub returns-clause-middle : goal.returns-clause-middle
unfolding digits
returns-clause-middle c = refl

pub returns-clause-end : goal.returns-clause-end
unfolding digits
returns-clause-end c = refl

pub returns-clause-all : goal.returns-clause-all
unfolding digits
returns-clause-all c = refl

pub returns-clause-beyond : goal.returns-clause-beyond
unfolding digits
returns-clause-beyond c = refl

pub returns-clause-nearly_full_head : goal.returns-clause-nearly_full_head
unfolding digits
returns-clause-nearly_full_head c = refl
