use Rattle.std.proofs.Common.{refl}
use Rattle.std.specs.Fmt.{digits}
use Rattle.hx_validate.proofs.range_laws.worked_lines_of_206_and_416.Goals as goal

pub returns-clause-part : goal.returns-clause-part
unfolding digits
returns-clause-part c = refl

pub returns-clause-told_before : goal.returns-clause-told_before
unfolding digits
returns-clause-told_before c = refl

pub returns-clause-unsatisfied : goal.returns-clause-unsatisfied
unfolding digits
returns-clause-unsatisfied c = refl

pub returns-clause-unsatisfied_to_asker : goal.returns-clause-unsatisfied_to_asker
unfolding digits
returns-clause-unsatisfied_to_asker c = refl
