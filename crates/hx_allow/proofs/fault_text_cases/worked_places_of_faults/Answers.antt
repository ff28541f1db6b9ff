use Rattle.std.proofs.Common.{refl}
use Rattle.std.specs.Fmt.{digits}
use Rattle.hx_allow.proofs.fault_text_cases.worked_places_of_faults.Goals as goal

pub returns-clause-of_a_line : goal.returns-clause-of_a_line
unfolding digits
returns-clause-of_a_line c = refl

pub returns-clause-of_a_path : goal.returns-clause-of_a_path
unfolding digits
returns-clause-of_a_path c = refl
