use Rattle.std.proofs.Common.{refl}
use Rattle.std.specs.Fmt.{digits}
use Rattle.proxy_script.proofs.script_cases.worked_items_are_spelled.Goals as goal

pub returns-clause-table : goal.returns-clause-table
unfolding digits
returns-clause-table c = refl

pub returns-clause-empty_table : goal.returns-clause-empty_table
unfolding digits
returns-clause-empty_table c = refl

pub returns-clause-moment : goal.returns-clause-moment
unfolding digits
returns-clause-moment c = refl

pub returns-clause-accepts : goal.returns-clause-accepts
unfolding digits
returns-clause-accepts c = refl

pub returns-clause-sends : goal.returns-clause-sends
unfolding digits
returns-clause-sends c = refl

pub returns-clause-hears : goal.returns-clause-hears
unfolding digits
returns-clause-hears c = refl

pub returns-clause-ends : goal.returns-clause-ends
unfolding digits
returns-clause-ends c = refl

pub returns-clause-leaves : goal.returns-clause-leaves
unfolding digits
returns-clause-leaves c = refl

pub returns-clause-retires : goal.returns-clause-retires
unfolding digits
returns-clause-retires c = refl

pub returns-clause-overdue : goal.returns-clause-overdue
unfolding digits
returns-clause-overdue c = refl

pub returns-clause-shuts : goal.returns-clause-shuts
unfolding digits
returns-clause-shuts c = refl

pub returns-clause-refused : goal.returns-clause-refused
unfolding digits
returns-clause-refused c = refl

pub returns-clause-timed_out : goal.returns-clause-timed_out
unfolding digits
returns-clause-timed_out c = refl

pub returns-clause-closed : goal.returns-clause-closed
unfolding digits
returns-clause-closed c = refl
