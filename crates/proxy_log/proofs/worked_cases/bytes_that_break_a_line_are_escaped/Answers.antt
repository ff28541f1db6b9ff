use Rattle.std.proofs.Common.{refl}
use Rattle.std.specs.Fmt.{digits}
use Rattle.proxy_log.proofs.worked_cases.bytes_that_break_a_line_are_escaped.Goals as goal

pub returns-clause-blank : goal.returns-clause-blank
unfolding digits
returns-clause-blank c = refl

pub returns-clause-backslash : goal.returns-clause-backslash
unfolding digits
returns-clause-backslash c = refl

pub returns-clause-above : goal.returns-clause-above
unfolding digits
returns-clause-above c = refl

pub returns-clause-below : goal.returns-clause-below
unfolding digits
returns-clause-below c = refl
