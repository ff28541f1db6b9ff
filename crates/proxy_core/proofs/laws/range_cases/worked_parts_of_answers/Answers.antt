use Rattle.std.proofs.Common.{refl}
use Rattle.std.specs.Fmt.{digits}
use Rattle.httpdate.proofs.OnLiterals.{httpdate_on_literals}
use Rattle.proxy_core.proofs.laws.range_cases.worked_parts_of_answers.Goals as goal

pub returns-clause-stored : goal.returns-clause-stored
unfolding digits httpdate_on_literals
returns-clause-stored c = refl

pub returns-clause-not_stored : goal.returns-clause-not_stored
unfolding digits httpdate_on_literals
returns-clause-not_stored c = refl

pub returns-clause-beyond : goal.returns-clause-beyond
unfolding digits httpdate_on_literals
returns-clause-beyond c = refl

pub returns-clause-if_range : goal.returns-clause-if_range
unfolding digits httpdate_on_literals
returns-clause-if_range c = refl

pub returns-clause-another_if_range : goal.returns-clause-another_if_range
unfolding digits httpdate_on_literals
returns-clause-another_if_range c = refl

pub returns-clause-missing : goal.returns-clause-missing
unfolding digits httpdate_on_literals
returns-clause-missing c = refl

pub returns-clause-forwarded : goal.returns-clause-forwarded
unfolding digits httpdate_on_literals
returns-clause-forwarded c = refl
