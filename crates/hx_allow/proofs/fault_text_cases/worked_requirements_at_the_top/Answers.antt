use Rattle.std.proofs.Common.{refl}
use Rattle.std.specs.Fmt.{digits}
use Rattle.hx_allow.proofs.fault_text_cases.worked_requirements_at_the_top.Goals as goal

pub returns-clause-capacity : goal.returns-clause-capacity
unfolding digits
returns-clause-capacity c = refl

pub returns-clause-max_body : goal.returns-clause-max_body
unfolding digits
returns-clause-max_body c = refl

pub returns-clause-max_stored : goal.returns-clause-max_stored
unfolding digits
returns-clause-max_stored c = refl

pub returns-clause-max_store : goal.returns-clause-max_store
unfolding digits
returns-clause-max_store c = refl
