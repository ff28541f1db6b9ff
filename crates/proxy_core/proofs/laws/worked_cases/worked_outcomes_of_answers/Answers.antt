use Rattle.std.proofs.Common.{refl}
use Rattle.std.specs.Fmt.{digits}
use Rattle.httpdate.proofs.OnLiterals.{httpdate_on_literals}
use Rattle.hx_allow.specs.Matching.{policy_of}
use Rattle.hx_validate.specs.Answering.{freshened_of}
use Rattle.proxy_core.proofs.laws.worked_cases.worked_outcomes_of_answers.Goals as goal

pub returns-clause-validated : goal.returns-clause-validated
unfolding digits httpdate_on_literals freshened_of policy_of
returns-clause-validated c = refl
