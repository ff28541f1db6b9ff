use Rattle.std.proofs.Common.{refl}
use Rattle.std.specs.Fmt.{digits}
use Rattle.httpdate.proofs.OnLiterals.{httpdate_on_literals}
use Rattle.hx_hop.specs.Moments.{part_and_day_within_it}
use Rattle.hx_allow.specs.Matching.{policy_of}
use Rattle.proxy_core.proofs.laws.worked_cases.worked_outcomes_of_arrivals.Goals as goal

pub returns-clause-woken_hit : goal.returns-clause-woken_hit
unfolding digits httpdate_on_literals policy_of
returns-clause-woken_hit c = refl

pub returns-clause-purges : goal.returns-clause-purges
unfolding digits httpdate_on_literals policy_of part_and_day_within_it
returns-clause-purges c = refl
