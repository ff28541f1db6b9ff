use Rattle.std.proofs.Common.{refl}
use Rattle.std.specs.Fmt.{digits}
use Rattle.httpdate.proofs.OnLiterals.{httpdate_on_literals}
use Rattle.hx_hop.specs.Moments.{part_and_day_within_it}
use Rattle.proxy_core.proofs.laws.expiring_cases.worked_purges_that_expire.Goals as goal

pub returns-clause-told : goal.returns-clause-told
unfolding digits httpdate_on_literals part_and_day_within_it
returns-clause-told c = refl
