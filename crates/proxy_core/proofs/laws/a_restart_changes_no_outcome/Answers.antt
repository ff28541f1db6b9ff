use Rattle.proxy_core.proofs.Restarts.{those_are_one, one_is_those, leaves_the_same}
use Rattle.proxy_core.proofs.laws.a_restart_changes_no_outcome.Goals as goal

pub returns : goal.returns
returns c = record { one = those_are_one; two = one_is_those; left = leaves_the_same }
