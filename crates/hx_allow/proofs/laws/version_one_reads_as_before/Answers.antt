use Rattle.hx_allow.proofs.Versions.{never_refused, each_is_cached, same_fault, same_fault_in_four}
use Rattle.hx_allow.proofs.laws.version_one_reads_as_before.Goals as goal

pub returns-clause-never : goal.returns-clause-never
returns-clause-never c = never_refused

pub returns-clause-cached : goal.returns-clause-cached
returns-clause-cached c = each_is_cached

pub returns-clause-alike : goal.returns-clause-alike
returns-clause-alike c = same_fault

pub returns-clause-alike_in_four : goal.returns-clause-alike_in_four
returns-clause-alike_in_four c = same_fault_in_four
