use Rattle.hx_allow.proofs.Versions.{never_refused_for_words, each_is_plain, same_fault_of_two}
use Rattle.hx_allow.proofs.laws.version_two_reads_as_before.Goals as goal

pub returns-clause-never : goal.returns-clause-never
returns-clause-never c = never_refused_for_words

pub returns-clause-plain : goal.returns-clause-plain
returns-clause-plain c = each_is_plain

pub returns-clause-alike : goal.returns-clause-alike
returns-clause-alike c = same_fault_of_two
