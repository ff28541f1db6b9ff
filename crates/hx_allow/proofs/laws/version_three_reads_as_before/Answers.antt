use Rattle.hx_allow.proofs.Versions.{never_refused_for_bound, read_unbounded, never_refused_for_new_words, each_is_of_three, never_refused_for_methods, never_refused_for_stars, same_fault_of_three, still_read}
use Rattle.hx_allow.proofs.NamesRead.{each_has_one}
use Rattle.hx_allow.proofs.laws.version_three_reads_as_before.Goals as goal

pub returns-clause-never : goal.returns-clause-never
returns-clause-never c = never_refused_for_bound

pub returns-clause-unbounded : goal.returns-clause-unbounded
returns-clause-unbounded c = read_unbounded

pub returns-clause-never_for_words : goal.returns-clause-never_for_words
returns-clause-never_for_words c = never_refused_for_new_words

pub returns-clause-words : goal.returns-clause-words
returns-clause-words c = each_is_of_three

pub returns-clause-alike : goal.returns-clause-alike
returns-clause-alike c = same_fault_of_three

pub returns-clause-never_for_methods : goal.returns-clause-never_for_methods
returns-clause-never_for_methods c = never_refused_for_methods

pub returns-clause-never_for_stars : goal.returns-clause-never_for_stars
returns-clause-never_for_stars c = never_refused_for_stars

pub returns-clause-one_host : goal.returns-clause-one_host
returns-clause-one_host c = each_has_one

pub returns-clause-still_read : goal.returns-clause-still_read
returns-clause-still_read c = still_read
