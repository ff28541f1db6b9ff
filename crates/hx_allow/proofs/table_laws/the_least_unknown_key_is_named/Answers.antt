use Rattle.hx_allow.proofs.LeastUnknown.{first_is_least, none_found, found_at_top, found_in_line, found_of_text}
use Rattle.hx_allow.proofs.SortedTexts.{read_is_sorted}
use Rattle.hx_allow.proofs.table_laws.the_least_unknown_key_is_named.Goals as goal

pub returns-clause-found : goal.returns-clause-found
returns-clause-found c = first_is_least

pub returns-clause-none : goal.returns-clause-none
returns-clause-none c = none_found

pub returns-clause-top : goal.returns-clause-top
returns-clause-top c = found_at_top

pub returns-clause-line : goal.returns-clause-line
returns-clause-line c = found_in_line

pub returns-clause-sorted : goal.returns-clause-sorted
returns-clause-sorted c = read_is_sorted

pub returns-clause-read : goal.returns-clause-read
returns-clause-read c = found_of_text
