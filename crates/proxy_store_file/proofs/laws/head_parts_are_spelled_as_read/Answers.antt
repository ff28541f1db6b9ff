use Rattle.proxy_store_file.proofs.HeadLaws.{times_found, key_found, line_found, kept_found, head_found}
use Rattle.proxy_store_file.proofs.laws.head_parts_are_spelled_as_read.Goals as goal

pub returns-clause-times : goal.returns-clause-times
returns-clause-times c = times_found

pub returns-clause-key : goal.returns-clause-key
returns-clause-key c = key_found

pub returns-clause-line : goal.returns-clause-line
returns-clause-line c = line_found

pub returns-clause-kept : goal.returns-clause-kept
returns-clause-kept c = kept_found

pub returns-clause-head : goal.returns-clause-head
returns-clause-head c = head_found
