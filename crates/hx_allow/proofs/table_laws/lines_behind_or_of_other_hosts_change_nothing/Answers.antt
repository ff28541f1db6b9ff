use Rattle.hx_allow.proofs.Deciding.{first_decides, same_behind, same_for_host}
use Rattle.hx_allow.proofs.table_laws.lines_behind_or_of_other_hosts_change_nothing.Goals as goal

pub returns-clause-first : goal.returns-clause-first
returns-clause-first c = first_decides

pub returns-clause-behind : goal.returns-clause-behind
returns-clause-behind c = same_behind

pub returns-clause-other_hosts : goal.returns-clause-other_hosts
returns-clause-other_hosts c = same_for_host
