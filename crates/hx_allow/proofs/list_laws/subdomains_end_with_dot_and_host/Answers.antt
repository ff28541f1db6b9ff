use Rattle.hx_allow.proofs.LineHosts.{ends_with_dot_and, below_where_it_ends, not_below_itself, below_below, none_without_letter}
use Rattle.hx_allow.proofs.list_laws.subdomains_end_with_dot_and_host.Goals as goal

pub returns-clause-ends : goal.returns-clause-ends
returns-clause-ends c = ends_with_dot_and

pub returns-clause-each : goal.returns-clause-each
returns-clause-each c = below_where_it_ends

pub returns-clause-not_itself : goal.returns-clause-not_itself
returns-clause-not_itself c = not_below_itself

pub returns-clause-further : goal.returns-clause-further
returns-clause-further c = below_below

pub returns-clause-no_address : goal.returns-clause-no_address
returns-clause-no_address c = none_without_letter
