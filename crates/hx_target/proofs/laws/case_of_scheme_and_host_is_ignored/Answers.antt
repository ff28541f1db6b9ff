use Rattle.hx_target.proofs.JudgedCases.{scheme_case, authority_case, host_line_case}
use Rattle.hx_target.proofs.laws.case_of_scheme_and_host_is_ignored.Goals as goal

pub returns-clause-scheme : goal.returns-clause-scheme
returns-clause-scheme c = scheme_case

pub returns-clause-authority : goal.returns-clause-authority
returns-clause-authority c = authority_case

pub returns-clause-host_line : goal.returns-clause-host_line
returns-clause-host_line c = host_line_case
