use Rattle.std.proofs.Common.{refl}
use Rattle.proxy_log.proofs.worked_cases.worked_request_lines_of_heads.Goals as goal

pub returns-clause-plain : goal.returns-clause-plain
returns-clause-plain c = refl

pub returns-clause-behind : goal.returns-clause-behind
returns-clause-behind c = refl

pub returns-clause-begun : goal.returns-clause-begun
returns-clause-begun c = refl

pub returns-clause-spaces : goal.returns-clause-spaces
returns-clause-spaces c = refl

pub returns-clause-name : goal.returns-clause-name
returns-clause-name c = refl

pub returns-clause-version : goal.returns-clause-version
returns-clause-version c = refl
