use Rattle.std.proofs.Common.{refl}
use Rattle.std.specs.Fmt.{digits}
use Rattle.httpdate.proofs.OnLiterals.{httpdate_on_literals}
use Rattle.proxy_core.proofs.laws.tag_cases.worked_tags_of_partial_replies.Goals as goal

pub returns-clause-stored : goal.returns-clause-stored
unfolding digits httpdate_on_literals
returns-clause-stored c = refl

pub returns-clause-passed : goal.returns-clause-passed
unfolding digits httpdate_on_literals
returns-clause-passed c = refl
