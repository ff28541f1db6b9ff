use Rattle.std.proofs.Common.{refl}
use Rattle.std.specs.Fmt.{digits}
use Rattle.httpdate.proofs.OnLiterals.{httpdate_on_literals}
use Rattle.proxy_core.proofs.laws.worked_cases.worked_stored_replies.Goals as goal

pub returns-clause-whole : goal.returns-clause-whole
unfolding digits httpdate_on_literals
returns-clause-whole c = refl

pub returns-clause-to_head : goal.returns-clause-to_head
unfolding digits httpdate_on_literals
returns-clause-to_head c = refl

pub returns-clause-has_it : goal.returns-clause-has_it
unfolding digits httpdate_on_literals
returns-clause-has_it c = refl

pub returns-clause-validated : goal.returns-clause-validated
unfolding digits httpdate_on_literals
returns-clause-validated c = refl

pub returns-clause-no_content : goal.returns-clause-no_content
unfolding digits httpdate_on_literals
returns-clause-no_content c = refl
