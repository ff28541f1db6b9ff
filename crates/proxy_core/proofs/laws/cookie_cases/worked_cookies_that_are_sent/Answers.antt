use Rattle.std.proofs.Common.{refl}
use Rattle.std.specs.Fmt.{digits}
use Rattle.httpdate.proofs.OnLiterals.{httpdate_on_literals}
use Rattle.proxy_core.proofs.laws.cookie_cases.worked_cookies_that_are_sent.Goals as goal

pub returns-clause-asker : goal.returns-clause-asker
unfolding digits httpdate_on_literals
returns-clause-asker c = refl

pub returns-clause-hit : goal.returns-clause-hit
unfolding digits httpdate_on_literals
returns-clause-hit c = refl

pub returns-clause-to_head : goal.returns-clause-to_head
unfolding digits httpdate_on_literals
returns-clause-to_head c = refl

pub returns-clause-validated : goal.returns-clause-validated
unfolding digits httpdate_on_literals
returns-clause-validated c = refl

pub returns-clause-each_line : goal.returns-clause-each_line
unfolding digits httpdate_on_literals
returns-clause-each_line c = refl

pub returns-clause-without_the_word : goal.returns-clause-without_the_word
unfolding digits httpdate_on_literals
returns-clause-without_the_word c = refl
