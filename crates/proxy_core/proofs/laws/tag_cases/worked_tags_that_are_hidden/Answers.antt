use Rattle.std.proofs.Common.{refl}
use Rattle.std.specs.Fmt.{digits}
use Rattle.httpdate.proofs.OnLiterals.{httpdate_on_literals}
use Rattle.proxy_core.proofs.laws.tag_cases.worked_tags_that_are_hidden.Goals as goal

pub returns-clause-hit : goal.returns-clause-hit
unfolding digits httpdate_on_literals
returns-clause-hit c = refl

pub returns-clause-to_head : goal.returns-clause-to_head
unfolding digits httpdate_on_literals
returns-clause-to_head c = refl

pub returns-clause-validated : goal.returns-clause-validated
unfolding digits httpdate_on_literals
returns-clause-validated c = refl

pub returns-clause-who_has_it : goal.returns-clause-who_has_it
unfolding digits httpdate_on_literals
returns-clause-who_has_it c = refl

pub returns-clause-each_line : goal.returns-clause-each_line
unfolding digits httpdate_on_literals
returns-clause-each_line c = refl

pub returns-clause-in_an_earlier_version : goal.returns-clause-in_an_earlier_version
unfolding digits httpdate_on_literals
returns-clause-in_an_earlier_version c = refl

pub returns-clause-asker : goal.returns-clause-asker
unfolding digits httpdate_on_literals
returns-clause-asker c = refl

pub returns-clause-not_stored : goal.returns-clause-not_stored
unfolding digits httpdate_on_literals
returns-clause-not_stored c = refl

pub returns-clause-asker_in_an_earlier_version : goal.returns-clause-asker_in_an_earlier_version
unfolding digits httpdate_on_literals
returns-clause-asker_in_an_earlier_version c = refl

pub returns-clause-in_the_store : goal.returns-clause-in_the_store
unfolding digits httpdate_on_literals
returns-clause-in_the_store c = refl
