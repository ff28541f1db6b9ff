use Rattle.std.proofs.Common.{refl}
use Rattle.std.specs.Fmt.{digits}
use Rattle.httpdate.proofs.OnLiterals.{httpdate_on_literals}
use Rattle.proxy_core.proofs.laws.worked_cases.worked_passed_answers.Goals as goal

pub returns-clause-stored : goal.returns-clause-stored
unfolding digits httpdate_on_literals
returns-clause-stored c = refl

pub returns-clause-not_stored : goal.returns-clause-not_stored
unfolding digits httpdate_on_literals
returns-clause-not_stored c = refl

pub returns-clause-to_head : goal.returns-clause-to_head
unfolding digits httpdate_on_literals
returns-clause-to_head c = refl

pub returns-clause-to_head_of_unknown_length : goal.returns-clause-to_head_of_unknown_length
unfolding digits httpdate_on_literals
returns-clause-to_head_of_unknown_length c = refl

pub returns-clause-own : goal.returns-clause-own
unfolding digits httpdate_on_literals
returns-clause-own c = refl

pub returns-clause-own_to_head : goal.returns-clause-own_to_head
unfolding digits httpdate_on_literals
returns-clause-own_to_head c = refl

pub returns-clause-kept : goal.returns-clause-kept
unfolding digits httpdate_on_literals
returns-clause-kept c = refl

pub returns-clause-kept_and_changed : goal.returns-clause-kept_and_changed
unfolding digits httpdate_on_literals
returns-clause-kept_and_changed c = refl

pub returns-clause-kept_and_not_stored : goal.returns-clause-kept_and_not_stored
unfolding digits httpdate_on_literals
returns-clause-kept_and_not_stored c = refl

pub returns-clause-kept_and_missing : goal.returns-clause-kept_and_missing
unfolding digits httpdate_on_literals
returns-clause-kept_and_missing c = refl

pub returns-clause-forwarded : goal.returns-clause-forwarded
unfolding digits httpdate_on_literals
returns-clause-forwarded c = refl
