use Rattle.std.proofs.Common.{refl}
use Rattle.std.specs.Fmt.{digits}
use Rattle.hx_allow.proofs.fault_text_cases.worked_requirements_of_word_keys.Goals as goal

pub returns-clause-lifetime : goal.returns-clause-lifetime
unfolding digits
returns-clause-lifetime c line = refl

pub returns-clause-stale_if_error : goal.returns-clause-stale_if_error
unfolding digits
returns-clause-stale_if_error c line = refl

pub returns-clause-lifetime_most : goal.returns-clause-lifetime_most
unfolding digits
returns-clause-lifetime_most c line = refl

pub returns-clause-error_lifetime : goal.returns-clause-error_lifetime
unfolding digits
returns-clause-error_lifetime c line = refl

pub returns-clause-stale_while_revalidate : goal.returns-clause-stale_while_revalidate
unfolding digits
returns-clause-stale_while_revalidate c line = refl

pub returns-clause-vary : goal.returns-clause-vary
unfolding digits
returns-clause-vary c line = refl

pub returns-clause-origin_timeout : goal.returns-clause-origin_timeout
unfolding digits
returns-clause-origin_timeout c line = refl

pub returns-clause-session_cookies : goal.returns-clause-session_cookies
unfolding digits
returns-clause-session_cookies c line = refl

pub returns-clause-key : goal.returns-clause-key
unfolding digits
returns-clause-key c line = refl

pub returns-clause-wait_timeout : goal.returns-clause-wait_timeout
unfolding digits
returns-clause-wait_timeout c line = refl
