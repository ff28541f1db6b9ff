use Rattle.proxy_core.proofs.ConditionsKept.{answers_304, answers_in_range, forwards_no_condition, leads_as_others, unasked_fails}
use Rattle.proxy_core.proofs.laws.a_kept_condition_is_judged_on_the_answer.Goals as goal

pub returns : goal.returns
returns c = record { is_false = answers_304; other = answers_in_range; forward = forwards_no_condition; leads = leads_as_others; unasked = unasked_fails }
