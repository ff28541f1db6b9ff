use Rattle.proxy_core.proofs.InVain.{kept_back_by_the_answer_alone}
use Rattle.proxy_core.proofs.laws.a_waiter_is_served_unless_the_response_forbids.Goals as goal

pub returns : goal.returns
returns c = kept_back_by_the_answer_alone
