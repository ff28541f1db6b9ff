use Rattle.proxy_engine.proofs.Once.{due_first_once}
use Rattle.proxy_engine.proofs.laws.one_act_is_due_first.Goals as goal

pub returns : goal.returns
returns c = due_first_once
