use Rattle.proxy_engine.proofs.Doing.{acts_in_one_way}
use Rattle.proxy_engine.proofs.laws.an_act_is_done_in_one_way.Goals as goal

pub returns : goal.returns
returns c = acts_in_one_way c.request_is_asked_in_one_way.ensures
