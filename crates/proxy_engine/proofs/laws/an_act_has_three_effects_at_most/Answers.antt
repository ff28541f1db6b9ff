use Rattle.proxy_engine.proofs.Dropping.{acts_are_short}
use Rattle.proxy_engine.proofs.laws.an_act_has_three_effects_at_most.Goals as goal

pub returns : goal.returns
returns c = acts_are_short
