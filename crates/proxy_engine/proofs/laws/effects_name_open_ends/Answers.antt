use Rattle.proxy_engine.proofs.Ordering.{begins_orderly, takes_in_order, acts_in_order}
use Rattle.proxy_engine.proofs.laws.effects_name_open_ends.Goals as goal

pub returns-clause-first : goal.returns-clause-first
returns-clause-first c = begins_orderly

pub returns-clause-takes : goal.returns-clause-takes
returns-clause-takes c = takes_in_order

pub returns-clause-acts : goal.returns-clause-acts
returns-clause-acts c = acts_in_order
