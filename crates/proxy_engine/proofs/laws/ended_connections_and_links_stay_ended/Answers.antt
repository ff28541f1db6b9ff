use Rattle.proxy_engine.proofs.Staying.{takes_stay, acts_stay}
use Rattle.proxy_engine.proofs.laws.ended_connections_and_links_stay_ended.Goals as goal

pub returns-clause-takes : goal.returns-clause-takes
returns-clause-takes c = takes_stay

pub returns-clause-acts : goal.returns-clause-acts
returns-clause-acts c = acts_stay
