use Rattle.proxy_engine.proofs.Losing.{lost_none}
use Rattle.proxy_engine.proofs.endpoints.connections.Connections.new.Goals as goal

pub invariant_of-result : goal.invariant_of-result
invariant_of-result c = lost_none _ _ c.new.ensures.items c.new.ensures.room c.new-2.ensures
