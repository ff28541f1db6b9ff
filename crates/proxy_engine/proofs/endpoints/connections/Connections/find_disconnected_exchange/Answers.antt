use Rattle.proxy_engine.proofs.Finding.{lost_first, lost_linked, lost_open, lost_gone}
use Rattle.proxy_engine.proofs.endpoints.connections.Connections.find_disconnected_exchange.Goals as goal

pub returns-clause-first : goal.returns-clause-first
returns-clause-first c = rw (← c.self.view_is) (lost_first c.self.inside.ends.items c.first_disconnected_exchange.result c.first_disconnected_exchange.ensures.none c.first_disconnected_exchange.ensures.some)

pub returns-clause-linked : goal.returns-clause-linked
returns-clause-linked c = rw (← c.self.view_is) (lost_linked c.self.inside.ends.items c.first_disconnected_exchange.result c.first_disconnected_exchange.ensures.some)

pub returns-clause-open : goal.returns-clause-open
returns-clause-open c = rw (← c.self.view_is) (lost_open c.self.inside.ends.items c.first_disconnected_exchange.result c.first_disconnected_exchange.ensures.some)

pub returns-clause-gone : goal.returns-clause-gone
returns-clause-gone c = rw (← c.self.view_is) (lost_gone c.self.inside.ends.items c.first_disconnected_exchange.result c.first_disconnected_exchange.ensures.some)
