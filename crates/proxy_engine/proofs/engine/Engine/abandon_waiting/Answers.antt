use Rattle.std.proofs.Common.{ap}
use Rattle.proxy_core.specs.State.{State as CoreState}
use Rattle.proxy_engine.specs.Pairing.{owners_of_links}
use Rattle.proxy_engine.proofs.Pairs.{paired_given_up}
use Rattle.proxy_engine.proofs.Stepping.{given_up_done}
use Rattle.std.proofs.Common.{None}
use Rattle.proxy_engine.proofs.engine.Engine.abandon_waiting.Goals as goal

pub returns-clause-ok : goal.returns-clause-ok
returns-clause-ok g c = rw (← c.self.view_is) (
    λ s now h.
    given_up_done s c.free_waiting_of_gone_client.new.connections.items c.self.inside.ends.links.items c.self.inside.core c.abandon.new.self c.self.inside.ends.first_link now c.args.i c.in-Ok.field-0 c.in_ok-effects.effects.items (rw c.number_at-id.ensures at c.in-Ok.ensures.ok)
    c.in_ok-effects.ensures.items h.core (c.free_waiting_of_gone_client.ensures.represents s c.self.inside.ends.links.items c.self.inside.core c.self.inside.ends.first_link h)
    )

pub invariant_of-self-2 : goal.invariant_of-self-2
invariant_of-self-2 g c =
    paired_given_up c.self.inside.ends.connections.items c.free_waiting_of_gone_client.new.connections.items (owners_of_links c.self.inside.ends.links.items) c.self.inside.core.exchanges c.abandon.new.self.exchanges c.args.i (rw (← c.self.view_is) at c.requires.waiting) c.free_waiting_of_gone_client.ensures.activities
    c.self.inside.core.table (ap (λ (k : CoreState). k.exchanges) (rw c.number_at-id.ensures at c.in-Ok.ensures.ok).leaves) c.self.invariant
