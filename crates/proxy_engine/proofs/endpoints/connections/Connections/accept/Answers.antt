use Rattle.std.proofs.Common.{sym, ap, ◌∙◌}
use Rattle.proxy_engine.specs.Marked.{EndList}
use Rattle.proxy_engine.specs.declared.endpoints.ends.Connection.{Connection}
use Rattle.proxy_engine.proofs.Losing.{next_room, lost_more}
use Rattle.proxy_engine.proofs.endpoints.connections.Connections.accept.Goals as goal

pub put-requires : goal.put-requires
put-requires c = next_room c.self.inside.ends c.self.inside.lost c.self.inside.lost c.self.invariant _ (ap (λ (e : EndList Connection). e.has_room) c.self.view_is ∙ c.in_ok-reserve_place.ensures.ok)

pub invariant_of-self : goal.invariant_of-self
invariant_of-self c =
    let puts = c.put.ensures in
    lost_more c.self.inside.ends c.self.inside.lost c.put.new.self c.self.invariant c.len.result puts.there puts.others puts.only puts.room puts.rises c.args.connection c.put-2.new.self (sym c.len.ensures) (ap (λ (e : EndList Connection). e.has_room) c.self.view_is ∙ c.in_ok-reserve_place.ensures.ok) c.put-2.ensures.items c.put-2.ensures.room
