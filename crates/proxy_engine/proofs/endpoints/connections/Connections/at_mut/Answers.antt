use Rattle.std.proofs.Common.{◌≡◌, true, is_some}
use Rattle.proxy_engine.specs.Marked.{end_if_open_at}
use Rattle.proxy_engine.proofs.Keeping.{copied_some}
use Rattle.proxy_engine.proofs.Losing.{lost_room, lost_kept, lost_put}
use Rattle.proxy_engine.proofs.endpoints.connections.Connections.at_mut.Goals as goal

pub put-requires : goal.put-requires
put-requires c =
    let here : is_some (end_if_open_at c.self.inside.ends.items c.args.i) ≡ true = copied_some c.get.result _ c.get.ensures c.if-is_none.ensures in
    rw c.key.ensures (lost_room c.self.inside.ends c.self.inside.lost c.self.inside.lost c.self.invariant c.args.i here)

pub change-requires : goal.change-requires
change-requires c = copied_some c.get.result _ c.get.ensures c.if-is_none.ensures

pub invariant_of-self-lent : goal.invariant_of-self-lent
invariant_of-self-lent c =
    let puts = c.put.ensures in
    let there : is_some (end_if_open_at c.self.inside.ends.items c.args.i) ≡ true = copied_some c.get.result _ c.get.ensures c.if-is_none.ensures in
    let here : is_some (end_if_open_at c.self.inside.ends.items c.key.result) ≡ true = rw c.key.ensures there in
    rw (← c.key.ensures) (λ r. (
      (λ w. lost_put c.self.inside.ends c.self.inside.lost c.put.new.self c.self.invariant c.key.result puts.there puts.others puts.only puts.room puts.rises w here),
      lost_kept c.self.inside.ends c.self.inside.lost c.put.new.self c.self.invariant c.key.result puts.there puts.others puts.only puts.room puts.rises here,
    ))
