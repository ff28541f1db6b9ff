use Rattle.std.proofs.Common.{◌≡◌, ◌<◌, set, None, subst, sym, length}
use Rattle.proxy_engine.specs.Marked.{EndList}
use Rattle.proxy_engine.specs.declared.endpoints.ends.Connection.{Connection}
use Rattle.proxy_engine.proofs.Losing.{lost_gone}
use Rattle.proxy_engine.proofs.endpoints.connections.Connections.release.Goals as goal

pub invariant_of-self : goal.invariant_of-self
invariant_of-self c =
    let within : c.args.i < length c.self.inside.ends.items = subst (λ (e : EndList Connection). c.args.i < length e.items) (sym c.self.view_is) c.requires in
    let here : c.key.result < length c.self.inside.ends.items = rw c.key.ensures within in
    let items : c.release.new.self.items ≡ set c.self.inside.ends.items c.key.result None = rw c.key.ensures c.release.ensures.items in
    lost_gone c.self.inside.ends c.self.inside.lost c.remove.new.self c.self.invariant c.release.new.self c.key.result here items c.release.ensures.room c.remove.ensures.others c.remove.ensures.only c.remove.ensures.room c.remove.ensures.rises
