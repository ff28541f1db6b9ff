use Rattle.std.proofs.Common.{ℕ, length, nat_lt, sym, ap, subst, arith}
use Rattle.proxy_engine.specs.Held.{open_end_has_flag, is_true_of_every_end}
use Rattle.proxy_engine.specs.Reading.{places_with_flag}
use Rattle.proxy_engine.specs.State.{ListsAreRelated, ConnectionRepresents}
use Rattle.proxy_engine.specs.Marked.{EndList}
use Rattle.proxy_engine.specs.declared.endpoints.ends.Connection.{Connection}
use Rattle.proxy_engine.specs.declared.endpoints.connections.Connections.TheInside.{Inside}
use Rattle.proxy_engine.proofs.FewOpen.{open_or_lost}
use Rattle.proxy_engine.proofs.Readable.{open_places}
use Rattle.proxy_engine.proofs.endpoints.connections.Connections.are_fewer_open.Goals as goal

pub returns : goal.returns
returns c = λ ss both.
    let items = c.self.inside.ends.items in
    let here = subst (λ (v : EndList Connection). ListsAreRelated ConnectionRepresents v.items ss) (sym c.self.view_is) both in
    let all = open_or_lost items ss here 0 in
    let kept = ap (λ (v : Inside). length (places_with_flag (open_end_has_flag is_true_of_every_end) 0 v.ends.items)) c.self-inside.view_is in
    let live = ap length (open_places items ss here) in
    let left = c.saturating_sub.ensures in
    ap (λ (n : ℕ). nat_lt n c.args.most) (omega (arith, left, c.open_end_count-kept.ensures, c.disconnected_exchange_count-gone.ensures, kept, all, live))
