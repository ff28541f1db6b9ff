use Rattle.std.proofs.Common.{◌≡◌, [], ◌++◌, List, ℕ, map, sym, ap, ◌∙◌, append-nil, rules}
use Rattle.proxy_engine.specs.Held.{flagged_places, client_of_connection_may_send}
use Rattle.proxy_engine.specs.Reading.{client_end_at}
use Rattle.proxy_engine.specs.declared.endpoints.ends.Connection.{Connection}
use Rattle.proxy_engine.proofs.Readable.{held_listed}
use Rattle.proxy_engine.proofs.readable_ends.push_readable_clients.Goals as goal

pub returns : goal.returns
returns c =
    let done : c.loop-i.i-iterator ≡ [] = search rules in
    sym (append-nil c.loop-i.list.items)
    ∙ (sym (ap (λ (es : List (ℕ × Connection)). c.loop-i.list.items ++ map client_end_at (flagged_places client_of_connection_may_send c.args.count es)) done)
    ∙ (c.loop-i.invariant
    ∙ ap (λ (ps : List ℕ). c.args.list.now.items ++ map client_end_at ps) (held_listed client_of_connection_may_send c.args.ends.now c.args.count c.into_iter-i-iterator.ensures.into_iter_gives.5)))
