use Rattle.std.proofs.Common.{◌≡◌, [], ◌++◌, List, ℕ, map, sym, ap, ◌∙◌, append-nil, rules}
use Rattle.proxy_engine.specs.Held.{flagged_places, link_may_send}
use Rattle.proxy_engine.specs.Reading.{link_end_at}
use Rattle.proxy_engine.specs.declared.endpoints.ends.Link.{Link}
use Rattle.proxy_engine.proofs.Readable.{held_listed}
use Rattle.proxy_engine.proofs.readable_ends.push_readable_links.Goals as goal

pub returns : goal.returns
returns c = λ fits.
    let done : c.loop-j.j-iterator ≡ [] = search rules in
    sym (append-nil c.loop-j.list.items)
    ∙ (sym (ap (λ (es : List (ℕ × Link)). c.loop-j.list.items ++ map (link_end_at c.args.first) (flagged_places link_may_send c.args.count es)) done)
    ∙ (c.loop-j.invariant fits
    ∙ ap (λ (ps : List ℕ). c.args.list.now.items ++ map (link_end_at c.args.first) ps) (held_listed link_may_send c.args.ends.now c.args.count c.into_iter-j-iterator.ensures.into_iter_gives.5)))
