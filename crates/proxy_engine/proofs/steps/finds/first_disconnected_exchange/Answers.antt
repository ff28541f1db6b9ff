use Rattle.std.proofs.Common.{◌∙◌, sym, ap, arith}
use Rattle.proxy_engine.specs.Marked.{end_if_open_at, open_end_count, is_gone_with_exchange, link_of_disconnected_exchange_at}
use Rattle.proxy_engine.proofs.Marking.{marked_dropped, none_before, no_mark}
use Rattle.proxy_engine.proofs.steps.finds.first_disconnected_exchange.Goals as goal

pub returns-in-Some-lost_link-clause-some : goal.returns-in-Some-lost_link-clause-some
returns-in-Some-lost_link-clause-some c =
    let items = c.args.ends.now.items in (
      sym c.lost_link.ensures ∙ c.in-Some-lost_link.is,
      rw c.at-place.ensures (none_before is_gone_with_exchange (end_if_open_at items) (open_end_count items) c.loop-i.lost c.in-Some.i c.loop-i.invariant.marked c.in-Some.ensures.some),
    )

pub loop-i-preserved : goal.loop-i-preserved
loop-i-preserved c =
    let items = c.args.ends.now.items in
    let drops = c.drop_least.ensures in
    record {
      marked = marked_dropped is_gone_with_exchange (end_if_open_at items) (open_end_count items) c.loop-i.lost c.drop_least.new.self c.in-Some.i c.loop-i.invariant.marked c.in-Some.ensures.some (λ x e. no_mark x (sym c.in_default-lost_link.is ∙ (c.lost_link.ensures ∙ ap link_of_disconnected_exchange_at (ap (end_if_open_at items) c.at-place.ensures ∙ e))))
          drops.others drops.only drops.room drops.rises;
      next = λ room. let fits = c.loop-i.invariant.next room in omega (arith, fits, drops.room);
    }
