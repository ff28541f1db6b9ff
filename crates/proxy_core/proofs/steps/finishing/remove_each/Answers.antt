use Rattle.std.proofs.Common.{arith, ap, sym, ◌∙◌, ◌<◌, ◌+◌, length, drop}
use Rattle.std.proofs.lemmas.List.{drop_more}
use Rattle.proxy_core.specs.State.{entries_without_serials}
use Rattle.proxy_core.proofs.Stepping.{taken_more}
use Rattle.proxy_core.proofs.steps.finishing.remove_each.Goals as goal

pub loop-serial-preserved : goal.loop-serial-preserved
loop-serial-preserved g c =
    let i = c.loop-serial.serial-index in
    let gone = c.args.removed.now in
    let es = g.S.Shelf.entries c.loop-serial.shelf in
    let l : i < length gone = omega arith in
    record {
      entries = ap (entries_without_serials (drop (i + 1) gone)) c.remove.ensures.entries
          ∙ (taken_more _ (drop (i + 1) gone) es ∙ (ap (λ rest. entries_without_serials rest es) (sym (drop_more gone i _ l)) ∙ c.loop-serial.invariant.entries));
      limit = c.remove.ensures.limit ∙ c.loop-serial.invariant.limit;
    }
