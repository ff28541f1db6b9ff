use Rattle.std.proofs.Common.{rules, arith, ◌≡◌, not, ap, ◌∙◌}
use Rattle.std.proofs.lemmas.Fn.{filter_same}
use Rattle.std.proofs.lemmas.Grind.{common_steps}
use Rattle.hx_store.specs.Shelf.{without_serials}
use Rattle.hx_store.specs.Serials.{serial_is_in}
use Rattle.hx_store.proofs.EntryLists.{any_is_in}
use Rattle.hx_store.proofs.list_shelf.put_first.Goals as goal

pub returns-clause-ok : goal.returns-clause-ok
returns-clause-ok c =
    let k : c.retain.new.self.items ≡ without_serials c.args.replaced.now c.args.entries.now.items =
    filter_same _ (λ e. not (serial_is_in e.serial c.args.replaced.now)) _
    (λ x b f' k. let e = any_is_in x.serial c.args.replaced.now in search rules) _ _ c.retain.ensures.filtered
    ∙ ap (λ es. without_serials c.args.replaced.now es) c.reserve.ensures.items
    in
    grind (arith, common_steps, k)
