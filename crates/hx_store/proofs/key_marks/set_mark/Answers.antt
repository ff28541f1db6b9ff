use Rattle.std.proofs.Common.{rules, ◌≡◌, None, ap, sym, ◌∙◌}
use Rattle.std.specs.Ordering.{nat_cmp}
use Rattle.std.specs.Map.{lookup}
use Rattle.std.specs.BTreeMap.{is_at}
use Rattle.hx_store.proofs.MarkLists.{set_absent}
use Rattle.hx_store.proofs.key_marks.set_mark.Goals as goal

pub returns-in_default : goal.returns-in_default
returns-in_default c =
    let test = is_at (nat_cmp c.args.serial) in
    let same : c.get_mut.follows.lender-at-none ≡ c.args.marks.now = search rules in
    let none : lookup test c.args.marks.now.entries ≡ None = search rules in
    ap (λ m. m.entries) same ∙ sym (set_absent test c.args.marks.now.entries c.args.mark none)
