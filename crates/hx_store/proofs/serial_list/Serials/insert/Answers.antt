use Rattle.std.proofs.Common.{rules, ◌≡◌, ap, ◌∙◌, leb}
use Rattle.std.specs.List.{insert, position_or_len}
use Rattle.hx_store.specs.Serials.{insert_ascending}
use Rattle.hx_store.proofs.EntryLists.{insert_at_place}
use Rattle.hx_store.proofs.serial_list.Serials.insert.Goals as goal

pub returns-clause-ok : goal.returns-clause-ok
returns-clause-ok c =
    let xs = c.self.inside.serials.items in
    let s = c.args.serial in
    let e : c.insert.new.self.items ≡ insert xs c.place_of-place.result s = search rules in
    let p : c.place_of-place.result ≡ position_or_len (λ x. leb s x) xs =
    c.place_of-place.ensures.place ∙ ap (λ zs. position_or_len (λ x. leb s x) zs) c.as_slice.ensures in
    e ∙ ap (λ n. insert xs n s) p ∙ insert_at_place s xs ∙ ap (insert_ascending s) c.self.view_is
