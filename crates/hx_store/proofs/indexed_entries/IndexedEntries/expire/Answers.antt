use Rattle.std.proofs.Common.{◌≡◌, ◌+◌, [], ap, sym, ◌∙◌, drop, get_or}
use Rattle.std.proofs.lemmas.List.{drop_all, drop_more}
use Rattle.hx_store.specs.Shelf.{entries_with_serials_expired}
use Rattle.hx_store.proofs.ExpiredEntries.{none-expired, one-more}
use Rattle.hx_store.proofs.indexed_entries.IndexedEntries.expire.Goals as goal

pub loop-serial-preserved : goal.loop-serial-preserved
loop-serial-preserved c =
    let xs = c.args.serials.now in
    let i = c.loop-serial.serial-index in
    ap (entries_with_serials_expired (drop (i + 1) xs) c.args.now) c.expire_entry.ensures
    ∙ sym (one-more (get_or xs i 0) (drop (i + 1) xs) c.args.now c.loop-serial.self)
    ∙ ap (λ ys. entries_with_serials_expired ys c.args.now c.loop-serial.self) (sym (drop_more xs i 0 c.loop-serial-test.true))
    ∙ c.loop-serial.invariant

pub returns : goal.returns
returns c =
    let end : drop c.loop-serial.serial-index c.args.serials.now ≡ [] = drop_all c.loop-serial.serial-index c.args.serials.now c.loop-serial-test.false in
    sym (ap (λ xs. entries_with_serials_expired xs c.args.now c.loop-serial.self) end ∙ none-expired c.args.now c.loop-serial.self) ∙ c.loop-serial.invariant
