use Rattle.std.proofs.Common.{◌≡◌, ◌+◌, ◌∷◌, List, length, ap, sym, subst, ◌∙◌, None, Some, arith}
use Rattle.hx_store.specs.Stored.{Stored}
use Rattle.proxy_store_file.specs.Stores.{entry_fault}
use Rattle.proxy_store_file.specs.Streams.{NextEntryIsRead, EntryIsRead, reading_of_entry}
use Rattle.proxy_store_file.proofs.ReadingSteps.{entry_is_taken, put_in_front}
use Rattle.proxy_store_file.proofs.store_reading.take_entry.Goals as goal

pub returns-in-Ok-clause-ok : goal.returns-in-Ok-clause-ok
returns-in-Ok-clause-ok g c =
    let es = g.S.Shelf.entries c.args.shelf.now in
    let e = c.in-Ok-Some.entry in
    let read = rw c.in-Ok-Some.field-0-is at c.in-Ok-Some.ensures.ok in
    let none : entry_fault (length es + 1) c.args.most c.args.next es e ≡ None =
    ap (λ n. entry_fault n c.args.most c.args.next es e) (sym c.requires.number) ∙ (sym c.entry_fault.ensures ∙ c.in_default.is) in
    let front = put_in_front (g.S.Shelf.limit c.args.shelf.now) c.args.number e es (g.S.Shelf.entries c.put.new.self) c.in-Ok.ensures.ok c.requires.number c.requires.room in
    subst (λ (new : List Stored). NextEntryIsRead c.args.most c.args.next es new (g.R.Read.remaining c.args.reader.now) (g.R.Read.remaining c.read_entry.new.reader) c.args.hasher.now c.read_entry.new.hasher) (sym front)
    (entry_is_taken c.args.most c.args.next es e _ _ _ _ read none)

pub returns-in-Ok-clause-number : goal.returns-in-Ok-clause-number
returns-in-Ok-clause-number g c =
    let es = g.S.Shelf.entries c.args.shelf.now in
    let front = put_in_front (g.S.Shelf.limit c.args.shelf.now) c.args.number c.in-Ok-Some.entry es (g.S.Shelf.entries c.put.new.self) c.in-Ok.ensures.ok c.requires.number c.requires.room in
    let long : length (g.S.Shelf.entries c.put.new.self) ≡ length (c.in-Ok-Some.entry ∷ es) = ap length front in
    omega (arith, long)
