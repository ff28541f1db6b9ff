use Rattle.std.proofs.Common.{◌≡◌, ◌+◌, ◌-◌, ◌<◌, ◌≤◌, length, refl, ap, sym, subst, ◌∙◌, arith}
use Rattle.proxy_store_file.specs.Stores.{read_store}
use Rattle.proxy_store_file.specs.Streams.{ReaderIsRefusedFor, bounds_of}
use Rattle.proxy_store_file.proofs.ReadingSteps.{one_more_is_read, one_more_is_refused, store_is_read, store_is_refused}
use Rattle.proxy_store_file.proofs.store_reading.fill.Goals as goal

pub returns-in-Err-clause-fault : goal.returns-in-Err-clause-fault
returns-in-Err-clause-fault g c =
    subst (λ n. ReaderIsRefusedFor (read_store (bounds_of n c.args.most)) (g.R.Read.remaining c.args.reader.now) (g.R.Read.remaining c.read_opening.new.reader) c.in-Err.fault) c.capacity.ensures
    (c.in-Err.ensures.fault c.args.most)

pub returns-in-Err-take_entry-clause-fault : goal.returns-in-Err-take_entry-clause-fault
returns-in-Err-take_entry-clause-fault g c =
    let within : c.entries.i < c.in-Ok.opening.1 = omega arith in
    one_more_is_refused (bounds_of (g.S.Shelf.limit c.args.shelf.now) c.args.most) c.in-Ok.opening.0 c.in-Ok.opening.1 c.entries.i (g.S.Shelf.entries c.entries.shelf) _ _ _ _ _ c.in-Err-take_entry.fault
    within c.entries.invariant.read c.in-Err-take_entry.ensures.fault

pub entries-preserved : goal.entries-preserved
entries-preserved g c =
    let within : c.entries.i < c.in-Ok.opening.1 = omega arith in
    record {
      read = one_more_is_read (bounds_of (g.S.Shelf.limit c.args.shelf.now) c.args.most) c.in-Ok.opening.0 c.in-Ok.opening.1 c.entries.i (g.S.Shelf.entries c.entries.shelf) (g.S.Shelf.entries c.take_entry.new.shelf) _ _ _ _ _ _
          within c.entries.invariant.read c.in-Ok-take_entry.ensures.ok;
      held = omega (arith, c.in-Ok-take_entry.ensures.number, c.entries.invariant.held);
      limit = c.in-Ok-take_entry.ensures.limit ∙ c.entries.invariant.limit;
    }

pub returns-in-Ok-read_end-clause-ok : goal.returns-in-Ok-read_end-clause-ok
returns-in-Ok-read_end-clause-ok g c =
    let none : c.in-Ok.opening.1 - c.entries.i ≡ 0 = omega arith in
    let all : length (g.S.Shelf.entries c.entries.shelf) ≡ c.in-Ok.opening.1 = omega arith in
    store_is_read (bounds_of (g.S.Shelf.limit c.args.shelf.now) c.args.most) c.in-Ok.opening.0 _ (g.S.Shelf.entries c.entries.shelf) _ _ _ _ _ none refl c.entries.invariant.read
    (c.in-Ok-read_end.ensures.ok (g.S.Shelf.entries c.entries.shelf) all)

pub returns-in-Err-read_end-clause-fault : goal.returns-in-Err-read_end-clause-fault
returns-in-Err-read_end-clause-fault g c =
    let none : c.in-Ok.opening.1 - c.entries.i ≡ 0 = omega arith in
    let all : length (g.S.Shelf.entries c.entries.shelf) ≡ c.in-Ok.opening.1 = omega arith in
    store_is_refused (bounds_of (g.S.Shelf.limit c.args.shelf.now) c.args.most) c.in-Ok.opening.0 _ (g.S.Shelf.entries c.entries.shelf) _ _ _ _ _ c.in-Err-read_end.fault none refl c.entries.invariant.read
    (c.in-Err-read_end.ensures.fault (g.S.Shelf.entries c.entries.shelf) all)
