use Rattle.std.proofs.Common.{◌≡◌, ◌-◌, length}
use Rattle.std.specs.Hash.DefaultHasher.{initial}
use Rattle.proxy_store_file.specs.Streams.{bounds_of}
use Rattle.proxy_store_file.proofs.ReadingSteps.{EntriesAreRead}
use Rattle.proxy_store_file.proofs.store_reading.fill.Given as goal

-- what is left to read gives the whole
abbrev pub invariant-entries : goal.invariant-entries
invariant-entries g l = record {
  read : EntriesAreRead (bounds_of (g.S.Shelf.limit l.fn.shelf) l.most) l.next (l.number - l.i) (g.S.Shelf.entries l.shelf)
      (g.R.Read.remaining l.fn.reader) (g.R.Read.remaining l.reader) initial l.hasher;
  held : length (g.S.Shelf.entries l.shelf) ≡ l.i;
  limit : g.S.Shelf.limit l.shelf ≡ g.S.Shelf.limit l.fn.shelf;
}
