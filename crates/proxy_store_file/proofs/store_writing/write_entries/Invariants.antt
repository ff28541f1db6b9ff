use Rattle.std.proofs.Common.{◌<◌, ◌+◌, ◌^◌, length}
use Rattle.proxy_store_file.proofs.Written.{SoFarWritten}
use Rattle.proxy_store_file.proofs.store_writing.write_entries.Given as goal

-- those that are gone were written
abbrev pub invariant-loop-entry : goal.invariant-loop-entry
invariant-loop-entry g l = record {
  written : SoFarWritten l.next (g.S.Shelf.entries l.fn.shelf) (g.S.Shelf.entries l.shelf) (g.W.Write.contents l.fn.writer) (g.W.Write.contents l.writer) l.fn.hasher l.hasher l.number;
  fits : l.number + length (g.S.Shelf.entries l.shelf) < 2 ^ 64;
}

abbrev pub decreases-loop-entry : goal.decreases-loop-entry
decreases-loop-entry g l = length (g.S.Shelf.entries l.shelf)
