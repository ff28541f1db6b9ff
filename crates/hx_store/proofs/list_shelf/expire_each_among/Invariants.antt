use Rattle.std.proofs.Common.{◌≡◌}
use Rattle.hx_store.proofs.ExpiredEntries.{front-expired}
use Rattle.hx_store.proofs.list_shelf.expire_each_among.Given as goal

abbrev pub invariant-loop-entry : goal.invariant-loop-entry
invariant-loop-entry l = l.entry-items ≡ front-expired l.serials l.now l.entry-index l.initial.entry-items
