use Rattle.std.proofs.Common.{◌≡◌, drop}
use Rattle.hx_store.specs.Serials.{serial_is_in}
use Rattle.hx_store.proofs.entries.contains.Given as goal

abbrev pub invariant-loop-s : goal.invariant-loop-s
invariant-loop-s l = serial_is_in l.serial (drop l.s-index l.serials) ≡ serial_is_in l.serial l.serials
