use Rattle.std.proofs.Common.{◌≡◌, ◌+◌, drop, leb}
use Rattle.std.specs.List.{position_or_len}
use Rattle.hx_store.proofs.serial_list.place_of.Given as goal

abbrev pub invariant-loop-i : goal.invariant-loop-i
invariant-loop-i l = l.i + position_or_len (λ x. leb l.serial x) (drop l.i l.serials) ≡ position_or_len (λ x. leb l.serial x) l.serials
