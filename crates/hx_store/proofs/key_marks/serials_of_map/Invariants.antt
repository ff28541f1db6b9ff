use Rattle.std.proofs.Common.{◌≡◌, ◌++◌}
use Rattle.std.specs.Map.{keys_of}
use Rattle.hx_store.proofs.key_marks.serials_of_map.Given as goal

abbrev pub invariant-loop-serial : goal.invariant-loop-serial
invariant-loop-serial l = l.list ++ keys_of l.serial-iterator ≡ keys_of l.marks.entries
