use Rattle.std.proofs.Common.{◌≡◌, ◌++◌}
use Rattle.std.specs.HashSet.{contains}
use Rattle.std.specs.Prelude.{nat_eq}
use Rattle.hx_store.specs.Index.{serials_that_may_match}
use Rattle.hx_store.proofs.key_marks.possible_matches_of.Given as goal

abbrev pub invariant-loop-serial : goal.invariant-loop-serial
invariant-loop-serial l = l.list ++ serials_that_may_match (contains nat_eq l.asked.tags) l.serial-iterator ≡ serials_that_may_match (contains nat_eq l.asked.tags) l.marks.entries
