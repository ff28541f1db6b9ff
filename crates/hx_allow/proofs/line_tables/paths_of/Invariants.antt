use Rattle.std.proofs.Common.{◌≡◌, ◌++◌, drop}
use Rattle.std.specs.Prelude.{map}
use Rattle.hx_target.specs.Paths.{table_path_of}
use Rattle.hx_allow.proofs.line_tables.paths_of.Given as goal

abbrev pub invariant-loop-text : goal.invariant-loop-text
invariant-loop-text l = l.paths.items ++ map table_path_of (drop l.text-index l.texts) ≡ map table_path_of l.texts
