use Rattle.std.proofs.Common.{◌≡◌, ◌++◌, drop}
use Rattle.hx_vary.proofs.field_names.FieldNames.copy_of.Given as goal

abbrev pub invariant-loop-name : goal.invariant-loop-name
invariant-loop-name l = l.copied.items ++ drop l.name-index l.names ≡ l.names
