use Rattle.std.proofs.Common.{◌≡◌, ◌++◌, take}
use Rattle.std.specs.List.{flat_map}
use Rattle.proxy_store_file.specs.Heads.{nominated_value_spelling}
use Rattle.proxy_store_file.proofs.head_writing.push_nominated_values.Given as goal

abbrev pub invariant-loop-kept : goal.invariant-loop-kept
invariant-loop-kept l = l.out.items ≡ l.fn.out.items ++ flat_map nominated_value_spelling (take l.kept-index l.values)
