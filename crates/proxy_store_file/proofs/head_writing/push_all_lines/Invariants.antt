use Rattle.std.proofs.Common.{◌≡◌, ◌++◌, take}
use Rattle.std.specs.List.{flat_map}
use Rattle.proxy_store_file.specs.Heads.{line_spelling}
use Rattle.proxy_store_file.proofs.head_writing.push_all_lines.Given as goal

abbrev pub invariant-loop-line : goal.invariant-loop-line
invariant-loop-line l = l.out.items ≡ l.fn.out.items ++ flat_map line_spelling (take l.line-index l.lines)
