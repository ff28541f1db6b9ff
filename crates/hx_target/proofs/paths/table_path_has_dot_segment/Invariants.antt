use Rattle.std.proofs.Common.{◌≡◌, length}
use Rattle.std.specs.List.{list_any}
use Rattle.hx_target.specs.Paths.{segments, is_dot_segment, has_dot_segment, table_path_of}
use Rattle.hx_target.proofs.paths.table_path_has_dot_segment.Given as goal

abbrev pub invariant-segments : goal.invariant-segments
invariant-segments l = list_any (λ s. is_dot_segment (table_path_of s)) (segments l.rest) ≡ has_dot_segment (table_path_of l.fn.path)

abbrev pub decreases-segments : goal.decreases-segments
decreases-segments l = length l.rest
