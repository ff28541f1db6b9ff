use Rattle.std.proofs.Common.{◌≡◌, length}
use Rattle.std.specs.List.{list_any}
use Rattle.hx_target.specs.Paths.{segments, is_dot_segment}
use Rattle.hx_target.proofs.paths.has_dot_segment.Given as goal

abbrev pub invariant-segments : goal.invariant-segments
invariant-segments l = list_any is_dot_segment (segments l.rest) ≡ list_any is_dot_segment (segments l.fn.path)

abbrev pub decreases-segments : goal.decreases-segments
decreases-segments l = length l.rest
