use Rattle.std.proofs.Common.{◌≡◌, take, drop}
use Rattle.hx_target.specs.Paths.{segments}
use Rattle.hx_target.proofs.Segments.{all_in_front}
use Rattle.hx_target.proofs.paths.cut_segment.Given as goal

abbrev pub invariant-loop-i : goal.invariant-loop-i
invariant-loop-i l = segments l.path ≡ all_in_front (take l.i l.path) (segments (drop l.i l.path))
