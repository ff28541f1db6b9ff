use Rattle.std.proofs.Common.{◌≡◌, ◌≤◌, ◌-◌, drop, length}
use Rattle.hx_framing.specs.HeadEnd.{head_end_from}
use Rattle.hx_framing.proofs.heads.head_end.head_end_from.Given as goal

abbrev pub invariant-loop-skipped : goal.invariant-loop-skipped
invariant-loop-skipped l = record {
  within : l.at ≤ length l.bytes;
  rest : head_end_from l.at (drop l.at l.bytes) ≡ head_end_from l.from (drop l.from l.bytes);
}

abbrev pub decreases-loop-skipped : goal.decreases-loop-skipped
decreases-loop-skipped l = length l.bytes - l.at
