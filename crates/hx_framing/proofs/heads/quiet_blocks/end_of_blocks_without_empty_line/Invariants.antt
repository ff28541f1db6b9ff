use Rattle.std.proofs.Common.{◌≡◌, ◌≤◌, ◌-◌, drop, length}
use Rattle.hx_framing.specs.HeadEnd.{head_end_from}
use Rattle.hx_framing.proofs.heads.quiet_blocks.end_of_blocks_without_empty_line.Given as goal

abbrev pub invariant-loop-at : goal.invariant-loop-at
invariant-loop-at l = record {
  within : l.at ≤ length l.bytes;
  rest : head_end_from l.at (drop l.at l.bytes) ≡ head_end_from l.from (drop l.from l.bytes);
}

abbrev pub decreases-loop-at : goal.decreases-loop-at
decreases-loop-at l = length l.bytes - l.at
