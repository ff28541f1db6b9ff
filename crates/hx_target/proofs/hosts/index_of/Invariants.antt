use Rattle.std.proofs.Common.{◌≡◌, ◌≤◌, ◌+◌, ◌-◌, length, drop}
use Rattle.http_uri.specs.ByteClasses.{index_of}
use Rattle.hx_target.proofs.hosts.index_of.Given as goal

abbrev pub invariant-loop-i : goal.invariant-loop-i
invariant-loop-i l = record {
  within : l.i ≤ length l.text;
  so_far : l.i + index_of l.byte (drop l.i l.text) ≡ index_of l.byte l.text;
}

abbrev pub decreases-loop-i : goal.decreases-loop-i
decreases-loop-i l = length l.text - l.i
