use Rattle.std.proofs.Common.{◌≡◌, ◌≤◌, ◌+◌, ◌-◌, length, drop}
use Rattle.std.specs.Prelude.{slice_range}
use Rattle.hx_fields.proofs.Pieces.{all_in_front}
use Rattle.hx_allow.specs.Via.{via_members_of_line, times_in_via_line, number_of_enclosing_comments}
use Rattle.hx_allow.proofs.ViaPieces.{naming}
use Rattle.hx_allow.proofs.via.times_in_via_line.Given as goal

abbrev pub invariant-loop-i : goal.invariant-loop-i
invariant-loop-i l = record {
  within : l.i ≤ length l.value;
  begun : l.start ≤ l.i;
  few : l.found ≤ l.start;
  shallow : number_of_enclosing_comments l.place ≤ l.i;
  times : l.found + naming l.name (all_in_front (slice_range l.value l.start l.i) (via_members_of_line l.place (drop l.i l.value))) ≡ times_in_via_line l.name l.value;
}

abbrev pub decreases-loop-i : goal.decreases-loop-i
decreases-loop-i l = length l.value - l.i
