use Rattle.std.proofs.Common.{◌≡◌, ◌+◌, drop}
use Rattle.std.specs.List.{position_from}
use Rattle.hx_allow.specs.NeverReached.{line_covers_line}
use Rattle.hx_allow.proofs.shadows.first_line_covering_later_line.Given as goal

abbrev pub invariant-loop-first : goal.invariant-loop-first
invariant-loop-first l = record {
  number : l.number ≡ l.first-index + 1;
  left : position_from (λ first. line_covers_line first l.later) (l.first-index + 1) (drop l.first-index l.front) ≡ position_from (λ first. line_covers_line first l.later) 1 l.front;
}
