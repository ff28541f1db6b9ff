use Rattle.std.specs.Prelude.{◌≡◌, ◌-◌, ◌^◌, min, take}
use Rattle.hx_store.specs.Weights.{weight_of_lines}
use Rattle.hx_store.proofs.weights.weight_of_lines.Given as goal

abbrev pub invariant-loop-line : goal.invariant-loop-line
invariant-loop-line l = l.weight ≡ min (weight_of_lines (take l.line-index l.lines)) (2 ^ 64 - 1)
