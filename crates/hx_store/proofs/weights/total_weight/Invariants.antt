use Rattle.std.specs.Prelude.{◌≡◌, ◌-◌, ◌^◌, min, take}
use Rattle.hx_store.specs.Weights.{total_weight}
use Rattle.hx_store.proofs.weights.total_weight.Given as goal

abbrev pub invariant-loop-entry : goal.invariant-loop-entry
invariant-loop-entry l = l.weight ≡ min (total_weight (take l.entry-index l.entries)) (2 ^ 64 - 1)
