use Rattle.std.specs.Prelude.{◌≡◌, ◌-◌, ◌^◌, min, take}
use Rattle.hx_store.specs.Weights.{weight_of_nominated}
use Rattle.hx_store.proofs.weights.weight_of_nominated.Given as goal

abbrev pub invariant-loop-kept : goal.invariant-loop-kept
invariant-loop-kept l = l.weight ≡ min (weight_of_nominated (take l.kept-index l.values)) (2 ^ 64 - 1)
