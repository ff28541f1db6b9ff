-- Joining values one by one.
use Rattle.std.proofs.Common.{ℕ, Bool, true, false, List, ◌++◌, map}
use Rattle.std.specs.Prelude.{Option, Some, codes}
use Rattle.std.specs.List.{concat}
use Rattle.hx_fields.specs.Names.{joined}

-- the values after a text, if there is one
abbrev pub joined_after : Bool → List ℕ → List (List ℕ) → Option (List ℕ)
joined_after false text vs = joined vs
joined_after true text vs = Some (text ++ concat (map (λ w. codes ", " ++ w) vs))
