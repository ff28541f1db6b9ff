-- Parts of targets for worked examples.
use Rattle.std.specs.Prelude.{ℕ, List, [], ◌∷◌, ◌++◌, codes, Some, None}
use Rattle.hx_target.specs.Judgement.{TargetParts}

-- a target in origin form, and one Host line
abbrev pub target_in_origin_form : List ℕ → List ℕ → TargetParts
target_in_origin_form target host =
    record { target = target; scheme = None; authority = None; kept = target; hosts = host ∷ [] }

-- a target `scheme://authority` with this path and query, and one Host line
abbrev pub target_in_absolute_form : List ℕ → List ℕ → List ℕ → List ℕ → TargetParts
target_in_absolute_form scheme authority kept host =
    record {
      target = scheme ++ codes "://" ++ authority ++ kept;
      scheme = Some scheme;
      authority = Some authority;
      kept = kept;
      hosts = host ∷ [];
    }

-- a target of a slash and this text, with this path
abbrev pub target_of_slash_and_text : List ℕ → List ℕ → TargetParts
target_of_slash_and_text text path = record (target_in_origin_form path (codes "h")) { target = 47 ∷ text }
