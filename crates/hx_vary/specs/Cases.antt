-- The messages that the laws of worked cases speak of.
use Rattle.std.specs.Prelude.{ℕ, zero, suc, List, [], ◌∷◌, ◌++◌, codes}
use Rattle.hx_fields.specs.Line.{Field}
use Rattle.hx_fields.specs.Examples.{line}
use Rattle.hx_vary.specs.declared.nominated_values.NominatedValue.{NominatedValue}
use Rattle.hx_vary.specs.Vary.{nominated_values_of}

-- a response with one Vary line
abbrev pub vary_fields : List ℕ → List Field
vary_fields value = line (codes "Vary") value ∷ []

-- so many members, each of the same name
abbrev pub value_of_repeated_members : ℕ → List ℕ
value_of_repeated_members zero = []
value_of_repeated_members (suc n) = codes "a," ++ value_of_repeated_members n

-- a line of the field that the cases nominate
abbrev pub accept_language_line : List ℕ → Field
accept_language_line value = line (codes "Accept-Language") value

-- what a response that nominates this field keeps of a request
abbrev pub nominated_values_for_language : List Field → List NominatedValue
nominated_values_for_language request = nominated_values_of (vary_fields (codes "accept-language")) request
