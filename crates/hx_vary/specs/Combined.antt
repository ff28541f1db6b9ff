-- The combined value of each name of a request, by folded names.
--
-- value_of_folded_name: the value at a name                       value_combined_with_line: a value with that of a
-- further line
-- MapHasEachCombinedValue: it is that of the request, at each name
-- EachValueHasItsTag: each value has its tag in a set
-- values_match_all_nominated: each value that is kept is the one at its name
use Rattle.std.specs.Prelude.{◌≡◌, ℕ, Bool, true, List, ◌++◌, codes, Option, None, Some}
use Rattle.std.specs.List.{list_all}
use Rattle.std.specs.BTreeMap.{BTreeMap, get}
use Rattle.hx_fields.specs.Folded.{folded, folded_names_cmp}
use Rattle.hx_fields.specs.FieldLines.{combined_of}
use Rattle.hx_fields.specs.Line.{Field}
use Rattle.hx_vary.specs.declared.nominated_values.NominatedValue.{NominatedValue}
use Rattle.hx_vary.specs.Marks.{value_tag}
use Rattle.hx_vary.specs.Vary.{is_same_value}

abbrev pub value_of_folded_name : BTreeMap (List ℕ) (List ℕ) → List ℕ → Option (List ℕ)
value_of_folded_name values name = get folded_names_cmp values (folded name)

abbrev pub MapHasEachCombinedValue : List Field → BTreeMap (List ℕ) (List ℕ) → Type 0
MapHasEachCombinedValue request values = (name : List ℕ) → value_of_folded_name values name ≡ combined_of request name

-- the combined value of a name, if it had one, with that of a further line (RFC 9110, section 5.3)
abbrev pub value_combined_with_line : Option (List ℕ) → List ℕ → List ℕ
value_combined_with_line None value = value
value_combined_with_line (Some before) value = (before ++ codes ", ") ++ value

-- each of these values has its tag among those of a set
abbrev pub EachValueHasItsTag : ℕ → BTreeMap (List ℕ) (List ℕ) → (ℕ → Bool) → Type 0
EachValueHasItsTag seed values has =
    (name value : List ℕ) → get folded_names_cmp values name ≡ Some value → has (value_tag seed value) ≡ true

abbrev pub values_match_all_nominated : BTreeMap (List ℕ) (List ℕ) → List NominatedValue → Bool
values_match_all_nominated values kept = list_all (λ k. is_same_value k.value (value_of_folded_name values k.name)) kept
