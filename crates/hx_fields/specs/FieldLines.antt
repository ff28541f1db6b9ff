-- What a list of field lines says of a name (RFC 9110, sections 5.2, 5.3 and 5.6.1).
--
-- is_named: a line is of a name            has_field: some line is
-- values_of: the values, in order          line_count_of_name: how many lines there are
-- only_value: the value where there is one line
-- combined_of: as one value                members_of: as one list
-- without_named: the other lines
use Rattle.std.specs.Prelude.{ℕ, Bool, not, List, [], ◌∷◌, map, filter, length, Option, Some, None}
use Rattle.std.specs.List.{list_any}
use Rattle.hx_fields.specs.Line.{Field}
use Rattle.hx_fields.specs.Names.{is_same_name, joined, members_of_value, joined_lists}

-- a line of this name
abbrev pub is_named : List ℕ → Field → Bool
is_named name field = is_same_name field.name name

-- a line of this name stands
abbrev pub has_field : List Field → List ℕ → Bool
has_field fields name = list_any (is_named name) fields

-- the values of the lines of a name, in order
abbrev pub values_of : List Field → List ℕ → List (List ℕ)
values_of fields name = map (λ (f : Field). f.value) (filter (is_named name) fields)

-- how many lines a name has
abbrev pub line_count_of_name : List Field → List ℕ → ℕ
line_count_of_name fields name = length (values_of fields name)

-- the value of a name that has one line
abbrev pub value_if_only_one : List (List ℕ) → Option (List ℕ)
value_if_only_one [] = None
value_if_only_one (value ∷ []) = Some value
value_if_only_one (value ∷ other ∷ more) = None

abbrev pub only_value : List Field → List ℕ → Option (List ℕ)
only_value fields name = value_if_only_one (values_of fields name)

-- the combined value of a name, or none where no line has it (RFC 9110, section 5.3)
abbrev pub combined_of : List Field → List ℕ → Option (List ℕ)
combined_of fields name = joined (values_of fields name)

-- the members of a name
-- own: each of its lines is cut by itself, so that a quote left open ends with its line
abbrev pub members_of : List Field → List ℕ → List (List ℕ)
members_of fields name = joined_lists (map members_of_value (values_of fields name))

-- the lines that aren't of this name
abbrev pub without_named : List Field → List ℕ → List Field
without_named fields name = filter (λ f. not (is_named name f)) fields
