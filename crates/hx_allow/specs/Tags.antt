-- The tags that a response names, and the one that a request to purge asks for.
--
-- cache_tags_of, response_names_tag: of a response          is_cache_tag, purge_tag_of_request, purge_tag_or_none: of a
-- request
-- comparisons_left_unless_found, comparisons_left_behind_fields: how many more may be looked at
use Rattle.std.specs.Prelude.{ℕ, ◌==◌, ◌-◌, nat_lt, Bool, true, not, ◌&&◌, ◌||◌, List, [], ◌∷◌, length, codes, bytes_eq}
use Rattle.std.specs.Prelude.{Option, Some, None, unwrap_or, if◌then◌else◌}
use Rattle.std.specs.List.{list_any, list_all}
use Rattle.std.specs.Option.{option_and_then}
use Rattle.hx_fields.specs.Line.{Field}
use Rattle.hx_fields.specs.FieldLines.{is_named, values_of, members_of}
use Rattle.hx_fields.specs.Names.{is_blank, comma, members_of_value}

-- the members of all lines of Cache-Tag (RFC 9110, section 5.6.1)
abbrev pub cache_tags_of : List Field → List (List ℕ)
cache_tags_of fields = members_of fields (codes "Cache-Tag")

-- own: at most 64 are looked at; a response that has more counts as one that names each tag, so that none stays that
-- should go ("A purge has a key")
abbrev pub most_tags_compared : ℕ
most_tags_compared = 64

-- own: tags compare byte for byte
abbrev pub response_names_tag : List ℕ → List Field → Bool
response_names_tag tag fields =
    nat_lt most_tags_compared (length (cache_tags_of fields)) || list_any (λ member. bytes_eq tag member)
    (cache_tags_of fields)

-- a response is one of those that a purge with this tag, or with none, is for
abbrev pub is_purged_by_tag_if_any : Option (List ℕ) → List Field → Bool
is_purged_by_tag_if_any None fields = true
is_purged_by_tag_if_any (Some tag) fields = response_names_tag tag fields

-- ---- what is asked for

-- own: a text without comma and blank, which isn't empty ("A purge has a key")
abbrev pub is_cache_tag : List ℕ → Bool
is_cache_tag text = nat_lt 0 (length text) && list_all (λ b. not (is_blank b || (b == comma))) text

-- with two lines, or with what is no tag, none is asked for that is known here
abbrev pub purge_tag_of_values : List (List ℕ) → Option (Option (List ℕ))
purge_tag_of_values [] = Some None
purge_tag_of_values (value ∷ []) = if is_cache_tag value then Some (Some value) else None
purge_tag_of_values (value ∷ other ∷ more) = None

abbrev pub purge_tag_of_request : List Field → Option (Option (List ℕ))
purge_tag_of_request fields = purge_tag_of_values (values_of fields (codes "Purge-Tag"))

-- the tag that a request to purge asks for
abbrev pub purge_tag_or_none : List Field → Option (List ℕ)
purge_tag_or_none fields = unwrap_or (purge_tag_of_request fields) None

-- ---- one member after the other

-- how many more may be looked at behind these, unless one of them is the tag or they are too many
abbrev pub comparisons_left_unless_found : List ℕ → ℕ → List (List ℕ) → Option ℕ
comparisons_left_unless_found tag left [] = Some left
comparisons_left_unless_found tag left (member ∷ members) =
    if (left == 0) || bytes_eq tag member then None else comparisons_left_unless_found tag (left - 1) members

-- the same of lines
abbrev pub comparisons_left_behind_fields : List ℕ → ℕ → List Field → Option ℕ
comparisons_left_behind_fields tag left [] = Some left
comparisons_left_behind_fields tag left (field ∷ fields) =
    if is_named (codes "Cache-Tag") field
    then option_and_then (λ still. comparisons_left_behind_fields tag still fields)
    (comparisons_left_unless_found tag left
    (members_of_value field.value))
    else comparisons_left_behind_fields tag left fields
