-- Names of lines and `close`, and which of them members of Connection give, by folded names.
use Rattle.std.specs.Prelude.{◌≡◌, ℕ, nat_lt, Bool, true, false, not, ◌||◌, ◌&&◌, if◌then◌else◌, List, length, codes}
use Rattle.std.specs.Prelude.{bytes_eq, slice_index_or, Option, Some, None}
use Rattle.std.specs.List.{list_any}
use Rattle.std.specs.BTreeMap.{BTreeMap, get}
use Rattle.hx_fields.specs.FirstBytes.{first_byte}
use Rattle.hx_fields.specs.Folded.{folded, folded_names_cmp}
use Rattle.hx_fields.specs.NameBuckets.{bucket_of_name}
use Rattle.hx_fields.specs.FieldLines.{line_count_of_name, is_named, members_of}
use Rattle.hx_fields.specs.Names.{members_of_value}
use Rattle.hx_fields.specs.Line.{Field}
use Rattle.hx_hop.specs.declared.named_lines.NamePrefilter.{NamePrefilter}

-- Connection has several lines, or a long one
abbrev pub connection_has_many_members : List Field → Bool
connection_has_many_members fields =
    nat_lt 1 (line_count_of_name fields (codes "Connection"))
    || list_any (λ (line : Field). nat_lt 64 (length line.value) && is_named (codes "Connection") line) fields

-- a line has this folded name
abbrev pub name_is_present : List Field → List ℕ → Bool
name_is_present lines q = list_any (λ (line : Field). bytes_eq (folded line.name) q) lines

-- what is looked for among the members: the names of lines, and `close` (RFC 9110, section 7.6.1)
abbrev pub is_line_name_or_close : List Field → List ℕ → Bool
is_line_name_or_close lines q = name_is_present lines q || bytes_eq (folded (codes "close")) q

-- one of these is this folded name
abbrev pub members_have_folded_name : List (List ℕ) → List ℕ → Bool
members_have_folded_name members q = list_any (λ member. bytes_eq (folded member) q) members

abbrev pub value_lists_folded_name : List ℕ → List ℕ → Bool
value_lists_folded_name value q = members_have_folded_name (members_of_value value) q

abbrev pub connection_has_folded_option : List Field → List ℕ → Bool
connection_has_folded_option fields q = members_have_folded_name (members_of fields (codes "Connection")) q

-- what is looked for, none of it marked
abbrev pub AllSoughtNamesAreUnmarked : List Field → BTreeMap (List ℕ) Bool → Type 0
AllSoughtNamesAreUnmarked fields names = (q : List ℕ) → get folded_names_cmp names q ≡
    (if is_line_name_or_close fields q then Some false else None)

-- a name that is there is marked where it was, or is marked now
abbrev pub mark_after_naming : Bool → Option Bool → Option Bool
mark_after_naming now None = None
mark_after_naming now (Some before) = Some (before || now)

abbrev pub NamesThatPassAreMarked : (List ℕ → Bool) → BTreeMap (List ℕ) Bool → BTreeMap (List ℕ) Bool → Type 0
NamesThatPassAreMarked marks old new = (q : List ℕ) → get folded_names_cmp new q ≡ mark_after_naming (marks q)
    (get folded_names_cmp old q)

abbrev pub is_present_and_unmarked : Option Bool → Bool
is_present_and_unmarked None = false
is_present_and_unmarked (Some marked) = not marked

abbrev pub is_present_and_marked : Option Bool → Bool
is_present_and_marked None = false
is_present_and_marked (Some marked) = marked

-- Which texts show that they may be one of some names: two of one name have one place, and the place of each is
-- taken. Two of the names have one place only where it is shared.
pub record PlacesOfNamesAreTaken (place : List ℕ → ℕ) (names : List ℕ → Bool) (taken shared : List Bool) : Type 0 where
  pub shown : (text : List ℕ) → names (folded text) ≡ true → slice_index_or taken (place text) false ≡ true
  pub alone : (a b : List ℕ) → names (folded a) ≡ true → names (folded b) ≡ true → place a ≡ place b
      → slice_index_or shared (place a) false ≡ false → folded a ≡ folded b

-- by their first bytes, and by their buckets
pub record IsPrefilterOfNames (names : List ℕ → Bool) (signs : NamePrefilter) : Type 0 where
  pub firsts : PlacesOfNamesAreTaken first_byte names signs.firsts.taken signs.firsts.shared
  pub buckets : PlacesOfNamesAreTaken bucket_of_name names signs.buckets.taken signs.buckets.shared

-- the names that are there and not marked show them
abbrev pub PrefilterPassesUnmarkedNames : NamePrefilter → BTreeMap (List ℕ) Bool → Type 0
PrefilterPassesUnmarkedNames signs names =
    IsPrefilterOfNames (λ q. is_present_and_unmarked (get folded_names_cmp names q)) signs
