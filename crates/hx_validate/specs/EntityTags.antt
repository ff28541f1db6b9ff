-- Entity tags, and when two are equal (RFC 9110, sections 8.8.3 and 8.8.3.2).
--
-- entity_tag_of: the entity tag that a value is, if it is one
-- strong_eq, weak_eq: of two values, which are unequal where one is no entity tag
use Rattle.std.specs.Prelude.{ℕ, nat_le, ◌-◌, ◌==◌, if◌then◌else◌, Bool, true, false, not, ◌&&◌, ◌||◌, List, length}
use Rattle.std.specs.Prelude.{take, drop, slice_index, slice_range, bytes_eq, codes, Option, Some, None, option_map}
use Rattle.std.specs.List.{list_all}

-- etagc = %x21 / %x23-7E / obs-text
abbrev pub is_tag_byte : ℕ → Bool
is_tag_byte b = (b == 33) || (nat_le 35 b && nat_le b 126) || (nat_le 128 b && nat_le b 255)

-- what stands between the first byte and the last
abbrev pub without_first_and_last : List ℕ → List ℕ
without_first_and_last text = slice_range text 1 (length text - 1)

-- opaque-tag = DQUOTE *etagc DQUOTE
abbrev pub is_opaque_tag : List ℕ → Bool
is_opaque_tag text =
    nat_le 2 (length text) && (slice_index text 0 == 34) && (slice_index text (length text - 1) == 34)
    && list_all is_tag_byte (without_first_and_last text)

-- the opaque part, which is what is compared
abbrev pub opaque_tag_of : List ℕ → Option (List ℕ)
opaque_tag_of text = if is_opaque_tag text then Some (without_first_and_last text) else None

-- an entity tag: whether it is weak, and its opaque part
pub record EntityTagParts : Type 0 where
  pub weak : Bool
  pub opaque : List ℕ

abbrev pub tagged : Bool → List ℕ → EntityTagParts
tagged weak opaque = record { weak = weak; opaque = opaque }

-- entity-tag = [ weak ] opaque-tag; weak = %s"W/"
abbrev pub entity_tag_of : List ℕ → Option EntityTagParts
entity_tag_of text =
    if bytes_eq (take 2 text) (codes "W/") then option_map (tagged true) (opaque_tag_of (drop 2 text))
    else option_map (tagged false) (opaque_tag_of text)

-- neither is weak, and their opaque parts are equal
abbrev pub are_strongly_equal : EntityTagParts → EntityTagParts → Bool
are_strongly_equal a b = not a.weak && not b.weak && bytes_eq a.opaque b.opaque

-- their opaque parts are equal, whether either is weak or not
abbrev pub are_weakly_equal : EntityTagParts → EntityTagParts → Bool
are_weakly_equal a b = bytes_eq a.opaque b.opaque

-- both are entity tags, and they compare so
abbrev pub both_are_tags_that_compare : (EntityTagParts → EntityTagParts → Bool) → Option EntityTagParts
    → Option EntityTagParts
    → Bool
both_are_tags_that_compare compares (Some a) (Some b) = compares a b
both_are_tags_that_compare compares (Some a) None = false
both_are_tags_that_compare compares None b = false

abbrev pub strong_eq : List ℕ → List ℕ → Bool
strong_eq a b = both_are_tags_that_compare are_strongly_equal (entity_tag_of a) (entity_tag_of b)

abbrev pub weak_eq : List ℕ → List ℕ → Bool
weak_eq a b = both_are_tags_that_compare are_weakly_equal (entity_tag_of a) (entity_tag_of b)
