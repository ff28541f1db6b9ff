-- What the lines of a head are, of its bytes alone (RFC 9112, sections 2.1, 2.2 and 5).
use Rattle.std.specs.Prelude.{◌≡◌, ℕ, ◌++◌, ◌&&◌, ◌||◌, ◌==◌, not, Bool, true, List, [], ◌∷◌, length, map, drop, nat_lt}
use Rattle.std.specs.Prelude.{bytes_eq}
use Rattle.std.specs.List.{list_all, before_first, position_or_len, slice_split}
use Rattle.hx_fields.specs.Line.{Field}
use Rattle.hx_fields.specs.Tokens.{is_token}
use Rattle.hx_framing.specs.HeadEnd.{empty_lines_length}
use Rattle.hx_framing.specs.Version.{without_trailing_cr}

abbrev pub is_colon : ℕ → Bool
is_colon b = b == 58

-- CR or LF
abbrev pub is_line_end : ℕ → Bool
is_line_end b = b == 13 || b == 10

-- the lines behind the start line, each without its LF, and what stands behind the last LF
abbrev pub lines_behind_start_line : List ℕ → List (List ℕ)
lines_behind_start_line bytes = drop 1 (slice_split (λ b. b == 10) (drop (empty_lines_length bytes) bytes))

-- what stands before the first colon of a line
abbrev pub name_before_colon : List ℕ → List ℕ
name_before_colon line = before_first is_colon line

-- field-line = field-name ":" OWS field-value OWS (RFC 9112, section 5): a token stands before the first colon,
-- and no CR or LF but those of its end; so a folded line is none, nor one with a space before its colon
abbrev pub is_field_line : List ℕ → Bool
is_field_line line =
    is_token (name_before_colon line) && nat_lt (position_or_len is_colon line) (length line)
    && list_all (λ b. not (is_line_end b)) (without_trailing_cr line)

abbrev pub is_empty_line : List ℕ → Bool
is_empty_line line = bytes_eq (without_trailing_cr line) []

-- behind the start line stand the field lines, in order, and an empty line that ends the head
pub record HeadHasFieldLinesOfNames (bytes : List ℕ) (fields : List Field) : Type 0 where
  pub lines : List (List ℕ)
  pub last : List ℕ
  pub are : lines_behind_start_line bytes ≡ lines ++ last ∷ [] ∷ []
  pub ends : is_empty_line last ≡ true
  pub each : list_all is_field_line lines ≡ true
  pub names : map name_before_colon lines ≡ map (λ (f : Field). f.name) fields

-- a name is a token, and a value stands on one line
abbrev pub is_wellformed_field : Field → Bool
is_wellformed_field f = is_token f.name && list_all (λ b. not (is_line_end b)) f.value
