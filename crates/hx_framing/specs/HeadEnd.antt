-- Where the head of a message ends, of bytes alone (RFC 9112, section 2.2).
-- A byte past the end reads as 0, which no test here wants.
--
-- empty_lines_length: the empty lines in front    head_length: they and a head, with the empty line that ends it
use Rattle.std.specs.Prelude.{◌≡◌, ℕ, ◌+◌, ◌≤◌, ◌&&◌, cond, List, [], ◌∷◌, ◌==◌, Option, Some, None, length, drop}
use Rattle.std.specs.Prelude.{slice_index}

-- how many bytes the empty line at the front takes: CRLF or LF, or 0 where there is none
abbrev pub leading_empty_line_length : List ℕ → ℕ
leading_empty_line_length bytes =
    cond (slice_index bytes 0 == 10) 1 (cond (slice_index bytes 0 == 13 && (slice_index bytes 1 == 10)) 2 0)

-- how many bytes a line end and an empty line behind it take: LF LF or LF CR LF, or 0
-- own: a line may end by LF alone
abbrev pub head_end_size_at_front : List ℕ → ℕ
head_end_size_at_front bytes =
    cond (slice_index bytes 0 == 10 && (slice_index bytes 1 == 10)) 2
    (cond (slice_index bytes 0 == 10 && (slice_index bytes 1 == 13) && (slice_index bytes 2 == 10)) 3 0)

-- where the first empty line ends, counted from at
abbrev pub head_end_from : ℕ → List ℕ → Option ℕ
head_end_from at [] = None
head_end_from at (b ∷ bytes) =
    cond (head_end_size_at_front (b ∷ bytes) == 0) (head_end_from (at + 1) bytes)
    (Some (at + head_end_size_at_front (b ∷ bytes)))

-- where the empty lines in front end, counted from at
abbrev pub empty_lines_end_from : ℕ → List ℕ → ℕ
empty_lines_end_from at [] = at
empty_lines_end_from at (b ∷ []) = cond (b == 10) (at + 1) at
empty_lines_end_from at (b ∷ c ∷ bytes) =
    cond (b == 10) (empty_lines_end_from (at + 1) (c ∷ bytes))
    (cond (b == 13 && (c == 10)) (empty_lines_end_from (at + 2) bytes) at)

-- how many bytes the empty lines in front take
abbrev pub empty_lines_length : List ℕ → ℕ
empty_lines_length bytes = empty_lines_end_from 0 bytes

-- how many bytes a head takes, the empty lines in front and the one that ends it included
abbrev pub head_length : List ℕ → Option ℕ
head_length bytes = head_end_from (empty_lines_length bytes) (drop (empty_lines_length bytes) bytes)

-- own: a longer head is refused
abbrev pub most_head_bytes : ℕ
most_head_bytes = 32768

-- no head ends in the bytes, and one may still end within the limit
pub record IsUnfinishedHead (bytes : List ℕ) : Type 0 where
  pub none : head_length bytes ≡ None
  pub bounded : length bytes ≤ most_head_bytes

-- own: a head of more field lines is refused
abbrev pub most_field_lines : ℕ
most_field_lines = 100
