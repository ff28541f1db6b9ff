-- The length that Content-Length lines tell (RFC 9110, section 8.6, and RFC 9112, section 6.3).
--
-- listed_lengths: what the lines list
-- number_spelled_by_all: the number that texts of digits are
-- announced_length: the length
-- announced_length_up_to_or_fault, announced_length_within: the length within a limit
-- without_leading_zeros, is_text_of_same_number: a number compared by its digits, so that it may have any size
use Rattle.std.specs.Prelude.{ℕ, ◌&&◌, Bool, cond, List, [], ◌∷◌, map, drop, bytes_eq, Option, Some, None, Result, Ok}
use Rattle.std.specs.Prelude.{Err, nat_le, ◌==◌, codes}
use Rattle.std.specs.List.{list_all, prefix_len, slice_split}
use Rattle.std.specs.Char.{is_ascii_digit}
use Rattle.std.specs.Str.Parse.{digits_value}
use Rattle.hx_fields.specs.Line.{Field}
use Rattle.hx_fields.specs.Names.{comma, is_nonempty, joined_lists}
use Rattle.hx_fields.specs.FieldLines.{values_of}
use Rattle.hx_framing.specs.declared.frame_fault.FrameFault.{FrameFault}
use Rattle.hx_framing.specs.declared.frame_fault.FrameFault.TheVariants as fault

abbrev pub content_length_name : List ℕ
content_length_name = codes "content-length"

-- what stands between the commas of a text
-- own: spaces and tabs beside a comma stay
abbrev pub texts_between_commas : List ℕ → List (List ℕ)
texts_between_commas text = slice_split (λ b. b == comma) text

-- what the Content-Length lines list
abbrev pub listed_lengths : List Field → List (List ℕ)
listed_lengths fields = joined_lists (map texts_between_commas (values_of fields content_length_name))

-- Content-Length = 1*DIGIT (RFC 9110, section 8.6)
abbrev pub is_digits : List ℕ → Bool
is_digits text = is_nonempty text && list_all is_ascii_digit text

-- the text is this number
abbrev pub is_text_of_number : ℕ → List ℕ → Bool
is_text_of_number n text = digits_value 10 text == n

-- the number that all the texts are, if they are digits and one number
abbrev pub number_spelled_by_all : List (List ℕ) → Option ℕ
number_spelled_by_all [] = None
number_spelled_by_all (text ∷ texts) =
    cond (list_all is_digits (text ∷ texts) && list_all (is_text_of_number (digits_value 10 text)) texts)
    (Some (digits_value 10 text)) None

-- the length that the lines tell: one number, however often it is listed, counts as this number (RFC 9112, section 6.3)
abbrev pub announced_length : List Field → Option ℕ
announced_length fields = number_spelled_by_all (listed_lengths fields)

-- the length, if one is told and it is at most so much
abbrev pub announced_length_up_to_or_fault : ℕ → Option ℕ → Result ℕ FrameFault
announced_length_up_to_or_fault most None = Err fault.Length
announced_length_up_to_or_fault most (Some n) = cond (nat_le n most) (Ok n) (Err fault.TooLarge)

abbrev pub announced_length_within : ℕ → Option ℕ → Option ℕ
announced_length_within most None = None
announced_length_within most (Some n) = cond (nat_le n most) (Some n) None

-- a text without the zeros in front
abbrev pub without_leading_zeros : List ℕ → List ℕ
without_leading_zeros text = drop (prefix_len (λ b. b == 48) text) text

-- the text is the number of these digits, of which the first isn't 0
abbrev pub is_text_of_same_number : List ℕ → List ℕ → Bool
is_text_of_same_number digits text = is_digits text && bytes_eq (without_leading_zeros text) digits
