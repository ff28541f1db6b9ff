-- Numbers and texts as the file of a store has them.
--
-- number_spelling, text_spelling: how they are spelled       number_of, is_number: what eight bytes say
-- cut: so many bytes, and the rest      after: what is read behind something that was read
-- leading_number, leading_text: what stands at the front of bytes, and the rest
use Rattle.std.specs.Prelude.{ℕ, ◌==◌, nat_le, Bool, ◌&&◌, if◌then◌else◌, List, ◌++◌, length, take, drop, bytes_eq}
use Rattle.std.specs.Prelude.{Option, None, Some}
use Rattle.std.specs.Int.{w64, to_be_bytes, from_be_bytes}

-- eight bytes, the highest first
unfoldable pub number_spelling : ℕ → List ℕ
number_spelling n = to_be_bytes w64 n

-- its length in front
abbrev pub text_spelling : List ℕ → List ℕ
text_spelling text = number_spelling (length text) ++ text

-- the number that eight bytes spell
unfoldable pub number_of : List ℕ → ℕ
number_of bytes = from_be_bytes w64 bytes

-- they do spell it, as any eight bytes do
unfoldable pub is_number : List ℕ → Bool
is_number bytes = (length bytes == 8) && bytes_eq (number_spelling (number_of bytes)) bytes

-- the first bytes, so many, and the rest
abbrev pub cut : ℕ → List ℕ → Option (List ℕ × List ℕ)
cut n bytes = if nat_le n (length bytes) then Some (take n bytes, drop n bytes) else None

-- something was read at the front of bytes; what is read behind it
abbrev pub after : {A B : Type 0} → Option (A × List ℕ) → (A → List ℕ → Option B) → Option B
after None read = None
after (Some p) read = read p.0 p.1

abbrev pub number_of_eight_bytes_and_rest : List ℕ → List ℕ → Option (ℕ × List ℕ)
number_of_eight_bytes_and_rest eight rest = if is_number eight then Some (number_of eight, rest) else None

abbrev pub leading_number : List ℕ → Option (ℕ × List ℕ)
leading_number bytes = after (cut 8 bytes) number_of_eight_bytes_and_rest

abbrev pub leading_text : List ℕ → Option (List ℕ × List ℕ)
leading_text bytes = after (leading_number bytes) cut
