-- Which start lines name a version other than 1.0 and 1.1 (RFC 9112, section 2.3).
use Rattle.std.specs.Prelude.{ℕ, ◌-◌, ◌&&◌, Bool, cond, not, List, ◌==◌, nat_lt, nat_eq, length, take, drop, codes}
use Rattle.std.specs.Prelude.{slice_index}
use Rattle.std.specs.List.{starts_with, before_first}
use Rattle.std.specs.Char.{is_ascii_digit}
use Rattle.hx_framing.specs.HeadEnd.{empty_lines_length}

-- the start line: what stands behind the empty lines in front, up to the first LF
abbrev pub start_line : List ℕ → List ℕ
start_line bytes = before_first (λ b. b == 10) (drop (empty_lines_length bytes) bytes)

-- a line without the CR of its line end
abbrev pub without_trailing_cr : List ℕ → List ℕ
without_trailing_cr line = take (length line - cond (slice_index line (length line - 1) == 13) 1 0) line

-- HTTP-version = "HTTP/" DIGIT "." DIGIT, and neither 1.0 nor 1.1
-- own: for 1.2 to 1.9, which RFC 9110, section 2.5, lets a recipient read as 1.1
abbrev pub is_unsupported_version : List ℕ → Bool
is_unsupported_version text =
    length text == 8
    && starts_with nat_eq text (codes "HTTP/")
    && is_ascii_digit (slice_index text 5)
    && (slice_index text 6 == 46)
    && is_ascii_digit (slice_index text 7)
    && not (slice_index text 5 == 49 && nat_lt (slice_index text 7) 50)

-- request-line = method SP request-target SP HTTP-version (RFC 9112, section 3)
abbrev pub ends_with_unsupported_version : List ℕ → Bool
ends_with_unsupported_version line = is_unsupported_version (drop (length line - 8) line)

-- status-line = HTTP-version SP status-code SP [ reason-phrase ] (RFC 9112, section 4)
abbrev pub begins_with_unsupported_version : List ℕ → Bool
begins_with_unsupported_version line = is_unsupported_version (take 8 line)
