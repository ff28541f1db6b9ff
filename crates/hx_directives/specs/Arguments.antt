-- The argument of a directive: a token, or a quoted string (RFC 9111, section 5.2).
use Rattle.std.specs.Prelude.{ℕ, ◌==◌, Bool, true, false, if◌then◌else◌, List, [], ◌∷◌, Option, Some, None, option_map}
use Rattle.hx_fields.specs.Names.{quote, backslash, is_nonempty}
use Rattle.hx_directives.specs.declared.arguments.Argument.{Argument}
use Rattle.hx_directives.specs.declared.arguments.Argument.TheVariants.{Absent, Delta, Other}
use Rattle.hx_directives.specs.Seconds.{seconds_of, capped}

-- What stands before the quote that closes, where that quote is the last byte. A backslash takes the next byte
-- with it and goes: quoted-pair = "\" ( HTAB / SP / VCHAR / obs-text ) (RFC 9110, section 5.6.4).
-- The first argument: whether a backslash takes the first byte.
abbrev pub content_to_closing_quote : Bool → List ℕ → Option (List ℕ)
content_to_closing_quote is_taken [] = None
content_to_closing_quote true (b ∷ rest) = option_map (λ content. b ∷ content) (content_to_closing_quote false rest)
content_to_closing_quote false (b ∷ rest) =
    if b == quote then (if is_nonempty rest then None else Some [])
    else if b == backslash then content_to_closing_quote true rest
    else option_map (λ content. b ∷ content) (content_to_closing_quote false rest)

-- the content of a quoted string, and any other text as it stands
abbrev pub text_without_quotes : List ℕ → List ℕ
text_without_quotes [] = []
text_without_quotes (b ∷ rest) =
    if b == quote then content_or (b ∷ rest) (content_to_closing_quote false rest) else b ∷ rest
  where
    content_or : List ℕ → Option (List ℕ) → List ℕ
    content_or text None = text
    content_or text (Some content) = content

-- what an argument says as seconds
abbrev pub seconds_of_argument : Option (List ℕ) → Argument
seconds_of_argument None = Absent
seconds_of_argument (Some text) = of_seconds (seconds_of (text_without_quotes text))
  where
    of_seconds : Option ℕ → Argument
    of_seconds None = Other
    of_seconds (Some seconds) = Delta (capped seconds)
