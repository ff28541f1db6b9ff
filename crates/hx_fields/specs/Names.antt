-- How the bytes of field values are read: names, combined values, and the members of a list
-- (RFC 9110, sections 5.1, 5.3, 5.5 and 5.6.1). No type of field lines is named here.
--
-- is_same_name: two names are one          joined: values as one value
-- is_blank, trimmed: the spaces and tabs round a value
-- pieces, members_of_value: what stands between the commas of a value
-- ValueRunsUncutTo: nothing is cut between two places
-- split_at_first_byte: a text before and behind a byte
use Rattle.std.specs.Prelude.{◌≡◌, ℕ, ◌-◌, ◌==◌, nat_lt, if◌then◌else◌, Bool, false, ◌||◌, List, [], ◌∷◌, ◌++◌, length}
use Rattle.std.specs.Prelude.{take, drop, map, filter, slice_range, codes, Option, Some, None}
use Rattle.std.specs.Option.{option_map}
use Rattle.std.specs.List.{prefix_len, suffix_len, concat}
use Rattle.std.specs.Str.{str_eq_ignore_ascii_case}

-- field names compare without ASCII case (RFC 9110, section 5.1)
abbrev pub is_same_name : List ℕ → List ℕ → Bool
is_same_name a b = str_eq_ignore_ascii_case a b

-- several lines of a name are one value, joined in order by a comma and a space (RFC 9110, section 5.3)
abbrev pub joined : List (List ℕ) → Option (List ℕ)
joined [] = None
joined (value ∷ values) = Some (value ++ concat (map (λ v. codes ", " ++ v) values))

-- OWS = *( SP / HTAB ) (RFC 9110, section 5.6.3)
abbrev pub is_blank : ℕ → Bool
is_blank b = (b == 32) || (b == 9)

-- a text without the spaces and tabs round it (RFC 9110, section 5.5)
abbrev pub trimmed : List ℕ → List ℕ
trimmed text =
    let rest = drop (prefix_len is_blank text) text in
    take (length rest - suffix_len is_blank rest) rest

abbrev pub comma : ℕ
comma = 44

abbrev pub quote : ℕ
quote = 34

abbrev pub backslash : ℕ
backslash = 92

-- where a byte of a value stands: the last is in quotes, behind a backslash
pub data QuoteState : Type 0 where
  Outside Quoted Escaped : QuoteState

-- where the next byte stands: in a quoted string a backslash takes the next byte with it (RFC 9110, section 5.6.4)
-- own: an unclosed quote runs to the end of its line
abbrev pub quote_state_after : QuoteState → ℕ → QuoteState
quote_state_after Outside b = if b == quote then Quoted else Outside
quote_state_after Quoted b = if b == quote then Outside else if b == backslash then Escaped else Quoted
quote_state_after Escaped b = Quoted

-- a comma separates members only outside quotes
abbrev pub is_separating_comma : QuoteState → ℕ → Bool
is_separating_comma Outside b = b == comma
is_separating_comma Quoted b = false
is_separating_comma Escaped b = false

-- a byte in front of the first piece
abbrev pub byte_before_first_piece : ℕ → List (List ℕ) → List (List ℕ)
byte_before_first_piece b [] = (b ∷ []) ∷ []
byte_before_first_piece b (p ∷ ps) = (b ∷ p) ∷ ps

-- the pieces of a text between the commas that separate members; its first byte stands at this place
abbrev pub pieces : QuoteState → List ℕ → List (List ℕ)
pieces place [] = [] ∷ []
pieces place (b ∷ bs) =
    if is_separating_comma place b then [] ∷ pieces Outside bs else byte_before_first_piece b
    (pieces (quote_state_after place b) bs)

-- these bytes in front of the first piece
abbrev pub all_in_front : List ℕ → List (List ℕ) → List (List ℕ)
all_in_front front [] = front ∷ []
all_in_front front (p ∷ ps) = (front ++ p) ∷ ps

-- what stands at a start goes on to here without a cut, and the next byte stands at this place
abbrev pub ValueRunsUncutTo : List ℕ → ℕ → ℕ → QuoteState → Type 0
ValueRunsUncutTo value start i place =
    pieces Outside (drop start value) ≡ all_in_front (slice_range value start i) (pieces place (drop i value))

abbrev pub is_nonempty : List ℕ → Bool
is_nonempty text = nat_lt 0 (length text)

-- the member that a piece has, if anything is left of it
abbrev pub member_of_piece : List ℕ → List (List ℕ)
member_of_piece piece = filter is_nonempty (trimmed piece ∷ [])

-- the members of one line's value: its trimmed pieces, the empty ones dropped (RFC 9110, section 5.6.1)
abbrev pub members_of_value : List ℕ → List (List ℕ)
members_of_value value = filter is_nonempty (map trimmed (pieces Outside value))

-- lists in a row
abbrev pub joined_lists : List (List (List ℕ)) → List (List ℕ)
joined_lists [] = []
joined_lists (xs ∷ xss) = xs ++ joined_lists xss

-- what stands before the first of these bytes, and what stands behind it
abbrev pub split_at_first_byte : ℕ → List ℕ → Option (List ℕ × List ℕ)
split_at_first_byte separator [] = None
split_at_first_byte separator (b ∷ bs) =
    if b == separator then Some ([], bs) else option_map (λ p. (b ∷ p.0, p.1)) (split_at_first_byte separator bs)
