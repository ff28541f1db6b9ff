-- What is held within a bound of entries and one of bytes, by counts over what was done, as in `Recency.antt`. No list
-- of the program is in it. Histories have their latest item first.
--
-- WeighedChange: what one step did, and what is held weighs after it      changes_of: without the weights
-- SerialIsHeldWithinBounds: of what was stored or used and not removed, what was never crowded out
-- serials_within_bounds: them, in that order        lru_list_within_bounds: what a list does that is cut to its bounds
use Rattle.std.specs.Prelude.{◌≡◌, ℕ, ◌+◌, ◌<◌, ◌≤◌, Bool, true, cond, ◌&&◌, ◌||◌, ◌==◌, nat_lt, nat_le, Option, None}
use Rattle.std.specs.Prelude.{Some, List, [], ◌∷◌, ◌++◌, map, IfSome}
use Rattle.std.specs.List.{filter}
use Rattle.hx_store.specs.Serials.{serial_is_in}
use Rattle.hx_store.specs.Recency.{StoreChange, stores_or_uses, recent_after_change, recent_of, count_before_serial}
use Rattle.hx_store.specs.Recency.{NoChangeStoresOrUsesSerial}
use Rattle.hx_store.specs.Weights.{StoreBounds, longest_prefix_within}

-- What one step did, and what the entry of each serial weighs once it is done. An entry that was stored or freshened
-- weighs from then on what its new form does, and so a use that freshens nothing leaves its weight as it was.
pub record WeighedChange : Type 0 where
  pub change : StoreChange
  pub weights : ℕ → ℕ

abbrev pub changes_of : List WeighedChange → List StoreChange
changes_of past = map (λ i. i.change) past

-- what those weigh together that stand before it
abbrev pub weight_of_more_recent_serials : (ℕ → ℕ) → ℕ → List ℕ → ℕ
weight_of_more_recent_serials weights s [] = 0
weight_of_more_recent_serials weights s
    (x ∷ xs) = cond (x == s) 0 (weights x + weight_of_more_recent_serials weights s xs)

-- fewer stand before it than the most entries, and together with it they weigh at most the most bytes
pub record SerialIsWithinBounds (bounds : StoreBounds) (weights : ℕ → ℕ) (xs : List ℕ) (s : ℕ) : Type 0 where
  pub number : count_before_serial s xs < bounds.entries
  pub weighs : IfSome bounds.bytes (λ most. weight_of_more_recent_serials weights s xs + weights s ≤ most)

-- A serial is held that is among the recent, and that stood within the bounds at every item from the last one that
-- stored or used it: `item` is such an item, with the `earlier` ones behind it, and no `later` one stores or uses it.
abbrev pub SerialIsHeldWithinBounds : StoreBounds → List WeighedChange → ℕ → Type 0
SerialIsHeldWithinBounds bounds past s =
    (serial_is_in s (recent_of (changes_of past)) ≡ true)
    × ((later : List WeighedChange) (item : WeighedChange) (earlier : List WeighedChange)
    → later ++ item ∷ earlier ≡ past → NoChangeStoresOrUsesSerial (changes_of later) s
    → SerialIsWithinBounds bounds item.weights (recent_of (changes_of (item ∷ earlier))) s)

-- the same as tests
abbrev pub weight_fits_limit : Option ℕ → ℕ → Bool
weight_fits_limit None weight = true
weight_fits_limit (Some most) weight = nat_le weight most

abbrev pub serial_is_within_bounds : StoreBounds → (ℕ → ℕ) → List ℕ → ℕ → Bool
serial_is_within_bounds bounds weights xs s =
    nat_lt (count_before_serial s xs) bounds.entries
    && weight_fits_limit bounds.bytes (weight_of_more_recent_serials weights s xs + weights s)

abbrev pub serial_stayed_within_bounds : StoreBounds → ℕ → List WeighedChange → Bool
serial_stayed_within_bounds bounds s [] = true
serial_stayed_within_bounds bounds s (i ∷ past) = serial_is_within_bounds bounds i.weights (recent_of (changes_of (i
    ∷ past))) s
    && (stores_or_uses i.change s || serial_stayed_within_bounds bounds s past)

abbrev pub serial_is_held_within_bounds : StoreBounds → List WeighedChange → ℕ → Bool
serial_is_held_within_bounds bounds past s =
    serial_is_in s (recent_of (changes_of past)) && serial_stayed_within_bounds bounds s past

-- the held serials, in the order of the recent ones
abbrev pub serials_within_bounds : StoreBounds → List WeighedChange → List ℕ
serials_within_bounds bounds past = filter (serial_is_held_within_bounds bounds past) (recent_of (changes_of past))

-- what a list does that keeps to its bounds: the same, and then the last go
abbrev pub lru_list_within_bounds : StoreBounds → List WeighedChange → List ℕ
lru_list_within_bounds bounds [] = []
lru_list_within_bounds bounds (i ∷ past) =
    longest_prefix_within bounds i.weights (recent_after_change i.change (lru_list_within_bounds bounds past))
