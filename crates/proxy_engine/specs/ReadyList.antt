-- Places at which something may be due, and what is open at the places of a list.
--
-- entries_below: what a map has at each place          ReadyPlaces: what contracts see of marked places
-- PlacesAscend: their order
-- IsInsertionIndexOfPlace, PlaceIsLeast: where one belongs, and the least
-- FlaggedPlacesAreMarked: what has a flag is at one of them, something is at each, and there is room for more
use Rattle.std.specs.Prelude.{◌≡◌, ℕ, ◌<◌, ◌≤◌, List, map, length, Contains, Bool, true, Option, Some, is_some}
use Rattle.std.specs.Prelude.{slice_index_or}
use Rattle.std.specs.List.{range_with_len}
use Rattle.std.specs.Ordering.{nat_cmp}
use Rattle.std.specs.BTreeMap.{BTreeMap, get}

-- what a map has at each place below a count, in order
abbrev pub entries_below : {A : Type 0} → BTreeMap ℕ A → ℕ → List (Option A)
entries_below open_ends count = map (get nat_cmp open_ends) (range_with_len 0 count)

-- the places, and for how many there is room
pub record ReadyPlaces : Type 0 where
  pub places : List ℕ
  pub room : ℕ

-- each is greater than those before it
pub record PlacesAscend (places : List ℕ) : Type 0 where
  pub rises : (i j : ℕ) → i < j → j < length places → slice_index_or places i 0 < slice_index_or places j 0

-- each is less than the count
abbrev pub PlacesAreBelow : ℕ → List ℕ → Type 0
PlacesAreBelow count places = (i : ℕ) → Contains places i → i < count

-- a place that isn't there belongs behind so many: those are less, the others greater
pub record IsInsertionIndexOfPlace (places : List ℕ) (place count : ℕ) : Type 0 where
  pub within : count ≤ length places
  pub less : (k : ℕ) → k < count → slice_index_or places k 0 < place
  pub greater : count < length places → place < slice_index_or places count 0

-- it stands at the front, and none is less
pub record PlaceIsLeast (places : List ℕ) (place : ℕ) : Type 0 where
  pub some : 0 < length places
  pub first : (d : ℕ) → slice_index_or places 0 d ≡ place
  pub least : (other : ℕ) → Contains places other → place ≤ other

-- What is open and has the flag is at one of the places, something is open at each of them, and there is room for as
-- many as are open.
pub record FlaggedPlacesAreMarked {A : Type 0} (flag : A → Bool) (end_at : ℕ → Option A) (open_count : ℕ)
    (kept : ReadyPlaces) : Type 0 where
  pub marked : (i : ℕ) (x : A) → end_at i ≡ Some x → flag x ≡ true → Contains kept.places i
  pub filled : (i : ℕ) → Contains kept.places i → is_some (end_at i) ≡ true
  pub room : open_count ≤ kept.room
  pub rises : PlacesAscend kept.places
