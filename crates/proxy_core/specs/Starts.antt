-- What a proxy begins with: the responses that its store holds at first.
--
-- StoreAtStart: how many the store holds at most, and which it holds        empty_store: none
-- StoreAtStartIsValid: what may be held at first
-- changes_at_start: what is held at first counts as stored one after another      HoldsForEachResponseAtStart: what is
-- so of it
use Rattle.std.specs.Prelude.{◌≡◌, ℕ, Option, None, Some, List, [], ◌∷◌}
use Rattle.hx_store.specs.Stored.{Stored}
use Rattle.hx_store.specs.Serials.{SerialsAreDistinct}
use Rattle.hx_store.specs.Shelf.{serials, find_entry_of_serial}
use Rattle.hx_store.specs.Recency.{StoreChange}
use Rattle.hx_store.specs.WeightedRecency.{WeighedChange}
use Rattle.hx_store.specs.Weights.{StoreBounds, IsWithinBounds, weight_of_entry}
use Rattle.proxy_core.specs.State.{NoSerialIsHeldFrom}

-- how many responses the store holds at most, and those that it holds at first, the latest stored or used first
pub record StoreAtStart : Type 0 where
  pub limit : ℕ
  pub entries : List Stored

-- a store that begins empty
abbrev pub empty_store : ℕ → StoreAtStart
empty_store limit = record { limit = limit; entries = [] }

-- No serial stands twice, none is the first that will be given or above it, and the bounds of the store hold.
pub record StoreAtStartIsValid (bounds : StoreBounds) (next : Option ℕ) (entries : List Stored) : Type 0 where
  pub distinct : SerialsAreDistinct (serials entries)
  pub below_next : NoSerialIsHeldFrom next entries
  pub within : IsWithinBounds bounds weight_of_entry entries

-- what a response weighs in the store; where there is none, nothing
abbrev pub weight_of_stored_if_any : Option Stored → ℕ
weight_of_stored_if_any None = 0
weight_of_stored_if_any (Some e) = weight_of_entry e

-- a response is stored, and nothing is used or removed
abbrev pub change_that_stores : Stored → StoreChange
change_that_stores e = record { stored = Some e.serial; used = None; removed = [] }

-- What is held at first counts as stored one after another, in the order of use: what comes last there was first.
abbrev pub changes_at_start : List Stored → List WeighedChange
changes_at_start [] = []
changes_at_start (e ∷ entries) = record {
  change = change_that_stores e;
  weights = λ s. weight_of_stored_if_any (find_entry_of_serial s (e ∷ entries));
} ∷ changes_at_start entries

-- something is so of each response that is held at first, under its serial
abbrev pub HoldsForEachResponseAtStart : (ℕ → Stored → Type 0) → StoreAtStart → Type 0
HoldsForEachResponseAtStart P start = (serial : ℕ) (e : Stored) → find_entry_of_serial serial start.entries ≡ Some e
    → P serial e
