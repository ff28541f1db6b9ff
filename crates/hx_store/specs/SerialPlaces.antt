-- Where the entry of a serial stands in a list.
use Rattle.std.specs.Prelude.{◌≡◌, ℕ, ◌<◌, true, false, None, Some, List, [], ◌∷◌, length, slice_index_or}
use Rattle.std.specs.List.{remove}
use Rattle.hx_store.specs.Stored.{Stored}
use Rattle.hx_store.specs.Shelf.{holds_serial, find_entry_of_serial, without_serials}

-- what taking out the entry at this place needs to know
pub record IsIndexOfSerial (s : ℕ) (es : List Stored) (i : ℕ) : Type 0 where
  pub within : i < length es
  pub held : holds_serial s es ≡ true
  pub found : (d : Stored) → find_entry_of_serial s es ≡ Some (slice_index_or es i d)
  pub rest : remove es i ≡ without_serials (s ∷ []) es

pub record SerialIsInNoEntry (s : ℕ) (es : List Stored) : Type 0 where
  pub not_held : holds_serial s es ≡ false
  pub not_found : find_entry_of_serial s es ≡ None
  pub stays : without_serials (s ∷ []) es ≡ es
