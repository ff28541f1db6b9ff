-- What becomes of a line that is handed in: it stands behind the others, or it is lost. Either is counted, and never
-- both.
--
-- count_plus_one: a count of 64 bits, which stays at its greatest number
-- LineIsAddedOrLost: what becomes of a line
use Rattle.std.specs.Prelude.{◌≡◌, ◌⊎◌, ℕ, ◌+◌, ◌<◌, min, List, ◌++◌, length, vec_capacity}
use Rattle.proxy_log.specs.declared.pending_lines.Lines.{Lines}

abbrev pub count_plus_one : ℕ → ℕ
count_plus_one n = min (n + 1) 0xFFFF_FFFF_FFFF_FFFF

-- the text stands behind the lines that wait, and counts as added
pub record LineIsAdded (line : List ℕ) (old new : Lines) : Type 0 where
  pub text : new.text.items ≡ old.text.items ++ line
  pub added : new.added ≡ count_plus_one old.added
  pub lost : new.lost ≡ old.lost

-- a line is lost: those that wait stay as they are
pub record LineIsLost (old new : Lines) : Type 0 where
  pub text : new.text.items ≡ old.text.items
  pub added : new.added ≡ old.added
  pub lost : new.lost ≡ count_plus_one old.lost

-- the memory that the lines have doesn't hold this one too
abbrev pub HasNoRoomForLine : List ℕ → Lines → Type 0
HasNoRoomForLine line old = vec_capacity old.text < length old.text.items + length line

-- a line that is handed in is added; it is lost only where there is no room for it
abbrev pub LineIsAddedOrLost : List ℕ → Lines → Lines → Type 0
LineIsAddedOrLost line old new = LineIsAdded line old new ⊎ (LineIsLost old new × HasNoRoomForLine line old)
