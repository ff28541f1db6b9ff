-- Lists of serials.
use Rattle.std.specs.Prelude.{◌≡◌, ℕ, Bool, false, ◌||◌, ◌==◌, List, [], ◌∷◌, if◌then◌else◌, nat_le}

abbrev pub serial_is_in : ℕ → List ℕ → Bool
serial_is_in s [] = false
serial_is_in s (x ∷ xs) = (x == s) || serial_is_in s xs

-- no serial stands twice
abbrev pub SerialsAreDistinct : List ℕ → Type 0
SerialsAreDistinct [] = Unit {0}
SerialsAreDistinct (x ∷ xs) = (serial_is_in x xs ≡ false) × SerialsAreDistinct xs

-- a serial before the first that isn't below it
abbrev pub insert_ascending : ℕ → List ℕ → List ℕ
insert_ascending s [] = s ∷ []
insert_ascending s (x ∷ xs) = if nat_le s x then s ∷ x ∷ xs else x ∷ insert_ascending s xs

-- the same serials, ascending
abbrev pub ascending : List ℕ → List ℕ
ascending [] = []
ascending (s ∷ ss) = insert_ascending s (ascending ss)
