-- The bytes that a reader gave.
use Rattle.std.specs.Prelude.{◌≡◌, ◌≢◌, ℕ, ◌≤◌, List, [], ◌++◌, length, Bool, true, Option}
use Rattle.std.specs.Io.KnownBytes.{Consumes, IsAtEnd}

-- the most bytes of a script
abbrev pub script_limit : ℕ
script_limit = 16777216

-- At most so many bytes were read, and some more only where they are too many. They ended where the reader is at its
-- end.
pub record ReaderGaveAtMost (most : ℕ) (bytes : List ℕ) (ended : Bool) (old new : Option (List ℕ)) : Type 0 where
  pub over : List ℕ
  pub consumes : Consumes old new (bytes ++ over)
  pub few : length bytes ≤ most
  pub whole : ended ≡ true → (over ≡ []) × IsAtEnd new
  pub full : over ≢ [] → length bytes ≡ most
