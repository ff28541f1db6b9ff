-- Entries beside their serials, as a cache keeps them.
use Rattle.std.specs.Prelude.{◌≡◌, ℕ, List, [], ◌∷◌}
use Rattle.std.specs.Map.{values_of}
use Rattle.hx_store.specs.Stored.{Stored}
use Rattle.hx_store.specs.Serials.{SerialsAreDistinct}
use Rattle.hx_store.specs.Shelf.{serials}

-- each serial is its entry's own
abbrev pub EntriesHaveTheirSerials : List (ℕ × Stored) → Type 0
EntriesHaveTheirSerials [] = Unit {0}
EntriesHaveTheirSerials (p ∷ ps) = (p.0 ≡ p.1.serial) × EntriesHaveTheirSerials ps

-- and no serial stands twice
abbrev pub EntriesHaveDistinctSerials : List (ℕ × Stored) → Type 0
EntriesHaveDistinctSerials ps = EntriesHaveTheirSerials ps × SerialsAreDistinct (serials (values_of ps))
