-- What finding the serials of a key means.
use Rattle.std.specs.Prelude.{◌≡◌, ℕ, ◌≤◌, ◌==◌, ◌&&◌, Bool, not, List, [], ◌∷◌}
use Rattle.std.specs.List.{list_any, filter}
use Rattle.hx_fields.specs.Line.{Field}
use Rattle.hx_target.specs.declared.keys.Key.{Key}
use Rattle.hx_target.specs.Keys.{same_key}
use Rattle.hx_vary.specs.Vary.{vary_matches}
use Rattle.hx_store.specs.Stored.{Stored}
use Rattle.hx_store.specs.Serials.{serial_is_in, SerialsAreDistinct}
use Rattle.hx_store.specs.Shelf.{serials, serials_of_key, serials_of_entries_that_pass, matching_serials}
use Rattle.hx_store.specs.Shelf.{without_serials}

abbrev pub SerialIsAtMostEachOf : ℕ → List ℕ → Type 0
SerialIsAtMostEachOf s [] = Unit {0}
SerialIsAtMostEachOf s (x ∷ xs) = (s ≤ x) × SerialIsAtMostEachOf s xs

abbrev pub SerialsNeverDescend : List ℕ → Type 0
SerialsNeverDescend [] = Unit {0}
SerialsNeverDescend (x ∷ xs) = SerialIsAtMostEachOf x xs × SerialsNeverDescend xs

-- a serial is found exactly where an entry has it and the key
abbrev pub FoundSerialsAreThoseOfTheKey : Type 0
FoundSerialsAreThoseOfTheKey = (key : Key) (s : ℕ) (es : List Stored) →
    serial_is_in s (serials_of_key key es) ≡ list_any (λ e. same_key e.key key && (e.serial == s)) es

abbrev pub FoundSerialsAscend : Type 0
FoundSerialsAscend = (key : Key) (es : List Stored) → SerialsNeverDescend (serials_of_key key es)

-- and it is found for a request exactly where that entry also nominates what the request has
abbrev pub FoundSerialsAreThoseThatMatch : Type 0
FoundSerialsAreThoseThatMatch = (key : Key) (request : List Field) (s : ℕ) (es : List Stored)
    → SerialsAreDistinct (serials es) →
    serial_is_in s (matching_serials key request es)
    ≡ list_any (λ e. vary_matches e.nominated request && (same_key e.key key && (e.serial == s))) es

abbrev pub MatchingSerialsAscend : Type 0
MatchingSerialsAscend = (key : Key) (request : List Field) (es : List Stored) → SerialsAreDistinct (serials es)
    → SerialsNeverDescend (matching_serials key request es)

-- Of the entries that pass a test the serials ascend, and a serial is among them exactly where such an entry has it.
abbrev pub FoundSerialsAreOfEntriesThatPass : Type 0
FoundSerialsAreOfEntriesThatPass = (passes : Stored → Bool) (s : ℕ) (es : List Stored) →
    serial_is_in s (serials_of_entries_that_pass passes es) ≡ list_any (λ e. passes e && (e.serial == s)) es

abbrev pub SerialsOfEntriesThatPassAscend : Type 0
SerialsOfEntriesThatPassAscend = (passes : Stored → Bool) (es : List Stored)
    → SerialsNeverDescend (serials_of_entries_that_pass passes es)

-- Without them exactly those entries stay that don't pass.
abbrev pub RemovingFoundEntriesLeavesTheOthers : Type 0
RemovingFoundEntriesLeavesTheOthers = (passes : Stored → Bool) (es : List Stored) → SerialsAreDistinct (serials es) →
    without_serials (serials_of_entries_that_pass passes es) es ≡ filter (λ e. not (passes e)) es

-- Where the test asks for the key, what is found is what is found of the key.
abbrev pub FindingByKeyTestIsFindingByKey : Type 0
FindingByKeyTestIsFindingByKey = (key : Key) (es : List Stored) →
    serials_of_entries_that_pass (λ e. same_key e.key key) es ≡ serials_of_key key es
