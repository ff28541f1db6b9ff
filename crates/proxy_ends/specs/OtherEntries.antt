-- What stands under a number, or a key, stays.
--
-- EntriesOfOtherNumbersStay, StreamsOfOtherKeysStay: it does at every number but one, of a map and of a slab
-- ChangesOnlyAtNumber: of a slab what changes stands at the key that a map has under a number
use Rattle.std.specs.Prelude.{◌≡◌, ◌≢◌, ℕ, Some}
use Rattle.std.specs.Ordering.{nat_cmp}
use Rattle.std.specs.BTreeMap.{get, BTreeMap}
use Rattle.slab.specs.Slab as slab
use Rattle.slab.specs.Slab.{Slab}

abbrev pub EntriesOfOtherNumbersStay : {A : Type 0} → ℕ → BTreeMap ℕ A → BTreeMap ℕ A → Type 0
EntriesOfOtherNumbersStay n old new = (q : ℕ) → q ≢ n → get nat_cmp new q ≡ get nat_cmp old q

abbrev pub StreamsOfOtherKeysStay : {A : Type 0} → ℕ → Slab A → Slab A → Type 0
StreamsOfOtherKeysStay key old new = (k : ℕ) → k ≢ key → slab.get new k ≡ slab.get old k

abbrev pub ChangesOnlyAtNumber : {A : Type 0} → BTreeMap ℕ ℕ → ℕ → Slab A → Slab A → Type 0
ChangesOnlyAtNumber keys n old new = (k : ℕ) → get nat_cmp keys n ≢ Some k → slab.get new k ≡ slab.get old k
