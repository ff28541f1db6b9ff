-- The open exchanges by the key that they ask for: an index of the GETs that are at the origin, and one of all others.
--
-- is_get_at_origin_for_key: a GET for a key is at the origin
-- is_for_key_but_no_get_at_origin: any other exchange for that key: of another method, or a GET that waits or was
-- released
-- arrival_is_in_key_index: the arrival is in the index at that key
-- ArrivalIsMovedToOrigin: what changes where an exchange goes forward
use Rattle.std.specs.Prelude.{◌≡◌, ℕ, ◌==◌, ◌&&◌, ◌||◌, not, Bool, true, false, List}
use Rattle.std.specs.Option.{ForSome}
use Rattle.std.specs.BTreeMap.{get}
use Rattle.hx_target.specs.declared.keys.Key.{Key}
use Rattle.hx_target.specs.Keys.{same_key}
use Rattle.hx_target.specs.KeyOrder.{key_cmp}
use Rattle.proxy_core.specs.declared.open.exchange.Exchange.{Exchange}
use Rattle.proxy_core.specs.declared.open.arrivals_by_key.ArrivalsByKey.{ArrivalsByKey}
use Rattle.proxy_core.specs.declared.open.key_index.ArrivalKeyIndex.{ArrivalKeyIndex}
use Rattle.proxy_core.specs.Leading.{is_get, is_forwarded}
use Rattle.proxy_core.specs.Waiters.{set_contains, SetIsNotEmpty}
use Rattle.proxy_core.specs.Arrivals.{SelectedArrivalsPassTest, IsExactIndexOfSelected}

abbrev pub is_get_at_origin : Exchange → Bool
is_get_at_origin x = is_get x.asked && is_forwarded x.stage

-- a GET that waits, or was released
abbrev pub is_get_not_at_origin : Exchange → Bool
is_get_not_at_origin x = is_get x.asked && not (is_forwarded x.stage)

abbrev pub is_get_at_origin_for_key : Key → Exchange → Bool
is_get_at_origin_for_key key x = same_key x.asked.target.key key && is_get_at_origin x

abbrev pub is_get_for_key_not_at_origin : Key → Exchange → Bool
is_get_for_key_not_at_origin key x = same_key x.asked.target.key key && is_get_not_at_origin x

abbrev pub is_for_key_but_no_get_at_origin : Key → Exchange → Bool
is_for_key_but_no_get_at_origin key x = same_key x.asked.target.key key && not (is_get_at_origin x)

abbrev pub arrival_is_in_key_index : ArrivalKeyIndex → Key → ℕ → Bool
arrival_is_in_key_index index key n = set_contains (get key_cmp index.arrivals key) n

abbrev pub IsEmptyKeyIndex : ArrivalKeyIndex → Type 0
IsEmptyKeyIndex index = (key : Key) (m : ℕ) → arrival_is_in_key_index index key m ≡ false

abbrev pub KeyIndexesHaveSameMembers : ArrivalKeyIndex → ArrivalKeyIndex → Type 0
KeyIndexesHaveSameMembers old new = (key : Key) (m : ℕ) → arrival_is_in_key_index new key m
    ≡ arrival_is_in_key_index old key m

-- an arrival was put in at a key, and one was taken out there
abbrev pub ArrivalIsAddedAtKey : Key → ℕ → ArrivalKeyIndex → ArrivalKeyIndex → Type 0
ArrivalIsAddedAtKey key n old new = (q : Key) (m : ℕ) → arrival_is_in_key_index new q m ≡
    ((same_key key q && n == m) || arrival_is_in_key_index old q m)

abbrev pub ArrivalIsRemovedAtKey : Key → ℕ → ArrivalKeyIndex → ArrivalKeyIndex → Type 0
ArrivalIsRemovedAtKey key n old new = (q : Key) (m : ℕ) → arrival_is_in_key_index new q m ≡
    (not (same_key key q && n == m) && arrival_is_in_key_index old q m)

-- it was put in where others ask for that key, and else nothing was done
abbrev pub ArrivalIsAddedIfKeyIsIndexed : Bool → Key → ℕ → ArrivalKeyIndex → ArrivalKeyIndex → Type 0
ArrivalIsAddedIfKeyIsIndexed true key n old new = ArrivalIsAddedAtKey key n old new
ArrivalIsAddedIfKeyIsIndexed false key n old new = KeyIndexesHaveSameMembers old new
    × ((m : ℕ) → arrival_is_in_key_index old key m ≡ false)

-- the arrival of such an exchange was put in, and taken out
abbrev pub ArrivalIsAddedIfSelected : (Key → Exchange → Bool) → Exchange → ℕ → ArrivalKeyIndex → ArrivalKeyIndex
    → Type 0
ArrivalIsAddedIfSelected which x n old new = (q : Key) (m : ℕ) → arrival_is_in_key_index new q m
    ≡ ((which q x && n == m)
    || arrival_is_in_key_index old q m)

abbrev pub ArrivalIsRemovedIfSelected : (Key → Exchange → Bool) → Exchange → ℕ → ArrivalKeyIndex → ArrivalKeyIndex
    → Type 0
ArrivalIsRemovedIfSelected which x n old new = (q : Key) (m : ℕ) → arrival_is_in_key_index new q m ≡
    (not (which q x && n == m) && arrival_is_in_key_index old q m)

-- the arrival isn't in the index
abbrev pub ArrivalIsNotInKeyIndex : ℕ → ArrivalKeyIndex → Type 0
ArrivalIsNotInKeyIndex n index = (key : Key) → arrival_is_in_key_index index key n ≡ false

-- no key is in the index for nothing, and the same of each key but this one
abbrev pub KeyIndexHasNoEmptySet : ArrivalKeyIndex → Type 0
KeyIndexHasNoEmptySet index = (key : Key) → ForSome (get key_cmp index.arrivals key) SetIsNotEmpty

abbrev pub OtherKeysHaveNoEmptySet : Key → ArrivalKeyIndex → Type 0
OtherKeysHaveNoEmptySet key index = (q : Key) → same_key key q ≡ false → ForSome
    (get key_cmp index.arrivals q) SetIsNotEmpty

-- ---- both indexes

-- an arrival was entered as that of such an exchange, and left
abbrev pub ArrivalIsAddedToItsKeyIndex : Exchange → ℕ → ArrivalsByKey → ArrivalsByKey → Type 0
ArrivalIsAddedToItsKeyIndex x n old new = ArrivalIsAddedIfSelected is_get_at_origin_for_key x n old.gets new.gets
    × ArrivalIsAddedIfSelected is_for_key_but_no_get_at_origin x n old.others new.others

abbrev pub ArrivalIsRemovedFromItsKeyIndex : Exchange → ℕ → ArrivalsByKey → ArrivalsByKey → Type 0
ArrivalIsRemovedFromItsKeyIndex x n old new = ArrivalIsRemovedIfSelected is_get_at_origin_for_key x n old.gets new.gets
    × ArrivalIsRemovedIfSelected is_for_key_but_no_get_at_origin x n old.others new.others

-- the exchange goes forward: the arrival of a GET that wasn't at the origin is no longer among the others, but among
-- those that are, and else nothing was done
abbrev pub ArrivalIsMovedToOrigin : Exchange → ℕ → ArrivalsByKey → ArrivalsByKey → Type 0
ArrivalIsMovedToOrigin x n old new = ArrivalIsAddedIfSelected is_get_for_key_not_at_origin x n old.gets new.gets
    × ArrivalIsRemovedIfSelected is_get_for_key_not_at_origin x n old.others new.others

abbrev pub ArrivalsByKeyAreUnchanged : ArrivalsByKey → ArrivalsByKey → Type 0
ArrivalsByKeyAreUnchanged old new = KeyIndexesHaveSameMembers old.gets new.gets
    × KeyIndexesHaveSameMembers old.others new.others

abbrev pub ArrivalIsInNeitherKeyIndex : ℕ → ArrivalsByKey → Type 0
ArrivalIsInNeitherKeyIndex n by_key = ArrivalIsNotInKeyIndex n by_key.gets × ArrivalIsNotInKeyIndex n by_key.others

abbrev pub NoIndexOfArrivalsHasEmptySet : ArrivalsByKey → Type 0
NoIndexOfArrivalsHasEmptySet by_key = KeyIndexHasNoEmptySet by_key.gets × KeyIndexHasNoEmptySet by_key.others

-- each tells just those of the open exchanges that belong there
abbrev pub ArrivalsByKeyAreExact : ArrivalsByKey → List (ℕ × Exchange) → Type 0
ArrivalsByKeyAreExact by_key es =
    ((key : Key) → IsExactIndexOfSelected (is_get_at_origin_for_key key) (arrival_is_in_key_index by_key.gets key) es)
    × ((key : Key)
    → IsExactIndexOfSelected (is_for_key_but_no_get_at_origin key) (arrival_is_in_key_index by_key.others key) es)

-- the GETs for a key that are at the origin have numbers that pass, and so those have that lead; and the others for
-- that key have
abbrev pub ArrivalsOfGetsAtOriginPassTest : Key → (ℕ → Bool) → List (ℕ × Exchange) → Type 0
ArrivalsOfGetsAtOriginPassTest key test es = SelectedArrivalsPassTest (is_get_at_origin_for_key key) test es

abbrev pub ArrivalsButGetsAtOriginPassTest : Key → (ℕ → Bool) → List (ℕ × Exchange) → Type 0
ArrivalsButGetsAtOriginPassTest key test es = SelectedArrivalsPassTest (is_for_key_but_no_get_at_origin key) test es
