-- An index of the arrivals that wait, by the id that they wait for.
use Rattle.std.specs.Prelude.{◌≡◌, ℕ, ◌==◌, ◌&&◌, ◌||◌, not, Bool, true, false, Option}
use Rattle.std.specs.Option.{option_map_or, ForSome}
use Rattle.std.specs.Ordering.{nat_cmp}
use Rattle.std.specs.BTreeMap.{get}
use Rattle.std.specs.BTreeSet.{BTreeSet, contains, IsEmpty}
use Rattle.proxy_core.specs.declared.open.stage.Stage.{Stage}
use Rattle.proxy_core.specs.declared.open.stage.Stage.TheVariants.{Waiting}
use Rattle.proxy_core.specs.declared.open.wait_index.WaitIndex.{WaitIndex}
use Rattle.proxy_core.specs.Leading.{waits_for}

abbrev pub set_contains : Option (BTreeSet ℕ) → ℕ → Bool
set_contains set n = option_map_or (λ s. contains nat_cmp s n) set false

-- the arrival is there as one that waits for the exchange of this id
abbrev pub arrival_is_in_wait_index : WaitIndex → ℕ → ℕ → Bool
arrival_is_in_wait_index index id n = set_contains (get nat_cmp index.arrivals id) n

abbrev pub IsEmptyWaitIndex : WaitIndex → Type 0
IsEmptyWaitIndex index = (id m : ℕ) → arrival_is_in_wait_index index id m ≡ false

abbrev pub WaitIndexesHaveSameMembers : WaitIndex → WaitIndex → Type 0
WaitIndexesHaveSameMembers old new = (id m : ℕ) → arrival_is_in_wait_index new id m ≡ arrival_is_in_wait_index old id m

-- an arrival was entered whose exchange stands so, and one was taken out
abbrev pub ArrivalIsAddedIfWaiting : Stage → ℕ → WaitIndex → WaitIndex → Type 0
ArrivalIsAddedIfWaiting stage n old new = (id m : ℕ) → arrival_is_in_wait_index new id m ≡
    ((waits_for id stage && n == m) || arrival_is_in_wait_index old id m)

abbrev pub ArrivalIsRemovedIfWaiting : Stage → ℕ → WaitIndex → WaitIndex → Type 0
ArrivalIsRemovedIfWaiting stage n old new = (id m : ℕ) → arrival_is_in_wait_index new id m
    ≡ (not (waits_for id stage && n == m)
    && arrival_is_in_wait_index old id m)

-- it was entered where others wait for that exchange, and else nothing was done
abbrev pub WaiterIsAddedIfSetExists : Bool → ℕ → ℕ → WaitIndex → WaitIndex → Type 0
WaiterIsAddedIfSetExists true id n old new = ArrivalIsAddedIfWaiting (Waiting id) n old new
WaiterIsAddedIfSetExists false id n old new = WaitIndexesHaveSameMembers old new
    × ((m : ℕ) → arrival_is_in_wait_index old id m ≡ false)

-- those that wait for the exchange of this id, and the index without them
abbrev pub SetHoldsAllWaitersOfLeader : Option (BTreeSet ℕ) → ℕ → WaitIndex → Type 0
SetHoldsAllWaitersOfLeader set id index = (m : ℕ) → set_contains set m ≡ arrival_is_in_wait_index index id m

abbrev pub WaitersAreRemoved : ℕ → WaitIndex → WaitIndex → Type 0
WaitersAreRemoved id old new = (q m : ℕ) → arrival_is_in_wait_index new q m
    ≡ (not (id == q) && arrival_is_in_wait_index old q m)

-- these arrivals were entered as of those that wait for the exchange of this id
abbrev pub WaitersAreEntered : ℕ → BTreeSet ℕ → WaitIndex → WaitIndex → Type 0
WaitersAreEntered id set old new = (q m : ℕ) → arrival_is_in_wait_index new q m ≡ ((id == q && contains nat_cmp set m)
    || arrival_is_in_wait_index old q m)

-- the arrival isn't in the index
abbrev pub ArrivalIsNotInWaitIndex : ℕ → WaitIndex → Type 0
ArrivalIsNotInWaitIndex n index = (id : ℕ) → arrival_is_in_wait_index index id n ≡ false

-- no id is in the index for nothing, and the same of each id but this one
abbrev pub SetIsNotEmpty : BTreeSet ℕ → Type 0
SetIsNotEmpty set = IsEmpty set → ⊥

abbrev pub WaitIndexHasNoEmptySet : WaitIndex → Type 0
WaitIndexHasNoEmptySet index = (id : ℕ) → ForSome (get nat_cmp index.arrivals id) SetIsNotEmpty

abbrev pub OtherIdsHaveNoEmptyWaiterSet : ℕ → WaitIndex → Type 0
OtherIdsHaveNoEmptyWaiterSet id index = (q : ℕ) → (id == q) ≡ false
    → ForSome (get nat_cmp index.arrivals q) SetIsNotEmpty
