-- What is held, by a count over what was done: no list of the program in it. Histories have their latest item first.
--
-- StoreChange: what one step did to the store      recent_of: stored or used, not removed, the latest first
-- Held: of these, those that were never crowded out        held_serials_of: them, in that order
-- lru_list_of: what a list does that holds no more than so many
-- SerialIsStoredOrUsedAndNotRemovedSince, IsStoredOrUsedLaterThan: recent_of in words
use Rattle.std.specs.Prelude.{◌≡◌, ℕ, suc, ◌<◌, Bool, true, false, not, cond, ◌&&◌, ◌||◌, ◌==◌, nat_lt, Option, None}
use Rattle.std.specs.Prelude.{Some, List, [], ◌∷◌, ◌++◌, take}
use Rattle.std.specs.List.{filter}
use Rattle.hx_store.specs.Serials.{serial_is_in}

-- what one step did: the serial that it stored, the serial that it used, the serials that it removed
pub record StoreChange : Type 0 where
  pub stored : Option ℕ
  pub used : Option ℕ
  pub removed : List ℕ

abbrev pub option_is_serial : Option ℕ → ℕ → Bool
option_is_serial None s = false
option_is_serial (Some x) s = x == s

-- the item stores or uses this serial
abbrev pub stores_or_uses : StoreChange → ℕ → Bool
stores_or_uses i s = option_is_serial i.stored s || option_is_serial i.used s

abbrev pub moved_to_front : Option ℕ → List ℕ → List ℕ
moved_to_front None xs = xs
moved_to_front (Some s) xs = s ∷ filter (λ x. not (x == s)) xs

-- what an item uses or stores comes first, then what it removes goes
abbrev pub recent_after_change : StoreChange → List ℕ → List ℕ
recent_after_change i xs
    = filter (λ x. not (serial_is_in x i.removed)) (moved_to_front i.stored (moved_to_front i.used xs))

-- the serials that were stored or used and not removed since, the latest stored or used first;
-- nothing is evicted. In a good history only what is held is used, so these were stored.
abbrev pub recent_of : List StoreChange → List ℕ
recent_of [] = []
recent_of (i ∷ past) = recent_after_change i (recent_of past)

-- how many stand before it
abbrev pub count_before_serial : ℕ → List ℕ → ℕ
count_before_serial s [] = 0
count_before_serial s (x ∷ xs) = cond (x == s) 0 (suc (count_before_serial s xs))

-- no item of these stores or uses it
abbrev pub NoChangeStoresOrUsesSerial : List StoreChange → ℕ → Type 0
NoChangeStoresOrUsesSerial [] s = Unit {0}
NoChangeStoresOrUsesSerial (i ∷ items) s = (stores_or_uses i s ≡ false) × NoChangeStoresOrUsesSerial items s

-- With room for C, a serial is held that is among the recent, and before which, at every item from
-- the last one that stored or used it, fewer than C stood: `earlier` is the history up to and with
-- that item, and no `later` one stores or uses it.
abbrev pub Held : ℕ → List StoreChange → ℕ → Type 0
Held C past s =
    (serial_is_in s (recent_of past) ≡ true)
    × ((later earlier : List StoreChange) → later ++ earlier ≡ past → NoChangeStoresOrUsesSerial later s
    → count_before_serial s (recent_of earlier) < C)

-- the same count as a test
abbrev pub serial_stayed_within_count : ℕ → ℕ → List StoreChange → Bool
serial_stayed_within_count C s [] = true
serial_stayed_within_count C s (i ∷ past) = nat_lt (count_before_serial s (recent_of (i ∷ past))) C
    && (stores_or_uses i s || serial_stayed_within_count C s past)

abbrev pub is_held : ℕ → List StoreChange → ℕ → Bool
is_held C past s = serial_is_in s (recent_of past) && serial_stayed_within_count C s past

-- the held serials, in the order of the recent ones
abbrev pub held_serials_of : ℕ → List StoreChange → List ℕ
held_serials_of C past = filter (is_held C past) (recent_of past)

-- what a list does that holds no more than C: the same, and then the last go
abbrev pub lru_list_of : ℕ → List StoreChange → List ℕ
lru_list_of C [] = []
lru_list_of C (i ∷ past) = take C (recent_after_change i (lru_list_of C past))

abbrev pub NoChangeRemovesSerial : List StoreChange → ℕ → Type 0
NoChangeRemovesSerial [] s = Unit {0}
NoChangeRemovesSerial (i ∷ items) s = (serial_is_in s i.removed ≡ false) × NoChangeRemovesSerial items s

-- some item stores or uses it, and neither that item nor a later one removes it
abbrev pub SerialIsStoredOrUsedAndNotRemovedSince : List StoreChange → ℕ → Type 0
SerialIsStoredOrUsedAndNotRemovedSince past s =
    (later : List StoreChange) × (item : StoreChange) × (earlier : List StoreChange) × (later ++ item ∷ earlier ≡ past)
    × (stores_or_uses item s ≡ true) × (serial_is_in s item.removed ≡ false) × NoChangeRemovesSerial later s

-- some item stores or uses a, and neither that item nor a later one stores or uses b. An item that
-- stored one and used another would order the two by no such item; in a good history none does
-- both.
abbrev pub IsStoredOrUsedLaterThan : List StoreChange → ℕ → ℕ → Type 0
IsStoredOrUsedLaterThan past a b =
    (later : List StoreChange) × (item : StoreChange) × (earlier : List StoreChange) × (later ++ item ∷ earlier ≡ past)
    × (stores_or_uses item a ≡ true) × (stores_or_uses item b ≡ false) × NoChangeStoresOrUsesSerial later b
