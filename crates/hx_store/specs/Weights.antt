-- What a stored response weighs in the store, and which of a list stand within the store's bounds.
--
-- weight_of_entry: the bytes that one takes                  total_weight: those that several take together
-- StoreBounds: the most entries, and the most bytes where they are bounded        IsWithinBounds: a list keeps to both
-- IsLongestPrefixWithin: the longest prefix of a list that does      longest_prefix_within, cut_to_bounds: computed
-- WeightsAreThoseOfEntries: what each serial weighs is what its entry does
-- entry_evicted_by_weight, entries_after_one_weight_eviction: the last one goes where a list weighs too much
-- weight_capped_to_64_bits: what a sum counts
use Rattle.std.specs.Prelude.{◌≡◌, ℕ, ◌+◌, ◌-◌, ◌^◌, ◌≤◌, min, nat_le, nat_lt, Option, None, Some, List, [], ◌∷◌, ◌++◌}
use Rattle.std.specs.Prelude.{length, take, slice_get, if◌then◌else◌, IfSome}
use Rattle.std.specs.List.{sum_by}
use Rattle.hx_fields.specs.Line.{Field}
use Rattle.hx_target.specs.declared.keys.Key.{Key}
use Rattle.hx_vary.specs.declared.nominated_values.NominatedValue.{NominatedValue}
use Rattle.hx_store.specs.Stored.{Stored}

-- a line as it is sent: its name, a colon and a blank, its value, CR and LF (RFC 9112, section 5)
abbrev pub weight_of_field_line : Field → ℕ
weight_of_field_line line = length line.name + length line.value + 4

abbrev pub weight_of_lines : List Field → ℕ
weight_of_lines lines = sum_by weight_of_field_line lines

-- host, path and query; the port is a number
abbrev pub weight_of_key : Key → ℕ
weight_of_key key = length key.host + length key.path_query

abbrev pub length_if_any : Option (List ℕ) → ℕ
length_if_any None = 0
length_if_any (Some value) = length value

abbrev pub weight_of_nominated_value : NominatedValue → ℕ
weight_of_nominated_value kept = length kept.name + length_if_any kept.value

abbrev pub weight_of_nominated : List NominatedValue → ℕ
weight_of_nominated values = sum_by weight_of_nominated_value values

-- What an entry takes beside its bytes: its node, its places in two hash tables, its directives, its mark, what the C
-- library keeps of each block, and 64 for each of some six lines. Of such an entry 1,091 bytes were measured, its key
-- among them (docs/PERFORMANCE.md).
-- own: that number rounded up, whatever the system gave ("What an entry weighs")
abbrev pub overhead_bytes_of_an_entry : ℕ
overhead_bytes_of_an_entry = 1200

-- content, head, and the key twice, which stands in the entry and in the index
abbrev pub weight_of_entry : Stored → ℕ
weight_of_entry e = length e.content + weight_of_lines e.fields + weight_of_nominated e.nominated
    + weight_of_key e.key + weight_of_key e.key
    + overhead_bytes_of_an_entry

abbrev pub total_weight : List Stored → ℕ
total_weight es = sum_by weight_of_entry es

-- the most entries that a store holds, and the most bytes that they weigh together, if those are bounded
pub record StoreBounds : Type 0 where
  pub entries : ℕ
  pub bytes : Option ℕ

-- a list stands within the bounds, each of it of its weight
pub record IsWithinBounds {A : Type 0} (bounds : StoreBounds) (weight : A → ℕ) (xs : List A) : Type 0 where
  pub number : length xs ≤ bounds.entries
  pub weighs : IfSome bounds.bytes (λ most. sum_by weight xs ≤ most)

-- it is a front of the list, it is within the bounds, and no other front that is within them is longer
pub record IsLongestPrefixWithin {A : Type 0} (bounds : StoreBounds) (weight : A → ℕ) (xs front : List A) : Type 0 where
  pub is_front : (rest : List A) × (front ++ rest ≡ xs)
  pub is_within : IsWithinBounds bounds weight front
  pub longest : (other rest : List A) → other ++ rest ≡ xs
      → IsWithinBounds bounds weight other → length other ≤ length front

-- the first of a list, as long as they weigh no more than so much together
abbrev pub prefix_within_weight : {A : Type 0} → (A → ℕ) → ℕ → List A → List A
prefix_within_weight weight most [] = []
prefix_within_weight weight most (x ∷ xs) =
    if nat_le (weight x) most then x ∷ prefix_within_weight weight (most - weight x) xs else []

abbrev pub prefix_of_weight_if_any : {A : Type 0} → (A → ℕ) → Option ℕ → List A → List A
prefix_of_weight_if_any weight None xs = xs
prefix_of_weight_if_any weight (Some most) xs = prefix_within_weight weight most xs

-- the longest front of a list within the bounds
abbrev pub longest_prefix_within : {A : Type 0} → StoreBounds → (A → ℕ) → List A → List A
longest_prefix_within bounds weight xs = prefix_of_weight_if_any weight bounds.bytes (take bounds.entries xs)

-- The entries that stay: the least recently used, which stand last, go until both bounds hold.
-- own: whatever each of them weighs ("The last go until both bounds hold")
abbrev pub cut_to_bounds : StoreBounds → List Stored → List Stored
cut_to_bounds bounds es = longest_prefix_within bounds weight_of_entry es

-- by these weights of serials each entry weighs what it does
abbrev pub WeightsAreThoseOfEntries : (ℕ → ℕ) → List Stored → Type 0
WeightsAreThoseOfEntries weights [] = Unit {0}
WeightsAreThoseOfEntries weights (e ∷ es) = (weights e.serial ≡ weight_of_entry e) × WeightsAreThoseOfEntries weights es

-- where a list weighs more than so much the last one goes: that one, and what is left
abbrev pub entry_evicted_by_weight : ℕ → List Stored → Option Stored
entry_evicted_by_weight most es = if nat_lt most (total_weight es) then slice_get es (length es - 1) else None

abbrev pub entries_after_one_weight_eviction : ℕ → List Stored → List Stored
entries_after_one_weight_eviction most es = if nat_lt most (total_weight es) then take (length es - 1) es else es

-- what a sum counts of an entry: its weight, of which no more fits a number of 64 bits
abbrev pub weight_capped_to_64_bits : Stored → ℕ
weight_capped_to_64_bits e = min (weight_of_entry e) (2 ^ 64 - 1)

abbrev pub total_of_capped_weights : List Stored → ℕ
total_of_capped_weights es = sum_by weight_capped_to_64_bits es
