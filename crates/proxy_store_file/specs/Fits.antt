-- Which entries and stores can be told by a file, so that it is read as what was written.
--
-- EntryNumbersAre64Bit: each number of an entry fits its type       EntriesCanBeWritten: each may stand in front of
-- those behind
-- it
-- EntriesAreValidInStore: what is so of entries that were read
-- StoreCanBeWritten: a store that is read as it was written
use Rattle.std.specs.Prelude.{◌≡◌, ℕ, ◌+◌, ◌<◌, ◌≤◌, ◌^◌, nat_le, false, List, [], ◌∷◌, length, Option, None, Some}
use Rattle.std.specs.List.{AllByRecursion}
use Rattle.hx_fields.specs.Line.{Field}
use Rattle.hx_vary.specs.declared.nominated_values.NominatedValue.{NominatedValue}
use Rattle.hx_store.specs.Stored.{Stored}
use Rattle.hx_store.specs.Serials.{serial_is_in, SerialsAreDistinct}
use Rattle.hx_store.specs.Shelf.{serials}
use Rattle.hx_store.specs.Weights.{StoreBounds, IsWithinBounds, weight_of_entry, total_weight}
use Rattle.proxy_store_file.specs.Heads.{head_spelling, head_of_entry}
use Rattle.proxy_store_file.specs.Parts.{most_entry_head_bytes, first_invalid_part}
use Rattle.proxy_store_file.specs.Stores.{StoreContents, store_weight_exceeds_bound}

-- its length is a number of 64 bits, as that of each text in memory is
abbrev pub TextLengthIs64Bit : List ℕ → Type 0
TextLengthIs64Bit text = length text < 2 ^ 64

abbrev pub ValueLengthIs64Bit : Option (List ℕ) → Type 0
ValueLengthIs64Bit None = Unit {0}
ValueLengthIs64Bit (Some value) = length value + 1 < 2 ^ 64

abbrev pub MomentIs64Bit : Option ℕ → Type 0
MomentIs64Bit None = Unit {0}
MomentIs64Bit (Some moment) = moment < 2 ^ 64

abbrev pub NominatedValueLengthsAre64Bit : NominatedValue → Type 0
NominatedValueLengthsAre64Bit kept = TextLengthIs64Bit kept.name × ValueLengthIs64Bit kept.value

abbrev pub FieldLineLengthsAre64Bit : Field → Type 0
FieldLineLengthsAre64Bit line = TextLengthIs64Bit line.name × TextLengthIs64Bit line.value

pub record EntryNumbersAre64Bit (e : Stored) : Type 0 where
  pub serial : e.serial < 2 ^ 64
  pub status : e.status < 2 ^ 16
  pub content : TextLengthIs64Bit e.content
  pub date : e.times.date < 2 ^ 64
  pub age : e.times.age_value < 2 ^ 32
  pub request : e.times.request_time < 2 ^ 64
  pub response : e.times.response_time < 2 ^ 64
  pub purge : MomentIs64Bit e.times.expired
  pub port : e.key.port < 2 ^ 16
  pub host : TextLengthIs64Bit e.key.host
  pub path_query : TextLengthIs64Bit e.key.path_query
  pub nominated : AllByRecursion NominatedValueLengthsAre64Bit e.nominated
  pub values : length e.nominated < 2 ^ 64
  pub fields : AllByRecursion FieldLineLengthsAre64Bit e.fields
  pub lines : length e.fields < 2 ^ 64

-- an entry may stand in front of others: its parts are what they must be, its head is short, its serial is a new one
-- below the next, and with it the store doesn't weigh too much
pub record EntryCanBeWritten (most : Option ℕ) (next_serial : ℕ) (held : List Stored) (e : Stored) : Type 0 where
  pub fits : EntryNumbersAre64Bit e
  pub short : length (head_spelling (head_of_entry e)) ≤ most_entry_head_bytes
  pub parts : first_invalid_part e ≡ None
  pub is_new : serial_is_in e.serial (serials held) ≡ false
  pub below_next : e.serial < next_serial
  pub weighs : store_weight_exceeds_bound most (total_weight (e ∷ held)) ≡ false

abbrev pub EntriesCanBeWritten : Option ℕ → ℕ → List Stored → Type 0
EntriesCanBeWritten most next_serial [] = Unit {0}
EntriesCanBeWritten most next_serial (e ∷ es) =
    EntryCanBeWritten most next_serial es e × EntriesCanBeWritten most next_serial es

-- what is so of each entry that was read: its parts are what they must be, its serial is no other's and below the
-- next, and those up to it don't weigh too much together
pub record EntryIsValidInStore (most : Option ℕ) (next_serial : ℕ) (held : List Stored) (e : Stored) : Type 0 where
  pub parts : first_invalid_part e ≡ None
  pub is_new : serial_is_in e.serial (serials held) ≡ false
  pub below_next : nat_le next_serial e.serial ≡ false
  pub weighs : store_weight_exceeds_bound most (total_weight (e ∷ held)) ≡ false

abbrev pub EntriesAreValidInStore : Option ℕ → ℕ → List Stored → Type 0
EntriesAreValidInStore most next_serial [] = Unit {0}
EntriesAreValidInStore most next_serial (e ∷ es) = EntryIsValidInStore most next_serial es e
    × EntriesAreValidInStore most next_serial es

pub record StoreCanBeWritten (bounds : StoreBounds) (store : StoreContents) : Type 0 where
  pub entries : EntriesCanBeWritten bounds.bytes store.next_serial store.entries
  pub few : length store.entries ≤ bounds.entries
  pub number : length store.entries < 2 ^ 64
  pub next_serial : store.next_serial < 2 ^ 64

-- what is so of each store that was read
pub record StoreContentsAreValid (bounds : StoreBounds) (store : StoreContents) : Type 0 where
  pub entries : EntriesAreValidInStore bounds.bytes store.next_serial store.entries
  pub distinct : SerialsAreDistinct (serials store.entries)
  pub within : IsWithinBounds bounds weight_of_entry store.entries
