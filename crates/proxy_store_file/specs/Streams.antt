-- What a reader gave, and a writer took, of the file of a store.
--
-- ReaderGaveBytes: these bytes, which the hasher was fed      ReaderStoppedShort: fewer than were asked for
-- ReaderGaveReading, ReaderIsRefusedFor: what the bytes that it gave are read as         FileFrontIsRead: a front of
-- them
-- was
-- NextEntryIsRead, FileEndIsRead: the same of the next entry and of the end
use Rattle.std.specs.Prelude.{◌≡◌, ◌≢◌, ℕ, suc, Bool, true, List, [], ◌++◌, length, take, bytes_eq}
use Rattle.std.specs.Prelude.{Option, None, Some, Result, Ok, Err, if◌then◌else◌}
use Rattle.std.specs.Hash.DefaultHasher.{initial, write}
use Rattle.std.specs.Io.KnownBytes.{Consumes, IsAtEnd}
use Rattle.std.specs.declared.hash.DefaultHasher.{DefaultHasher}
use Rattle.hx_store.specs.Weights.{StoreBounds}
use Rattle.proxy_store_file.specs.declared.store_faults.StoreReadFault.{StoreReadFault}
use Rattle.proxy_store_file.specs.declared.store_faults.StoreReadFault.TheVariants as fault
use Rattle.proxy_store_file.specs.declared.pieces.ReadStop.{ReadStop}
use Rattle.proxy_store_file.specs.declared.pieces.ReadStop.TheVariants as stop
use Rattle.proxy_store_file.specs.Texts.{number_of, is_number}
use Rattle.hx_store.specs.Stored.{Stored}
use Rattle.proxy_store_file.specs.Stores.{StoreContents, StoreReading, reading_of_entries, reading_of_end}
use Rattle.proxy_store_file.specs.Stores.{LeadingEntryReading}
use Rattle.proxy_store_file.specs.Stores.{Cut}
use Rattle.proxy_store_file.specs.Stores.{Shapeless, first_line, first_line_words}
use Rattle.proxy_store_file.specs.Stores.{Found, leading_entry}

-- the reader gave these bytes, and the hasher was fed them
pub record ReaderGaveBytes (old new : Option (List ℕ)) (before after : DefaultHasher) (bytes : List ℕ) : Type 0 where
  pub consumes : Consumes old new bytes
  pub hashed : after ≡ write before bytes

-- they were eight bytes, which spell this number
pub record EightBytesGaveNumber (old new : Option (List ℕ)) (before after : DefaultHasher) (n : ℕ) : Type 0 where
  pub bytes : List ℕ
  pub gave : ReaderGaveBytes old new before after bytes
  pub are_eight : length bytes ≡ 8
  pub is_number : is_number bytes ≡ true
  pub number : n ≡ number_of bytes

-- The reader gave bytes that are too few, and then came to its end or failed; or memory ran out.
pub record ReaderStoppedShort (AreTooFew : List ℕ → Type 0) (old new : Option (List ℕ)) (why : ReadStop) : Type 0 where
  pub bytes : List ℕ
  pub consumes : Consumes old new bytes
  pub few : why ≢ stop.OutOfMemory → AreTooFew bytes
  pub ended : why ≡ stop.Ended → IsAtEnd new

-- they are read so as an entry, whatever follows them
pub record EntryIsRead (old new : Option (List ℕ)) (before after : DefaultHasher)
    (reading : List ℕ → LeadingEntryReading) : Type 0 where
  pub bytes : List ℕ
  pub gave : ReaderGaveBytes old new before after bytes
  pub reads : (more : List ℕ) → leading_entry (bytes ++ more) ≡ reading more

-- less than an entry
abbrev pub IsLessThanAnEntry : List ℕ → Type 0
IsLessThanAnEntry bytes = leading_entry bytes ≡ Cut

-- what was read of an entry, if its head has the shape of one
abbrev pub reading_of_entry : Option Stored → List ℕ → LeadingEntryReading
reading_of_entry None more = Shapeless
reading_of_entry (Some e) more = Found e more

-- The reader gave bytes that are read so, whatever more it may have, or as the whole that it had. What reads them is
-- what is left to read: the whole of a file, or what stands behind a front of it.
pub record ReaderGaveReading (read : List ℕ
    → StoreReading) (old new : Option (List ℕ)) (reading : StoreReading) : Type 0 where
  pub bytes : List ℕ
  pub consumes : Consumes old new bytes
  pub ended : Bool
  pub whole : ended ≡ true → IsAtEnd new
  pub reads : (more : List ℕ) → (ended ≡ true → more ≡ []) → read (bytes ++ more) ≡ reading

-- the reader failed before its end was seen, or memory ran out
pub record ReadingStopsEarly (read : List ℕ → StoreReading) (old new : Option (List ℕ))
    (IsSo : StoreReading → Type 0) : Type 0 where
  pub bytes : List ℕ
  pub consumes : Consumes old new bytes
  pub reads : IsSo (read bytes)

-- so far it is too short, or whole if nothing follows
abbrev pub ReadingIsWholeOrTooShort : StoreReading → Type 0
ReadingIsWholeOrTooShort (Ok store) = Unit {0}
ReadingIsWholeOrTooShort (Err f) = (n : ℕ) × (f ≡ fault.Short n)

-- why nothing was read
abbrev pub ReaderIsRefusedFor : (List ℕ → StoreReading) → Option (List ℕ) → Option (List ℕ) → StoreReadFault → Type 0
ReaderIsRefusedFor read old new fault.Read = ReadingStopsEarly read old new ReadingIsWholeOrTooShort
ReaderIsRefusedFor read old new fault.OutOfMemory = ReadingStopsEarly read old new (λ reading. Unit {0})
ReaderIsRefusedFor read old new f = ReaderGaveReading read old new (Err f)

-- The reader gave a front, of which the hasher was fed: what is read there is what is read behind it, of the whole and
-- of what follows.
pub record FileFrontIsRead (read : List ℕ → StoreReading) (read_behind : List ℕ → List ℕ → StoreReading)
    (old new : Option (List ℕ)) (before after : DefaultHasher) : Type 0 where
  pub bytes : List ℕ
  pub gave : ReaderGaveBytes old new before after bytes
  pub reads : (more : List ℕ) → read (bytes ++ more) ≡ read_behind (bytes ++ more) more

abbrev pub store_contents_of : List Stored → ℕ → StoreContents
store_contents_of entries next = record { entries = entries; next_serial = next }

-- why a first line isn't that of such a file
abbrev pub first_line_fault : List ℕ → Option StoreReadFault
first_line_fault line =
    if bytes_eq line first_line then None
    else if bytes_eq (take 15 line) first_line_words then Some fault.Version
    else Some fault.NotAStore

-- what the reader's stop means behind so many whole entries
abbrev pub fault_of_stop : ℕ → ReadStop → StoreReadFault
fault_of_stop n stop.Ended = fault.Short n
fault_of_stop n stop.Failed = fault.Read
fault_of_stop n stop.OutOfMemory = fault.OutOfMemory

-- the bounds of a store
abbrev pub bounds_of : ℕ → Option ℕ → StoreBounds
bounds_of entries bytes = record { entries = entries; bytes = bytes }

-- the next entry was read behind any front: it stands in front of those that were held
abbrev pub NextEntryIsRead : Option ℕ → ℕ → List Stored → List Stored → Option (List ℕ) → Option (List ℕ)
    → DefaultHasher
    → DefaultHasher → Type 0
NextEntryIsRead most next held more_held old new before after = (front : List ℕ) (left : ℕ) → FileFrontIsRead
    (λ rest. reading_of_entries (front ++ rest) most next (suc left) held rest)
    (λ text more. reading_of_entries (front ++ text) most next left more_held more) old new before after

abbrev pub EntryIsRefused : Option ℕ → ℕ → List Stored → Option (List ℕ) → Option (List ℕ) → StoreReadFault → Type 0
EntryIsRefused most next held old new f = (front : List ℕ) (left : ℕ) → ReaderIsRefusedFor
    (λ rest. reading_of_entries (front ++ rest) most next (suc left) held rest) old new f

-- the digest of a front, of which the hasher was fed, and the end of the file
abbrev pub FileEndIsRead : List Stored → Option (List ℕ) → Option (List ℕ) → DefaultHasher → Type 0
FileEndIsRead held old new before = (front : List ℕ) (next : ℕ) → before ≡ write initial front
    → ReaderGaveReading (λ rest. reading_of_end (front
    ++ rest) (store_contents_of held next) rest) old new (Ok (store_contents_of held next))

abbrev pub FileEndIsRefused : List Stored → Option (List ℕ) → Option (List ℕ) → DefaultHasher → StoreReadFault → Type 0
FileEndIsRefused held old new before f = (front : List ℕ) (next : ℕ) → before ≡ write initial front
    → ReaderIsRefusedFor (λ rest. reading_of_end (front ++ rest) (store_contents_of held next) rest) old new f
