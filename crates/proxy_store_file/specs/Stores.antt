-- The file of a store: how a store is spelled, and what a text is read as.
--
-- StoreContents: what a file tells       store_spelling: the text that tells it
-- leading_entry: the entry at the front of bytes      entry_fault: why it may not stand in the store
-- read_store: what a text tells, or the fault at its earliest place
use Rattle.std.specs.Prelude.{ℕ, ◌+◌, ◌-◌, ◌==◌, nat_le, nat_lt, zero, suc, Bool, false, not, ◌&&◌, ◌||◌, if◌then◌else◌}
use Rattle.std.specs.Prelude.{List, [], ◌∷◌, ◌++◌, length, take, codes, bytes_eq, Option, None, Some, Result, Ok, Err}
use Rattle.std.specs.Hash.DefaultHasher.{initial, write, finish}
use Rattle.hx_store.specs.Stored.{Stored}
use Rattle.hx_store.specs.Serials.{serial_is_in}
use Rattle.hx_store.specs.Shelf.{serials}
use Rattle.hx_store.specs.Weights.{StoreBounds, total_weight}
use Rattle.proxy_store_file.specs.declared.heads.Head.{Head}
use Rattle.proxy_store_file.specs.declared.store_faults.EntryPart.{EntryPart}
use Rattle.proxy_store_file.specs.declared.store_faults.EntryPart.TheVariants as part
use Rattle.proxy_store_file.specs.declared.store_faults.StoreReadFault.{StoreReadFault}
use Rattle.proxy_store_file.specs.declared.store_faults.StoreReadFault.TheVariants as fault
use Rattle.proxy_store_file.specs.Texts.{number_spelling, text_spelling, number_of, is_number, cut}
use Rattle.proxy_store_file.specs.Heads.{head_spelling, head_spelled_in, head_of_entry, stored_with_content}
use Rattle.proxy_store_file.specs.Parts.{most_entry_head_bytes, first_invalid_part}

-- the entries that are held, the latest stored or used first, and the serial of the next one
pub record StoreContents : Type 0 where
  pub entries : List Stored
  pub next_serial : ℕ

-- the head behind its length, and the content, whose length is in the head
abbrev pub entry_spelling : Stored → List ℕ
entry_spelling e = text_spelling (head_spelling (head_of_entry e)) ++ e.content

-- the latest used comes last, so that each is put in front of those before it when they are read
abbrev pub entries_spelling : List Stored → List ℕ
entries_spelling [] = []
entries_spelling (e ∷ es) = entries_spelling es ++ entry_spelling e

abbrev pub first_line_words : List ℕ
first_line_words = codes "revcache store "

-- the format and its version, and LF
abbrev pub first_line : List ℕ
first_line = codes "revcache store 1" ++ 10 ∷ []

abbrev pub opening_spelling : ℕ → ℕ → List ℕ
opening_spelling next_serial number = first_line ++ number_spelling next_serial ++ number_spelling number

abbrev pub body_spelling : StoreContents → List ℕ
body_spelling store =
    opening_spelling store.next_serial (length store.entries) ++ entries_spelling store.entries

-- SipHash-1-3 by a key of zeros. It tells damage, and not what somebody meant to write ("The digest of a store's file" in
-- docs/DECISIONS_STORE.md).
unfoldable pub digest_spelling : List ℕ → List ℕ
digest_spelling body = number_spelling (finish (write initial body))

abbrev pub store_spelling : StoreContents → List ℕ
store_spelling store = body_spelling store ++ digest_spelling (body_spelling store)

-- what stands at the front: less than an entry, what is none, or one with what follows it
pub data LeadingEntryReading : Type 0 where
  Cut : LeadingEntryReading
  Shapeless : LeadingEntryReading
  Found : (entry : Stored) (rest : List ℕ) → LeadingEntryReading

abbrev pub entry_reading_or_cut : Option (List ℕ × List ℕ) → (List ℕ → List ℕ → LeadingEntryReading)
    → LeadingEntryReading
entry_reading_or_cut None read = Cut
entry_reading_or_cut (Some p) read = read p.0 p.1

abbrev pub found_entry_with_content : Head → List ℕ → List ℕ → LeadingEntryReading
found_entry_with_content head content rest = Found (stored_with_content head content) rest

abbrev pub entry_read_on_after_head : Option Head → List ℕ → LeadingEntryReading
entry_read_on_after_head None rest = Shapeless
entry_read_on_after_head (Some head) rest = entry_reading_or_cut (cut head.content_length rest)
    (found_entry_with_content head)

abbrev pub entry_behind_length : List ℕ → List ℕ → LeadingEntryReading
entry_behind_length number rest =
    if is_number number && nat_le (number_of number) most_entry_head_bytes
    then entry_reading_or_cut (cut (number_of number) rest)
    (λ head more. entry_read_on_after_head (head_spelled_in head) more)
    else Shapeless

unfoldable pub leading_entry : List ℕ → LeadingEntryReading
leading_entry bytes = entry_reading_or_cut (cut 8 bytes) entry_behind_length

-- a store with this weight would weigh too much
abbrev pub store_weight_exceeds_bound : Option ℕ → ℕ → Bool
store_weight_exceeds_bound None weight = false
store_weight_exceeds_bound (Some most) weight = nat_lt most weight

-- why the entry of this number may not stand in front of those that were read, if its parts are what they must be
abbrev pub entry_fault_against_held : ℕ → Option ℕ → ℕ → List Stored → Stored → Option StoreReadFault
entry_fault_against_held n most next_serial held e =
    if serial_is_in e.serial (serials held) || nat_le next_serial e.serial then Some (fault.Serial n)
    else if store_weight_exceeds_bound most (total_weight (e ∷ held)) then Some (fault.Weight n)
    else None

abbrev pub fault_of_part : ℕ → Option EntryPart → Option StoreReadFault → Option StoreReadFault
fault_of_part n None other = other
fault_of_part n (Some p) other = Some (fault.Entry n p)

abbrev pub entry_fault : ℕ → Option ℕ → ℕ → List Stored → Stored → Option StoreReadFault
entry_fault n most next_serial held e =
    fault_of_part n (first_invalid_part e) (entry_fault_against_held n most next_serial held e)

abbrev pub StoreReading : Type 0
StoreReading = Result StoreContents StoreReadFault

-- so many bytes; where there are fewer, the file is short, with so many whole entries
abbrev pub reading_or_short_file_fault : ℕ → Option (List ℕ × List ℕ) → (List ℕ → List ℕ → StoreReading) → StoreReading
reading_or_short_file_fault n None read = Err (fault.Short n)
reading_or_short_file_fault n (Some p) read = read p.0 p.1

abbrev pub reading_of_digest : List ℕ → StoreContents → List ℕ → List ℕ → StoreReading
reading_of_digest body store digest rest =
    if bytes_eq digest (digest_spelling body) then if length rest == 0 then Ok store else Err fault.Long
    else Err fault.Digest

-- the digest is that of what stands in front of it
abbrev pub reading_of_end : List ℕ → StoreContents → List ℕ → StoreReading
reading_of_end text store rest =
    reading_or_short_file_fault (length store.entries) (cut 8 rest)
    (reading_of_digest (take (length text - length rest) text) store)

abbrev pub reading_unless_entry_fault : Option StoreReadFault → StoreReading → StoreReading
reading_unless_entry_fault None reading = reading
reading_unless_entry_fault (Some f) reading = Err f

abbrev pub reading_after_entry : Option ℕ → ℕ → List Stored → (Stored → List ℕ → StoreReading) → LeadingEntryReading
    → StoreReading
reading_after_entry most next_serial held read Cut = Err (fault.Short (length held))
reading_after_entry most next_serial held read Shapeless = Err (fault.Entry (length held + 1) part.Head)
reading_after_entry most next_serial held read (Found e rest) =
    reading_unless_entry_fault (entry_fault (length held + 1) most next_serial held e) (read e rest)

-- so many more entries, in front of those that were read, and the end
abbrev pub reading_of_entries : List ℕ → Option ℕ → ℕ → ℕ → List Stored → List ℕ → StoreReading
reading_of_entries text most next_serial zero held rest =
    reading_of_end text (record { entries = held; next_serial = next_serial }) rest
reading_of_entries text most next_serial (suc left) held rest =
    reading_after_entry most next_serial held (λ e more. reading_of_entries text most next_serial left (e ∷ held) more)
    (leading_entry rest)

abbrev pub reading_by_opening_numbers : StoreBounds → List ℕ → List ℕ → List ℕ → List ℕ → StoreReading
reading_by_opening_numbers bounds text next number rest =
    if is_number next && is_number number
    then if nat_le (number_of number) bounds.entries
    then reading_of_entries text bounds.bytes (number_of next) (number_of number) [] rest
    else Err fault.Entries
    else Err fault.NotAStore

abbrev pub reading_by_first_line : StoreBounds → List ℕ → List ℕ → List ℕ → StoreReading
reading_by_first_line bounds text line rest =
    if bytes_eq line first_line
    then reading_or_short_file_fault 0 (cut 8 rest)
    (λ next more. reading_or_short_file_fault 0 (cut 8 more) (reading_by_opening_numbers bounds text next))
    else if bytes_eq (take 15 line) first_line_words then Err fault.Version
    else Err fault.NotAStore

unfoldable pub read_store : StoreBounds → List ℕ → StoreReading
read_store bounds text = reading_or_short_file_fault 0 (cut 17 text) (reading_by_first_line bounds text)
