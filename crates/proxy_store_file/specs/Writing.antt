-- What a writer took of the file of a store, and why no more of it.
--
-- WriterTookBytes: these bytes, of which the hasher was fed          WriterTookAFront: a front of them
-- entry_write_fault, store_write_fault: why an entry, or a store, can't be told by a file
-- StoreIsNotWritten: what is so where a store wasn't written whole
use Rattle.std.specs.Prelude.{◌≡◌, ℕ, ◌+◌, nat_le, List, [], ◌∷◌, ◌++◌, length, Option, None, Some, if◌then◌else◌}
use Rattle.std.specs.Hash.DefaultHasher.{write}
use Rattle.std.specs.Io.KnownBytes.{Appends}
use Rattle.std.specs.declared.hash.DefaultHasher.{DefaultHasher}
use Rattle.hx_store.specs.Stored.{Stored}
use Rattle.proxy_store_file.specs.declared.store_faults.EntryPart.{EntryPart}
use Rattle.proxy_store_file.specs.declared.store_faults.EntryPart.TheVariants as part
use Rattle.proxy_store_file.specs.declared.store_faults.WriteFault.{WriteFault}
use Rattle.proxy_store_file.specs.declared.store_faults.WriteFault.TheVariants as fault
use Rattle.proxy_store_file.specs.Heads.{head_spelling, head_of_entry}
use Rattle.proxy_store_file.specs.Parts.{most_entry_head_bytes, first_invalid_part}

-- the writer took these bytes, and the hasher was fed them
pub record WriterTookBytes (old new : Option (List ℕ)) (before after : DefaultHasher) (bytes : List ℕ) : Type 0 where
  pub appends : Appends old new bytes
  pub hashed : after ≡ write before bytes

-- the writer took a front of these bytes
pub record WriterTookAFront (old new : Option (List ℕ)) (bytes : List ℕ) : Type 0 where
  pub front : List ℕ
  pub rest : List ℕ
  pub is_front : front ++ rest ≡ bytes
  pub appends : Appends old new front

-- the first part of an entry that isn't what it must be, its head as a whole before the others
abbrev pub first_unwritable_part : Stored → Option EntryPart
first_unwritable_part e =
    if nat_le (length (head_spelling (head_of_entry e))) most_entry_head_bytes then first_invalid_part e else Some
    part.Head

abbrev pub write_fault_of_part : ℕ → Option EntryPart → Option WriteFault → Option WriteFault
write_fault_of_part n None other = other
write_fault_of_part n (Some p) other = Some (fault.Entry n p)

-- why the entry of this number can't be told
abbrev pub entry_write_fault : ℕ → ℕ → Stored → Option WriteFault
entry_write_fault n next e =
    write_fault_of_part n (first_unwritable_part e) (if nat_le next e.serial then Some (fault.Serial n) else None)

abbrev pub first_fault_of_two : Option WriteFault → Option WriteFault → Option WriteFault
first_fault_of_two None second = second
first_fault_of_two (Some f) second = Some f

-- the fault of the entry that comes first in the file, so of the least recently used of those that have one
abbrev pub store_write_fault : ℕ → List Stored → Option WriteFault
store_write_fault next [] = None
store_write_fault next (e ∷ es) =
    first_fault_of_two (store_write_fault next es) (entry_write_fault (length es + 1) next e)

-- a fault of what is told is the first; of a writer and of memory nothing is said
abbrev pub IsFirstFaultUnlessWriteOrMemory : Option WriteFault → WriteFault → Type 0
IsFirstFaultUnlessWriteOrMemory first fault.Write = Unit {0}
IsFirstFaultUnlessWriteOrMemory first fault.OutOfMemory = Unit {0}
IsFirstFaultUnlessWriteOrMemory first f = first ≡ Some f

-- a front was written, and why no more
pub record StoreWasNotWritten (old new : Option (List ℕ)) (bytes : List ℕ) (first : Option WriteFault)
    (f : WriteFault) : Type 0 where
  pub took : WriterTookAFront old new bytes
  pub why : IsFirstFaultUnlessWriteOrMemory first f
