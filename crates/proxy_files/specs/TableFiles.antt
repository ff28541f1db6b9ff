-- What is read of a table's file, and what is told of a table.
--
-- IsWholeOrTooLong: what is read of a file      BytesAreTableOrFault: what comes of a table's bytes
-- NoTableIsTruncated: a law
use Rattle.std.specs.Prelude.{◌≡◌, ◌⊎◌, ◌<◌, ℕ, List, length, Option, Some, None, Result, Ok, Err}
use Rattle.hx_allow.specs.declared.limits.TheConstants.{MOST_TABLE_BYTES}
use Rattle.hx_allow.specs.TableLines.{Table}
use Rattle.hx_allow.specs.Tables.{BytesReadAsTable}
use Rattle.hx_allow.specs.declared.config_faults.TableFault.{TableFault}
use Rattle.hx_allow.specs.declared.config_faults.TableFault.TheVariants.{OutOfMemory}
use Rattle.proxy_files.specs.declared.command_fault.CommandFailure.{CommandFailure}
use Rattle.proxy_files.specs.declared.command_fault.CommandFailure.TheVariants as faults
use Rattle.proxy_replay.specs.declared.replay_fault.ReplayFault.TheVariants as replay

-- all of a file, or so much of it that it is none of a table, which has at most so many bytes
abbrev pub IsWholeOrTooLong : List ℕ → List ℕ → Type 0
IsWholeOrTooLong text file = (text ≡ file) ⊎ (MOST_TABLE_BYTES < length text)

-- A table's bytes are read as this one, or have this fault, which is the first in the order of looking; or memory ran
-- out.
abbrev pub BytesAreTableOrFault : List ℕ → Result Table CommandFailure → Type 0
BytesAreTableOrFault text (Ok table) = BytesReadAsTable text (Ok table)
BytesAreTableOrFault text (Err (faults.Table (replay.Config OutOfMemory) place)) = Unit {0}
BytesAreTableOrFault text (Err (faults.Table (replay.Config fault) place)) = BytesReadAsTable text (Err fault)
BytesAreTableOrFault text (Err other) = ⊥

-- what was read of a file and is taken as a table is all of that file
abbrev pub NoTableIsTruncated : Type 0
NoTableIsTruncated =
    (text file : List ℕ) (table : Table) → IsWholeOrTooLong text file → BytesReadAsTable text (Ok table)
    → BytesReadAsTable file (Ok table) × (text ≡ file)
