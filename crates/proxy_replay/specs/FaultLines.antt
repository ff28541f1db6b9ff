-- The line on standard error that names a fault, and the exit status.
use Rattle.std.specs.Prelude.{ℕ, List, ◌++◌, map, ◌&&◌, nat_le, if◌then◌else◌, codes, decimal}
use Rattle.hx_allow.specs.Keys.{key_text, key_of_line_option}
use Rattle.hx_allow.specs.declared.config_faults.TableFault.{TableFault}
use Rattle.hx_allow.specs.declared.config_faults.TableFault.TheVariants.{NotToml, UnknownKey, BadName, BadNumber}
use Rattle.hx_allow.specs.declared.config_faults.TableFault.TheVariants.{BadHost}
use Rattle.hx_allow.specs.declared.config_faults.TableFault.TheVariants.{BadMethod, BadPath, BadOrigin, NoLines}
use Rattle.hx_allow.specs.declared.config_faults.TableFault.TheVariants.{OutOfMemory}
use Rattle.hx_allow.specs.declared.config_faults.TableFault.TheVariants.{BadCache, BadWord, MethodInLowerCase}
use Rattle.hx_allow.specs.declared.config_faults.TableFault.TheVariants.{StarInPath}
use Rattle.proxy_engine.specs.declared.work.EngineFault.{EngineFault}
use Rattle.proxy_engine.specs.declared.work.EngineFault.TheVariants as engine
use Rattle.proxy_store_file.specs.declared.store_faults.StoreReadFault.{StoreReadFault}
use Rattle.proxy_store_file.specs.declared.store_faults.StoreReadFault.TheVariants as store
use Rattle.proxy_replay.specs.declared.replay_fault.ReplayFault.{ReplayFault}
use Rattle.proxy_replay.specs.declared.replay_fault.ReplayFault.TheVariants as faults

-- a byte of a key as it is shown: what isn't printable ASCII, or is a space, is a question mark
abbrev pub byte_made_printable : ℕ → ℕ
byte_made_printable b = if nat_le 33 b && nat_le b 126 then b else 63

abbrev pub key_made_printable : List ℕ → List ℕ
key_made_printable key = map byte_made_printable key

-- a table's fault: its number, and the key or line where it has one
abbrev pub table_fault_line : TableFault → List ℕ
table_fault_line NotToml = codes "config fault 1"
table_fault_line (UnknownKey key) = codes "config fault 2 key " ++ key_made_printable key
table_fault_line BadName = codes "config fault 3"
table_fault_line (BadNumber key) = codes "config fault 4 key " ++ key_text key
table_fault_line (BadHost line) = codes "config fault 5 line " ++ decimal line
table_fault_line (BadMethod line) = codes "config fault 6 line " ++ decimal line
table_fault_line (BadPath line) = codes "config fault 7 line " ++ decimal line
table_fault_line (BadOrigin line) = codes "config fault 8 line " ++ decimal line
table_fault_line NoLines = codes "config fault 9"
table_fault_line OutOfMemory = codes "no memory"
table_fault_line (BadCache line) = codes "config fault 11 line " ++ decimal line
table_fault_line (BadWord line word) = codes "config fault 12 line " ++ (decimal line ++ (codes " key " ++ key_of_line_option word))
table_fault_line (MethodInLowerCase line) = codes "config fault 13 line " ++ decimal line
table_fault_line (StarInPath line) = codes "config fault 14 line " ++ decimal line

-- a fault of a store's file: its number, and how many responses were whole, or which one is at fault
abbrev pub store_fault_line : StoreReadFault → List ℕ
store_fault_line store.NotAStore = codes "store fault 1"
store_fault_line store.Version = codes "store fault 2"
store_fault_line store.Entries = codes "store fault 3"
store_fault_line (store.Short n) = codes "store fault 4 behind " ++ decimal n
store_fault_line (store.Entry n part) = codes "store fault 5 response " ++ decimal n
store_fault_line (store.Serial n) = codes "store fault 6 response " ++ decimal n
store_fault_line (store.Weight n) = codes "store fault 7 response " ++ decimal n
store_fault_line store.Digest = codes "store fault 8"
store_fault_line store.Long = codes "store fault 9"
store_fault_line store.Read = codes "store fault 10"
store_fault_line store.OutOfMemory = codes "no memory"

-- an engine's fault; out of memory isn't named as one
abbrev pub engine_fault_line : EngineFault → List ℕ
engine_fault_line engine.WrongNumber = codes "engine fault 1"
engine_fault_line engine.NotAccepted = codes "engine fault 2"
engine_fault_line engine.OutOfMemory = codes "no memory"
engine_fault_line engine.Spent = codes "engine fault 4"
engine_fault_line engine.NotWaiting = codes "engine fault 5"

-- the line, without its LF
abbrev pub fault_line : ReplayFault → List ℕ
fault_line (faults.Config fault) = table_fault_line fault
fault_line (faults.Store fault) = store_fault_line fault
fault_line (faults.Line n) = codes "script fault line " ++ decimal n
fault_line (faults.Engine fault) = engine_fault_line fault
fault_line faults.Read = codes "read fault"
fault_line faults.Write = codes "write fault"
fault_line faults.OutOfMemory = codes "no memory"

abbrev pub exit_status_of_table_fault : TableFault → ℕ
exit_status_of_table_fault OutOfMemory = 1
exit_status_of_table_fault _ = 2

-- a table at fault is told apart
abbrev pub exit_status_of : ReplayFault → ℕ
exit_status_of (faults.Config fault) = exit_status_of_table_fault fault
exit_status_of _ = 1
