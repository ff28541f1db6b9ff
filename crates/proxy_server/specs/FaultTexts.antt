-- Why a server ends or nothing more is recorded, and what to do about it, in words.
use Rattle.std.specs.Prelude.{ℕ, List, codes}
use Rattle.proxy_record.specs.declared.recorder.RecordFault.{RecordFault}
use Rattle.proxy_record.specs.declared.recorder.RecordFault.TheVariants.{Write, NoMemory}
use Rattle.proxy_server.specs.declared.server.ServeFault.{ServeFault}
use Rattle.proxy_server.specs.declared.server.ServeFault.TheVariants.{Socket, Clock, Record, Spent}

abbrev pub record_fault_text : RecordFault → List ℕ
record_fault_text Write = codes "the record can't be written; make room on its disk, or serve without a record"
record_fault_text NoMemory = codes "no memory is left for the record; give the proxy more, or serve without a record"

abbrev pub serve_fault_text : ServeFault → List ℕ
serve_fault_text Socket = codes "the system can't tell which sockets are ready; look at its journal, and start the proxy anew"
serve_fault_text Clock = codes "the clock of the system can't be read; mend it, and start the proxy anew"
serve_fault_text (Record fault) = record_fault_text fault
serve_fault_text Spent = codes "no number of a link is left; start the proxy anew"
