use Rattle.hx_allow.proofs.Loops.{times_together}
use Rattle.hx_allow.proofs.ViaWritten.{times_written}
use Rattle.hx_allow.proofs.loop_laws.a_line_of_via_is_read_as_it_is_written.Goals as goal

pub returns : goal.returns
returns c = record {
  written = λ name member more all. times_written name member more all;
  together = λ name fields more. times_together name fields more;
}
