use Rattle.hx_allow.proofs.CookieLines.{read_as_written, lines_together}
use Rattle.hx_allow.proofs.cookie_laws.a_cookie_field_is_read_as_it_is_written.Goals as goal

pub returns : goal.returns
returns c = record {
  written = λ names pair more all. read_as_written names pair more all;
  together = λ names fields more. lines_together names fields more;
}
