use Rattle.proxy_core.proofs.Waits.{plain_lines_wait_for_misses}
use Rattle.proxy_core.proofs.laws.a_line_without_wait_waits_for_misses.Goals as goal

pub returns : goal.returns
returns c = plain_lines_wait_for_misses
