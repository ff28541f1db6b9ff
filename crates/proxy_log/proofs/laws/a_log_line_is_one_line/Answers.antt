use Rattle.proxy_log.proofs.LineBytes.{line_is_one_line}
use Rattle.proxy_log.proofs.laws.a_log_line_is_one_line.Goals as goal

pub returns : goal.returns
returns c = line_is_one_line
