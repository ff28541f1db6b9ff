use Rattle.std.proofs.Common.{sym, ◌∙◌}
use Rattle.proxy_log.proofs.LineBytes.{shown_all}
use Rattle.proxy_log.proofs.line.are_shown.Goals as goal

pub returns : goal.returns
returns c is = shown_all c.args.blanks c.args.bytes.now (sym c.are_plain.ensures ∙ is)
