use Rattle.std.proofs.Common.{arith}
use Rattle.proxy_log.proofs.LineBytes.{port_shown}
use Rattle.proxy_log.proofs.line.port_is_shown.Goals as goal

pub returns : goal.returns
returns c = port_shown c.args.port (omega (arith, c.ranges.port))
