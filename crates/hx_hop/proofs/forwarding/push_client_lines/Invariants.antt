use Rattle.std.proofs.Common.{◌≡◌, ◌++◌, drop}
use Rattle.hx_hop.specs.Forwarding.{forwarded_client_lines}
use Rattle.hx_hop.proofs.forwarding.push_client_lines.Given as goal

abbrev pub invariant-loop-line : goal.invariant-loop-line
invariant-loop-line l = l.fields ++ forwarded_client_lines l.without_conditions (drop l.line-index l.lines) ≡ l.fn.fields ++ forwarded_client_lines l.without_conditions l.lines
