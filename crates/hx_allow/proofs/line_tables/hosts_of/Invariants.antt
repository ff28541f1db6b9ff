use Rattle.std.proofs.Common.{◌≡◌, ◌++◌, drop}
use Rattle.std.specs.Prelude.{map}
use Rattle.hx_allow.specs.LineHosts.{line_host_of}
use Rattle.hx_allow.proofs.line_tables.hosts_of.Given as goal

abbrev pub invariant-loop-text : goal.invariant-loop-text
invariant-loop-text l = l.hosts.items ++ map line_host_of (drop l.text-index l.texts) ≡ map line_host_of l.texts
