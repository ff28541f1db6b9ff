use Rattle.std.proofs.Common.{◌≡◌, drop}
use Rattle.std.specs.Prelude.{bytes_eq}
use Rattle.std.specs.List.{list_any}
use Rattle.hx_allow.specs.Index.{parent_domains_of}
use Rattle.hx_allow.proofs.line_hosts.is_below_host.Given as goal

abbrev pub invariant-loop-place : goal.invariant-loop-place
invariant-loop-place l =
    list_any (bytes_eq l.host) (parent_domains_of (drop l.place l.asked)) ≡ list_any (bytes_eq l.host) (parent_domains_of l.asked)
