use Rattle.std.proofs.Common.{◌≡◌, ℕ, ◌++◌, List, drop}
use Rattle.hx_allow.specs.Index.{line_host_is_exactly, is_wildcard_of, is_for_every_host, line_numbers_for_host, number_repeated_for_hosts, NoIndexedHostIsLonger}
use Rattle.hx_allow.proofs.host_index.note_hosts.Given as goal

abbrev pub invariant-loop-host : goal.invariant-loop-host
invariant-loop-host l = record {
  named : (host : List ℕ) → line_numbers_for_host l.index.named host ++ number_repeated_for_hosts l.number (line_host_is_exactly host) (drop l.host-index l.hosts) ≡ line_numbers_for_host l.fn.index.named host ++ number_repeated_for_hosts l.number (line_host_is_exactly host) l.hosts;
  below : (host : List ℕ) → line_numbers_for_host l.index.below host ++ number_repeated_for_hosts l.number (is_wildcard_of host) (drop l.host-index l.hosts) ≡ line_numbers_for_host l.fn.index.below host ++ number_repeated_for_hosts l.number (is_wildcard_of host) l.hosts;
  every : l.index.every.items ++ number_repeated_for_hosts l.number is_for_every_host (drop l.host-index l.hosts) ≡ l.fn.index.every.items ++ number_repeated_for_hosts l.number is_for_every_host l.hosts;
  short : NoIndexedHostIsLonger l.fn.index.longest l.fn.index.below → NoIndexedHostIsLonger l.index.longest l.index.below;
}
