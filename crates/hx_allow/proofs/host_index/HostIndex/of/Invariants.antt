use Rattle.std.proofs.Common.{◌≡◌, ℕ, ◌+◌, ◌++◌, List, drop}
use Rattle.hx_allow.specs.Index.{line_host_is_exactly, is_wildcard_of, is_for_every_host, line_numbers_for_host, numbers_of_lines_with_host_from, numbers_of_lines_with_host, NoIndexedHostIsLonger}
use Rattle.hx_allow.proofs.host_index.HostIndex.of.Given as goal

abbrev pub invariant-loop-line : goal.invariant-loop-line
invariant-loop-line l = record {
  number : l.number ≡ l.line-index + 1;
  named : (host : List ℕ) → line_numbers_for_host l.index.named host ++ numbers_of_lines_with_host_from (l.line-index + 1) (line_host_is_exactly host) (drop l.line-index l.lines) ≡ numbers_of_lines_with_host (line_host_is_exactly host) l.lines;
  below : (host : List ℕ) → line_numbers_for_host l.index.below host ++ numbers_of_lines_with_host_from (l.line-index + 1) (is_wildcard_of host) (drop l.line-index l.lines) ≡ numbers_of_lines_with_host (is_wildcard_of host) l.lines;
  every : l.index.every.items ++ numbers_of_lines_with_host_from (l.line-index + 1) is_for_every_host (drop l.line-index l.lines) ≡ numbers_of_lines_with_host is_for_every_host l.lines;
  short : NoIndexedHostIsLonger l.index.longest l.index.below;
}
