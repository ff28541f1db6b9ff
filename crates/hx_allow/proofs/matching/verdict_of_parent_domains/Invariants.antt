use Rattle.std.proofs.Common.{◌≡◌, drop}
use Rattle.hx_allow.specs.Index.{parent_domains_of, verdict_of_parent_domains}
use Rattle.hx_allow.proofs.matching.verdict_of_parent_domains.Given as goal

abbrev pub invariant-loop-place : goal.invariant-loop-place
invariant-loop-place l =
    verdict_of_parent_domains l.lines l.index.below (parent_domains_of (drop l.place l.host)) l.method l.path l.found
    ≡ verdict_of_parent_domains l.lines l.index.below (parent_domains_of l.host) l.method l.path l.fn.found
