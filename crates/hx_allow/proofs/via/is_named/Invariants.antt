use Rattle.std.proofs.Common.{◌≡◌, ◌<◌, ◌+◌, drop}
use Rattle.hx_allow.specs.Via.{times_in_via}
use Rattle.hx_allow.proofs.via.is_named.Given as goal

abbrev pub invariant-loop-line : goal.invariant-loop-line
invariant-loop-line l = (l.found < l.least) × (l.found + times_in_via l.name (drop l.line-index l.fields) ≡ times_in_via l.name l.fields)
