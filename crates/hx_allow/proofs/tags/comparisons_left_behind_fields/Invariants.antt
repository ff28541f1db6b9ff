use Rattle.std.proofs.Common.{◌≡◌, drop}
use Rattle.hx_allow.specs.Tags.{comparisons_left_behind_fields}
use Rattle.hx_allow.proofs.tags.comparisons_left_behind_fields.Given as goal

abbrev pub invariant-loop-line : goal.invariant-loop-line
invariant-loop-line l = comparisons_left_behind_fields l.tag l.left (drop l.line-index l.fields) ≡ comparisons_left_behind_fields l.tag 64 l.fields
