use Rattle.std.proofs.Common.{◌≡◌, drop, codes}
use Rattle.hx_fields.specs.FieldLines.{values_of}
use Rattle.hx_target.proofs.sharing.first_host_line.Given as goal

abbrev pub invariant-loop-line : goal.invariant-loop-line
invariant-loop-line l = values_of (drop l.line-index l.line-items) (codes "Host") ≡ values_of l.line-items (codes "Host")
