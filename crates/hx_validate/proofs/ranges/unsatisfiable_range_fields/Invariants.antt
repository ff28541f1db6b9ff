use Rattle.std.proofs.Common.{◌≡◌, ◌++◌, drop}
use Rattle.std.specs.Prelude.{filter}
use Rattle.hx_validate.specs.Ranges.{is_field_of_416}
use Rattle.hx_validate.proofs.ranges.unsatisfiable_range_fields.Given as goal

abbrev pub invariant-loop-line : goal.invariant-loop-line
invariant-loop-line l =
    l.carried ++ filter is_field_of_416 (drop l.line-index l.line-items) ≡ filter is_field_of_416 l.line-items
