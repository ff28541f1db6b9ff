use Rattle.std.proofs.Common.{◌≡◌, ◌++◌, drop}
use Rattle.std.specs.Prelude.{filter}
use Rattle.hx_validate.specs.Answering.{is_field_taken_from_304}
use Rattle.hx_validate.proofs.freshening.push_brought.Given as goal

abbrev pub invariant-loop-line : goal.invariant-loop-line
invariant-loop-line l = l.fields ++ filter is_field_taken_from_304 (drop l.line-index l.lines) ≡ l.fn.fields ++ filter is_field_taken_from_304 l.lines
