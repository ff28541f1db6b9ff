use Rattle.std.proofs.Common.{◌≡◌, ◌++◌, drop}
use Rattle.std.specs.Prelude.{filter}
use Rattle.hx_validate.specs.NotModified.{is_field_of_304_to_answer}
use Rattle.hx_validate.proofs.client_conditions.not_modified_fields_of_answer.Given as goal

abbrev pub invariant-loop-line : goal.invariant-loop-line
invariant-loop-line l =
    l.carried ++ filter (is_field_of_304_to_answer l.tagged) (drop l.line-index l.line-items) ≡ filter (is_field_of_304_to_answer l.tagged) l.line-items
