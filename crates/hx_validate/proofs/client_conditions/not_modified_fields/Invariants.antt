use Rattle.std.proofs.Common.{◌≡◌, ◌++◌, drop}
use Rattle.std.specs.Prelude.{filter}
use Rattle.hx_validate.specs.NotModified.{is_field_of_304}
use Rattle.hx_validate.proofs.client_conditions.not_modified_fields.Given as goal

abbrev pub invariant-loop-line : goal.invariant-loop-line
invariant-loop-line l =
    l.carried ++ filter (is_field_of_304 l.tagged) (drop l.line-index l.line-items) ≡ filter (is_field_of_304 l.tagged) l.line-items
