use Rattle.std.proofs.Common.{◌≡◌, ◌++◌, drop, not}
use Rattle.std.specs.Prelude.{filter}
use Rattle.hx_validate.specs.Answering.{is_stored_field_replaced_by_304}
use Rattle.hx_validate.proofs.freshening.push_unreplaced_by_many_lines.Given as goal

abbrev pub invariant-loop-line : goal.invariant-loop-line
invariant-loop-line l =
    l.fields ++ filter (λ line. not (is_stored_field_replaced_by_304 l.answered line)) (drop l.line-index l.stored)
    ≡ l.fn.fields ++ filter (λ line. not (is_stored_field_replaced_by_304 l.answered line)) l.stored
