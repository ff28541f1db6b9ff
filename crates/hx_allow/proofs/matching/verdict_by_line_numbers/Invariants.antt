use Rattle.std.proofs.Common.{◌≡◌, drop}
use Rattle.hx_allow.specs.Index.{verdict_by_line_numbers}
use Rattle.hx_allow.proofs.matching.verdict_by_line_numbers.Given as goal

abbrev pub invariant-loop-number : goal.invariant-loop-number
invariant-loop-number l =
    verdict_by_line_numbers l.lines (drop l.number-index l.numbers) l.method l.path l.found
    ≡ verdict_by_line_numbers l.lines l.numbers l.method l.path l.found
