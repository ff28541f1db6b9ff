use Rattle.std.proofs.Common.{take}
use Rattle.hx_vary.proofs.ValueLemmas.{Gathered}
use Rattle.hx_vary.proofs.request_values.combined_values.Given as goal

abbrev pub invariant-loop-line : goal.invariant-loop-line
invariant-loop-line l = Gathered (take l.line-index l.lines) l.values
