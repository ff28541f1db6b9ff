use Rattle.std.proofs.Common.{rules, ℕ, ◌≡◌, ◌≤◌, ◌<◌, ◌+◌, length, get_or, subst, sym, arith}
use Rattle.hx_fields.specs.Names.{ValueRunsUncutTo, Quoted}
use Rattle.hx_fields.proofs.Runs.{quote_closes, quoted_byte, quoted_last, quoted_pair}
use Rattle.hx_fields.proofs.cutting.quoted_end.Goals as goal
use Rattle.hx_fields.proofs.cutting.quoted_end.Goals.{then-b-eq92+then-i-text, else-b-eq92, else-b-eq92-via-then-b-eq92+else-i-text, else-b-eq92-via-else-b-eq92}

pub returns-then-b-eq34-clause-runs : goal.returns-then-b-eq34-clause-runs
returns-then-b-eq34-clause-runs c = λ start before begun.
    let behind : c.args.from ≤ c.loop-i.i = c.loop-i.invariant.behind in
    quote_closes c.args.text.now start c.loop-i.i (omega arith) (search rules) (search rules) (c.loop-i.invariant.runs start before begun)

pub loop-i-preserved : goal.loop-i-preserved
loop-i-preserved c =
    let text = c.args.text.now in
    let i = c.loop-i.i in
    let behind : c.args.from ≤ i = c.loop-i.invariant.behind in
    let at : i < length text = search rules in
    elim c.if-b-eq92.branch [
      | then-b-eq92+then-i-text w ↦ (
          let step : c.if-b-eq92.step ≡ 2 = w.step-is in
          let more : i + 1 < length text = search rules in
          record {
            behind = omega (arith, step);
            within = omega (arith, step);
            runs = λ start before begun. subst (λ (n : ℕ). ValueRunsUncutTo text start (i + n) Quoted) (sym step)
                (quoted_pair text start i (omega arith) at more (search rules) (c.loop-i.invariant.runs start before begun));
          }
          )
      | else-b-eq92 w ↦ (
          let step : c.if-b-eq92.step ≡ 1 = w.step-is in
          record {
            behind = omega (arith, step);
            within = omega (arith, step);
            runs = λ start before begun. subst (λ (n : ℕ). ValueRunsUncutTo text start (i + n) Quoted) (sym step)
                (elim w.else-b-eq92.branch [
                  | else-b-eq92-via-then-b-eq92+else-i-text v ↦ quoted_last text start i (omega arith) at (search rules) (c.loop-i.invariant.runs start before begun)
                  | else-b-eq92-via-else-b-eq92 v ↦ quoted_byte text start i (omega arith) at c.if-b-eq34.false v.if-b-eq92.false (c.loop-i.invariant.runs start before begun)
                ]);
          }
          )
    ]
