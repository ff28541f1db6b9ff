use Rattle.std.proofs.Common.{◌≡◌, drop, length, ◌+◌, ℕ, ◌<◌, sym, ap, ◌∙◌, arith, subst, length-drop}
use Rattle.hx_framing.specs.HeadEnd.{leading_empty_line_length, empty_lines_end_from}
use Rattle.hx_framing.proofs.PlaceSteps.{empty_lines_more}
use Rattle.hx_framing.proofs.heads.head_end.empty_lines_end_from.Goals as goal

pub loop-at-preserved : goal.loop-at-preserved
loop-at-preserved c =
    let some : 0 < leading_empty_line_length (drop c.loop-at.at c.args.bytes.now) = subst (λ (n : ℕ). 0 < n) (c.leading_empty_line_length.ensures.size ∙ ap leading_empty_line_length c.bytes_from_index.ensures) c.loop-at-test.true in
    let size : c.leading_empty_line_length-at.result ≡ leading_empty_line_length (drop c.loop-at.at c.args.bytes.now) = c.leading_empty_line_length-at.ensures.size ∙ ap leading_empty_line_length c.bytes_from_index-in-loop-at.ensures in
    record {
      within = omega (arith, c.leading_empty_line_length-at.ensures.within, length-drop c.loop-at.at c.args.bytes.now, ap length c.bytes_from_index-in-loop-at.ensures);
      rest = subst (λ (n : ℕ). empty_lines_end_from (c.loop-at.at + n) (drop (c.loop-at.at + n) c.args.bytes.now) ≡ empty_lines_end_from c.args.from (drop c.args.from c.args.bytes.now)) (sym size)
          (empty_lines_more c.loop-at.at c.args.bytes.now some ∙ c.loop-at.invariant.rest);
    }
