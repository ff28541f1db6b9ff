use Rattle.std.proofs.Common.{◌≡◌, ◌+◌, ◌<◌, ℕ, List, Some, length, drop, length-drop, sym, ap, ◌∙◌, arith, subst}
use Rattle.memchr.specs.Find.{IsFirstByte, is_byte}
use Rattle.hx_framing.specs.HeadEnd.{head_end_size_at_front}
use Rattle.hx_framing.proofs.PlaceSteps.{head_end_at_line_feed, empty_found, empty_more, empty_none}
use Rattle.hx_framing.proofs.heads.head_end.head_end_from.Goals as goal

pub returns-then-empty-gt0-clause-place : goal.returns-then-empty-gt0-clause-place
returns-then-empty-gt0-clause-place c =
    let found : IsFirstByte (is_byte 10) (drop c.loop-skipped.at c.args.bytes.now) (Some c.in-Some.skipped) =
    subst (λ r. IsFirstByte (is_byte 10) (drop c.loop-skipped.at c.args.bytes.now) r) c.in-Some.is
    (subst (λ (xs : List ℕ). IsFirstByte (is_byte 10) xs c.memchr.result) c.bytes_from_index.ensures c.memchr.ensures) in
    sym (empty_found (c.loop-skipped.at + c.in-Some.skipped) c.head_end_size_at_front-empty.result (drop (c.loop-skipped.at + c.in-Some.skipped) c.args.bytes.now) (c.head_end_size_at_front-empty.ensures.size ∙ ap head_end_size_at_front c.bytes_from_index-in-Some.ensures) c.if-empty-gt0.true)
    ∙ head_end_at_line_feed c.loop-skipped.at c.in-Some.skipped c.args.bytes.now c.loop-skipped.invariant.within found
    ∙ c.loop-skipped.invariant.rest

pub loop-skipped-preserved : goal.loop-skipped-preserved
loop-skipped-preserved c =
    let found : IsFirstByte (is_byte 10) (drop c.loop-skipped.at c.args.bytes.now) (Some c.in-Some.skipped) =
    subst (λ r. IsFirstByte (is_byte 10) (drop c.loop-skipped.at c.args.bytes.now) r) c.in-Some.is
    (subst (λ (xs : List ℕ). IsFirstByte (is_byte 10) xs c.memchr.result) c.bytes_from_index.ensures c.memchr.ensures) in
    let inside : c.loop-skipped.at + c.in-Some.skipped < length c.args.bytes.now = omega (arith, found.0.high, length-drop c.loop-skipped.at c.args.bytes.now, c.loop-skipped.invariant.within) in
    let none : c.head_end_size_at_front-empty.result ≡ 0 = omega arith in
    record {
      within = omega arith;
      rest = empty_more (c.loop-skipped.at + c.in-Some.skipped) c.args.bytes.now inside (sym (ap head_end_size_at_front c.bytes_from_index-in-Some.ensures) ∙ sym c.head_end_size_at_front-empty.ensures.size ∙ none)
          ∙ head_end_at_line_feed c.loop-skipped.at c.in-Some.skipped c.args.bytes.now c.loop-skipped.invariant.within found
          ∙ c.loop-skipped.invariant.rest;
    }

pub returns-clause-place : goal.returns-clause-place
returns-clause-place c =
    sym (empty_none c.loop-skipped.at (drop c.loop-skipped.at c.args.bytes.now)
    (subst (λ r. IsFirstByte (is_byte 10) (drop c.loop-skipped.at c.args.bytes.now) r) c.in_default.is
    (subst (λ (xs : List ℕ). IsFirstByte (is_byte 10) xs c.memchr.result) c.bytes_from_index.ensures c.memchr.ensures)))
    ∙ c.loop-skipped.invariant.rest
