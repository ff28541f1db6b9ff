use Rattle.std.proofs.Common.{rules, ◌≡◌, ◌∙◌, ◌&&◌, ◌+◌, ap, arith, drop, get_or, sym, take, true}
use Rattle.std.specs.Char.{is_ascii_digit}
use Rattle.std.specs.List.{list_all}
use Rattle.std.specs.Str.Parse.{digits_value}
use Rattle.std.proofs.lemmas.List.{at_drop_more}
use Rattle.std.proofs.lemmas.Int.Digits.{digits_value_more}
use Rattle.hx_directives.proofs.numbers.capped_number.Goals as goal
use Rattle.hx_directives.proofs.numbers.capped_number.Goals.{then-number-lt-MOST_SECONDS, else-number-lt-MOST_SECONDS}

pub loop-b-preserved : goal.loop-b-preserved
loop-b-preserved c =
    let number = c.loop-b.number in
    let so_far = digits_value 10 (take c.loop-b.b-index c.args.text.now) in
    let more = digits_value_more 10 c.args.text.now c.loop-b.b-index c.loop-b-test.true in
    let rest = list_all is_ascii_digit (drop (c.loop-b.b-index + 1) c.args.text.now) in
    let digit : is_ascii_digit (get_or c.args.text.now c.loop-b.b-index 0) ≡ true = search rules in
    let digits : rest ≡ list_all is_ascii_digit c.args.text.now =
    sym (ap (λ b. b && rest) digit) ∙ sym (at_drop_more (list_all is_ascii_digit) c.args.text.now c.loop-b.b-index 0 c.loop-b-test.true) ∙ c.loop-b.invariant.digits in
    elim c.if-number-lt-MOST_SECONDS.branch [
      | then-number-lt-MOST_SECONDS w ↦
          let same : number ≡ so_far = omega (arith, c.loop-b.invariant.small) in
          record {
            fits = omega (arith, w.digit_value.ensures.small, w.from.ensures, w.number-is);
            small = λ h. omega (arith, more, w.digit_value.ensures.value, w.from.ensures, w.number-is);
            large = λ h. omega (arith, more, w.digit_value.ensures.value, w.from.ensures, w.number-is);
            digits = digits;
          }
      | else-number-lt-MOST_SECONDS w ↦
          record {
            fits = omega (arith, w.number-is);
            small = λ h. omega (arith, w.number-is);
            large = λ h. omega (arith, more, w.number-is, c.loop-b.invariant.large);
            digits = digits;
          }
    ]
