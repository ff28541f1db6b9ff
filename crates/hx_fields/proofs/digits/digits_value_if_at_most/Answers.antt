use Rattle.std.proofs.Common.{◌≡◌, ◌≤◌, ◌*◌, ap, arith, take}
use Rattle.std.proofs.Math.Nat.{mul-le-mul_left}
use Rattle.std.specs.Str.Parse.{digits_value}
use Rattle.std.proofs.lemmas.Int.Digits.{digits_value_more}
use Rattle.hx_fields.proofs.digits.digits_value_if_at_most.Goals as goal
use Rattle.hx_fields.proofs.digits.digits_value_if_at_most.Goals.{then-number-limit, else-number-limit}

pub loop-b-preserved : goal.loop-b-preserved
loop-b-preserved c =
    let radix = c.args.radix in
    let number = c.loop-b.number in
    let so_far = digits_value radix (take c.loop-b.b-index c.args.digits.now) in
    let more = digits_value_more radix c.args.digits.now c.loop-b.b-index c.loop-b-test.true in
    elim c.if-number-limit.branch [
      | then-number-limit w ↦
          let same : number ≡ so_far = omega (arith, c.loop-b.invariant.small) in
          let times : number * radix ≡ so_far * radix = ap (λ n. n * radix) same in
          let most : number * radix ≤ number * 36 = mul-le-mul_left number c.requires.small in
          record {
            fits = omega (arith, most, w.digit_value.ensures.small, w.number-is);
            small = λ h. omega (arith, more, times, w.digit_value.ensures.value, w.number-is);
            large = λ h. omega (arith, more, times, w.digit_value.ensures.value, w.number-is);
          }
      | else-number-limit w ↦
          let least : so_far * 1 ≤ so_far * radix = mul-le-mul_left so_far c.requires.some in
          record {
            fits = omega (arith, w.number-is);
            small = λ h. omega (arith, w.number-is);
            large = λ h. omega (arith, more, least, w.number-is, c.loop-b.invariant.large);
          }
    ]
