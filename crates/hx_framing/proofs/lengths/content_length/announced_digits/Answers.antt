use Rattle.std.proofs.Common.{Bool, cond, Some, None, sym, ap, ◌∙◌}
use Rattle.std.specs.List.{list_all}
use Rattle.std.specs.Char.{is_ascii_digit}
use Rattle.std.specs.Str.Parse.{digits_value}
use Rattle.std.proofs.lemmas.Bool.{and_parts}
use Rattle.hx_fields.specs.Names.{is_nonempty}
use Rattle.hx_framing.proofs.LengthShown.{shown_by_test, shown_without_digits, none_shown}
use Rattle.hx_framing.proofs.NumberLemmas.{significant_digits}
use Rattle.hx_framing.proofs.lengths.content_length.announced_digits.Goals as goal

pub returns-in_err-value-clause-shown : goal.returns-in_err-value-clause-shown
returns-in_err-value-clause-shown c =
    let none = none_shown c.args.fields.now (sym c.in_err-value.ensures) in rw c.from_residual.ensures none

pub returns-then-not-is_digits-clause-shown : goal.returns-then-not-is_digits-clause-shown
returns-then-not-is_digits-clause-shown c =
    shown_without_digits c.args.fields.now c.in_ok-value.field-0.now c.text_before_byte-text.result.now (sym c.in_ok-value.ensures)
    c.text_before_byte-text.ensures (sym c.if-not-is_digits.ensures)

pub returns-then-are_all_lengths_this_number-clause-digits : goal.returns-then-are_all_lengths_this_number-clause-digits
returns-then-are_all_lengths_this_number-clause-digits c =
    let text = c.text_before_byte-text.result.now in
    ap (list_all is_ascii_digit) c.without_leading_zeros-digits.ensures
    ∙ significant_digits text (and_parts (is_nonempty text) (list_all is_ascii_digit text) (sym c.if-not-is_digits.ensures)).1

pub returns-then-are_all_lengths_this_number-clause-shown : goal.returns-then-are_all_lengths_this_number-clause-shown
returns-then-are_all_lengths_this_number-clause-shown c =
    shown_by_test c.args.fields.now c.as_slice.result.now c.in_ok-value.field-0.now c.text_before_byte-text.result.now c.without_leading_zeros-digits.result.now
    c.are_all_lengths_this_number.result (sym c.in_ok-value.ensures) c.text_before_byte-text.ensures (sym c.if-not-is_digits.ensures)
    c.without_leading_zeros-digits.ensures c.as_slice.ensures c.are_all_lengths_this_number.ensures
    ∙ ap (λ (t : Bool). cond t (Some (digits_value 10 c.without_leading_zeros-digits.result.now)) None) c.if-are_all_lengths_this_number.true

pub returns-else-are_all_lengths_this_number-clause-shown : goal.returns-else-are_all_lengths_this_number-clause-shown
returns-else-are_all_lengths_this_number-clause-shown c =
    shown_by_test c.args.fields.now c.as_slice.result.now c.in_ok-value.field-0.now c.text_before_byte-text.result.now c.without_leading_zeros-digits.result.now
    c.are_all_lengths_this_number.result (sym c.in_ok-value.ensures) c.text_before_byte-text.ensures (sym c.if-not-is_digits.ensures)
    c.without_leading_zeros-digits.ensures c.as_slice.ensures c.are_all_lengths_this_number.ensures
    ∙ ap (λ (t : Bool). cond t (Some (digits_value 10 c.without_leading_zeros-digits.result.now)) None) c.if-are_all_lengths_this_number.false
