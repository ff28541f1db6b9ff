use Rattle.std.proofs.Common.{◌≡◌, ℕ, List, length, true, inr, subst, sym, ◌∙◌, ◌≤◌, arith}
use Rattle.hx_target.proofs.OriginForms.{is_plain, plain_parts, not_malformed, origin_form, origin_form_is_spelled}
use Rattle.hx_target.proofs.target_reading.read_target.Goals as goal

pub returns-then-is_origin_form_within_limit-clause-judged : goal.returns-then-is_origin_form_within_limit-clause-judged
returns-then-is_origin_form_within_limit-clause-judged c = λ free.
    let text = c.args.target.now in
    let found : is_plain text ≡ true = subst (λ (t : List ℕ). is_plain t ≡ true) c.as_slice-text.ensures (sym c.is_origin_form_within_limit.ensures ∙ c.if-is_origin_form_within_limit.true) in
    let (first, short, plain) = plain_parts text found in
    let within : length text ≤ 65534 = omega arith in
    let spelled = origin_form_is_spelled text plain first within in
    inr (inr (not_malformed text plain, (origin_form text plain first within, spelled, c.judge_origin_form.ensures.judged free)))

pub returns-then-is_origin_form_within_limit-clause-memory_last : goal.returns-then-is_origin_form_within_limit-clause-memory_last
returns-then-is_origin_form_within_limit-clause-memory_last c = λ _.
    let text = c.args.target.now in
    let found : is_plain text ≡ true = subst (λ (t : List ℕ). is_plain t ≡ true) c.as_slice-text.ensures (sym c.is_origin_form_within_limit.ensures ∙ c.if-is_origin_form_within_limit.true) in
    let (first, short, plain) = plain_parts text found in
    not_malformed text plain
