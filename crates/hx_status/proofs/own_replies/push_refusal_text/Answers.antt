use Rattle.std.proofs.Common.{◌++◌, ℕ, List, ap, sym, ◌∙◌}
use Rattle.std.proofs.lemmas.List.{append_assoc}
use Rattle.std.specs.Fmt.{decimal}
use Rattle.hx_status.specs.Refusals.{refusal_text}
use Rattle.hx_status.specs.declared.cause.Cause.{Cause}
use Rattle.hx_status.proofs.own_replies.push_refusal_text.Goals as goal

pub returns-in_ok-push_line_number-in-Denied-clause-ok : goal.returns-in_ok-push_line_number-in-Denied-clause-ok
returns-in_ok-push_line_number-in-Denied-clause-ok c =
    c.in_ok-push_line_number-in-Denied.ensures.ok
    ∙ (ap (λ (xs : List ℕ). xs ++ decimal c.in-Denied.line) c.in_ok-extend_from_slice-in-Denied.ensures.items
    ∙ (append_assoc c.args.out.now.items _ (decimal c.in-Denied.line)
    ∙ ap (λ (w : Cause). c.args.out.now.items ++ refusal_text w) (sym c.in-Denied.is)))

pub returns-in_ok-push_line_number-in-Looped-clause-ok : goal.returns-in_ok-push_line_number-in-Looped-clause-ok
returns-in_ok-push_line_number-in-Looped-clause-ok c =
    c.in_ok-push_line_number-in-Looped.ensures.ok
    ∙ (ap (λ (xs : List ℕ). xs ++ decimal c.in-Looped.line) c.in_ok-extend_from_slice-in-Looped.ensures.items
    ∙ (append_assoc c.args.out.now.items _ (decimal c.in-Looped.line)
    ∙ ap (λ (w : Cause). c.args.out.now.items ++ refusal_text w) (sym c.in-Looped.is)))
