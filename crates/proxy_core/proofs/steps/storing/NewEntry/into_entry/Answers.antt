use Rattle.std.proofs.Common.{rules, ◌≡◌, ap, sym, ◌∙◌, codes}
use Rattle.hx_fields.specs.FieldLines.{without_named}
use Rattle.hx_directives.specs.Occurrences.{occurrences_of}
use Rattle.hx_directives.proofs.OtherLines.{without_age, without_set_cookie_if}
use Rattle.proxy_core.proofs.steps.storing.NewEntry.into_entry.Goals as goal
use Rattle.proxy_core.proofs.steps.storing.NewEntry.into_entry.Goals.{then-exchange, else-exchange}

pub invariant_of-result : goal.invariant_of-result
invariant_of-result c =
    let head = c.args.head.fields in
    let left = c.if-exchange.fields in
    let kept : c.in_ok-fields.fields ≡ without_named left (codes "Age") = search rules in
    let same : occurrences_of left ≡ occurrences_of head = elim c.if-exchange.branch [
      | then-exchange w ↦ (let gone : left ≡ without_named head (codes "Set-Cookie") = search rules in ap occurrences_of gone ∙ without_set_cookie_if head)
      | else-exchange w ↦ ap occurrences_of w.fields-is
    ] in
    let read : c.in_ok-directives.directives ≡ occurrences_of head = search rules in
    read ∙ sym (ap occurrences_of kept ∙ without_age left ∙ same)
