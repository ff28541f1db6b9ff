use Rattle.std.proofs.Common.{◌++◌, ℕ, List, ap, ◌∙◌, codes, true}
use Rattle.std.proofs.lemmas.List.{append_assoc}
use Rattle.proxy_log.specs.Line.{logged_text}
use Rattle.proxy_log.proofs.LineParts.{on_ok}
use Rattle.proxy_log.proofs.line.push_cause.Goals as goal

pub returns-clause-ok : goal.returns-clause-ok
returns-clause-ok c =
    let shown : List ℕ = logged_text true c.args.cause.now in
    on_ok c.push_shown.result
    (λ last. last ∙ ap (λ (text : List ℕ). text ++ shown) c.in_ok-extend_from_slice.ensures.items ∙ append_assoc c.args.text.now.items (codes "left;cause=") shown)
    c.push_shown.ensures.ok
