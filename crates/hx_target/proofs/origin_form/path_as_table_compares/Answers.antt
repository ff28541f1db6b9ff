use Rattle.std.proofs.Common.{◌≡◌, IfOk, ℕ, List, subst, sym, ◌∙◌}
use native.Mathlib.Numerals.{unary_clauses}
use Rattle.hx_target.proofs.Unchanged.{path_stays}
use Rattle.hx_target.proofs.origin_form.path_as_table_compares.Goals as goal

pub returns-else-has_percent_sign : goal.returns-else-has_percent_sign
returns-else-has_percent_sign c =
    let stays = path_stays c.args.path.now (sym c.has_percent_sign.ensures ∙ c.if-has_percent_sign.false) in
    let front = simp unary_clauses at c.part.ensures in
    subst (λ (text : List ℕ). IfOk c.part.result (λ compared. compared ≡ text)) (sym c.requires.front ∙ sym stays) front
