use Rattle.std.proofs.Common.{◌≡◌, IfOk, ℕ, List, subst, sym, ◌∙◌}
use Rattle.hx_target.proofs.Unchanged.{path_stays}
use Rattle.hx_target.proofs.sharing.path_as_table_compares.Goals as goal

pub returns-else-has_percent_sign : goal.returns-else-has_percent_sign
returns-else-has_percent_sign c =
    subst (λ (text : List ℕ). IfOk c.copy_of.result (λ compared. compared ≡ text)) (sym (path_stays c.args.path.now (sym c.has_percent_sign.ensures ∙ c.if-has_percent_sign.false))) c.copy_of.ensures
