use Rattle.std.proofs.Common.{◌≡◌, IfOk, ℕ, List, subst, sym, ◌∙◌}
use Rattle.hx_target.proofs.Unchanged.{host_stays}
use Rattle.hx_target.proofs.sharing.lowercase_host.Goals as goal

pub returns-else-has_uppercase_letter : goal.returns-else-has_uppercase_letter
returns-else-has_uppercase_letter c =
    subst (λ (text : List ℕ). IfOk c.copy_of_value.result (λ lower. lower ≡ text)) (sym (host_stays c.args.host.now (sym c.has_uppercase_letter.ensures ∙ c.if-has_uppercase_letter.false))) c.copy_of_value.ensures
