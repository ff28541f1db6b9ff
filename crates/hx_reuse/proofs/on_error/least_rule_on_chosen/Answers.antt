use Rattle.std.proofs.Common.{◌≡◌, ℕ, List, refl, sym, ◌∙◌, ap}
use Rattle.std.specs.Prelude.{find}
use Rattle.hx_directives.specs.declared.occurrences.Occurrence.{Occurrence}
use Rattle.hx_age.specs.declared.lifetimes.Lifetime.{Lifetime}
use Rattle.hx_store.specs.Stored.{Stored}
use Rattle.hx_policy.specs.declared.words.Policy.{Policy}
use Rattle.hx_reuse.specs.Lifetimes.{lifetime_of_stored_response}
use Rattle.hx_reuse.specs.Rules.{situation_with}
use Rattle.hx_reuse.specs.ErrorRules.{error_rule_condition, error_rules, error_rule_against}
use Rattle.hx_reuse.proofs.on_error.least_rule_on_chosen.Goals as goal

-- of equal numbers and directives the least rule is the same
same_least : (policy : Policy) (l k : Lifetime) (a b : ℕ) (r q asked : List Occurrence) → l ≡ k → a ≡ b → r ≡ q →
    find (λ rule. error_rule_condition rule (situation_with policy l a r asked)) error_rules ≡ find (λ rule. error_rule_condition rule (situation_with policy k b q asked)) error_rules
same_least policy l k a b r q asked h i j = rw (h, i, j) refl

pub returns : goal.returns
unfolding error_rule_against
returns c =
    c.rule_on_error.ensures
    ∙ same_least c.args.policy _ _ _ _ _ _ c.args.asked_directives.now (c.lifetime_of_stored_response-lifetime.ensures ∙ ap (lifetime_of_stored_response c.args.policy) (sym c.entry.view_is)) c.current_age-age.ensures c.entry.invariant
    ∙ ap (λ (e : Stored). error_rule_against c.args.policy e c.args.asked_directives.now c.args.now) c.entry.view_is
