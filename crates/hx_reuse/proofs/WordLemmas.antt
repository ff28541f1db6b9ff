-- The words of a rule are read back: no two rules have the same.
use Rattle.std.proofs.Common.{◌≡◌, Bool, true, false, List, ℕ, refl, sym, ◌∙◌, ap}
use Rattle.std.specs.Prelude.{[], ◌∷◌, ◌&&◌, bytes_eq, find, Option, Some, None}
use Rattle.hx_reuse.specs.declared.rule.ReuseRule.{ReuseRule}
use Rattle.hx_reuse.specs.declared.rule.ReuseRule.TheVariants.{Operator, Method, Content, Range, Precondition, UriMiss, VaryMiss, ResponseNoCache, RequestNoCache, AboveMaxAge, BelowMinFresh, MustRevalidate, NoLifetime, StaleNoCache, NoMaxStale, PastMaxStale, StaleMaxAge, StaleMinFresh}
use Rattle.hx_reuse.specs.declared.rule.ErrorRule.{ErrorRule}
use Rattle.hx_reuse.specs.declared.rule.ErrorRule.TheVariants as on_error
use Rattle.hx_reuse.specs.RuleNames.{reuse_rule_reason, reuse_rule_detail, error_rule_word}
use Rattle.hx_reuse.specs.Rules.{reuse_rules}

same_detail : Option (List ℕ) → Option (List ℕ) → Bool
same_detail None None = true
same_detail None (Some d) = false
same_detail (Some c) None = false
same_detail (Some c) (Some d) = bytes_eq c d

-- the rule that has these words
named_by : List ℕ → Option (List ℕ) → Option ReuseRule
named_by reason detail = find (λ r. bytes_eq (reuse_rule_reason r) reason && same_detail (reuse_rule_detail r) detail) reuse_rules

named : (r : ReuseRule) → named_by (reuse_rule_reason r) (reuse_rule_detail r) ≡ Some r
unfolding named_by same_detail
named Operator = refl
named Method = refl
named Content = refl
named Range = refl
named Precondition = refl
named UriMiss = refl
named VaryMiss = refl
named ResponseNoCache = refl
named RequestNoCache = refl
named AboveMaxAge = refl
named BelowMinFresh = refl
named MustRevalidate = refl
named NoLifetime = refl
named StaleNoCache = refl
named NoMaxStale = refl
named PastMaxStale = refl
named StaleMaxAge = refl
named StaleMinFresh = refl

same_rule : (r q : ReuseRule) → ◌≡◌ {A = Option ReuseRule} (Some r) (Some q) → r ≡ q
same_rule r q h = cc

pub words_differ : (r q : ReuseRule) → reuse_rule_reason r ≡ reuse_rule_reason q → reuse_rule_detail r ≡ reuse_rule_detail q → r ≡ q
words_differ r q h k =
    same_rule r q (sym (named r) ∙ ap (λ (reason : List ℕ). named_by reason (reuse_rule_detail r)) h ∙ ap (λ (detail : Option (List ℕ)). named_by (reuse_rule_reason q) detail) k ∙ named q)

error_rules : List ErrorRule
error_rules = on_error.NoCache ∷ on_error.MustRevalidate ∷ on_error.NoLifetime ∷ on_error.RequestNoCache ∷ on_error.NoDirective ∷ on_error.TooStale ∷ []

error_named_by : List ℕ → Option ErrorRule
error_named_by word = find (λ r. bytes_eq (error_rule_word r) word) error_rules

error_named : (r : ErrorRule) → error_named_by (error_rule_word r) ≡ Some r
unfolding error_named_by error_rules
error_named on_error.NoCache = refl
error_named on_error.MustRevalidate = refl
error_named on_error.NoLifetime = refl
error_named on_error.RequestNoCache = refl
error_named on_error.NoDirective = refl
error_named on_error.TooStale = refl

same_error_rule : (r q : ErrorRule) → ◌≡◌ {A = Option ErrorRule} (Some r) (Some q) → r ≡ q
same_error_rule r q h = cc

pub error_words_differ : (r q : ErrorRule) → error_rule_word r ≡ error_rule_word q → r ≡ q
error_words_differ r q h = same_error_rule r q (sym (error_named r) ∙ ap error_named_by h ∙ error_named q)
