-- The word of a storing rule is read back: no two rules have the same.
use Rattle.std.proofs.Common.{◌≡◌, List, ℕ, refl, sym, ◌∙◌, ap}
use Rattle.std.specs.Prelude.{bytes_eq, find, Option, Some}
use Rattle.hx_storable.specs.declared.rule.StoreRule.{StoreRule}
use Rattle.hx_storable.specs.declared.rule.StoreRule.TheVariants.{Operator, Method, Bypass, Status, MustUnderstand, ResponseNoStore, RequestNoStore, Private, Authorization, NothingAllows, VaryStar, ConnectionField, NothingToReuse, TooLarge, Overtaken, Serials, SetCookie, ErrorStatus, RequestCookie}
use Rattle.hx_storable.specs.Rules.{storage_rules}
use Rattle.hx_storable.specs.StoringRuleNames.{storing_rule_word}

-- the rule that has this word
named_by : List ℕ → Option StoreRule
named_by word = find (λ r. bytes_eq (storing_rule_word r) word) storage_rules

named : (r : StoreRule) → named_by (storing_rule_word r) ≡ Some r
unfolding named_by
named Operator = refl
named Method = refl
named Bypass = refl
named Status = refl
named MustUnderstand = refl
named ResponseNoStore = refl
named RequestNoStore = refl
named Private = refl
named Authorization = refl
named NothingAllows = refl
named VaryStar = refl
named ConnectionField = refl
named NothingToReuse = refl
named TooLarge = refl
named Overtaken = refl
named Serials = refl
named SetCookie = refl
named ErrorStatus = refl
named RequestCookie = refl

same_rule : (r q : StoreRule) → ◌≡◌ {A = Option StoreRule} (Some r) (Some q) → r ≡ q
same_rule r q h = cc

pub words_differ : (r q : StoreRule) → storing_rule_word r ≡ storing_rule_word q → r ≡ q
words_differ r q h = same_rule r q (sym (named r) ∙ ap named_by h ∙ named q)
