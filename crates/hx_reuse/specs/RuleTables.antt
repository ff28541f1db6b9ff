-- That the tables of the rules agree with each other: the lists, the numbers, and which rules are on the chosen
-- response. Each is a statement that the law `rule_lists_are_complete_and_in_order` proves.
use Rattle.std.specs.Prelude.{◌≡◌, ℕ, ◌==◌, true, false, List, [], ◌∷◌, ◌++◌, map, filter, find, Some}
use Rattle.hx_hop.specs.declared.request_view.Asked.{Asked}
use Rattle.hx_store.specs.Stored.{Stored}
use Rattle.hx_policy.specs.declared.words.Policy.{Policy}
use Rattle.hx_reuse.specs.RuleNames.{reuse_rule_number, error_rule_number}
use Rattle.hx_reuse.specs.Rules.{ReuseSituation, reuse_rule_condition, rule_applies_to_chosen, reuse_rule_applies}
use Rattle.hx_reuse.specs.Rules.{request_bypass_rules, rules_on_chosen, reuse_rules}
use Rattle.hx_reuse.specs.Rules.{is_rule_on_chosen}
use Rattle.hx_reuse.specs.ErrorRules.{error_rules}
use Rattle.hx_reuse.specs.declared.rule.ReuseRule.{ReuseRule}
use Rattle.hx_reuse.specs.declared.rule.ReuseRule.TheVariants.{Operator, UriMiss, VaryMiss}
use Rattle.hx_reuse.specs.declared.rule.ErrorRule.{ErrorRule}

-- ---- the reuse rules

-- the rules are listed by their numbers, each of which occurs once
abbrev pub ReuseRulesAreInOrder : Type 0
ReuseRulesAreInOrder =
    map reuse_rule_number reuse_rules
    ≡ 0 ∷ 1 ∷ 2 ∷ 3 ∷ 4 ∷ 5 ∷ 6 ∷ 7 ∷ 8 ∷ 9 ∷ 10 ∷ 11 ∷ 12 ∷ 13 ∷ 14 ∷ 15 ∷ 16 ∷ 17 ∷ []

-- and none is left out
abbrev pub EachReuseRuleIsListed : Type 0
EachReuseRuleIsListed = (rule : ReuseRule) → find
    (λ other. reuse_rule_number other == reuse_rule_number rule) reuse_rules ≡ Some rule

-- the three groups, behind the operator's
abbrev pub ReuseRulesAreInGroups : Type 0
ReuseRulesAreInGroups = reuse_rules ≡ Operator ∷ (request_bypass_rules ++ (UriMiss ∷ VaryMiss ∷ rules_on_chosen))

-- those of the last group, and no others, are named with the chosen response
abbrev pub RulesOnChosenAreThoseThatNameIt : Type 0
RulesOnChosenAreThoseThatNameIt = filter is_rule_on_chosen reuse_rules ≡ rules_on_chosen

-- each of these stands by its own condition
abbrev pub RulesOnChosenApplyByTheirConditions : Type 0
RulesOnChosenApplyByTheirConditions =
    (rule : ReuseRule) (policy : Policy) (held : List Stored) (asked : Asked) (now : ℕ) →
    is_rule_on_chosen rule ≡ true → reuse_rule_applies rule policy held asked now
    ≡ rule_applies_to_chosen rule policy held asked now

-- and none of the others has a condition on a response
abbrev pub RulesNotOnChosenHaveNoCondition : Type 0
RulesNotOnChosenHaveNoCondition = (rule : ReuseRule) (s : ReuseSituation) → is_rule_on_chosen rule ≡ false
    → reuse_rule_condition rule s
    ≡ false

-- ---- the rules after an error

abbrev pub ErrorRulesAreInOrder : Type 0
ErrorRulesAreInOrder = map error_rule_number error_rules ≡ 1 ∷ 2 ∷ 3 ∷ 4 ∷ 5 ∷ 6 ∷ []

abbrev pub EachErrorRuleIsListed : Type 0
EachErrorRuleIsListed =
    (rule : ErrorRule) → find (λ other. error_rule_number other == error_rule_number rule) error_rules ≡ Some rule
