-- That the tables of the storing rules agree with each other: the list, the numbers, and the rules of the line's words.
-- Each is a statement that the law `storing_rule_lists_are_complete_and_in_order` proves.
use Rattle.std.specs.Prelude.{◌≡◌, ◌==◌, [], ◌∷◌, ◌++◌, map, find, Some}
use Rattle.hx_storable.specs.Rules.{storage_rules_from_policy, storage_rules, storing_rule_number}
use Rattle.hx_storable.specs.LineWordsInStoring.{storage_rules_not_from_policy}
use Rattle.hx_storable.specs.declared.rule.StoreRule.{StoreRule}

-- the rules are listed by their numbers, each of which occurs once
abbrev pub StoringRulesAreInOrder : Type 0
StoringRulesAreInOrder =
    map storing_rule_number storage_rules
    ≡ 0 ∷ 1 ∷ 2 ∷ 3 ∷ 4 ∷ 5 ∷ 6 ∷ 7 ∷ 8 ∷ 9 ∷ 10 ∷ 11 ∷ 12 ∷ 13 ∷ 14 ∷ 15 ∷ 16 ∷ 17 ∷ 18 ∷ []

-- and none is left out
abbrev pub EachStoringRuleIsListed : Type 0
EachStoringRuleIsListed = (rule : StoreRule) → find
    (λ other. storing_rule_number other == storing_rule_number rule) storage_rules ≡ Some rule

-- those of the line's words stand behind all others
abbrev pub PolicyRulesComeLast : Type 0
PolicyRulesComeLast = storage_rules ≡ storage_rules_not_from_policy ++ storage_rules_from_policy
