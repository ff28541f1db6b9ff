-- The words of the storing rules, by which an answer that isn't stored tells why (RFC 9211, section 2.8).
--
-- storing_rule_word: the word of a rule     WordsOfStoringRulesDiffer: the statement that a law of `src/laws.rt` proves
use Rattle.std.specs.Prelude.{◌≡◌, ℕ, List, codes}
use Rattle.hx_storable.specs.declared.rule.StoreRule.{StoreRule}
use Rattle.hx_storable.specs.declared.rule.StoreRule.TheVariants.{Operator, Method, Bypass, Status, MustUnderstand}
use Rattle.hx_storable.specs.declared.rule.StoreRule.TheVariants.{ResponseNoStore, RequestNoStore, Private}
use Rattle.hx_storable.specs.declared.rule.StoreRule.TheVariants.{Authorization, NothingAllows, VaryStar}
use Rattle.hx_storable.specs.declared.rule.StoreRule.TheVariants.{ConnectionField, NothingToReuse, TooLarge, Overtaken}
use Rattle.hx_storable.specs.declared.rule.StoreRule.TheVariants.{Serials, SetCookie, ErrorStatus, RequestCookie}

abbrev pub storing_rule_word : StoreRule → List ℕ
storing_rule_word Operator = codes "operator"
storing_rule_word Method = codes "method"
storing_rule_word Bypass = codes "bypass"
storing_rule_word Status = codes "status"
storing_rule_word MustUnderstand = codes "must-understand"
storing_rule_word ResponseNoStore = codes "no-store"
storing_rule_word RequestNoStore = codes "request-no-store"
storing_rule_word Private = codes "private"
storing_rule_word Authorization = codes "authorization"
storing_rule_word NothingAllows = codes "nothing-allows"
storing_rule_word VaryStar = codes "vary-star"
storing_rule_word ConnectionField = codes "connection-field"
storing_rule_word NothingToReuse = codes "no-lifetime"
storing_rule_word TooLarge = codes "too-large"
storing_rule_word Overtaken = codes "overtaken"
storing_rule_word Serials = codes "no-serial"
storing_rule_word SetCookie = codes "set-cookie"
storing_rule_word ErrorStatus = codes "error-status"
storing_rule_word RequestCookie = codes "request-cookie"

-- who reads the word knows the rule
abbrev pub WordsOfStoringRulesDiffer : Type 0
WordsOfStoringRulesDiffer = (rule other : StoreRule) → storing_rule_word rule ≡ storing_rule_word other → rule ≡ other
