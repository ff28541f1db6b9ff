-- What the words of the operator's line keep from the store, and that a line without words keeps
-- nothing more from it than the other rules do: the statements that the laws of `src/laws.rt`
-- prove.
--
-- facts_with_policy: the same, over another line     storage_rules_not_from_policy: the rules that ask for no word
-- default_policy_but_for_ranges: a line that has no other word
use Rattle.std.specs.Prelude.{◌≡◌, ◌≤◌, ◌⊎◌, ◌||◌, ℕ, Bool, not, true, false, List, [], ◌∷◌, find, codes, Some}
use Rattle.hx_fields.specs.FieldLines.{has_field as has_line}
use Rattle.hx_directives.specs.declared.names.Directive.TheVariants as directive
use Rattle.hx_hop.specs.declared.request_view.Asked.{Asked}
use Rattle.hx_hop.specs.declared.response_view.Answered.{Answered}
use Rattle.hx_hop.specs.Bypass.{request_has_content, asks_for_range, has_precondition_for_origin}
use Rattle.hx_policy.specs.Policies.{is_heuristic_status, lifetime_given_by_policy, plain}
use Rattle.hx_policy.specs.declared.words.Policy.{Policy}
use Rattle.hx_storable.specs.declared.known_facts.StoringFacts.{StoringFacts}
use Rattle.hx_storable.specs.declared.rule.StoreRule.{StoreRule}
use Rattle.hx_storable.specs.declared.rule.StoreRule.TheVariants.{Operator, Method, Bypass, Status, MustUnderstand}
use Rattle.hx_storable.specs.declared.rule.StoreRule.TheVariants.{ResponseNoStore, RequestNoStore, Private}
use Rattle.hx_storable.specs.declared.rule.StoreRule.TheVariants.{Authorization, NothingAllows, VaryStar}
use Rattle.hx_storable.specs.declared.rule.StoreRule.TheVariants.{ConnectionField, NothingToReuse, TooLarge, Overtaken}
use Rattle.hx_storable.specs.declared.rule.StoreRule.TheVariants.{Serials, SetCookie, ErrorStatus, RequestCookie}
use Rattle.hx_storable.specs.Rules.{response_has_directive, storing_rule_applies, rule_against_storing}
use Rattle.hx_storable.specs.Storable.{ResponseIsStored, PolicyAllowsStoring}

-- where the operator stores no cookies, a response that sets one and hasn't public (RFC 9111, section 7.3)
abbrev pub PolicyForbidsStoringSetCookieUnlessPublic : Type 0
PolicyForbidsStoringSetCookieUnlessPublic = (asked : Asked) (answered : Answered) (facts : StoringFacts) →
    facts.policy.stores_cookies ≡ false → has_line answered.fields (codes "Set-Cookie") ≡ true
    → response_has_directive answered directive.Public ≡ false →
    ResponseIsStored asked answered facts → ⊥

-- where he stores no errors, a status of 400 or above that isn't heuristically cacheable
abbrev pub PolicyForbidsStoringErrorStatus : Type 0
PolicyForbidsStoringErrorStatus = (asked : Asked) (answered : Answered) (facts : StoringFacts) →
    facts.policy.stores_errors ≡ false → 400 ≤ answered.status → is_heuristic_status answered.status ≡ false
    → ResponseIsStored asked answered facts → ⊥

-- the response says nothing of how long it is fresh (RFC 9111, section 4.2.1)
abbrev pub ResponseStatesNoLifetime : Answered → Type 0
ResponseStatesNoLifetime answered =
    (response_has_directive answered directive.SMaxage ≡ false)
    × (response_has_directive answered directive.MaxAge ≡ false)
    × (has_line answered.fields (codes "Expires") ≡ false)

-- where he gives no lifetime to a response that sets a cookie, one that has no public, and that only the line would
-- give a lifetime (RFC 9111, sections 4.2.2 and 7.3)
abbrev pub SetCookieIsNotStoredByLineLifetime : Type 0
SetCookieIsNotStoredByLineLifetime = (asked : Asked) (answered : Answered) (facts : StoringFacts) (seconds : ℕ) →
    facts.policy.gives_to_set_cookie ≡ false → has_line answered.fields (codes "Set-Cookie") ≡ true →
    ResponseStatesNoLifetime answered → lifetime_given_by_policy facts.policy answered.status ≡ Some seconds →
    response_has_directive answered directive.Public ≡ false →
    ResponseIsStored asked answered facts → ⊥

-- where he gives no lifetime to what was asked for with a cookie or with credentials, a response to such a request that
-- has no public, and that only the line would give a lifetime
abbrev pub RequestCredentialsGetNoLifetime : Type 0
RequestCredentialsGetNoLifetime = (asked : Asked) (answered : Answered) (facts : StoringFacts) (seconds : ℕ) →
    facts.policy.gives_to_cookies ≡ false →
    (has_line asked.fields (codes "Cookie") ≡ true) ⊎ (has_line asked.fields (codes "Authorization") ≡ true) →
    ResponseStatesNoLifetime answered → lifetime_given_by_policy facts.policy answered.status ≡ Some seconds →
    response_has_directive answered directive.Public ≡ false →
    ResponseIsStored asked answered facts → ⊥

-- the same, with another policy
abbrev pub facts_with_policy : StoringFacts → Policy → StoringFacts
facts_with_policy facts policy = record facts { policy = policy }

-- a line that has no word but that on ranges, which alone lets more be stored: whole answers to requests for a range
abbrev pub default_policy_but_for_ranges : Bool → Policy → Policy
default_policy_but_for_ranges caches policy = record (plain caches) { forwards_ranges = policy.forwards_ranges }

-- what is stored is stored with a line that has no other words too
abbrev pub PolicyOnlyForbidsStoring : Type 0
PolicyOnlyForbidsStoring = (asked : Asked) (answered : Answered) (facts : StoringFacts) →
    ResponseIsStored asked answered facts
    → ResponseIsStored asked answered (facts_with_policy facts (default_policy_but_for_ranges true facts.policy))

-- and what is stored with such a line is stored, where the words allow it
abbrev pub StoredWherePolicyAllowsIt : Type 0
StoredWherePolicyAllowsIt = (asked : Asked) (answered : Answered) (facts : StoringFacts) →
    ResponseIsStored asked answered
    (facts_with_policy facts (default_policy_but_for_ranges facts.policy.caches facts.policy))
    → PolicyAllowsStoring asked answered facts.policy
    → ResponseIsStored asked answered facts

-- a line without words stands against what it keeps from the store, and no rule of the words stands
abbrev pub DefaultPolicyForbidsOnlyByCachingOff : Type 0
DefaultPolicyForbidsOnlyByCachingOff = (caches : Bool) (asked : Asked) (answered : Answered) (facts : StoringFacts) →
    storing_rule_applies Operator asked answered (facts_with_policy facts (plain caches)) ≡ not caches

abbrev pub DefaultPolicyStoresSetCookie : Type 0
DefaultPolicyStoresSetCookie = (caches : Bool) (asked : Asked) (answered : Answered) (facts : StoringFacts) →
    storing_rule_applies SetCookie asked answered (facts_with_policy facts (plain caches)) ≡ false

abbrev pub DefaultPolicyStoresErrors : Type 0
DefaultPolicyStoresErrors = (caches : Bool) (asked : Asked) (answered : Answered) (facts : StoringFacts) →
    storing_rule_applies ErrorStatus asked answered (facts_with_policy facts (plain caches)) ≡ false

abbrev pub DefaultPolicyStoresForRequestCookies : Type 0
DefaultPolicyStoresForRequestCookies = (caches : Bool) (asked : Asked) (answered : Answered) (facts : StoringFacts) →
    storing_rule_applies RequestCookie asked answered (facts_with_policy facts (plain caches)) ≡ false

-- and a request for a range goes past the store, whatever answers it
abbrev pub DefaultPolicyStoresNothingForARange : Type 0
DefaultPolicyStoresNothingForARange = (caches : Bool) (asked : Asked) (answered : Answered) (facts : StoringFacts) →
    storing_rule_applies Bypass asked answered (facts_with_policy facts (plain caches))
    ≡ ((request_has_content asked || asks_for_range asked) || has_precondition_for_origin asked)

-- the rules that ask for no word
abbrev pub storage_rules_not_from_policy : List StoreRule
storage_rules_not_from_policy =
    Operator ∷ Method ∷ Bypass ∷ Status ∷ MustUnderstand ∷ ResponseNoStore ∷ RequestNoStore ∷ Private ∷ Authorization
    ∷ NothingAllows ∷ VaryStar ∷ ConnectionField ∷ NothingToReuse ∷ TooLarge ∷ Overtaken ∷ Serials ∷ []

-- so the least rule is the least of those
abbrev pub DefaultPolicyNeedsNoPolicyRules : Type 0
DefaultPolicyNeedsNoPolicyRules = (caches : Bool) (asked : Asked) (answered : Answered) (facts : StoringFacts) →
    rule_against_storing asked answered (facts_with_policy facts (plain caches))
    ≡ find (λ rule. storing_rule_applies rule asked answered
    (facts_with_policy facts (plain caches))) storage_rules_not_from_policy
