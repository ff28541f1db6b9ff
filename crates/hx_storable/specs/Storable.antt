-- What a response and its request have to be, that the one may be stored, in the order of the
-- standard's list and without the rules and their numbers (RFC 9111, section 3).
--
-- ResponseIsStorable: the standard's list
-- RequestAllowsStoring, ResponseCouldBeReusedIfStored, ResponseIsNotTooLargeAndHasSerial: what this cache asks besides
-- PolicyAllowsStoring: what the words of the operator's line ask
-- ResponseMayBeStored: all of it               IsLeastRuleAgainstStoring: a rule that stands, and none before it
-- Below them are the statements that the laws of `src/laws.rt` prove.
use Rattle.std.specs.Prelude.{◌≡◌, ◌<◌, ◌≤◌, ◌⊎◌, true, false, codes, Some, None}
use Rattle.hx_fields.specs.FieldLines.{has_field as has_line}
use Rattle.hx_directives.specs.declared.names.Directive.TheVariants as directive
use Rattle.hx_hop.specs.declared.request_view.Asked.{Asked}
use Rattle.hx_hop.specs.declared.response_view.Answered.{Answered}
use Rattle.hx_hop.specs.Bypass.{request_has_content, asks_for_range, has_precondition_for_origin}
use Rattle.hx_policy.specs.declared.words.Policy.{Policy}
use Rattle.hx_policy.specs.Policies.{is_heuristic_status, lifetime_given_by_policy}
use Rattle.hx_storable.specs.declared.known_facts.StoringFacts.{StoringFacts}
use Rattle.hx_storable.specs.declared.rule.StoreRule.{StoreRule}
use Rattle.hx_storable.specs.Rules.{request_has_directive, response_has_directive, is_understood_status}
use Rattle.hx_storable.specs.Rules.{storing_rule_applies}
use Rattle.hx_storable.specs.Rules.{storing_rule_number, rule_against_storing}

-- the status is final: the response isn't an interim one (RFC 9110, section 15)
abbrev pub StatusIsFinal : Answered → Type 0
StatusIsFinal answered = 200 ≤ answered.status

-- storing it takes an understanding of its status (RFC 9111, section 3)
abbrev pub StatusNeedsToBeUnderstood : Answered → Type 0
StatusNeedsToBeUnderstood answered =
    (answered.status ≡ 206)
    ⊎ ((answered.status ≡ 304) ⊎ (response_has_directive answered directive.MustUnderstand ≡ true))

-- no-store is absent, or a status that is understood lifts it together with must-understand (RFC
-- 9111, sections 5.2.2.3 and 5.2.2.5)
abbrev pub NoStoreIsAbsentOrLifted : Answered → Type 0
NoStoreIsAbsentOrLifted answered =
    (response_has_directive answered directive.NoStore ≡ false)
    ⊎ ((response_has_directive answered directive.MustUnderstand ≡ true)
    × (is_understood_status answered.status ≡ true))

-- a directive explicitly lets a shared cache store what was asked for with Authorization (RFC 9111, section 3.5)
abbrev pub ResponseAllowsSharedWithAuthorization : Answered → Type 0
ResponseAllowsSharedWithAuthorization answered =
    (response_has_directive answered directive.MustRevalidate ≡ true)
    ⊎ ((response_has_directive answered directive.Public ≡ true)
    ⊎ (response_has_directive answered directive.SMaxage ≡ true))

-- what allows a response to be stored, at least one of which it contains (RFC 9111, section 3)
abbrev pub ResponseAllowsStoring : Answered → Type 0
ResponseAllowsStoring answered =
    (response_has_directive answered directive.Public ≡ true)
    ⊎ ((has_line answered.fields (codes "Expires") ≡ true)
    ⊎ ((response_has_directive answered directive.MaxAge ≡ true)
    ⊎ ((response_has_directive answered directive.SMaxage ≡ true)
    ⊎ (is_heuristic_status answered.status ≡ true))))

-- "A cache MUST NOT store a response to a request unless" (RFC 9111, section 3), for a shared
-- cache, and what the request itself forbids (RFC 9111, section 5.2.1.5)
pub record ResponseIsStorable (asked : Asked) (answered : Answered) : Type 0 where
  -- own: understood are GET and HEAD; of these the store takes answers to GET alone (`RequestAllowsStoring`)
  pub method_is_understood : (asked.method ≡ codes "GET") ⊎ (asked.method ≡ codes "HEAD")
  pub status_is_final : StatusIsFinal answered
  pub status_is_understood : StatusNeedsToBeUnderstood answered → is_understood_status answered.status ≡ true
  pub no_no_store : NoStoreIsAbsentOrLifted answered
  pub not_private : response_has_directive answered directive.Private ≡ false
  pub not_authorized : (has_line asked.fields (codes "Authorization") ≡ false) ⊎ ResponseAllowsSharedWithAuthorization answered
  pub allowed : ResponseAllowsStoring answered
  pub request_has_no_no_store : request_has_directive asked directive.NoStore ≡ false

-- the answer doesn't depend on the Range of its request (RFC 9110, sections 14.2 and 15.5.17), which asks for none, or
-- by the word of its line may be answered whole
abbrev pub AnswerDoesNotDependOnRange : Asked → Answered → Policy → Type 0
AnswerDoesNotDependOnRange asked answered policy =
    (asks_for_range asked ≡ false) ⊎ ((policy.forwards_ranges ≡ false) × (answered.status ≡ 416 → ⊥))

-- own: what is stored was asked for by a GET of the whole
pub record RequestAllowsStoring (asked : Asked) (answered : Answered) (policy : Policy) : Type 0 where
  pub is_get : asked.method ≡ codes "GET"
  pub no_content : request_has_content asked ≡ false
  pub no_range : AnswerDoesNotDependOnRange asked answered policy
  pub no_precondition : has_precondition_for_origin asked ≡ false

-- own: it can be sent once more, as it was meant
pub record ResponseCouldBeReusedIfStored (facts : StoringFacts) : Type 0 where
  pub vary_is_not_star : facts.vary_star ≡ false
  pub connection_lists_no_cache_field : facts.listed ≡ false
  pub has_lifetime_or_validator : (facts.explicit ≡ true) ⊎ (facts.validator ≡ true)
  pub not_overtaken : facts.overtaken ≡ false

-- own: the operator's limit, and a serial of its own
pub record ResponseIsNotTooLargeAndHasSerial (facts : StoringFacts) : Type 0 where
  pub not_too_large : facts.too_large ≡ false
  pub has_serial : facts.no_serial ≡ false

-- the request has neither a cookie nor credentials (RFC 6265, section 4.2; RFC 9110, section 11.6.2)
abbrev pub RequestHasNoCookieOrAuthorization : Asked → Type 0
RequestHasNoCookieOrAuthorization asked =
    (has_line asked.fields (codes "Cookie") ≡ false) × (has_line asked.fields (codes "Authorization") ≡ false)

-- the response says how long it is fresh (RFC 9111, section 4.2.1)
abbrev pub ResponseStatesItsLifetime : Answered → Type 0
ResponseStatesItsLifetime answered =
    (response_has_directive answered directive.SMaxage ≡ true)
    ⊎ ((response_has_directive answered directive.MaxAge ≡ true) ⊎ (has_line answered.fields (codes "Expires") ≡ true))

-- own: where the operator stores no cookies the response sets none, or has public (RFC 9111,
-- section 7.3); where he gives no lifetime to what sets one, it sets none, has public or a lifetime of its own, or is
-- given none; where he stores no errors its status tells none, or is heuristically cacheable (RFC
-- 9110, section 15.1); where he gives no lifetime to what was asked for with a cookie or with
-- credentials, it wasn't, has public or a lifetime of its own, or is given none
pub record PolicyAllowsStoring (asked : Asked) (answered : Answered) (policy : Policy) : Type 0 where
  pub cookies : (policy.stores_cookies ≡ true)
      ⊎ ((has_line answered.fields (codes "Set-Cookie") ≡ false) ⊎ (response_has_directive answered directive.Public ≡ true))
  pub set_cookie_lifetimes : (policy.gives_to_set_cookie ≡ true)
      ⊎ ((has_line answered.fields (codes "Set-Cookie") ≡ false)
      ⊎ ((response_has_directive answered directive.Public ≡ true)
      ⊎ (ResponseStatesItsLifetime answered
      ⊎ (lifetime_given_by_policy policy answered.status ≡ None))))
  pub errors : (policy.stores_errors ≡ true) ⊎ ((answered.status < 400) ⊎ (is_heuristic_status answered.status ≡ true))
  pub requests_with_cookies : (policy.gives_to_cookies ≡ true)
      ⊎ (RequestHasNoCookieOrAuthorization asked
      ⊎ ((response_has_directive answered directive.Public ≡ true)
      ⊎ (ResponseStatesItsLifetime answered
      ⊎ (lifetime_given_by_policy policy answered.status ≡ None))))

-- own: the operator lets it be stored
pub record ResponseMayBeStored (asked : Asked) (answered : Answered) (facts : StoringFacts) : Type 0 where
  pub operator_allows : facts.policy.caches ≡ true
  pub is_storable : ResponseIsStorable asked answered
  pub is_for_the_store : RequestAllowsStoring asked answered facts.policy
  pub could_be_reused : ResponseCouldBeReusedIfStored facts
  pub has_room : ResponseIsNotTooLargeAndHasSerial facts
  pub policy_allows_it : PolicyAllowsStoring asked answered facts.policy

-- the rule stands, and none of a smaller number does
pub record IsLeastRuleAgainstStoring (asked : Asked) (answered : Answered) (facts : StoringFacts)
    (least : StoreRule) : Type 0 where
  pub rule_applies : storing_rule_applies least asked answered facts ≡ true
  pub none_before : (other : StoreRule) → storing_rule_number other < storing_rule_number least
      → storing_rule_applies other asked answered facts ≡ false

-- no rule stands
abbrev pub ResponseIsStored : Asked → Answered → StoringFacts → Type 0
ResponseIsStored asked answered facts = rule_against_storing asked answered facts ≡ None

-- ---- the statements

abbrev pub OnlyStorableResponseIsStored : Type 0
OnlyStorableResponseIsStored = (asked : Asked) (answered : Answered) (facts : StoringFacts) →
    StatusIsFinal answered → ResponseIsStored asked answered facts → ResponseMayBeStored asked answered facts

abbrev pub StorableResponseIsStored : Type 0
StorableResponseIsStored = (asked : Asked) (answered : Answered) (facts : StoringFacts) →
    ResponseMayBeStored asked answered facts → ResponseIsStored asked answered facts

abbrev pub NamedStoringRuleIsLeast : Type 0
NamedStoringRuleIsLeast = (asked : Asked) (answered : Answered) (facts : StoringFacts) (least : StoreRule) →
    rule_against_storing asked answered facts ≡ Some least → IsLeastRuleAgainstStoring asked answered facts least

abbrev pub StoringRuleThatIsLeastIsNamed : Type 0
StoringRuleThatIsLeastIsNamed = (asked : Asked) (answered : Answered) (facts : StoringFacts) (least : StoreRule) →
    IsLeastRuleAgainstStoring asked answered facts least → rule_against_storing asked answered facts ≡ Some least

abbrev pub StoredOnlyWhereNoRuleApplies : Type 0
StoredOnlyWhereNoRuleApplies = (asked : Asked) (answered : Answered) (facts : StoringFacts) (any : StoreRule) →
    ResponseIsStored asked answered facts → storing_rule_applies any asked answered facts ≡ false

abbrev pub AnswerOfKindIsNeverStored : (Asked → Answered → Type 0) → Type 0
AnswerOfKindIsNeverStored P = (asked : Asked) (answered : Answered) (facts : StoringFacts) → P asked answered
    → ResponseIsStored asked answered facts → ⊥

-- the response has no-store without must-understand
abbrev pub NoStoreAloneForbidsStoring : Type 0
NoStoreAloneForbidsStoring = AnswerOfKindIsNeverStored
    (λ asked answered. (response_has_directive answered directive.NoStore ≡ true)
    × (response_has_directive answered directive.MustUnderstand ≡ false))

-- it has no-store, with must-understand or without, and a status that isn't understood
abbrev pub NoStoreForbidsUnlessUnderstood : Type 0
NoStoreForbidsUnlessUnderstood =
    AnswerOfKindIsNeverStored (λ asked answered. (response_has_directive answered directive.NoStore ≡ true) ×
    (is_understood_status answered.status ≡ false))

-- the request has no-store
abbrev pub RequestNoStoreForbidsStoring : Type 0
RequestNoStoreForbidsStoring =
    AnswerOfKindIsNeverStored (λ asked answered. request_has_directive asked directive.NoStore ≡ true)

-- the response has private, with or without names of fields
abbrev pub PrivateForbidsStoring : Type 0
PrivateForbidsStoring = AnswerOfKindIsNeverStored
    (λ asked answered. response_has_directive answered directive.Private ≡ true)

-- the request has Authorization, and the response neither must-revalidate nor public nor s-maxage
abbrev pub AuthorizationForbidsStoring : Type 0
AuthorizationForbidsStoring =
    AnswerOfKindIsNeverStored (λ asked answered. (has_line asked.fields (codes "Authorization") ≡ true)
    × (response_has_directive answered directive.MustRevalidate ≡ false)
    × (response_has_directive answered directive.Public ≡ false)
    × (response_has_directive answered directive.SMaxage ≡ false))

-- the response is a part of a representation, or none
abbrev pub A206Or304IsNeverStored : Type 0
A206Or304IsNeverStored = AnswerOfKindIsNeverStored (λ asked answered. (answered.status ≡ 206) ⊎ (answered.status ≡ 304))

-- the method isn't GET
abbrev pub OnlyAnswersToGetAreStored : Type 0
OnlyAnswersToGetAreStored = AnswerOfKindIsNeverStored (λ asked answered. (asked.method ≡ codes "GET") → ⊥)

-- the operator keeps it from the store
abbrev pub CachingOffForbidsStoring : Type 0
CachingOffForbidsStoring = (asked : Asked) (answered : Answered) (facts : StoringFacts) → facts.policy.caches ≡ false
    → ResponseIsStored asked answered facts → ⊥
