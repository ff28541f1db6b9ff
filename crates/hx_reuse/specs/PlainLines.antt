-- What the rules ask where the operator's line has no words: the conditions that the standards
-- name, with nothing of a policy (RFC 9111, section 4; RFC 5861, section 4).
--
-- standard_rule_condition: a rule on the chosen response     standard_rule_applies: a rule
-- plain_decision_of: what is done with a request
-- standard_error_rule_condition: a rule after an error    standard_permission_on_error: none stands, or the least that
-- does
-- Below them are the statements that the law `default_policy_follows_the_standard_alone` proves.
use Rattle.std.specs.Prelude.{◌≡◌, ℕ, ◌+◌, ◌==◌, nat_lt, Bool, false, not, ◌&&◌, ◌||◌, List, length, find, codes}
use Rattle.std.specs.Prelude.{bytes_eq, is_some, is_none, option_map, Result}
use Rattle.hx_fields.specs.Line.{Field}
use Rattle.hx_directives.specs.Occurrences.{occurrences_of}
use Rattle.hx_directives.specs.Answers.{directive_occurs, seconds_of_directive, first_valid_seconds, max_stale}
use Rattle.hx_directives.specs.declared.occurrences.Occurrence.{Occurrence}
use Rattle.hx_directives.specs.declared.names.Directive.TheVariants as directive
use Rattle.hx_age.specs.declared.lifetimes.Lifetime.{Lifetime}
use Rattle.hx_age.specs.Lifetime.{lifetime_of}
use Rattle.hx_age.specs.Age.{age_of, is_fresh_of, lifetime_shortened_by_purge, staleness_of}
use Rattle.hx_hop.specs.declared.request_view.Asked.{Asked}
use Rattle.hx_hop.specs.Bypass.{request_has_content, asks_for_range, has_precondition_for_origin}
use Rattle.hx_store.specs.Stored.{Stored}
use Rattle.hx_policy.specs.Policies.{plain}
use Rattle.hx_reuse.specs.Chosen.{entries_of_key, chosen_of}
use Rattle.hx_reuse.specs.Lifetimes.{lifetime_under_policy}
use Rattle.hx_reuse.specs.Rules.{is_some_and, max_stale_is_present, is_past_max_stale, situation_with}
use Rattle.hx_reuse.specs.Rules.{reuse_rule_condition}
use Rattle.hx_reuse.specs.Rules.{reuse_rules, decision_by_rule}
use Rattle.hx_reuse.specs.Rules.{decision_of}
use Rattle.hx_reuse.specs.ErrorRules.{seconds_stated_once, error_rule_condition, error_rules}
use Rattle.hx_reuse.specs.ErrorRules.{permission_from_error_rule}
use Rattle.hx_reuse.specs.ErrorRules.{permission_on_error}
use Rattle.hx_reuse.specs.declared.rule.ReuseRule.{ReuseRule}
use Rattle.hx_reuse.specs.declared.rule.ReuseRule.TheVariants.{Operator, Method, Content, Range, Precondition, UriMiss}
use Rattle.hx_reuse.specs.declared.rule.ReuseRule.TheVariants.{VaryMiss, ResponseNoCache, RequestNoCache, AboveMaxAge}
use Rattle.hx_reuse.specs.declared.rule.ReuseRule.TheVariants.{BelowMinFresh, MustRevalidate, NoLifetime, StaleNoCache}
use Rattle.hx_reuse.specs.declared.rule.ReuseRule.TheVariants.{NoMaxStale, PastMaxStale, StaleMaxAge, StaleMinFresh}
use Rattle.hx_reuse.specs.declared.rule.ErrorRule.{ErrorRule}
use Rattle.hx_reuse.specs.declared.rule.ErrorRule.TheVariants as on_error
use Rattle.hx_reuse.specs.declared.decision.Decision.{Decision}

-- must-revalidate, proxy-revalidate or s-maxage (RFC 9111, sections 5.2.2.2, 5.2.2.8 and 5.2.2.10)
abbrev pub response_directives_forbid_stale : List Occurrence → Bool
response_directives_forbid_stale response =
    (directive_occurs response directive.MustRevalidate || directive_occurs response directive.ProxyRevalidate)
    || directive_occurs response directive.SMaxage

-- by lifetime, age and the directives of the response and of the request
abbrev pub standard_rule_condition : ReuseRule → Lifetime → ℕ → List Occurrence → List Occurrence → Bool
-- RFC 9111, section 5.2.2.4
standard_rule_condition ResponseNoCache lifetime age response request = directive_occurs response directive.NoCache
-- RFC 9111, section 5.2.1.4
standard_rule_condition RequestNoCache lifetime age response request = is_fresh_of lifetime age
    && directive_occurs request directive.NoCache
-- RFC 9111, section 5.2.1.1
standard_rule_condition AboveMaxAge lifetime age response request =
    is_fresh_of lifetime age && is_some_and (λ most. nat_lt most age) (first_valid_seconds request directive.MaxAge)
-- RFC 9111, section 5.2.1.3
standard_rule_condition BelowMinFresh lifetime age response request =
    is_fresh_of lifetime age
    && is_some_and (λ least. nat_lt lifetime.seconds (age + least)) (first_valid_seconds request directive.MinFresh)
-- RFC 9111, sections 5.2.2.2, 5.2.2.8 and 5.2.2.10
standard_rule_condition MustRevalidate lifetime age response request = not (is_fresh_of lifetime age)
    && response_directives_forbid_stale response
-- own: what states no lifetime is never sent stale
standard_rule_condition NoLifetime lifetime age response request = not (is_fresh_of lifetime age)
    && not lifetime.explicit
-- RFC 9111, section 5.2.1.4
standard_rule_condition StaleNoCache lifetime age response request = not (is_fresh_of lifetime age)
    && directive_occurs request directive.NoCache
-- RFC 9111, section 4.2.4
standard_rule_condition NoMaxStale lifetime age response request = not (is_fresh_of lifetime age)
    && not (max_stale_is_present (max_stale request))
-- RFC 9111, section 5.2.1.2
standard_rule_condition PastMaxStale lifetime age response request =
    not (is_fresh_of lifetime age) && is_past_max_stale (staleness_of lifetime age) (max_stale request)
-- RFC 9111, section 5.2.1.1
standard_rule_condition StaleMaxAge lifetime age response request =
    not (is_fresh_of lifetime age)
    && is_some_and (λ most. nat_lt most age) (first_valid_seconds request directive.MaxAge)
-- RFC 9111, section 5.2.1.3
standard_rule_condition StaleMinFresh lifetime age response request =
    not (is_fresh_of lifetime age) && is_some (first_valid_seconds request directive.MinFresh)
-- these speak of no response
standard_rule_condition Operator lifetime age response request = false
standard_rule_condition Method lifetime age response request = false
standard_rule_condition Content lifetime age response request = false
standard_rule_condition Range lifetime age response request = false
standard_rule_condition Precondition lifetime age response request = false
standard_rule_condition UriMiss lifetime age response request = false
standard_rule_condition VaryMiss lifetime age response request = false

-- a rule on the chosen response, by the lifetime that it states, unless a purge ended that
abbrev pub standard_condition_on_chosen : ReuseRule → Stored → Asked → ℕ → Bool
standard_condition_on_chosen which e asked now =
    standard_rule_condition which (lifetime_shortened_by_purge e.times (lifetime_of e.fields)) (age_of e.times now)
    (occurrences_of e.fields) (occurrences_of asked.fields)

abbrev pub standard_rule_applies_to_chosen : ReuseRule → List Stored → Asked → ℕ → Bool
standard_rule_applies_to_chosen which held asked now =
    is_some_and (λ e. standard_condition_on_chosen which e asked now) (chosen_of held asked)

abbrev pub standard_rule_applies : ReuseRule → Bool → List Stored → Asked → ℕ → Bool
standard_rule_applies Operator caches held asked now = not caches
standard_rule_applies Method caches held asked now =
    not (bytes_eq asked.method (codes "GET") || bytes_eq asked.method (codes "HEAD"))
standard_rule_applies Content caches held asked now = request_has_content asked
standard_rule_applies Range caches held asked now = asks_for_range asked
standard_rule_applies Precondition caches held asked now = has_precondition_for_origin asked
standard_rule_applies UriMiss caches held asked now = length (entries_of_key held asked) == 0
standard_rule_applies VaryMiss caches held asked now = is_none (chosen_of held asked)
standard_rule_applies ResponseNoCache caches held asked now = standard_rule_applies_to_chosen ResponseNoCache held asked
    now
standard_rule_applies RequestNoCache caches held asked now = standard_rule_applies_to_chosen RequestNoCache held asked
    now
standard_rule_applies AboveMaxAge caches held asked now = standard_rule_applies_to_chosen AboveMaxAge held asked now
standard_rule_applies BelowMinFresh caches held asked now = standard_rule_applies_to_chosen BelowMinFresh held asked now
standard_rule_applies MustRevalidate caches held asked now = standard_rule_applies_to_chosen MustRevalidate held asked
    now
standard_rule_applies NoLifetime caches held asked now = standard_rule_applies_to_chosen NoLifetime held asked now
standard_rule_applies StaleNoCache caches held asked now = standard_rule_applies_to_chosen StaleNoCache held asked now
standard_rule_applies NoMaxStale caches held asked now = standard_rule_applies_to_chosen NoMaxStale held asked now
standard_rule_applies PastMaxStale caches held asked now = standard_rule_applies_to_chosen PastMaxStale held asked now
standard_rule_applies StaleMaxAge caches held asked now = standard_rule_applies_to_chosen StaleMaxAge held asked now
standard_rule_applies StaleMinFresh caches held asked now = standard_rule_applies_to_chosen StaleMinFresh held asked now

unfoldable pub plain_decision_of : Bool → List Stored → Asked → ℕ → Decision
plain_decision_of caches held asked now =
    decision_by_rule (find (λ which. standard_rule_applies which caches held asked now) reuse_rules)
    (option_map (λ e. e.serial) (chosen_of held asked))

-- RFC 5861, section 4, and what RFC 9111, sections 5.2.2.2, 5.2.2.4, 5.2.2.8 and 5.2.2.10 forbid to send stale
abbrev pub standard_error_rule_condition : ErrorRule → Lifetime → ℕ → List Occurrence → List Occurrence → Bool
standard_error_rule_condition on_error.NoCache lifetime age response request =
    directive_occurs response directive.NoCache
standard_error_rule_condition on_error.MustRevalidate lifetime age response request =
    response_directives_forbid_stale response
standard_error_rule_condition on_error.NoLifetime lifetime age response request = not lifetime.explicit
standard_error_rule_condition on_error.RequestNoCache lifetime age response request
    = directive_occurs request directive.NoCache
standard_error_rule_condition on_error.NoDirective lifetime age response request =
    is_none (seconds_stated_once (seconds_of_directive response directive.StaleIfError))
    && is_none (first_valid_seconds request directive.StaleIfError)
standard_error_rule_condition on_error.TooStale lifetime age response request =
    is_some_and (λ most. nat_lt most (staleness_of lifetime age))
    (seconds_stated_once (seconds_of_directive response directive.StaleIfError))
    || is_some_and (λ most. nat_lt most (staleness_of lifetime age))
    (first_valid_seconds request directive.StaleIfError)

unfoldable pub standard_permission_on_error : Stored → List Occurrence → ℕ → Result (Unit {0}) ErrorRule
standard_permission_on_error response request now =
    permission_from_error_rule (find (λ which. standard_error_rule_condition which
    (lifetime_shortened_by_purge response.times (lifetime_of response.fields)) (age_of response.times now)
    (occurrences_of response.fields) request) error_rules)

-- ---- the statements

abbrev pub DefaultPolicyLifetimeIsTheStatedOne : Type 0
DefaultPolicyLifetimeIsTheStatedOne = (caches : Bool) (status : ℕ) (fields : List Field)
    → lifetime_under_policy (plain caches) status fields ≡ lifetime_of fields

abbrev pub DefaultPolicyRuleConditionsAreStandard : Type 0
DefaultPolicyRuleConditionsAreStandard =
    (caches : Bool) (which : ReuseRule) (lifetime : Lifetime) (age : ℕ) (response request : List Occurrence) →
    reuse_rule_condition which (situation_with (plain caches) lifetime age response request)
    ≡ standard_rule_condition which lifetime age response request

abbrev pub DefaultPolicyErrorRulesAreStandard : Type 0
DefaultPolicyErrorRulesAreStandard =
    (caches : Bool) (which : ErrorRule) (lifetime : Lifetime) (age : ℕ) (response request : List Occurrence) →
    error_rule_condition which (situation_with (plain caches) lifetime age response request)
    ≡ standard_error_rule_condition which lifetime age response request

abbrev pub DefaultPolicyDecisionIsStandard : Type 0
DefaultPolicyDecisionIsStandard = (caches : Bool) (held : List Stored) (asked : Asked) (now : ℕ) →
    decision_of (plain caches) held asked now ≡ plain_decision_of caches held asked now

abbrev pub DefaultPolicyPermissionOnErrorIsStandard : Type 0
DefaultPolicyPermissionOnErrorIsStandard = (caches : Bool) (response : Stored) (request : List Occurrence) (now : ℕ) →
    permission_on_error (plain caches) response request now ≡ standard_permission_on_error response request now
