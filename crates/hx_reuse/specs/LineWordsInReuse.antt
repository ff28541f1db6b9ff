-- What each word of the operator's line changes of reuse, and what it leaves as it is.
--
-- is_rule_on_request_directives: the rules that a request's advice makes
-- policy_without_stale_if_error: a line without its stale-if-error
-- RequestsDifferOnlyInIgnoredDirectives: two requests that differ in their advice alone
-- Below them are the statements that the laws of `src/laws.rt` prove.
use Rattle.std.specs.Prelude.{◌≡◌, ℕ, ◌<◌, ◌≤◌, ◌⊎◌, Bool, true, false, List, Some, None}
use Rattle.hx_fields.specs.Line.{Field}
use Rattle.hx_directives.specs.Occurrences.{occurrences_of}
use Rattle.hx_directives.specs.Seconds.{capped}
use Rattle.hx_directives.specs.Answers.{directive_occurs, max_stale}
use Rattle.hx_directives.specs.declared.occurrences.Occurrence.{Occurrence}
use Rattle.hx_directives.specs.declared.names.Directive.TheVariants.{StaleIfError}
use Rattle.hx_age.specs.Lifetime.{lifetime_of}
use Rattle.hx_hop.specs.declared.request_view.Asked.{Asked}
use Rattle.hx_hop.specs.Bypass.{request_has_content, asks_for_range, has_precondition_for_origin}
use Rattle.hx_store.specs.Stored.{Stored}
use Rattle.hx_policy.specs.declared.words.Policy.{Policy}
use Rattle.hx_policy.specs.Policies.{is_heuristic_status}
use Rattle.hx_reuse.specs.Chosen.{chosen_of}
use Rattle.hx_reuse.specs.Lifetimes.{lifetime_under_policy}
use Rattle.hx_reuse.specs.Rules.{ReuseSituation, reuse_rule_condition, decision_of}
use Rattle.hx_reuse.specs.ErrorRules.{error_rule_condition, situation_of_stored_response, error_rule_against}
use Rattle.hx_reuse.specs.OnError.{staleness_at}
use Rattle.hx_reuse.specs.declared.rule.ReuseRule.{ReuseRule}
use Rattle.hx_reuse.specs.declared.rule.ReuseRule.TheVariants.{Operator, Method, Content, Range, Precondition, UriMiss}
use Rattle.hx_reuse.specs.declared.rule.ReuseRule.TheVariants.{VaryMiss, ResponseNoCache, RequestNoCache, AboveMaxAge}
use Rattle.hx_reuse.specs.declared.rule.ReuseRule.TheVariants.{BelowMinFresh, MustRevalidate, NoLifetime, StaleNoCache}
use Rattle.hx_reuse.specs.declared.rule.ReuseRule.TheVariants.{NoMaxStale, PastMaxStale, StaleMaxAge, StaleMinFresh}
use Rattle.hx_reuse.specs.declared.rule.ErrorRule.TheVariants as on_error

-- ---- a lifetime

-- "when an explicit time is not specified" (RFC 9111, section 4.2.2): where one is, the lifetimes that the operator gives
-- change nothing, and where he has no most it counts as it is
abbrev pub StatedLifetimeOverridesOperators : Type 0
StatedLifetimeOverridesOperators = (policy : Policy) (status : ℕ) (fields : List Field) →
    (lifetime_of fields).explicit ≡ true → policy.lifetime_most ≡ None
    → lifetime_under_policy policy status fields ≡ lifetime_of fields

-- nor does he change anything where none is and the status isn't heuristically cacheable (RFC 9110, section 15.1)
abbrev pub NonHeuristicStatusGetsNoGivenLifetime : Type 0
NonHeuristicStatusGetsNoGivenLifetime = (policy : Policy) (status : ℕ) (fields : List Field) →
    (lifetime_of fields).explicit ≡ false → is_heuristic_status status ≡ false
    → lifetime_under_policy policy status fields ≡ lifetime_of fields

-- elsewhere the response is as fresh as if it stated the operator's: an error his lifetime of errors, and any other
-- response his lifetime
abbrev pub OperatorsLifetimeCounts : Type 0
OperatorsLifetimeCounts = (policy : Policy) (status : ℕ) (fields : List Field) (n : ℕ) →
    (lifetime_of fields).explicit ≡ false → is_heuristic_status status ≡ true → status < 400 → policy.lifetime
    ≡ Some n →
    lifetime_under_policy policy status fields ≡ record { explicit = true; seconds = capped n }

abbrev pub OperatorsErrorLifetimeCounts : Type 0
OperatorsErrorLifetimeCounts = (policy : Policy) (status : ℕ) (fields : List Field) (n : ℕ) →
    (lifetime_of fields).explicit ≡ false → is_heuristic_status status ≡ true → 400 ≤ status →
    policy.error_lifetime ≡ Some n →
    lifetime_under_policy policy status fields ≡ record { explicit = true; seconds = capped n }

-- where the operator gives errors no lifetime, they have none but what they state, whatever he gives the others
abbrev pub ErrorsGetNoLifetimeWithoutErrorLifetime : Type 0
ErrorsGetNoLifetimeWithoutErrorLifetime = (policy : Policy) (status : ℕ) (fields : List Field) →
    (lifetime_of fields).explicit ≡ false → 400 ≤ status → policy.error_lifetime ≡ None
    → lifetime_under_policy policy status fields ≡ lifetime_of fields

-- a stated lifetime within the operator's most counts as it is
abbrev pub LifetimeBelowMaximumIsUnchanged : Type 0
LifetimeBelowMaximumIsUnchanged = (policy : Policy) (status : ℕ) (fields : List Field) (most : ℕ) →
    (lifetime_of fields).explicit ≡ true → policy.lifetime_most ≡ Some most → (lifetime_of fields).seconds ≤ most →
    lifetime_under_policy policy status fields ≡ lifetime_of fields

-- and one beyond it as the most
abbrev pub LifetimeAboveMaximumIsTheMaximum : Type 0
LifetimeAboveMaximumIsTheMaximum = (policy : Policy) (status : ℕ) (fields : List Field) (most : ℕ) →
    (lifetime_of fields).explicit ≡ true → policy.lifetime_most ≡ Some most → most < (lifetime_of fields).seconds →
    lifetime_under_policy policy status fields ≡ record { explicit = true; seconds = most }

-- so nothing of a line lets a response count as fresh for longer than it states (RFC 9111, section 4.2.1)
abbrev pub StatedLifetimeIsNeverLengthened : Type 0
StatedLifetimeIsNeverLengthened = (policy : Policy) (status : ℕ) (fields : List Field) →
    (lifetime_of fields).explicit ≡ true
    → (lifetime_under_policy policy status fields).seconds ≤ (lifetime_of fields).seconds

-- ---- a request's advice

-- the rules on its no-cache, max-age and min-fresh (RFC 9111, sections 5.2.1.1, 5.2.1.3 and 5.2.1.4)
abbrev pub is_rule_on_request_directives : ReuseRule → Bool
is_rule_on_request_directives Operator = false
is_rule_on_request_directives Method = false
is_rule_on_request_directives Content = false
is_rule_on_request_directives Range = false
is_rule_on_request_directives Precondition = false
is_rule_on_request_directives UriMiss = false
is_rule_on_request_directives VaryMiss = false
is_rule_on_request_directives ResponseNoCache = false
is_rule_on_request_directives RequestNoCache = true
is_rule_on_request_directives AboveMaxAge = true
is_rule_on_request_directives BelowMinFresh = true
is_rule_on_request_directives MustRevalidate = false
is_rule_on_request_directives NoLifetime = false
is_rule_on_request_directives StaleNoCache = true
is_rule_on_request_directives NoMaxStale = false
is_rule_on_request_directives PastMaxStale = false
is_rule_on_request_directives StaleMaxAge = true
is_rule_on_request_directives StaleMinFresh = true

abbrev pub IgnoredRequestDirectivesNeverApply : Type 0
IgnoredRequestDirectivesNeverApply = (rule : ReuseRule) (s : ReuseSituation) →
    s.policy.heeds_requests ≡ false → is_rule_on_request_directives rule ≡ true → reuse_rule_condition rule s ≡ false

abbrev pub IgnoredRequestNoCacheNeverAppliesOnError : Type 0
IgnoredRequestNoCacheNeverAppliesOnError =
    (s : ReuseSituation) → s.policy.heeds_requests ≡ false → error_rule_condition on_error.RequestNoCache s ≡ false

-- two requests for one key by one method, with the same conditions, for which the same response is chosen, and with the
-- same max-stale
pub record RequestsDifferOnlyInIgnoredDirectives (held : List Stored) (asked other : Asked) : Type 0 where
  pub one_key : asked.target.key ≡ other.target.key
  pub same_method : asked.method ≡ other.method
  pub same_content : request_has_content asked ≡ request_has_content other
  pub same_range : asks_for_range asked ≡ asks_for_range other
  pub same_precondition : has_precondition_for_origin asked ≡ has_precondition_for_origin other
  pub same_chosen_response : chosen_of held asked ≡ chosen_of held other
  pub same_max_stale : max_stale (occurrences_of asked.fields) ≡ max_stale (occurrences_of other.fields)

-- where the line doesn't heed them, requests that differ in nothing else are answered alike
abbrev pub IgnoredRequestDirectivesDecideNothing : Type 0
IgnoredRequestDirectivesDecideNothing = (policy : Policy) (held : List Stored) (asked other : Asked) (now : ℕ) →
    policy.heeds_requests ≡ false → RequestsDifferOnlyInIgnoredDirectives held asked other
    → decision_of policy held asked now ≡ decision_of policy held other now

-- ---- a staleness after an error

-- neither the response nor the request has a stale-if-error, be it one that can't be read
pub record NeitherHasStaleIfError (response : Stored) (request : List Occurrence) : Type 0 where
  pub response_has_none : directive_occurs (occurrences_of response.fields) StaleIfError ≡ false
  pub request_has_none : directive_occurs request StaleIfError ≡ false

-- the operator's then counts: up to it neither rule on a limit stands, and past it TooStale does (RFC 5861, section 4)
abbrev pub OperatorsStaleIfErrorAllows : Type 0
OperatorsStaleIfErrorAllows = (policy : Policy) (response : Stored) (request : List Occurrence) (now most : ℕ) →
    NeitherHasStaleIfError response request → policy.stale_if_error ≡ Some most
    → staleness_at policy response now ≤ most →
    (error_rule_condition on_error.NoDirective (situation_of_stored_response policy response request now) ≡ false)
    × (error_rule_condition on_error.TooStale (situation_of_stored_response policy response request now) ≡ false)

abbrev pub OperatorsStaleIfErrorEnds : Type 0
OperatorsStaleIfErrorEnds = (policy : Policy) (response : Stored) (request : List Occurrence) (now most : ℕ) →
    NeitherHasStaleIfError response request → policy.stale_if_error ≡ Some most
    → most < staleness_at policy response now →
    error_rule_condition on_error.TooStale (situation_of_stored_response policy response request now) ≡ true

abbrev pub policy_without_stale_if_error : Policy → Policy
policy_without_stale_if_error policy = record policy { stale_if_error = None }

-- where either has one the operator's changes nothing
abbrev pub StatedStaleIfErrorOverridesOperators : Type 0
StatedStaleIfErrorOverridesOperators = (policy : Policy) (response : Stored) (request : List Occurrence) (now : ℕ) →
    (directive_occurs (occurrences_of response.fields) StaleIfError ≡ true) ⊎ (directive_occurs request StaleIfError
    ≡ true) →
    error_rule_against policy response request now
    ≡ error_rule_against (policy_without_stale_if_error policy) response request now
