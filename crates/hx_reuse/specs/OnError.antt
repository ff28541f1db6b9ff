-- What a stored response and the directives of a request have to be, that the one may answer the
-- other in place of an error, without the rules and their numbers (RFC 5861, section 4, and what
-- RFC 9111, sections 4.2.4, 5.2.2.2, 5.2.2.4, 5.2.2.8 and 5.2.2.10 forbid to send stale).
--
-- ResponseHasStaleIfErrorOf, RequestHasStaleIfErrorOf, OperatorGivesStaleIfErrorOf: the staleness that each allows
-- ResponseMayBeSentOnError: all that is asked
-- IsLeastErrorRule: a rule that stands, and none before it
-- Below them are the statements that the laws of `src/laws.rt` prove.
use Rattle.std.specs.Prelude.{◌≡◌, ℕ, ◌-◌, ◌<◌, ◌≤◌, ◌⊎◌, true, false, List, Some, None}
use Rattle.hx_directives.specs.Occurrences.{occurrences_of}
use Rattle.hx_directives.specs.Answers.{directive_occurs, seconds_of_directive, first_valid_seconds}
use Rattle.hx_directives.specs.declared.occurrences.Occurrence.{Occurrence}
use Rattle.hx_directives.specs.declared.names.Directive.TheVariants.{NoCache, MustRevalidate, ProxyRevalidate, SMaxage}
use Rattle.hx_directives.specs.declared.names.Directive.TheVariants.{StaleIfError}
use Rattle.hx_directives.specs.declared.answers.Seconds.TheVariants.{Value}
use Rattle.hx_age.specs.Age.{age_of}
use Rattle.hx_store.specs.Stored.{Stored}
use Rattle.hx_policy.specs.declared.words.Policy.{Policy}
use Rattle.hx_reuse.specs.Lifetimes.{lifetime_of_stored_response}
use Rattle.hx_reuse.specs.RuleNames.{error_rule_number}
use Rattle.hx_reuse.specs.ErrorRules.{situation_of_stored_response, error_rule_condition, error_rule_against}
use Rattle.hx_reuse.specs.declared.rule.ErrorRule.{ErrorRule}

-- the response has one stale-if-error, of so many seconds
abbrev pub ResponseHasStaleIfErrorOf : Stored → ℕ → Type 0
ResponseHasStaleIfErrorOf response most = seconds_of_directive (occurrences_of response.fields) StaleIfError
    ≡ Value most

-- the request's first valid stale-if-error has so many seconds
abbrev pub RequestHasStaleIfErrorOf : List Occurrence → ℕ → Type 0
RequestHasStaleIfErrorOf request most = first_valid_seconds request StaleIfError ≡ Some most

-- own: the operator's line has so many seconds, and neither the response nor the request has a stale-if-error
pub record OperatorGivesStaleIfErrorOf (policy : Policy) (response : Stored) (request : List Occurrence)
    (most : ℕ) : Type 0 where
  pub policy_states_limit : policy.stale_if_error ≡ Some most
  pub response_has_none : directive_occurs (occurrences_of response.fields) StaleIfError ≡ false
  pub request_has_none : directive_occurs request StaleIfError ≡ false

-- by how much the response is past its lifetime (RFC 9111, section 4.2)
abbrev pub staleness_at : Policy → Stored → ℕ → ℕ
staleness_at policy response now =
    age_of response.times now - (lifetime_of_stored_response policy response).seconds

-- own: its lifetime is stated, or the operator gives it one; the request has no no-cache that is heeded; and each limit
-- counts
pub record ResponseMayBeSentOnError (policy : Policy) (response : Stored) (request : List Occurrence)
    (now : ℕ) : Type 0 where
  pub no_no_cache : directive_occurs (occurrences_of response.fields) NoCache ≡ false
  pub no_must_revalidate : directive_occurs (occurrences_of response.fields) MustRevalidate ≡ false
  pub no_proxy_revalidate : directive_occurs (occurrences_of response.fields) ProxyRevalidate ≡ false
  pub no_s_maxage : directive_occurs (occurrences_of response.fields) SMaxage ≡ false
  pub has_a_lifetime : (lifetime_of_stored_response policy response).explicit ≡ true
  pub not_to_be_validated : policy.heeds_requests ≡ true → directive_occurs request NoCache ≡ false
  pub is_allowed : ((most : ℕ) × ResponseHasStaleIfErrorOf response most)
      ⊎ (((most : ℕ) × RequestHasStaleIfErrorOf request most) ⊎
      ((most : ℕ) × OperatorGivesStaleIfErrorOf policy response request most))
  pub within_its_limit : (most : ℕ) → ResponseHasStaleIfErrorOf response most → staleness_at policy response now ≤ most
  pub within_the_requests : (most : ℕ) → RequestHasStaleIfErrorOf request most → staleness_at policy response now ≤ most
  pub within_the_operators : (most : ℕ) → OperatorGivesStaleIfErrorOf policy response request most
      → staleness_at policy response now ≤ most

-- the rule stands, and none of a smaller number does
pub record IsLeastErrorRule (policy : Policy) (response : Stored) (request : List Occurrence) (now : ℕ)
    (least : ErrorRule) : Type 0 where
  pub rule_applies : error_rule_condition least (situation_of_stored_response policy response request now) ≡ true
  pub none_before : (other : ErrorRule) → error_rule_number other < error_rule_number least
      → error_rule_condition other (situation_of_stored_response policy response request now) ≡ false

-- ---- the statements

abbrev pub SendableResponseIsSentOnError : Type 0
SendableResponseIsSentOnError = (policy : Policy) (response : Stored) (request : List Occurrence) (now : ℕ) →
    ResponseMayBeSentOnError policy response request now → error_rule_against policy response request now ≡ None

abbrev pub OnlySendableResponseIsSentOnError : Type 0
OnlySendableResponseIsSentOnError = (policy : Policy) (response : Stored) (request : List Occurrence) (now : ℕ) →
    error_rule_against policy response request now ≡ None → ResponseMayBeSentOnError policy response request now

abbrev pub NamedErrorRuleIsLeast : Type 0
NamedErrorRuleIsLeast = (policy : Policy) (response : Stored) (request : List Occurrence) (now : ℕ)
    (least : ErrorRule) →
    error_rule_against policy response request now ≡ Some least → IsLeastErrorRule policy response request now least

abbrev pub ErrorRuleThatIsLeastIsNamed : Type 0
ErrorRuleThatIsLeastIsNamed =
    (policy : Policy) (response : Stored) (request : List Occurrence) (now : ℕ) (least : ErrorRule) →
    IsLeastErrorRule policy response request now least → error_rule_against policy response request now ≡ Some least
