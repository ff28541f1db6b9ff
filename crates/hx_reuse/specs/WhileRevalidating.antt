-- Which stale responses may be sent while a GET is at the origin for them (RFC 5861, section 3), so that others needn't
-- wait for its answer. That one is there, and that the request could wait for it, is the caller's matter.
--
-- limit_of_stale_while_revalidate: the staleness that stale-while-revalidate allows
-- stale_while_revalidate_rules: the rules that keep a stale response back all the same
-- situation_allows_stale_while_revalidate, may_be_sent_while_revalidating: what may be sent
-- ResponseHasStaleWhileRevalidateOf, OperatorGivesStaleWhileRevalidateOf, ResponseMayBeSentWhileRevalidating: the same
-- without the rules
-- Below them are the statements that the laws of `src/laws.rt` prove.
use Rattle.std.specs.Prelude.{◌≡◌, ◌⊎◌, ℕ, ◌≤◌, nat_le, if◌then◌else◌, Bool, true, false, not, ◌&&◌, List, []}
use Rattle.std.specs.Prelude.{◌∷◌, find, Option, Some, None, is_none}
use Rattle.hx_directives.specs.Occurrences.{occurrences_of}
use Rattle.hx_directives.specs.Answers.{directive_occurs, seconds_of_directive, first_valid_seconds, max_stale}
use Rattle.hx_directives.specs.declared.occurrences.Occurrence.{Occurrence}
use Rattle.hx_directives.specs.declared.names.Directive.TheVariants as directive
use Rattle.hx_directives.specs.declared.answers.Seconds.TheVariants.{Value}
use Rattle.hx_age.specs.Age.{age_of, staleness_of}
use Rattle.hx_store.specs.Stored.{Stored}
use Rattle.hx_policy.specs.declared.words.Policy.{Policy}
use Rattle.hx_policy.specs.Policies.{plain}
use Rattle.hx_reuse.specs.Lifetimes.{lifetime_of_stored_response}
use Rattle.hx_reuse.specs.Rules.{ReuseSituation, is_some_and, situation_is_fresh, reuse_rule_condition}
use Rattle.hx_reuse.specs.Rules.{is_past_max_stale}
use Rattle.hx_reuse.specs.ErrorRules.{seconds_stated_once, situation_of_stored_response}
use Rattle.hx_reuse.specs.OnError.{staleness_at}
use Rattle.hx_reuse.specs.Promises.{ResponseForbidsStale}
use Rattle.hx_reuse.specs.declared.rule.ReuseRule.{ReuseRule}
use Rattle.hx_reuse.specs.declared.rule.ReuseRule.TheVariants.{ResponseNoCache, MustRevalidate, NoLifetime}
use Rattle.hx_reuse.specs.declared.rule.ReuseRule.TheVariants.{StaleNoCache, PastMaxStale, StaleMaxAge, StaleMinFresh}

-- the staleness that the response states, or where it doesn't have the directive the operator's line allows
-- own: one that stands twice or can't be read allows none
abbrev pub limit_of_stale_while_revalidate : ReuseSituation → Option ℕ
limit_of_stale_while_revalidate s =
    if directive_occurs s.response directive.StaleWhileRevalidate
    then seconds_stated_once (seconds_of_directive s.response directive.StaleWhileRevalidate)
    else s.policy.stale_while_revalidate

-- What keeps a stale response back: what it forbids itself (RFC 9111, sections 4.2.4, 5.2.2.2, 5.2.2.4, 5.2.2.8 and
-- 5.2.2.10) and what the request asks (section 5.2.1). A request needn't have max-stale; one that has counts.
abbrev pub stale_while_revalidate_rules : List ReuseRule
stale_while_revalidate_rules =
    ResponseNoCache ∷ MustRevalidate ∷ NoLifetime ∷ StaleNoCache ∷ PastMaxStale ∷ StaleMaxAge ∷ StaleMinFresh ∷ []

-- "indicates that caches MAY serve the response .. after it becomes stale, up to the indicated number of seconds" (RFC
-- 5861, section 3)
-- own: over a line that says so
abbrev pub situation_allows_stale_while_revalidate : ReuseSituation → Bool
situation_allows_stale_while_revalidate s =
    s.policy.sends_while_revalidating && (not (situation_is_fresh s)
    && (is_none (find (λ rule. reuse_rule_condition rule s) stale_while_revalidate_rules)
    && is_some_and (λ most. nat_le (staleness_of s.lifetime s.age) most) (limit_of_stale_while_revalidate s)))

-- at a moment, by the directives of a request
unfoldable pub may_be_sent_while_revalidating : Policy → Stored → List Occurrence → ℕ → Bool
may_be_sent_while_revalidating policy response request now =
    situation_allows_stale_while_revalidate (situation_of_stored_response policy response request now)

-- ---- without the rules

-- the response has one stale-while-revalidate, of so many seconds
abbrev pub ResponseHasStaleWhileRevalidateOf : Stored → ℕ → Type 0
ResponseHasStaleWhileRevalidateOf response most =
    seconds_of_directive (occurrences_of response.fields) directive.StaleWhileRevalidate ≡ Value most

-- own: the operator's line has so many seconds, and the response has no stale-while-revalidate
pub record OperatorGivesStaleWhileRevalidateOf (policy : Policy) (response : Stored) (most : ℕ) : Type 0 where
  pub policy_states_limit : policy.stale_while_revalidate ≡ Some most
  pub response_has_none : directive_occurs (occurrences_of response.fields) directive.StaleWhileRevalidate ≡ false

-- own: its lifetime is stated, or the operator gives it one; the request's no-cache, max-age and min-fresh count where
-- the operator's line heeds them, and its max-stale always
pub record ResponseMayBeSentWhileRevalidating (policy : Policy) (response : Stored) (request : List Occurrence)
    (now : ℕ) : Type 0 where
  pub policy_sends_while_revalidating : policy.sends_while_revalidating ≡ true
  pub is_stale : (lifetime_of_stored_response policy response).seconds ≤ age_of response.times now
  pub no_no_cache : directive_occurs (occurrences_of response.fields) directive.NoCache ≡ false
  pub no_must_revalidate : directive_occurs (occurrences_of response.fields) directive.MustRevalidate ≡ false
  pub no_proxy_revalidate : directive_occurs (occurrences_of response.fields) directive.ProxyRevalidate ≡ false
  pub no_s_maxage : directive_occurs (occurrences_of response.fields) directive.SMaxage ≡ false
  pub has_a_lifetime : (lifetime_of_stored_response policy response).explicit ≡ true
  pub not_to_be_validated : policy.heeds_requests ≡ true → directive_occurs request directive.NoCache ≡ false
  pub within_max_age : policy.heeds_requests ≡ true → (most : ℕ) → first_valid_seconds request directive.MaxAge
      ≡ Some most
      → age_of response.times now ≤ most
  pub no_min_fresh : policy.heeds_requests ≡ true → first_valid_seconds request directive.MinFresh ≡ None
  pub within_max_stale : is_past_max_stale (staleness_at policy response now) (max_stale request) ≡ false
  pub most : ℕ
  pub limit_is : ResponseHasStaleWhileRevalidateOf response most
      ⊎ OperatorGivesStaleWhileRevalidateOf policy response most
  pub within_limit : staleness_at policy response now ≤ most

-- ---- the statements

abbrev pub SendableIsSentWhileRevalidating : Type 0
SendableIsSentWhileRevalidating =
    (policy : Policy) (response : Stored) (request : List Occurrence) (now : ℕ) →
    ResponseMayBeSentWhileRevalidating policy response request now
    → may_be_sent_while_revalidating policy response request now ≡ true

abbrev pub OnlySendableIsSentWhileRevalidating : Type 0
OnlySendableIsSentWhileRevalidating =
    (policy : Policy) (response : Stored) (request : List Occurrence) (now : ℕ) →
    may_be_sent_while_revalidating policy response request now ≡ true
    → ResponseMayBeSentWhileRevalidating policy response request now

-- what forbids to be sent stale, or unvalidated, is never sent so
abbrev pub NeverSentWhileRevalidatingWhereForbidden : Type 0
NeverSentWhileRevalidatingWhereForbidden =
    (policy : Policy) (response : Stored) (request : List Occurrence) (now : ℕ) →
    may_be_sent_while_revalidating policy response request now ≡ true
    → (directive_occurs (occurrences_of response.fields) directive.NoCache ≡ true) ⊎ ResponseForbidsStale response → ⊥

-- a line without words sends nothing so, whatever the response says
abbrev pub PlainLineSendsNothingWhileRevalidating : Type 0
PlainLineSendsNothingWhileRevalidating =
    (caches : Bool) (response : Stored) (request : List Occurrence) (now : ℕ) →
    may_be_sent_while_revalidating (plain caches) response request now ≡ false

-- nor does one without the word send what doesn't have the directive
abbrev pub NothingIsSentWithoutStaleWhileRevalidate : Type 0
NothingIsSentWithoutStaleWhileRevalidate =
    (policy : Policy) (response : Stored) (request : List Occurrence) (now : ℕ) →
    policy.stale_while_revalidate ≡ None
    → directive_occurs (occurrences_of response.fields) directive.StaleWhileRevalidate ≡ false
    → may_be_sent_while_revalidating policy response request now ≡ false

abbrev pub policy_without_stale_while_revalidate : Policy → Policy
policy_without_stale_while_revalidate policy = record policy { stale_while_revalidate = None }

-- where the response has the directive the operator's word changes nothing
abbrev pub StatedWhileRevalidateOverridesOperators : Type 0
StatedWhileRevalidateOverridesOperators = (policy : Policy) (response : Stored) (request : List Occurrence) (now : ℕ) →
    directive_occurs (occurrences_of response.fields) directive.StaleWhileRevalidate ≡ true
    → may_be_sent_while_revalidating policy response request now
    ≡ may_be_sent_while_revalidating (policy_without_stale_while_revalidate policy) response request now
