-- Which rules keep a stored response from being sent in place of an error, one of 500, 502, 503 and
-- 504 or the want of an answer (RFC 5861, section 4), and which is the first. They are asked of the
-- chosen response, where no rule stands that asks of the request alone.
--
-- stale_if_error_limit_of_response, request_stale_if_error_limit, operator_stale_if_error_limit: the staleness that
-- stale-if-error allows
-- is_stale_beyond_limit: a response is staler
-- error_rule_condition: the condition of each rule
-- error_rules: the rules by their numbers
-- error_rule_against: the least that stands against a response                    least_error_rule_of: against the
-- chosen one
-- permission_on_error: none stands, or the least that does
use Rattle.std.specs.Prelude.{ℕ, nat_lt, if◌then◌else◌, Bool, not, ◌&&◌, ◌||◌, List, [], ◌∷◌, find, Option, Some, None}
use Rattle.std.specs.Prelude.{is_none, option_and_then, Result, Ok, Err}
use Rattle.hx_directives.specs.Occurrences.{occurrences_of}
use Rattle.hx_directives.specs.Answers.{directive_occurs, seconds_of_directive, first_valid_seconds}
use Rattle.hx_directives.specs.declared.occurrences.Occurrence.{Occurrence}
use Rattle.hx_directives.specs.declared.names.Directive.TheVariants as directive
use Rattle.hx_directives.specs.declared.answers.Seconds.{Seconds}
use Rattle.hx_directives.specs.declared.answers.Seconds.TheVariants.{Value}
use Rattle.hx_age.specs.Age.{age_of, staleness_of}
use Rattle.hx_hop.specs.declared.request_view.Asked.{Asked}
use Rattle.hx_store.specs.Stored.{Stored}
use Rattle.hx_policy.specs.declared.words.Policy.{Policy}
use Rattle.hx_reuse.specs.Chosen.{chosen_of}
use Rattle.hx_reuse.specs.Lifetimes.{lifetime_of_stored_response}
use Rattle.hx_reuse.specs.Rules.{ReuseSituation, situation_with, forbids_sending_stale, heeded_request_has_no_cache}
use Rattle.hx_reuse.specs.Rules.{is_some_and}
use Rattle.hx_reuse.specs.declared.rule.ErrorRule.{ErrorRule}
use Rattle.hx_reuse.specs.declared.rule.ErrorRule.TheVariants.{NoCache, MustRevalidate, NoLifetime, RequestNoCache}
use Rattle.hx_reuse.specs.declared.rule.ErrorRule.TheVariants.{NoDirective, TooStale}

-- seconds that stand once and can be read
abbrev pub seconds_stated_once : Seconds → Option ℕ
seconds_stated_once (Value n) = Some n
seconds_stated_once _ = None

-- the staleness that a response allows: "any request applicable to the cached response" (RFC 5861, section 4)
-- own: one that stands twice or can't be read allows none
abbrev pub stale_if_error_limit_of_response : ReuseSituation → Option ℕ
stale_if_error_limit_of_response s = seconds_stated_once (seconds_of_directive s.response directive.StaleIfError)

-- the staleness that a request allows: "the request it appears in" (RFC 5861, section 4)
abbrev pub request_stale_if_error_limit : ReuseSituation → Option ℕ
request_stale_if_error_limit s = first_valid_seconds s.request directive.StaleIfError

-- own: the staleness that the operator's line allows, where neither has a stale-if-error, be it one that can't be read
abbrev pub operator_stale_if_error_limit : ReuseSituation → Option ℕ
operator_stale_if_error_limit s =
    if directive_occurs s.response directive.StaleIfError || directive_occurs s.request directive.StaleIfError then None
    else s.policy.stale_if_error

-- "the upper limit to staleness" (RFC 5861, section 4)
abbrev pub is_stale_beyond_limit : ReuseSituation → Option ℕ → Bool
is_stale_beyond_limit s limit = is_some_and (λ most. nat_lt most (staleness_of s.lifetime s.age)) limit

-- the condition of each rule
abbrev pub error_rule_condition : ErrorRule → ReuseSituation → Bool
-- RFC 9111, section 5.2.2.4
error_rule_condition NoCache s = directive_occurs s.response directive.NoCache
-- RFC 9111, sections 4.2.4, 5.2.2.2, 5.2.2.8 and 5.2.2.10
error_rule_condition MustRevalidate s = forbids_sending_stale s
-- own: without a lifetime there is no staleness to compare
error_rule_condition NoLifetime s = not s.lifetime.explicit
-- own: a request that wants an answer of the origin gets none of the store
error_rule_condition RequestNoCache s = heeded_request_has_no_cache s
-- RFC 5861, section 4; own: the operator's limit stands for one that nobody states
error_rule_condition NoDirective s =
    (is_none (stale_if_error_limit_of_response s) && is_none (request_stale_if_error_limit s))
    && is_none (operator_stale_if_error_limit s)
-- RFC 5861, section 4; own: where both the response and the request state a limit, each of them counts
error_rule_condition TooStale s =
    (is_stale_beyond_limit s (stale_if_error_limit_of_response s) || is_stale_beyond_limit s
    (request_stale_if_error_limit s))
    || is_stale_beyond_limit s (operator_stale_if_error_limit s)

-- the rules by their numbers
abbrev pub error_rules : List ErrorRule
error_rules = NoCache ∷ MustRevalidate ∷ NoLifetime ∷ RequestNoCache ∷ NoDirective ∷ TooStale ∷ []

-- what the rules read of a response, at a moment, and of a request's directives
abbrev pub situation_of_stored_response : Policy → Stored → List Occurrence → ℕ → ReuseSituation
situation_of_stored_response policy response request now =
    situation_with policy (lifetime_of_stored_response policy response) (age_of response.times now)
    (occurrences_of response.fields) request

-- the least rule that stands against sending this response, by the directives of a request
unfoldable pub error_rule_against : Policy → Stored → List Occurrence → ℕ → Option ErrorRule
error_rule_against policy response request now =
    find (λ rule. error_rule_condition rule (situation_of_stored_response policy response request now)) error_rules

-- the least rule that stands against sending the response that is chosen for a request; where none
-- is chosen a reuse rule stands that keeps this from being asked, and the answer says nothing
abbrev pub least_error_rule_of : Policy → List Stored → Asked → ℕ → Option ErrorRule
least_error_rule_of policy held asked now =
    option_and_then (λ e. error_rule_against policy e (occurrences_of asked.fields) now) (chosen_of held asked)

-- none stands, or the least that does
abbrev pub permission_from_error_rule : Option ErrorRule → Result (Unit {0}) ErrorRule
permission_from_error_rule None = Ok tt
permission_from_error_rule (Some rule) = Err rule

abbrev pub permission_on_error : Policy → Stored → List Occurrence → ℕ → Result (Unit {0}) ErrorRule
permission_on_error policy response request now = permission_from_error_rule
    (error_rule_against policy response request now)
