-- Which rules keep a stored response from being sent (RFC 9111, sections 4 and 5.2.1), and which is the first.
--
-- ReuseSituation: what the rules on a chosen response read
-- heeded_request_has_no_cache, is_above_max_age_limit, is_below_min_fresh_of_request, heeded_request_has_min_fresh:
-- what a request wants
-- reuse_rule_condition: the condition of each of these rules     reuse_rule_applies: the condition of each rule
-- reuse_rules: the rules by their numbers                  least_reuse_rule_of: the least that applies
-- decision_of: what is done with a request
use Rattle.std.specs.Prelude.{ℕ, ◌+◌, ◌==◌, nat_lt, if◌then◌else◌, Bool, true, false, not, ◌&&◌, ◌||◌, List, [], ◌∷◌}
use Rattle.std.specs.Prelude.{length, find, codes, bytes_eq, Option, Some, None, is_some, is_none, option_map}
use Rattle.hx_directives.specs.Occurrences.{occurrences_of}
use Rattle.hx_directives.specs.Answers.{directive_occurs, first_valid_seconds, max_stale}
use Rattle.hx_directives.specs.declared.occurrences.Occurrence.{Occurrence}
use Rattle.hx_directives.specs.declared.names.Directive.TheVariants as directive
use Rattle.hx_directives.specs.declared.answers.MaxStale.{MaxStale}
use Rattle.hx_directives.specs.declared.answers.MaxStale.TheVariants.{Absent, UpTo}
use Rattle.hx_age.specs.declared.lifetimes.Lifetime.{Lifetime}
use Rattle.hx_age.specs.Age.{age_of, is_fresh_of, staleness_of}
use Rattle.hx_hop.specs.declared.request_view.Asked.{Asked}
use Rattle.hx_hop.specs.Bypass.{request_has_content, asks_for_range, has_precondition_for_origin}
use Rattle.hx_store.specs.Stored.{Stored}
use Rattle.hx_policy.specs.declared.words.Policy.{Policy}
use Rattle.hx_reuse.specs.Lifetimes.{lifetime_of_stored_response}
use Rattle.hx_reuse.specs.Chosen.{entries_of_key, chosen_of}
use Rattle.hx_reuse.specs.declared.rule.ReuseRule.{ReuseRule}
use Rattle.hx_reuse.specs.declared.rule.ReuseRule.TheVariants.{Operator, Method, Content, Range, Precondition, UriMiss}
use Rattle.hx_reuse.specs.declared.rule.ReuseRule.TheVariants.{VaryMiss, ResponseNoCache, RequestNoCache, AboveMaxAge}
use Rattle.hx_reuse.specs.declared.rule.ReuseRule.TheVariants.{BelowMinFresh, MustRevalidate, NoLifetime, StaleNoCache}
use Rattle.hx_reuse.specs.declared.rule.ReuseRule.TheVariants.{NoMaxStale, PastMaxStale, StaleMaxAge, StaleMinFresh}
use Rattle.hx_reuse.specs.declared.decision.Decision.{Decision}
use Rattle.hx_reuse.specs.declared.decision.Decision.TheVariants.{Hit, Forward}

-- there is a value, and it passes
abbrev pub is_some_and : {A : Type 0} → (A → Bool) → Option A → Bool
is_some_and test None = false
is_some_and test (Some x) = test x

-- what the rules on a chosen response read of it, of the request and of the operator's line
pub record ReuseSituation : Type 0 where
  pub policy : Policy
  pub lifetime : Lifetime
  pub age : ℕ
  pub response : List Occurrence
  pub request : List Occurrence

abbrev pub situation_with : Policy → Lifetime → ℕ → List Occurrence → List Occurrence → ReuseSituation
situation_with policy lifetime age response request =
    record { policy = policy; lifetime = lifetime; age = age; response = response; request = request }

abbrev pub situation_of_request : Policy → Stored → Asked → ℕ → ReuseSituation
situation_of_request policy e asked now =
    situation_with policy (lifetime_of_stored_response policy e) (age_of e.times now) (occurrences_of e.fields)
    (occurrences_of asked.fields)

abbrev pub situation_is_fresh : ReuseSituation → Bool
situation_is_fresh s = is_fresh_of s.lifetime s.age

-- the response may not be sent stale (RFC 9111, sections 5.2.2.2, 5.2.2.8 and 5.2.2.10)
abbrev pub forbids_sending_stale : ReuseSituation → Bool
forbids_sending_stale s =
    (directive_occurs s.response directive.MustRevalidate || directive_occurs s.response directive.ProxyRevalidate)
    || directive_occurs s.response directive.SMaxage

-- the request has no-cache (RFC 9111, section 5.2.1.4). That a request's directives count is own,
-- and of no-cache, max-age and min-fresh the operator's to say: the standard calls them advisory
-- (RFC 9111, section 5.2.1). Its max-stale, only-if-cached, no-store and stale-if-error count
-- whatever the line says.
abbrev pub heeded_request_has_no_cache : ReuseSituation → Bool
heeded_request_has_no_cache s = s.policy.heeds_requests && directive_occurs s.request directive.NoCache

-- the age is above the request's max-age (RFC 9111, section 5.2.1.1)
abbrev pub is_above_max_age_limit : ReuseSituation → Bool
is_above_max_age_limit s =
    s.policy.heeds_requests && is_some_and (λ most. nat_lt most s.age) (first_valid_seconds s.request directive.MaxAge)

-- fresh for less than the request's min-fresh (RFC 9111, section 5.2.1.3)
abbrev pub is_below_min_fresh_of_request : ReuseSituation → Bool
is_below_min_fresh_of_request s =
    s.policy.heeds_requests && is_some_and (λ least. nat_lt s.lifetime.seconds (s.age + least))
    (first_valid_seconds s.request directive.MinFresh)

-- the request has min-fresh (RFC 9111, section 5.2.1.3)
abbrev pub heeded_request_has_min_fresh : ReuseSituation → Bool
heeded_request_has_min_fresh s = s.policy.heeds_requests && is_some (first_valid_seconds s.request directive.MinFresh)

-- the request takes stale responses, up to a staleness (RFC 9111, section 5.2.1.2)
abbrev pub max_stale_is_present : MaxStale → Bool
max_stale_is_present Absent = false
max_stale_is_present _ = true

abbrev pub is_past_max_stale : ℕ → MaxStale → Bool
is_past_max_stale n (UpTo limit) = nat_lt limit n
is_past_max_stale n _ = false

-- the conditions of the rules on the chosen response
abbrev pub reuse_rule_condition : ReuseRule → ReuseSituation → Bool
-- RFC 9111, section 5.2.2.4
reuse_rule_condition ResponseNoCache s = directive_occurs s.response directive.NoCache
-- RFC 9111, section 5.2.1.4
reuse_rule_condition RequestNoCache s = situation_is_fresh s && heeded_request_has_no_cache s
-- RFC 9111, section 5.2.1.1
reuse_rule_condition AboveMaxAge s = situation_is_fresh s && is_above_max_age_limit s
-- RFC 9111, section 5.2.1.3
reuse_rule_condition BelowMinFresh s = situation_is_fresh s && is_below_min_fresh_of_request s
-- RFC 9111, sections 5.2.2.2, 5.2.2.8 and 5.2.2.10
reuse_rule_condition MustRevalidate s = not (situation_is_fresh s) && forbids_sending_stale s
-- own: what states no lifetime is never sent stale (RFC 9111, section 4.2.4 lets a cache send what isn't forbidden)
reuse_rule_condition NoLifetime s = not (situation_is_fresh s) && not s.lifetime.explicit
-- RFC 9111, section 5.2.1.4
reuse_rule_condition StaleNoCache s = not (situation_is_fresh s) && heeded_request_has_no_cache s
-- RFC 9111, section 4.2.4
reuse_rule_condition NoMaxStale s = not (situation_is_fresh s) && not (max_stale_is_present (max_stale s.request))
-- RFC 9111, section 5.2.1.2
reuse_rule_condition PastMaxStale s = not (situation_is_fresh s) && is_past_max_stale (staleness_of s.lifetime s.age)
    (max_stale s.request)
-- RFC 9111, section 5.2.1.1
reuse_rule_condition StaleMaxAge s = not (situation_is_fresh s) && is_above_max_age_limit s
-- RFC 9111, section 5.2.1.3: what is stale isn't fresh for any time
reuse_rule_condition StaleMinFresh s = not (situation_is_fresh s) && heeded_request_has_min_fresh s
-- these speak of no response
reuse_rule_condition Operator s = false
reuse_rule_condition Method s = false
reuse_rule_condition Content s = false
reuse_rule_condition Range s = false
reuse_rule_condition Precondition s = false
reuse_rule_condition UriMiss s = false
reuse_rule_condition VaryMiss s = false

-- a rule on the chosen response: one is chosen, and the condition of the rule holds of it
abbrev pub rule_applies_to_chosen : ReuseRule → Policy → List Stored → Asked → ℕ → Bool
rule_applies_to_chosen rule policy held asked now =
    is_some_and (λ e. reuse_rule_condition rule (situation_of_request policy e asked now)) (chosen_of held asked)

-- the condition of each rule, under what the operator's line says of caching
abbrev pub reuse_rule_applies : ReuseRule → Policy → List Stored → Asked → ℕ → Bool
-- own: what the operator keeps from the store
reuse_rule_applies Operator policy held asked now = not policy.caches
-- RFC 9111, section 4: the method of the request has to let a stored response answer it
reuse_rule_applies Method policy held asked now
    = not (bytes_eq asked.method (codes "GET") || bytes_eq asked.method (codes "HEAD"))
-- own: content of a GET or HEAD may change what it asks for
reuse_rule_applies Content policy held asked now = request_has_content asked
-- own: over a line that forwards them ranges are the origin's matter (RFC 9111, section 3.3 lets a cache be without
-- them)
reuse_rule_applies Range policy held asked now = policy.forwards_ranges && asks_for_range asked
-- own: conditions of RFC 9111, section 4.3.2 that only the origin judges here
reuse_rule_applies Precondition policy held asked now = has_precondition_for_origin asked
-- RFC 9111, sections 2 and 4
reuse_rule_applies UriMiss policy held asked now = length (entries_of_key held asked) == 0
-- RFC 9111, section 4.1
reuse_rule_applies VaryMiss policy held asked now = is_none (chosen_of held asked)
-- those on the chosen response
reuse_rule_applies ResponseNoCache policy held asked now = rule_applies_to_chosen ResponseNoCache policy held asked now
reuse_rule_applies RequestNoCache policy held asked now = rule_applies_to_chosen RequestNoCache policy held asked now
reuse_rule_applies AboveMaxAge policy held asked now = rule_applies_to_chosen AboveMaxAge policy held asked now
reuse_rule_applies BelowMinFresh policy held asked now = rule_applies_to_chosen BelowMinFresh policy held asked now
reuse_rule_applies MustRevalidate policy held asked now = rule_applies_to_chosen MustRevalidate policy held asked now
reuse_rule_applies NoLifetime policy held asked now = rule_applies_to_chosen NoLifetime policy held asked now
reuse_rule_applies StaleNoCache policy held asked now = rule_applies_to_chosen StaleNoCache policy held asked now
reuse_rule_applies NoMaxStale policy held asked now = rule_applies_to_chosen NoMaxStale policy held asked now
reuse_rule_applies PastMaxStale policy held asked now = rule_applies_to_chosen PastMaxStale policy held asked now
reuse_rule_applies StaleMaxAge policy held asked now = rule_applies_to_chosen StaleMaxAge policy held asked now
reuse_rule_applies StaleMinFresh policy held asked now = rule_applies_to_chosen StaleMinFresh policy held asked now

-- the rules by their numbers
abbrev pub request_bypass_rules : List ReuseRule
request_bypass_rules = Method ∷ Content ∷ Range ∷ Precondition ∷ []

abbrev pub rules_on_chosen : List ReuseRule
rules_on_chosen =
    ResponseNoCache ∷ RequestNoCache ∷ AboveMaxAge ∷ BelowMinFresh ∷ MustRevalidate ∷ NoLifetime ∷ StaleNoCache
    ∷ NoMaxStale ∷ PastMaxStale ∷ StaleMaxAge ∷ StaleMinFresh ∷ []

abbrev pub reuse_rules : List ReuseRule
reuse_rules =
    Operator ∷ Method ∷ Content ∷ Range ∷ Precondition ∷ UriMiss ∷ VaryMiss
    ∷ ResponseNoCache ∷ RequestNoCache ∷ AboveMaxAge ∷ BelowMinFresh ∷ MustRevalidate ∷ NoLifetime ∷ StaleNoCache
    ∷ NoMaxStale ∷ PastMaxStale ∷ StaleMaxAge ∷ StaleMinFresh ∷ []

-- the least rule that stands
unfoldable pub least_reuse_rule_of : Policy → List Stored → Asked → ℕ → Option ReuseRule
least_reuse_rule_of policy held asked now = find (λ rule. reuse_rule_applies rule policy held asked now) reuse_rules

-- the rule speaks of the chosen response
abbrev pub is_rule_on_chosen : ReuseRule → Bool
is_rule_on_chosen Operator = false
is_rule_on_chosen Method = false
is_rule_on_chosen Content = false
is_rule_on_chosen Range = false
is_rule_on_chosen Precondition = false
is_rule_on_chosen UriMiss = false
is_rule_on_chosen VaryMiss = false
is_rule_on_chosen ResponseNoCache = true
is_rule_on_chosen RequestNoCache = true
is_rule_on_chosen AboveMaxAge = true
is_rule_on_chosen BelowMinFresh = true
is_rule_on_chosen MustRevalidate = true
is_rule_on_chosen NoLifetime = true
is_rule_on_chosen StaleNoCache = true
is_rule_on_chosen NoMaxStale = true
is_rule_on_chosen PastMaxStale = true
is_rule_on_chosen StaleMaxAge = true
is_rule_on_chosen StaleMinFresh = true

-- where no rule stands a response is chosen, so the last case never comes (law `a_hit_is_held`)
abbrev pub decision_by_rule : Option ReuseRule → Option ℕ → Decision
decision_by_rule (Some rule) serial = Forward rule (if is_rule_on_chosen rule then serial else None)
decision_by_rule None (Some serial) = Hit serial
decision_by_rule None None = Hit 0

-- the chosen response is sent, or the request goes forward by the least rule; a rule on the chosen response names it
unfoldable pub decision_of : Policy → List Stored → Asked → ℕ → Decision
decision_of policy held asked now =
    decision_by_rule (least_reuse_rule_of policy held asked now) (option_map (λ e. e.serial) (chosen_of held asked))
