-- Which requests wait for the answer to another, and for what: a response that could be sent to them.
--
-- no_cache_request_is_heeded: the request has a no-cache that its line heeds
-- StaleResponseCanBeFreshAgain, RequestMayAwaitAnother: what a request could be sent of the answer to another
-- response_awaited_by_request: the same by the first rule against what is held
-- leader_of_request: the exchange for which a request waits
-- WaiterIsServedUnlessTheResponseForbids: nobody waits in vain, but by what the answer says
use Rattle.std.specs.Prelude.{◌≡◌, ◌⊎◌, ℕ, ◌<◌, ◌&&◌, ◌||◌, nat_lt, not, Bool, true, false, List, Option, Some}
use Rattle.std.specs.Prelude.{None, cond}
use Rattle.std.specs.Option.{option_and_then}
use Rattle.std.specs.List.{Contains}
use Rattle.hx_target.specs.Keys.{same_key}
use Rattle.hx_policy.specs.declared.words.Policy.{Policy}
use Rattle.hx_directives.specs.Occurrences.{occurrences_of}
use Rattle.hx_directives.specs.Answers.{directive_occurs as has_directive}
use Rattle.hx_directives.specs.declared.names.Directive.TheVariants.{NoCache}
use Rattle.hx_age.specs.Age.{age_of, is_fresh_of}
use Rattle.hx_hop.specs.declared.request_view.Asked.{Asked}
use Rattle.hx_store.specs.Stored.{Stored}
use Rattle.hx_store.specs.Shelf.{find_entry_of_serial}
use Rattle.hx_reuse.specs.Lifetimes.{lifetime_of_stored_response, lifetime_under_policy}
use Rattle.hx_reuse.specs.Chosen.{chosen_of}
use Rattle.hx_reuse.specs.Rules.{is_rule_on_chosen, decision_of}
use Rattle.hx_reuse.specs.ChosenAndNamed.{IsLeastReuseRule}
use Rattle.hx_reuse.specs.declared.rule.ReuseRule.{ReuseRule}
use Rattle.hx_reuse.specs.declared.rule.ReuseRule.TheVariants.{UriMiss, VaryMiss, ResponseNoCache, AboveMaxAge}
use Rattle.hx_reuse.specs.declared.rule.ReuseRule.TheVariants.{BelowMinFresh, MustRevalidate, NoLifetime, NoMaxStale}
use Rattle.hx_reuse.specs.declared.rule.ReuseRule.TheVariants.{PastMaxStale, StaleMaxAge, StaleMinFresh}
use Rattle.hx_reuse.specs.declared.decision.Decision.TheVariants.{Hit}
use Rattle.proxy_core.specs.declared.open.awaited.Awaited.{Awaited}
use Rattle.proxy_core.specs.declared.open.awaited.Awaited.TheVariants.{Missing, Expired}
use Rattle.proxy_core.specs.declared.open.exchange.Exchange.{Exchange}
use Rattle.proxy_core.specs.Leading.{is_get, is_uri_miss, leader_id_if_awaited}

-- The request has no-cache (RFC 9111, section 5.2.1.4), and its line heeds that: what is held isn't
-- sent to it without asking the origin, also if it was freshened a moment ago.
abbrev pub no_cache_request_is_heeded : Policy → Asked → Bool
no_cache_request_is_heeded policy asked = policy.heeds_requests && has_directive (occurrences_of asked.fields) NoCache

-- ---- in the standard's words

-- A response had a lifetime under the line (RFC 9111, section 4.2.1), which is over (section 4.2),
-- be it by a purge, and its origin doesn't want to be asked about it each time (section 5.2.2.4). So the origin's word
-- on it now makes it fresh again, for all that it could be sent to.
pub record StaleResponseCanBeFreshAgain (policy : Policy) (now : ℕ) (response : Stored) : Type 0 where
  pub had_lifetime : 0 < (lifetime_under_policy policy response.status response.fields).seconds
  pub is_over : is_fresh_of (lifetime_of_stored_response policy response) (age_of response.times now) ≡ false
  pub response_lacks_no_cache : has_directive (occurrences_of response.fields) NoCache ≡ false

-- By this rule, the first that stands against what is held, a request could be sent the answer to
-- another: nothing is held for its key, or by the word of its line the chosen response, which is
-- over, and no rule before that is against sending it.
-- own: a request for another variant (RFC 9111, section 4.1) waits for nobody: whether the answer to
-- another could be sent to it is told by that answer alone
abbrev pub RuleAllowsAwaiting : Policy → List Stored → Asked → ℕ → ReuseRule → Awaited → Type 0
RuleAllowsAwaiting policy held asked now rule Missing = rule ≡ UriMiss
RuleAllowsAwaiting policy held asked now rule (Expired serial) =
    (policy.waits_for_stale ≡ true) × (is_rule_on_chosen rule ≡ true)
    × ((response : Stored) × (chosen_of held asked ≡ Some response) × StaleResponseCanBeFreshAgain policy now response
    × (response.serial ≡ serial))

-- What a GET could be sent of the answer to another.
-- own: over a line without the word one with no-cache awaits what is missing, too
pub record RequestMayAwaitAnother (policy : Policy) (held : List Stored) (asked : Asked) (now : ℕ)
    (awaited : Awaited) : Type 0 where
  pub gets : is_get asked ≡ true
  pub no_cache_is_not_heeded : (policy.waits_for_stale && no_cache_request_is_heeded policy asked) ≡ false
  pub rule : ReuseRule
  pub is_least : IsLeastReuseRule policy held asked now rule
  pub leaves : RuleAllowsAwaiting policy held asked now rule awaited

-- ---- by the first rule

-- The chosen response is stale, and nothing but its age keeps it back. It may have had no lifetime.
abbrev pub is_staleness_rule : ReuseRule → Bool
is_staleness_rule MustRevalidate = true
is_staleness_rule NoMaxStale = true
is_staleness_rule PastMaxStale = true
is_staleness_rule StaleMaxAge = true
is_staleness_rule StaleMinFresh = true
is_staleness_rule rule = false

abbrev pub awaited_for_chosen_response : Policy → Option Stored → Option Awaited
awaited_for_chosen_response policy None = None
awaited_for_chosen_response policy (Some e) =
    cond (nat_lt 0 (lifetime_under_policy policy e.status e.fields).seconds) (Some (Expired e.serial)) None

abbrev pub response_awaited_by_rule : Policy → Option Stored → Asked → ReuseRule → Option Awaited
response_awaited_by_rule policy chosen asked rule =
    cond (not (is_get asked) || (policy.waits_for_stale && no_cache_request_is_heeded policy asked)) None
    (cond (is_uri_miss rule) (Some Missing)
    (cond (policy.waits_for_stale && is_staleness_rule rule) (awaited_for_chosen_response policy chosen) None))

-- the chosen response, found by its serial
abbrev pub chosen_by_serial : List Stored → Asked → Option Stored
chosen_by_serial held asked = option_and_then (λ e. find_entry_of_serial e.serial held) (chosen_of held asked)

abbrev pub response_awaited_by_request : Policy → List Stored → Asked → ReuseRule → Option Awaited
response_awaited_by_request policy held asked rule = response_awaited_by_rule policy
    (chosen_by_serial held asked) asked rule

-- the first of the open exchanges to arrive whose answer the request could be sent
abbrev pub leader_of_request : Policy → List Stored → List Exchange → Asked → ReuseRule → Option ℕ
leader_of_request policy held xs asked rule =
    leader_id_if_awaited policy asked xs (response_awaited_by_request policy held asked rule)

-- ---- nobody waits in vain

-- The rule looks at what is held: at the fields that its Vary names (RFC 9111, section 4.1), at its
-- no-cache (section 5.2.2.4), or at its age and lifetime (section 4.2). Each other one is the
-- operator's or the request's own, and stands whatever is held.
abbrev pub rule_depends_on_the_response : ReuseRule → Bool
rule_depends_on_the_response VaryMiss = true
rule_depends_on_the_response ResponseNoCache = true
rule_depends_on_the_response AboveMaxAge = true
rule_depends_on_the_response BelowMinFresh = true
rule_depends_on_the_response MustRevalidate = true
rule_depends_on_the_response NoLifetime = true
rule_depends_on_the_response NoMaxStale = true
rule_depends_on_the_response PastMaxStale = true
rule_depends_on_the_response StaleMaxAge = true
rule_depends_on_the_response StaleMinFresh = true
rule_depends_on_the_response rule = false

-- a held response is sent to the request, or a rule keeps each back that looks at it
abbrev pub IsServedUnlessTheResponseForbids : Policy → List Stored → Asked → ℕ → Type 0
IsServedUnlessTheResponseForbids policy held asked now =
    ((serial : ℕ) × (decision_of policy held asked now ≡ Hit serial))
    ⊎ ((rule : ReuseRule) × IsLeastReuseRule policy held asked now rule × (rule_depends_on_the_response rule ≡ true))

-- So who could be sent the answer to another, over a line with the word, is sent one that is held for
-- its key, whatever is held by then and whenever that is, unless what is held forbids it.
abbrev pub WaiterIsServedUnlessTheResponseForbids : Type 0
WaiterIsServedUnlessTheResponseForbids = (policy : Policy) (held later : List Stored) (asked : Asked) (now moment : ℕ)
    (awaited : Awaited) (response : Stored) →
    policy.waits_for_stale ≡ true → RequestMayAwaitAnother policy held asked now awaited →
    Contains later response → same_key response.key asked.target.key ≡ true
    → IsServedUnlessTheResponseForbids policy later asked moment
