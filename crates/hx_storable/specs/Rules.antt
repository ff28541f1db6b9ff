-- Which rules keep a response from being stored (RFC 9111, sections 3 and 3.5), and which is the first.
-- A cache may always store less (RFC 9111, section 2); the rules that do so are marked "own".
--
-- is_understood_status: statuses     response_allows_storing, allows_authorized: what a response says of it
-- sets_cookie_without_public, is_error_not_heuristically_cacheable: what the operator may keep from the store
-- request_has_cookie_or_authorization, has_lifetime_only_by_policy: who asked, and whose lifetime it is
-- policy_forbids_set_cookie: where a cookie keeps a response from the store
-- storing_rule_applies: the condition of each rule
-- storage_rules, storing_rule_number: the rules by their numbers
-- rule_against_storing: the least that stands
use Rattle.std.specs.Prelude.{ℕ, ◌==◌, nat_le, Bool, not, ◌&&◌, ◌||◌, List, [], ◌∷◌, ◌++◌, find, codes, bytes_eq}
use Rattle.std.specs.Prelude.{Option, is_some}
use Rattle.hx_fields.specs.FieldLines.{has_field as has_line}
use Rattle.hx_directives.specs.Occurrences.{occurrences_of}
use Rattle.hx_directives.specs.Answers.{directive_occurs}
use Rattle.hx_directives.specs.declared.names.Directive.{Directive}
use Rattle.hx_directives.specs.declared.occurrences.Occurrence.{Occurrence}
use Rattle.hx_directives.specs.declared.names.Directive.TheVariants as directive
use Rattle.hx_hop.specs.declared.request_view.Asked.{Asked}
use Rattle.hx_hop.specs.declared.response_view.Answered.{Answered}
use Rattle.hx_hop.specs.Bypass.{request_has_content, asks_for_range, has_precondition_for_origin}
use Rattle.hx_policy.specs.Policies.{is_heuristic_status, lifetime_given_by_policy}
use Rattle.hx_policy.specs.declared.words.Policy.{Policy}
use Rattle.hx_storable.specs.declared.known_facts.StoringFacts.{StoringFacts}
use Rattle.hx_storable.specs.declared.rule.StoreRule.{StoreRule}
use Rattle.hx_storable.specs.declared.rule.StoreRule.TheVariants.{Operator, Method, Bypass, Status, MustUnderstand}
use Rattle.hx_storable.specs.declared.rule.StoreRule.TheVariants.{ResponseNoStore, RequestNoStore, Private}
use Rattle.hx_storable.specs.declared.rule.StoreRule.TheVariants.{Authorization, NothingAllows, VaryStar}
use Rattle.hx_storable.specs.declared.rule.StoreRule.TheVariants.{ConnectionField, NothingToReuse, TooLarge, Overtaken}
use Rattle.hx_storable.specs.declared.rule.StoreRule.TheVariants.{Serials, SetCookie, ErrorStatus, RequestCookie}

-- the statuses whose caching this cache understands (RFC 9111, section 5.2.2.3)
-- own: those of the standard's list but 206, for no incomplete response is stored
abbrev pub is_understood_status : ℕ → Bool
is_understood_status status = is_heuristic_status status && not (status == 206)

-- a directive occurs in the request, and in the response
abbrev pub request_has_directive : Asked → Directive → Bool
request_has_directive asked d = directive_occurs (occurrences_of asked.fields) d

abbrev pub response_has_directive : Answered → Directive → Bool
response_has_directive answered d = directive_occurs (occurrences_of answered.fields) d

-- a directive lets a shared cache store what was asked for with Authorization (RFC 9111, section 3.5)
abbrev pub allows_authorized : List Occurrence → Bool
allows_authorized found = (directive_occurs found directive.MustRevalidate || directive_occurs found directive.Public)
    || directive_occurs found directive.SMaxage

-- something in the response allows it to be stored, whether or not its seconds can be read (RFC 9111, section 3)
abbrev pub response_allows_storing : Answered → Bool
response_allows_storing answered =
    (((response_has_directive answered directive.Public || has_line answered.fields (codes "Expires"))
    || response_has_directive answered directive.MaxAge)
    || response_has_directive answered directive.SMaxage) || is_heuristic_status answered.status

-- the response sets a cookie, and doesn't say that it is for all. Of itself Set-Cookie "does not
-- inhibit caching" (RFC 9111, section 7.3): it takes a word of the operator's line
abbrev pub sets_cookie_without_public : Answered → Bool
sets_cookie_without_public answered =
    has_line answered.fields (codes "Set-Cookie") && not (response_has_directive answered directive.Public)

-- the status tells an error (RFC 9110, sections 15.5 and 15.6), and none of 404, 405, 410, 414 and 501
abbrev pub is_error_not_heuristically_cacheable : ℕ → Bool
is_error_not_heuristically_cacheable status = nat_le 400 status && not (is_heuristic_status status)

-- the request tells who asks, by a cookie or by credentials (RFC 6265, section 4.2; RFC 9110, section 11.6.2)
abbrev pub request_has_cookie_or_authorization : Asked → Bool
request_has_cookie_or_authorization asked = has_line asked.fields (codes "Cookie") || has_line asked.fields (codes "Authorization")

-- the response says how long it is fresh, whether or not that can be read (RFC 9111, section 4.2.1)
abbrev pub response_states_lifetime : Answered → Bool
response_states_lifetime answered =
    (response_has_directive answered directive.SMaxage || response_has_directive answered directive.MaxAge)
    || has_line answered.fields (codes "Expires")

-- it doesn't, and the operator's line gives it a lifetime (RFC 9111, section 4.2.2)
abbrev pub has_lifetime_only_by_policy : Policy → Answered → Bool
has_lifetime_only_by_policy policy answered =
    not (response_states_lifetime answered) && is_some (lifetime_given_by_policy policy answered.status)

-- the operator stores no response with a cookie for one, or the line gives such a response no lifetime and it has none
-- of its own
abbrev pub policy_forbids_set_cookie : Policy → Answered → Bool
policy_forbids_set_cookie policy answered =
    not policy.stores_cookies || (not policy.gives_to_set_cookie && has_lifetime_only_by_policy policy answered)

-- The answer is for the request's range alone: over a line that has ranges cut from what is stored only one that tells
-- the range wrong is (RFC 9110, section 15.5.17), since a 206 is stored for no request, and each other answer is as to
-- a request without Range (section 14.2).
abbrev pub answer_may_depend_on_range : Policy → Asked → Answered → Bool
answer_may_depend_on_range policy asked answered =
    (policy.forwards_ranges || (answered.status == 416)) && asks_for_range asked

-- the condition of each rule
abbrev pub storing_rule_applies : StoreRule → Asked → Answered → StoringFacts → Bool
-- own: what the operator keeps from the store
storing_rule_applies Operator asked answered facts = not facts.policy.caches
-- own: of all methods that it understands this cache stores answers to GET alone
storing_rule_applies Method asked answered facts = not (bytes_eq asked.method (codes "GET"))
-- own: such a request goes past the cache, in both directions
storing_rule_applies Bypass asked answered facts =
    (request_has_content asked || answer_may_depend_on_range facts.policy asked answered)
    || has_precondition_for_origin asked
-- RFC 9111, sections 3 and 3.3
storing_rule_applies Status asked answered facts = (answered.status == 206) || (answered.status == 304)
-- RFC 9111, section 5.2.2.3
storing_rule_applies MustUnderstand asked answered facts = response_has_directive answered directive.MustUnderstand
    && not (is_understood_status answered.status)
-- RFC 9111, sections 5.2.2.3 and 5.2.2.5
storing_rule_applies ResponseNoStore asked answered facts = response_has_directive answered directive.NoStore
    && not (response_has_directive answered directive.MustUnderstand)
-- RFC 9111, section 5.2.1.5
storing_rule_applies RequestNoStore asked answered facts = request_has_directive asked directive.NoStore
-- RFC 9111, section 5.2.2.7; own: also where it names fields
storing_rule_applies Private asked answered facts = response_has_directive answered directive.Private
-- RFC 9111, section 3.5
storing_rule_applies Authorization asked answered facts = has_line asked.fields (codes "Authorization")
    && not (allows_authorized (occurrences_of answered.fields))
-- RFC 9111, section 3
storing_rule_applies NothingAllows asked answered facts = not (response_allows_storing answered)
-- own: such a response answers no other request (RFC 9111, section 4.1)
storing_rule_applies VaryStar asked answered facts = facts.vary_star
-- own: a cache field that was meant for one connection isn't there to be kept (RFC 9110, section 7.6.1)
storing_rule_applies ConnectionField asked answered facts = facts.listed
-- own: it could never be sent, nor validated (RFC 9111, section 4.2.2 lets a lifetime be guessed)
storing_rule_applies NothingToReuse asked answered facts = not facts.explicit && not facts.validator
-- own: the operator's limit
storing_rule_applies TooLarge asked answered facts = facts.too_large
-- own: it may be what the invalidation was to drop (RFC 9111, section 4.4)
storing_rule_applies Overtaken asked answered facts = facts.overtaken
-- own: each stored response has a number that no other ever has
storing_rule_applies Serials asked answered facts = facts.no_serial
-- own: where the operator stores no cookies, or only his line would let them be sent to others (RFC 9111, section 7.3)
storing_rule_applies SetCookie asked answered facts =
    policy_forbids_set_cookie facts.policy answered && sets_cookie_without_public answered
-- own: where the operator stores no errors
storing_rule_applies ErrorStatus asked answered facts = not facts.policy.stores_errors
    && is_error_not_heuristically_cacheable answered.status
-- own: what tells who asks may be answered for that one, so the line alone doesn't let the answer be sent to others
storing_rule_applies RequestCookie asked answered facts =
    (not facts.policy.gives_to_cookies && request_has_cookie_or_authorization asked)
    && (has_lifetime_only_by_policy facts.policy answered && not (response_has_directive answered directive.Public))

-- the rules by their numbers; six ask for nothing but the facts, and the last three are the words of the operator's
-- line
abbrev pub storing_rules_on_facts_alone : List StoreRule
storing_rules_on_facts_alone = VaryStar ∷ ConnectionField ∷ NothingToReuse ∷ TooLarge ∷ Overtaken ∷ Serials ∷ []

abbrev pub storage_rules_from_policy : List StoreRule
storage_rules_from_policy = SetCookie ∷ ErrorStatus ∷ RequestCookie ∷ []

abbrev pub storage_rules : List StoreRule
storage_rules =
    Operator ∷ Method ∷ Bypass ∷ Status ∷ MustUnderstand ∷ ResponseNoStore ∷ RequestNoStore ∷ Private ∷ Authorization
    ∷ NothingAllows ∷ (storing_rules_on_facts_alone ++ storage_rules_from_policy)

abbrev pub storing_rule_number : StoreRule → ℕ
storing_rule_number Operator = 0
storing_rule_number Method = 1
storing_rule_number Bypass = 2
storing_rule_number Status = 3
storing_rule_number MustUnderstand = 4
storing_rule_number ResponseNoStore = 5
storing_rule_number RequestNoStore = 6
storing_rule_number Private = 7
storing_rule_number Authorization = 8
storing_rule_number NothingAllows = 9
storing_rule_number VaryStar = 10
storing_rule_number ConnectionField = 11
storing_rule_number NothingToReuse = 12
storing_rule_number TooLarge = 13
storing_rule_number Overtaken = 14
storing_rule_number Serials = 15
storing_rule_number SetCookie = 16
storing_rule_number ErrorStatus = 17
storing_rule_number RequestCookie = 18

-- the least rule that stands
unfoldable pub rule_against_storing : Asked → Answered → StoringFacts → Option StoreRule
rule_against_storing asked answered facts = find (λ rule. storing_rule_applies rule asked answered facts) storage_rules
