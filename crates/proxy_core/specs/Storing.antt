-- Whether an answer is stored (RFC 9111, section 3), what it makes and what it takes the place of.
--
-- storing_facts_of_answer: what the storing rules ask beside the two heads     is_storable: no storing rule stands
-- weight_of_answer: what it would weigh in the store
-- stored_response_made: the stored response
-- serials_replaced_by_storing: those that it takes the place of
-- is_304_without_condition: a 304 that answers nothing
-- status_invalidates, answer_invalidates: what is held for its key goes
use Rattle.std.specs.Prelude.{ℕ, ◌+◌, ◌==◌, nat_lt, nat_le, ◌&&◌, ◌||◌, not, List, length, codes, Bool, true, false}
use Rattle.std.specs.Prelude.{Option, Some, None, is_none, cond}
use Rattle.http.specs.Method.{safe_methods, is_among}
use Rattle.hx_fields.specs.FieldLines.{without_named}
use Rattle.hx_framing.specs.declared.messages.Response.{Response}
use Rattle.hx_target.specs.declared.keys.Key.{Key}
use Rattle.hx_age.specs.Age.{times_of_message}
use Rattle.hx_vary.specs.Vary.{nominated_values_with_further_names, vary_counts_as_star}
use Rattle.hx_vary.specs.declared.nominations.Nomination.{Nomination}
use Rattle.hx_vary.specs.declared.nominations.Nomination.TheVariants.{Star, Names}
use Rattle.hx_hop.specs.Answering.{answered_of}
use Rattle.hx_hop.specs.Stripping.{connection_names_caching_field}
use Rattle.hx_hop.specs.declared.request_view.Asked.{Asked}
use Rattle.hx_allow.specs.TableLines.{Table}
use Rattle.hx_allow.specs.Matching.{policy_of}
use Rattle.hx_store.specs.Stored.{Stored}
use Rattle.hx_store.specs.Shelf.{matching_serials}
use Rattle.hx_store.specs.Weights.{weight_of_lines, weight_of_nominated, weight_of_key, overhead_bytes_of_an_entry}
use Rattle.hx_policy.specs.declared.words.Policy.{Policy}
use Rattle.hx_reuse.specs.Conditions.{forwards_client_condition}
use Rattle.hx_reuse.specs.Lifetimes.{lifetime_under_policy}
use Rattle.hx_storable.specs.Rules.{rule_against_storing}
use Rattle.hx_storable.specs.declared.known_facts.StoringFacts.{StoringFacts}
use Rattle.hx_storable.specs.declared.rule.StoreRule.{StoreRule}
use Rattle.hx_validate.specs.Validators.{has_validator}
use Rattle.proxy_core.specs.declared.open.exchange.Exchange.{Exchange}
use Rattle.proxy_core.specs.Validating.{is_304_to_own_conditions, weight_exceeds_optional_bound, without_set_cookie_if}

-- no request may be answered by the response but the one that it answered
abbrev pub nomination_is_star : Nomination → Bool
nomination_is_star Star = true
nomination_is_star (Names values) = false

-- What an answer would weigh in the store.
-- own: with its Age, and with cookies that are removed, which aren't kept there ("The store is bounded in bytes")
abbrev pub weight_of_answer : Exchange → Response → ℕ → ℕ
weight_of_answer x r now =
    length r.content + weight_of_lines (answered_of r now).fields
    + weight_of_nominated (nominated_values_with_further_names x.vary (answered_of r now).fields x.asked.fields)
    + weight_of_key x.asked.target.key + weight_of_key x.asked.target.key
    + overhead_bytes_of_an_entry

-- The content is above the operator's limit, or the response alone would be above the bound of the whole store.
-- own: so what is stored never empties the store ("The store is bounded in bytes"); what nominates a star isn't stored
-- whatever it weighs
abbrev pub answer_is_too_large_to_store : Table → Exchange → Response → ℕ → Bool
answer_is_too_large_to_store table x r now =
    nat_lt table.max_stored (length r.content)
    || (not (vary_counts_as_star (answered_of r now).fields)
    && weight_exceeds_optional_bound table.max_store (weight_of_answer x r now))

-- what the storing rules ask of an answer beside the heads of request and answer
abbrev pub storing_facts_of_answer : Table → Exchange → Response → ℕ → Option ℕ → StoringFacts
storing_facts_of_answer table x r now next = record {
  policy = policy_of table.lines x.line;
  vary_star = vary_counts_as_star (answered_of r now).fields;
  listed = connection_names_caching_field r.fields;
  explicit = (lifetime_under_policy (policy_of table.lines x.line) r.status (answered_of r now).fields).explicit;
  validator = has_validator (answered_of r now).fields;
  too_large = answer_is_too_large_to_store table x r now;
  overtaken = x.overtaken;
  no_serial = is_none next;
}

-- no storing rule stands
abbrev pub is_storable : Table → Exchange → Response → ℕ → Option ℕ → Bool
is_storable table x r now next = is_none (rule_against_storing x.asked (answered_of r now)
    (storing_facts_of_answer table x r now next))

-- the first storing rule against an answer, where the line of its exchange tells it (RFC 9211, section 2.8)
abbrev pub storing_rule_to_explain : Table → Exchange → Response → ℕ → Option ℕ → Option StoreRule
storing_rule_to_explain table x r now next =
    cond (policy_of table.lines x.line).explains_storing
    (rule_against_storing x.asked (answered_of r now) (storing_facts_of_answer table x r now next)) None

-- the stored response that an answer to an exchange makes (RFC 9111, sections 3, 3.1 and 4.2.3), without its cookies
-- where the exchange's line removes those; its age is told anew each time that it is sent
abbrev pub stored_response_made : ℕ → Exchange → Response → ℕ → Stored
stored_response_made serial x r now = record {
  serial = serial;
  key = x.asked.target.key;
  nominated = nominated_values_with_further_names x.vary (answered_of r now).fields x.asked.fields;
  status = r.status;
  fields = without_named (without_set_cookie_if x.removes_set_cookie (answered_of r now).fields) (codes "Age");
  content = r.content;
  times = times_of_message (answered_of r now).fields x.request_time now;
}

-- the serials, ascending, of the held responses that a stored one takes the place of: those of its key that would
-- answer the same request (RFC 9111, section 4.1)
abbrev pub serials_replaced_by_storing : List Stored → Asked → List ℕ
serials_replaced_by_storing es asked = matching_serials asked.target.key asked.fields es

-- a 304 to a request that went without a condition: the client set none, or it stayed with the proxy (RFC 9110, section
-- 15.4.5)
-- own: it counts as a failure of its origin ("An unasked 304 is a failure")
abbrev pub is_304_without_condition : Policy → Asked → Response → Bool
is_304_without_condition policy asked r = (r.status == 304) && not (forwards_client_condition policy asked)

-- A status that isn't an error, 2xx or 3xx, came in response to an unsafe request (RFC 9111, section 4.4). What the
-- client is then told doesn't count.
abbrev pub status_invalidates : Asked → ℕ → Bool
status_invalidates asked status =
    not (is_among safe_methods asked.method) && (nat_le 200 status && nat_le status 399)

-- Such an answer came. To an unsafe request the proxy adds no conditions, so that no 304 validates anything there.
abbrev pub answer_invalidates : Exchange → Response → Bool
answer_invalidates x r = status_invalidates x.asked r.status && not (is_304_to_own_conditions x r)

-- the key of which nothing is kept
abbrev pub key_invalidated : Exchange → Response → Option Key
key_invalidated x r = cond (answer_invalidates x r) (Some x.asked.target.key) None
