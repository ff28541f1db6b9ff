-- Going forward to have a held response validated, and what a 304 does for it (RFC 9111, section 4.3).
--
-- condition_to_revalidate_stored, condition_to_revalidate_serial: what a request carries of a held response
-- is_304_to_own_conditions: a 304 to what it carried
-- stored_response_is_answered_by_304: the 304 answers a held response
-- without_set_cookie_if, stored_without_cookies: what is left where cookies are removed
-- times_after_304, freshened_by_304: what that becomes
-- freshened_may_be_kept: and whether it is kept, by the storing rules
use Rattle.std.specs.Prelude.{ℕ, ◌==◌, nat_lt, ◌&&◌, ◌||◌, Bool, false, List, length, codes, Option, Some, None}
use Rattle.std.specs.Prelude.{option_map, is_some, is_none, cond}
use Rattle.std.specs.Option.{option_and_then}
use Rattle.hx_fields.specs.Line.{Field}
use Rattle.hx_fields.specs.FieldLines.{without_named}
use Rattle.hx_framing.specs.declared.messages.Response.{Response}
use Rattle.hx_age.specs.Age.{times_of_message}
use Rattle.hx_age.specs.declared.moments.Times.{Times}
use Rattle.hx_vary.specs.Vary.{vary_counts_as_star}
use Rattle.hx_hop.specs.Answering.{answered_of}
use Rattle.hx_hop.specs.Stripping.{connection_names_caching_field}
use Rattle.hx_hop.specs.declared.response_view.Answered.{Answered}
use Rattle.hx_hop.specs.declared.request_view.Asked.{Asked}
use Rattle.hx_hop.specs.declared.conditions.Conditions.{Conditions}
use Rattle.hx_allow.specs.TableLines.{Table}
use Rattle.hx_allow.specs.Matching.{policy_of}
use Rattle.hx_store.specs.Stored.{Stored}
use Rattle.hx_store.specs.Shelf.{find_entry_of_serial}
use Rattle.hx_store.specs.Weights.{weight_of_entry}
use Rattle.hx_reuse.specs.Lifetimes.{lifetime_under_policy}
use Rattle.hx_storable.specs.Rules.{rule_against_storing}
use Rattle.hx_storable.specs.declared.known_facts.StoringFacts.{StoringFacts}
use Rattle.hx_validate.specs.Validators.{has_validator, validating_conditions_of}
use Rattle.hx_validate.specs.Answering.{is_validated_by_304, freshened_of}
use Rattle.hx_validate.specs.Room.{head_leaves_room}
use Rattle.proxy_core.specs.declared.steps.condition.Condition.{Condition}
use Rattle.proxy_core.specs.declared.open.exchange.Exchange.{Exchange}

-- a held response that has a validator is asked about (RFC 9111, section 4.3.1)
abbrev pub condition_to_revalidate_stored : Stored → Option Condition
condition_to_revalidate_stored e = cond (has_validator e.fields) (Some
    (record { serial = e.serial; sent = validating_conditions_of e.fields })) None

-- the held response of a serial, where a rule names one
abbrev pub condition_to_revalidate_serial : List Stored → Option ℕ → Option Condition
condition_to_revalidate_serial es None = None
condition_to_revalidate_serial es (Some serial) =
    option_and_then condition_to_revalidate_stored (find_entry_of_serial serial es)

-- what the request carries
abbrev pub conditions_to_send : Option Condition → Option Conditions
conditions_to_send condition = option_map (λ (c : Condition). c.sent) condition

-- a 304 to a request that carried the proxy's conditions
abbrev pub is_304_to_own_conditions : Exchange → Response → Bool
is_304_to_own_conditions x r = (r.status == 304) && is_some x.condition

-- a response to these conditions answers a held response
abbrev pub condition_is_answered_by_304 : Option Condition → Response → ℕ → Stored → Bool
condition_is_answered_by_304 None r now e = false
condition_is_answered_by_304 (Some c) r now e = (r.status == 304)
    && ((c.serial == e.serial) && is_validated_by_304 e c.sent (answered_of r now))

abbrev pub stored_response_is_answered_by_304 : Exchange → Response → ℕ → Stored → Bool
stored_response_is_answered_by_304 x r now e = condition_is_answered_by_304 x.condition r now e

-- the serial that was asked about
abbrev pub serial_asked_about : Option Condition → Option ℕ
serial_asked_about condition = option_map (λ (c : Condition). c.serial) condition

-- the held response that is asked about
-- own: of all that a 304 identifies it alone is updated, where RFC 9111, section 4.3.4 asks for each of them
abbrev pub stored_response_asked_about : List Stored → Exchange → Option Stored
stored_response_asked_about es x = option_and_then (λ serial. find_entry_of_serial serial es)
    (serial_asked_about x.condition)

abbrev pub stored_response_if_answered_by_304 : Exchange → Response → ℕ → Option Stored → Option Stored
stored_response_if_answered_by_304 x r now None = None
stored_response_if_answered_by_304 x r now (Some e) = cond (stored_response_is_answered_by_304 x r now e) (Some e) None

-- the held response that a 304 answers
abbrev pub stored_response_validated_by_304 : List Stored → Exchange → Response → ℕ → Option Stored
stored_response_validated_by_304 es x r now = stored_response_if_answered_by_304 x r now
    (stored_response_asked_about es x)

-- The lines that are left where cookies are removed. Set-Cookie is for the one who asked (RFC 6265, section 3), and a
-- response with it may be stored (RFC 9111, section 7.3).
-- own: without it, where the operator says so ("A cookie stays with the one whom it was set for")
abbrev pub without_set_cookie_if : Bool → List Field → List Field
without_set_cookie_if removes fields = cond removes (without_named fields (codes "Set-Cookie")) fields

-- what an exchange leaves in the store
abbrev pub stored_without_cookies : Exchange → Stored → Stored
stored_without_cookies x e = record e { fields = without_set_cookie_if x.removes_set_cookie e.fields }

-- The times that a 304 leaves a held response: its own (RFC 9111, section 4.3.4).
-- own: to a request that was overtaken it says nothing of what was expired since, so that stays expired ("A purge that
-- expires")
abbrev pub times_after_304 : Exchange → Response → ℕ → Stored → Times
times_after_304 x r now e = record (times_of_message (answered_of r now).fields x.request_time now) {
  expired = cond x.overtaken e.times.expired None;
}

-- what it becomes: with the times that the 304 leaves it, and what the line names for Vary counts
abbrev pub freshened_by_304 : Exchange → Response → ℕ → Stored → Stored
freshened_by_304 x r now e =
    stored_without_cookies x
    (freshened_of x.vary e (answered_of r now) x.asked (times_after_304 x r now e))

-- the same request, of method GET
-- own: what a HEAD had validated is judged as if a GET had asked, and may be kept for one
abbrev pub as_get_request : Asked → Asked
as_get_request asked = record asked { method = codes "GET" }

abbrev pub head_of_stored : Stored → Answered
head_of_stored e = record { status = e.status; fields = e.fields }

-- a weight is above a bound, if there is one
abbrev pub weight_exceeds_optional_bound : Option ℕ → ℕ → Bool
weight_exceeds_optional_bound None weight = false
weight_exceeds_optional_bound (Some most) weight = nat_lt most weight

-- the content is above the operator's limit, or the response alone is above the bound of the whole store
abbrev pub stored_is_too_large : Table → Stored → Bool
stored_is_too_large table e = nat_lt table.max_stored (length e.content)
    || weight_exceeds_optional_bound table.max_store (weight_of_entry e)

-- what the storing rules ask of a freshened response
-- own: it is held already, under its serial, so neither a serial is asked for nor whether it is overtaken
abbrev pub storing_facts_of_freshened : Table → Exchange → Response → Stored → StoringFacts
storing_facts_of_freshened table x r e = record {
  policy = policy_of table.lines x.line;
  vary_star = vary_counts_as_star e.fields;
  listed = connection_names_caching_field r.fields;
  explicit = (lifetime_under_policy (policy_of table.lines x.line) e.status e.fields).explicit;
  validator = has_validator e.fields;
  too_large = stored_is_too_large table e;
  overtaken = false;
  no_serial = false;
}

-- No storing rule stands against a freshened response: `FreshenedMayBeKept` of `StoredAnswers.antt` says
-- what that comes to.
-- own: and its head leaves room for what is added to it where it is sent ("What a 304 brings has a bound")
abbrev pub freshened_may_be_kept : Table → Exchange → Response → Stored → Bool
freshened_may_be_kept table x r e =
    is_none (rule_against_storing (as_get_request x.asked) (head_of_stored e) (storing_facts_of_freshened table x r e))
    && head_leaves_room e.fields
