-- What an event with its outcome leaves of the core.
--
-- State: what contracts see of a core
-- exchanges_after_exchange_end: the exchanges that an end leaves
-- bounds_of: what the store is bounded by
-- state_after_event: what a step leaves
-- StepIsAccepted: a step that was done             StepIsRefusedWith: one that wasn't
use Rattle.std.specs.Prelude.{◌≡◌, ◌⊎◌, ℕ, ◌+◌, ◌^◌, ◌≤◌, ◌==◌, nat_lt, not, Bool, true, false, List, [], ◌∷◌, ◌++◌}
use Rattle.std.specs.Prelude.{filter, map, Option, Some, None, option_map, cond, ◌&&◌, unwrap_or}
use Rattle.hx_framing.specs.declared.messages.Response.{Response}
use Rattle.hx_hop.specs.declared.request_view.Asked.{Asked}
use Rattle.hx_allow.specs.TableLines.{Table}
use Rattle.hx_allow.specs.Matching.{policy_of, route_over_line, vary_names_of_line}
use Rattle.proxy_core.specs.Allowing.{verdict_of_asked}
use Rattle.hx_allow.specs.declared.verdicts.RouteOverLine.{RouteOverLine}
use Rattle.hx_allow.specs.declared.verdicts.Verdict.{Verdict}
use Rattle.hx_allow.specs.declared.verdicts.Verdict.TheVariants as verdict
use Rattle.hx_store.specs.Stored.{Stored}
use Rattle.hx_store.specs.Shelf.{holds_serial, find_entry_of_serial, without_serials}
use Rattle.hx_store.specs.Shelf.{entries_with_first_if_any, expired_entry, entries_with_serials_expired}
use Rattle.hx_store.specs.Weights.{StoreBounds, cut_to_bounds}
use Rattle.hx_reuse.specs.Rules.{decision_of}
use Rattle.hx_reuse.specs.declared.decision.Decision.{Decision}
use Rattle.hx_reuse.specs.declared.decision.Decision.TheVariants as decision
use Rattle.hx_reuse.specs.declared.rule.ReuseRule.{ReuseRule}
use Rattle.hx_reuse.specs.declared.rule.ReuseRule.TheVariants.{UriMiss}
use Rattle.proxy_core.specs.declared.steps.condition.Condition.{Condition}
use Rattle.proxy_core.specs.declared.open.stage.Stage.TheVariants.{Forwarded, Waiting, Released}
use Rattle.proxy_core.specs.declared.open.exchange.Exchange.{Exchange}
use Rattle.proxy_core.specs.declared.outcome.Outcome.{Outcome}
use Rattle.proxy_core.specs.declared.outcome.Outcome.TheVariants.{Reply, Forward, Waits, Ended, WaitsNoMore}
use Rattle.proxy_core.specs.declared.event.Event.{Event}
use Rattle.proxy_core.specs.declared.event.Event.TheVariants.{Arrive, Answer, Fail, Wake, Abandon, Overdue}
use Rattle.proxy_core.specs.declared.core_fault.CoreFault.{CoreFault}
use Rattle.proxy_core.specs.declared.core_fault.CoreFault.TheVariants.{OutOfMemory}
use Rattle.proxy_core.specs.Leading.{waits_for, is_waiting, request_has_no_store}
use Rattle.proxy_core.specs.LeadingOn.{exchanges_after_abandon}
use Rattle.proxy_core.specs.Outcomes.{find_exchange, exchange_id_of_event, outcome_of_event, step_fault}
use Rattle.proxy_core.specs.Storing.{stored_response_made, key_invalidated}
use Rattle.hx_allow.specs.PurgeModes.{request_purge_mode_or_remove}
use Rattle.hx_allow.specs.declared.purge_modes.PurgeMode.{PurgeMode}
use Rattle.hx_allow.specs.declared.purge_modes.PurgeMode.TheVariants.{Remove, Stale}
use Rattle.proxy_core.specs.Scopes.{Scope, key_is_in_scope, scope_of_target_alone, scope_of_purge}
use Rattle.proxy_core.specs.Scopes.{serials_purged_by_request}
use Rattle.proxy_core.specs.Validating.{condition_to_revalidate_serial, stored_response_is_answered_by_304}
use Rattle.proxy_core.specs.Validating.{freshened_by_304}

-- the operator's table, the most responses that are held, those held, the latest stored or used first, the open
-- exchanges in the order of arrival, and the next serial if one is left
pub record State : Type 0 where
  pub table : Table
  pub limit : ℕ
  pub entries : List Stored
  pub exchanges : List Exchange
  pub next : Option ℕ

abbrev pub serial_stored_by_outcome : Outcome → Option ℕ
serial_stored_by_outcome (Reply r) = r.stored
serial_stored_by_outcome (Forward line bytes) = None
serial_stored_by_outcome (Waits leader) = None
serial_stored_by_outcome Ended = None
serial_stored_by_outcome WaitsNoMore = None

abbrev pub serial_used_by_outcome : Outcome → Option ℕ
serial_used_by_outcome (Reply r) = r.used
serial_used_by_outcome (Forward line bytes) = None
serial_used_by_outcome (Waits leader) = None
serial_used_by_outcome Ended = None
serial_used_by_outcome WaitsNoMore = None

abbrev pub serials_removed_by_outcome : Outcome → List ℕ
serials_removed_by_outcome (Reply r) = r.removed
serials_removed_by_outcome (Forward line bytes) = []
serials_removed_by_outcome (Waits leader) = []
serials_removed_by_outcome Ended = []
serials_removed_by_outcome WaitsNoMore = []

-- what a purge expired, if it is one that expires
abbrev pub expired_serials_if_any : Outcome → Option (List ℕ)
expired_serials_if_any (Reply r) = r.expired
expired_serials_if_any (Forward line bytes) = None
expired_serials_if_any (Waits leader) = None
expired_serials_if_any Ended = None
expired_serials_if_any WaitsNoMore = None

abbrev pub serials_expired_by_outcome : Outcome → List ℕ
serials_expired_by_outcome outcome = unwrap_or (expired_serials_if_any outcome) []

-- the outcome is that of a purge
abbrev pub outcome_purges : Outcome → Bool
outcome_purges (Reply r) = r.purged
outcome_purges (Forward line bytes) = false
outcome_purges (Waits leader) = false
outcome_purges Ended = false
outcome_purges WaitsNoMore = false

-- what a step makes of a held response that it sends: one that a 304 answers is freshened
abbrev pub stored_response_freshened_by_event : Option Exchange → Event → Stored → Stored
stored_response_freshened_by_event (Some x) (Answer now id r) e = cond (stored_response_is_answered_by_304 x r now e)
    (freshened_by_304 x r now e) e
stored_response_freshened_by_event (Some x) (Arrive now id asked) e = e
stored_response_freshened_by_event (Some x) (Fail now id kind) e = e
stored_response_freshened_by_event (Some x) (Wake now id) e = e
stored_response_freshened_by_event (Some x) (Abandon id) e = e
stored_response_freshened_by_event (Some x) (Overdue id) e = e
stored_response_freshened_by_event None event e = e

-- what is used comes first
abbrev pub entries_after_use : Option Exchange → Event → Option ℕ → List Stored → List Stored
entries_after_use x event None es = es
entries_after_use x event (Some serial) es =
    entries_with_first_if_any (option_map (stored_response_freshened_by_event x event) (find_entry_of_serial serial es))
    (without_serials (serial ∷ []) es)

-- the response that an answer makes
abbrev pub stored_response_by_answer : Option Exchange → Event → ℕ → Option Stored
stored_response_by_answer (Some x) (Answer now id r) serial = Some (stored_response_made serial x r now)
stored_response_by_answer (Some x) (Arrive now id asked) serial = None
stored_response_by_answer (Some x) (Fail now id kind) serial = None
stored_response_by_answer (Some x) (Wake now id) serial = None
stored_response_by_answer (Some x) (Abandon id) serial = None
stored_response_by_answer (Some x) (Overdue id) serial = None
stored_response_by_answer None event serial = None

abbrev pub entries_without_serials : List ℕ → List Stored → List Stored
entries_without_serials [] es = es
entries_without_serials (s ∷ gone) es = without_serials (s ∷ gone) es

-- what is removed goes; what is stored comes first
abbrev pub entries_after_removal_and_storing : Option Exchange → Event → Option ℕ → List ℕ → List Stored → List Stored
entries_after_removal_and_storing x event None removed es = entries_without_serials removed es
entries_after_removal_and_storing x event (Some serial) removed es =
    entries_with_first_if_any (stored_response_by_answer x event serial) (without_serials removed es)

-- the most responses that are held, and the most bytes that they weigh together, where the table bounds those
abbrev pub bounds_of : Table → ℕ → StoreBounds
bounds_of table limit = record { entries = limit; bytes = table.max_store }

-- where a response was stored or used the last ones go until both bounds hold
abbrev pub cut_to_bounds_if_stored_or_used : StoreBounds → Option ℕ → Option ℕ → List Stored → List Stored
cut_to_bounds_if_stored_or_used bounds None None es = es
cut_to_bounds_if_stored_or_used bounds None (Some used) es = cut_to_bounds bounds es
cut_to_bounds_if_stored_or_used bounds (Some stored) used es = cut_to_bounds bounds es

-- What an event makes of a held response where it expires these serials: from the moment of the request that purges on
-- it is stale (RFC 9111, section 4.2). No other event expires any.
-- own: "A purge that expires"
abbrev pub response_after_expiring : Event → List ℕ → Stored → Stored
response_after_expiring (Arrive now id asked) expired e = expired_entry expired now e
response_after_expiring (Answer now id r) expired e = e
response_after_expiring (Fail now id kind) expired e = e
response_after_expiring (Wake now id) expired e = e
response_after_expiring (Abandon id) expired e = e
response_after_expiring (Overdue id) expired e = e

-- each stays where it is
abbrev pub entries_after_expiring : Event → List ℕ → List Stored → List Stored
entries_after_expiring event [] es = es
entries_after_expiring event (s ∷ expired) es = map (response_after_expiring event (s ∷ expired)) es

abbrev pub entries_after_event : StoreBounds → List Stored → Option Exchange → Event → Outcome → List Stored
entries_after_event bounds es x event o =
    entries_after_expiring event (serials_expired_by_outcome o)
    (cut_to_bounds_if_stored_or_used bounds (serial_stored_by_outcome o) (serial_used_by_outcome o)
    (entries_after_removal_and_storing x event (serial_stored_by_outcome o) (serials_removed_by_outcome o)
    (entries_after_use x event (serial_used_by_outcome o) es)))

-- what is held once a purge took these serials at a moment, and once a request purged
abbrev pub entries_after_purging_serials : PurgeMode → List ℕ → ℕ → List Stored → List Stored
entries_after_purging_serials Remove taken now es = entries_without_serials taken es
entries_after_purging_serials Stale taken now es = entries_with_serials_expired taken now es

abbrev pub entries_after_purge : Asked → ℕ → List Stored → List Stored
entries_after_purge asked now es =
    entries_after_purging_serials (request_purge_mode_or_remove asked.fields)
    (serials_purged_by_request asked es) now es

-- an exchange that waits for the one of this id waits no longer
abbrev pub exchange_released_from_leader : ℕ → Exchange → Exchange
exchange_released_from_leader id x = cond (waits_for id x.stage) (record x { stage = Released }) x

-- one whose time to wait is over
abbrev pub exchange_released_by_timeout : Exchange → Exchange
exchange_released_by_timeout x = record x { stage = Released }

-- own: the exchange of this id waits no longer, if it waits; whatever it waits for, others wait for that still ("Who
-- has waited long goes by itself")
abbrev pub exchange_after_wait_timeout : ℕ → Exchange → Exchange
exchange_after_wait_timeout id x = cond (x.id == id && is_waiting x.stage) (exchange_released_by_timeout x) x

-- an exchange ends, and releases those that wait for it
abbrev pub exchanges_after_end_and_release : ℕ → List Exchange → List Exchange
exchanges_after_end_and_release id xs = map (exchange_released_from_leader id) (filter (λ x. not (x.id == id)) xs)

-- what an exchange within this scope will be answered may be what an invalidation was to drop
-- own: so it isn't stored. RFC 9111, section 4.4 drops what is held, and says nothing of answers that
-- are still on their way ("An overtaken answer is not stored")
abbrev pub exchange_overtaken_if_in_scope : Scope → Exchange → Exchange
exchange_overtaken_if_in_scope scope x =
    cond (key_is_in_scope scope x.asked.target.key) (record x { overtaken = true }) x

-- an exchange ends, by an answer that invalidates what is held for a key, or by one that doesn't
abbrev pub exchanges_after_exchange_end : Option Scope → ℕ → List Exchange → List Exchange
exchanges_after_exchange_end None id xs = exchanges_after_end_and_release id xs
exchanges_after_exchange_end (Some scope) id xs = map (exchange_overtaken_if_in_scope scope)
    (exchanges_after_end_and_release id xs)

-- the scope within which a request that arrives purges what is held
abbrev pub scope_purged : Asked → Outcome → Option Scope
scope_purged asked outcome = cond (outcome_purges outcome) (Some (scope_of_purge asked)) None

-- own: what was asked for before a purge may be what it was to drop, so it isn't stored, as behind an invalidation ("An
-- overtaken answer is not stored")
abbrev pub exchanges_overtaken_in_scope : Option Scope → List Exchange → List Exchange
exchanges_overtaken_in_scope None xs = xs
exchanges_overtaken_in_scope (Some scope) xs = map (exchange_overtaken_if_in_scope scope) xs

-- the target that an answer to an exchange invalidates
abbrev pub target_invalidated_by_response : Option Exchange → Response → Option Scope
target_invalidated_by_response None r = None
target_invalidated_by_response (Some x) r = option_map scope_of_target_alone (key_invalidated x r)

-- the rule that is kept of a decision
abbrev pub rule_of_decision : Decision → ReuseRule
rule_of_decision (decision.Hit serial) = UriMiss
rule_of_decision (decision.Forward rule against) = rule

-- the serial that a rule names
abbrev pub serial_named_by_rule_of_decision : Decision → Option ℕ
serial_named_by_rule_of_decision (decision.Hit serial) = None
serial_named_by_rule_of_decision (decision.Forward rule against) = against

abbrev pub forwarded_exchange : Table → List Stored → ℕ → ℕ → Asked → RouteOverLine → Exchange
forwarded_exchange table es now id asked line = record {
  id = id;
  asked = asked;
  line = line;
  vary = vary_names_of_line table.lines line.number;
  removes_set_cookie = (policy_of table.lines line).removes_set_cookie;
  rule = rule_of_decision (decision_of (policy_of table.lines line) es asked now);
  named = serial_named_by_rule_of_decision (decision_of (policy_of table.lines line) es asked now);
  request_time = now;
  condition = condition_to_revalidate_serial es
      (serial_named_by_rule_of_decision (decision_of (policy_of table.lines line) es asked now));
  overtaken = false;
  no_store = request_has_no_store asked;
  stage = Forwarded;
}

-- the line by which the table allows a request
abbrev pub line_of_verdict : Verdict → RouteOverLine
line_of_verdict (verdict.Allowed line) = line
line_of_verdict (verdict.DeniedBy line) = route_over_line line
line_of_verdict verdict.NoLine = route_over_line 0
line_of_verdict (verdict.Looped line) = route_over_line line
line_of_verdict (verdict.Purged line) = route_over_line line

-- the same of a request that waits for another's answer
abbrev pub exchange_begun_waiting : Table → List Stored → ℕ → ℕ → Asked → RouteOverLine → ℕ → Exchange
exchange_begun_waiting table es now id asked line leader =
    record (forwarded_exchange table es now id asked line) { stage = Waiting leader }

-- an exchange that opens, by the one that leads
abbrev pub exchange_waiting_if_leader : Option ℕ → Exchange → Exchange
exchange_waiting_if_leader None x = x
exchange_waiting_if_leader (Some leader) x = record x { stage = Waiting leader }

-- the request of an exchange goes forward at a moment, with this rule, the held response that it names, and these
-- conditions of the proxy
abbrev pub exchange_gone_forward : ℕ → ReuseRule → Option ℕ → Option Condition → Exchange → Exchange
exchange_gone_forward now rule named condition x =
    record x {
      rule = rule;
      named = named;
      request_time = now;
      condition = condition;
      overtaken = false;
      stage = Forwarded;
    }

-- that of an id does
abbrev pub exchange_sent_forward_if_of_id : ℕ → ℕ → ReuseRule → Option ℕ → Option Condition → Exchange → Exchange
exchange_sent_forward_if_of_id id now rule named condition x =
    cond (x.id == id) (exchange_gone_forward now rule named condition x) x

-- that of an id goes forward once more: the client's own request, with the rule that it has
abbrev pub exchange_after_second_forward : ℕ → ℕ → Exchange → Exchange
exchange_after_second_forward id now x = cond (x.id == id) (exchange_gone_forward now x.rule x.named None x) x

-- a request that waited goes forward by the rule that stands now, in its place among the others
abbrev pub exchanges_after_wake : Table → List Stored → ℕ → ℕ → Option Exchange → List Exchange → List Exchange
exchanges_after_wake table es id now None xs = xs
exchanges_after_wake table es id now (Some x) xs =
    map (exchange_sent_forward_if_of_id id now
    (rule_of_decision (decision_of (policy_of table.lines x.line) es x.asked now))
    (serial_named_by_rule_of_decision (decision_of (policy_of table.lines x.line) es x.asked now))
    (condition_to_revalidate_serial es
    (serial_named_by_rule_of_decision (decision_of (policy_of table.lines x.line) es x.asked now))))
    xs

-- the open exchanges after an event, in the order of arrival
abbrev pub open_exchanges_after_event : Table → List Stored → List Exchange → Event → Outcome → List Exchange
open_exchanges_after_event table es xs (Arrive now id asked)
    (Forward line bytes) = xs ++ forwarded_exchange table es now id asked line ∷ []
open_exchanges_after_event table es xs (Arrive now id asked) (Waits leader) =
    xs ++ exchange_begun_waiting table es now id asked
    (line_of_verdict (verdict_of_asked table asked)) leader ∷ []
open_exchanges_after_event table es xs (Arrive now id asked) (Reply r) =
    exchanges_overtaken_in_scope (scope_purged asked (Reply r)) xs
open_exchanges_after_event table es xs (Arrive now id asked) Ended = xs
open_exchanges_after_event table es xs (Arrive now id asked) WaitsNoMore = xs
open_exchanges_after_event table es xs (Answer now id r) (Forward line bytes) = map
    (exchange_after_second_forward id now) xs
open_exchanges_after_event table es xs (Answer now id r) (Reply reply) = exchanges_after_exchange_end
    (target_invalidated_by_response (find_exchange id xs) r) id xs
open_exchanges_after_event table es xs (Answer now id r) (Waits leader) = exchanges_after_exchange_end
    (target_invalidated_by_response (find_exchange id xs) r) id xs
open_exchanges_after_event table es xs (Answer now id r) Ended = exchanges_after_exchange_end
    (target_invalidated_by_response (find_exchange id xs) r) id xs
open_exchanges_after_event table es xs (Answer now id r) WaitsNoMore = exchanges_after_exchange_end
    (target_invalidated_by_response (find_exchange id xs) r) id xs
open_exchanges_after_event table es xs (Fail now id kind) outcome = exchanges_after_end_and_release id xs
open_exchanges_after_event table es xs (Wake now id) (Forward line bytes) = exchanges_after_wake table es id now
    (find_exchange id xs) xs
open_exchanges_after_event table es xs (Wake now id) (Reply r) = exchanges_after_end_and_release id xs
open_exchanges_after_event table es xs (Wake now id) (Waits leader) = exchanges_after_end_and_release id xs
open_exchanges_after_event table es xs (Wake now id) Ended = exchanges_after_end_and_release id xs
open_exchanges_after_event table es xs (Wake now id) WaitsNoMore = exchanges_after_end_and_release id xs
open_exchanges_after_event table es xs (Abandon id) outcome = exchanges_after_abandon table id xs
open_exchanges_after_event table es xs (Overdue id) outcome = map (exchange_after_wait_timeout id) xs

-- the serial after this one, if one is left
-- own: of so many, each is given once ("Each stored response has a serial")
abbrev pub serial_after_this : ℕ → Option ℕ
serial_after_this serial = cond (nat_lt (serial + 1) (2 ^ 64)) (Some (serial + 1)) None

abbrev pub next_serial_after_storing : Option ℕ → Option ℕ → Option ℕ
next_serial_after_storing next None = next
next_serial_after_storing next (Some serial) = serial_after_this serial

abbrev pub state_after_event : State → Event → Outcome → State
state_after_event s event outcome = record {
  table = s.table;
  limit = s.limit;
  entries = entries_after_event (bounds_of s.table s.limit) s.entries
      (find_exchange (exchange_id_of_event event) s.exchanges) event outcome;
  exchanges = open_exchanges_after_event s.table s.entries s.exchanges event outcome;
  next = next_serial_after_storing s.next (serial_stored_by_outcome outcome);
}

-- no serial from the next one on is held
abbrev pub NoSerialIsHeldFrom : Option ℕ → List Stored → Type 0
NoSerialIsHeldFrom None es = Unit {0}
NoSerialIsHeldFrom (Some next) es = (serial : ℕ) → next ≤ serial → holds_serial serial es ≡ false

-- one accepted step: no fault stands, the outcome is that of its case, and the core is as the case leaves it
pub record StepIsAccepted (s : State) (event : Event) (outcome : Outcome) (t : State) : Type 0 where
  pub allowed : step_fault s.exchanges event ≡ None
  pub outcome_is : outcome ≡ outcome_of_event s.table s.entries s.exchanges s.next event
  pub leaves : t ≡ state_after_event s event outcome

-- a step is refused by the least fault that stands, or where none does because memory ran out
abbrev pub StepIsRefusedWith : State → Event → CoreFault → Type 0
StepIsRefusedWith s event fault =
    (step_fault s.exchanges event ≡ Some fault) ⊎ ((step_fault s.exchanges event ≡ None) × (fault ≡ OutOfMemory))
