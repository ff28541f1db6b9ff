-- Whatever is held can be sent as one response, where the answers of a history were read.
use Rattle.std.proofs.Common.{◌≡◌, ◌<◌, ℕ, Bool, true, false, cond, [], ◌∷◌, refl, sym, subst}
use Rattle.std.specs.Prelude.{Option, Some, None, option_map, nat_lt}
use Rattle.std.proofs.lemmas.Bool.{ltb-true}
use Rattle.hx_fields.specs.declared.limits.TheConstants.{START_OF_YEAR_10000}
use Rattle.hx_age.specs.declared.moments.Times.{Times}
use Rattle.hx_store.specs.Stored.{Stored}
use Rattle.hx_store.specs.Recency.{option_is_serial}
use Rattle.proxy_core.proofs.ExpiredEntries.{was_there}
use Rattle.proxy_core.specs.declared.open.exchange.Exchange.{Exchange}
use Rattle.proxy_core.specs.declared.event.Event.{Event}
use Rattle.proxy_core.specs.declared.event.Event.TheVariants.{Arrive, Answer, Fail, Wake, Abandon, Overdue}
use Rattle.proxy_core.specs.declared.core_fault.CoreFault.{CoreFault}
use Rattle.proxy_core.specs.declared.core_fault.CoreFault.TheVariants.{MomentTooLate}
use Rattle.proxy_core.specs.Histories.{entry_held_after, open_exchanges}
use Rattle.proxy_core.specs.Moments.{moment_too_late_fault}
use Rattle.proxy_core.specs.Outcomes.{fault_at_exchange, find_exchange, exchange_id_of_event, fault_else, fault_if_not_forwarded}
use Rattle.proxy_core.specs.ReadAnswers.{EventIsReadFromAStream}
use Rattle.proxy_core.specs.State.{serials_expired_by_outcome, serial_stored_by_outcome, serial_used_by_outcome, stored_response_by_answer, stored_response_freshened_by_event}
use Rattle.proxy_core.specs.Storing.{stored_response_made}
use Rattle.proxy_core.specs.Validating.{times_after_304, stored_response_is_answered_by_304, freshened_by_304}
use Rattle.hx_hop.specs.Answering.{answered_of}
use Rattle.proxy_core_laws.specs.StoredReplies.{HeldResponseIsSendable, StoredResponseIsSendable}
use Rattle.proxy_core_laws.proofs.StoredReplies.{freshens_sendable, stores_sendable}

-- a moment that isn't too late
pub in_time : (now : ℕ) → moment_too_late_fault now ≡ None → now < START_OF_YEAR_10000
in_time now h = by_test (nat_lt now START_OF_YEAR_10000) refl h
  where
    by_test : (t : Bool) → nat_lt now START_OF_YEAR_10000 ≡ t → cond t None (Some MomentTooLate) ≡ None → now < START_OF_YEAR_10000
    by_test true is k = ltb-true now START_OF_YEAR_10000 is
    by_test false is k = absurd cc

pub first_none : (a b : Option CoreFault) → fault_else a b ≡ None → a ≡ None
first_none None b h = refl
first_none (Some f) b h = absurd cc

-- what an answer makes, and what it leaves of what is used
made_so : (x : Option Exchange) (event : Event) (s : ℕ) (e : Stored) → fault_at_exchange x event ≡ None → EventIsReadFromAStream event → stored_response_by_answer x event s ≡ Some e → StoredResponseIsSendable e
made_so (Some x) (Answer now id r) s e allowed is h = subst StoredResponseIsSendable same (stores_sendable is.max_body s now is.to_head is.ended is.bytes is.rest x r is.reads (in_time now (first_none (moment_too_late_fault now) (fault_if_not_forwarded x.stage) allowed)))
  where
    same : stored_response_made s x r now ≡ e
    same = cc
made_so (Some x) (Arrive now id asked) s e allowed is h = absurd cc
made_so (Some x) (Fail now id kind) s e allowed is h = absurd cc
made_so (Some x) (Wake now id) s e allowed is h = absurd cc
made_so (Some x) (Abandon id) s e allowed is h = absurd cc
made_so (Some x) (Overdue id) s e allowed is h = absurd cc
made_so None event s e allowed is h = absurd cc

pub left_so : (x : Option Exchange) (event : Event) (e : Stored) → fault_at_exchange x event ≡ None → EventIsReadFromAStream event → StoredResponseIsSendable e → StoredResponseIsSendable (stored_response_freshened_by_event x event e)
left_so (Some x) (Answer now id r) e allowed is sendable =
    let early = in_time now (first_none (moment_too_late_fault now) (fault_if_not_forwarded x.stage) allowed) in
    let fresh : StoredResponseIsSendable (freshened_by_304 x r now e) =
    freshens_sendable is.max_body now is.to_head is.ended is.bytes is.rest e r x.asked (times_after_304 x r now e) x.vary x sendable is.reads early in
    elim (stored_response_is_answered_by_304 x r now e) as (λ b. StoredResponseIsSendable (cond b (freshened_by_304 x r now e) e)) [ true ↦ fresh | false ↦ sendable ]
left_so (Some x) (Arrive now id asked) e allowed is sendable = sendable
left_so (Some x) (Fail now id kind) e allowed is sendable = sendable
left_so (Some x) (Wake now id) e allowed is sendable = sendable
left_so (Some x) (Abandon id) e allowed is sendable = sendable
left_so (Some x) (Overdue id) e allowed is sendable = sendable
left_so None event e allowed is sendable = sendable

used_so : (x : Option Exchange) (event : Event) (o : Option Stored) (e : Stored) → fault_at_exchange x event ≡ None → EventIsReadFromAStream event → ((f : Stored) → o ≡ Some f → StoredResponseIsSendable f)
    → option_map (stored_response_freshened_by_event x event) o ≡ Some e → StoredResponseIsSendable e
used_so x event None e allowed is before h = absurd cc
used_so x event (Some f) e allowed is before h = subst StoredResponseIsSendable same (left_so x event f allowed is (before f refl))
  where
    same : stored_response_freshened_by_event x event f ≡ e
    same = cc

-- the response of a serial after one more item
after_so : (x : Option Exchange) (event : Event) (stored used : Bool) (s : ℕ) (o : Option Stored) (e : Stored) → fault_at_exchange x event ≡ None → EventIsReadFromAStream event
    → ((f : Stored) → o ≡ Some f → StoredResponseIsSendable f) → cond stored (stored_response_by_answer x event s) (cond used (option_map (stored_response_freshened_by_event x event) o) o) ≡ Some e → StoredResponseIsSendable e
after_so x event true used s o e allowed is before h = made_so x event s e allowed is h
after_so x event false true s o e allowed is before h = used_so x event o e allowed is before h
after_so x event false false s o e allowed is before h = before e h

-- whatever the times
with_times : (e : Stored) (t : Times) → StoredResponseIsSendable e → StoredResponseIsSendable (record e { times = t })
with_times e t h = record { status = h.status; fields = h.fields; lengths = h.lengths; codings = h.codings; without = h.without }

pub holds_sendable : HeldResponseIsSendable
holds_sendable table start first [] good begins read s e h = begins s e h
holds_sendable table start first (item ∷ past) good begins read s e h =
    let there = was_there item.event (serials_expired_by_outcome item.outcome) _ e h in
    subst StoredResponseIsSendable (sym there.is)
    (with_times there.response there.times
    (after_so (find_exchange (exchange_id_of_event item.event) (open_exchanges table start past)) item.event (option_is_serial (serial_stored_by_outcome item.outcome) s) (option_is_serial (serial_used_by_outcome item.outcome) s)
    s (entry_held_after table start past s) there.response good.0.allowed read.0 (holds_sendable table start first past good.1 begins read.1 s) there.was))
