-- What becomes of a request that has one of the cookies which its line names (RFC 6265, section 4.2.1).
--
-- request_of_event: the request that an event is about
-- OutcomeBypassesTheStore: what is given past the store
-- NamedCookieBypassesTheStore, BypassingRequestLeadsNobody, BypassingAnswerReportsTheCookie: the laws
use Rattle.std.specs.Prelude.{◌≡◌, ℕ, Bool, true, false, List, ◌∷◌, Option, Some, None}
use Rattle.hx_fields.specs.Line.{Field}
use Rattle.hx_hop.specs.declared.request_view.Asked.{Asked}
use Rattle.hx_policy.specs.declared.words.Policy.{Policy}
use Rattle.hx_allow.specs.Cookies.{has_cookie_among}
use Rattle.hx_allow.specs.Matching.{session_cookies_of}
use Rattle.hx_allow.specs.TableLines.{Table}
use Rattle.hx_allow.specs.declared.verdicts.RouteOverLine.{RouteOverLine}
use Rattle.hx_store.specs.Stored.{Stored}
use Rattle.hx_storable.specs.declared.rule.StoreRule.{StoreRule}
use Rattle.hx_status.specs.declared.status.Detail.TheVariants.{SessionCookie}
use Rattle.proxy_core.specs.declared.open.awaited.Awaited.{Awaited}
use Rattle.proxy_core.specs.declared.open.exchange.Exchange.{Exchange}
use Rattle.proxy_core.specs.declared.outcome.Outcome.{Outcome}
use Rattle.proxy_core.specs.declared.outcome.Outcome.TheVariants.{Waits}
use Rattle.proxy_core.specs.declared.event.Event.{Event}
use Rattle.proxy_core.specs.declared.event.Event.TheVariants.{Arrive, Answer, Fail, Wake, Abandon, Overdue}
use Rattle.proxy_core.specs.Leading.{is_leader_for_request}
use Rattle.proxy_core.specs.Outcomes.{find_exchange, exchange_id_of_event}
use Rattle.proxy_core.specs.Replies.{cache_status_of_passed_answer}
use Rattle.proxy_core.specs.Starts.{StoreAtStart}
use Rattle.proxy_core.specs.State.{serial_stored_by_outcome, serial_used_by_outcome, forwarded_exchange}
use Rattle.proxy_core.specs.Traces.{Item}
use Rattle.proxy_core.specs.Histories.{open_exchanges, IsGoodHistory}
use Rattle.proxy_core.specs.Uncached.{EventGoesOverLine}

-- the one that arrives, or that of the open exchange
abbrev pub request_of_event : Option Exchange → Event → Option Asked
request_of_event x (Arrive now id asked) = Some asked
request_of_event (Some x) (Answer now id r) = Some x.asked
request_of_event (Some x) (Fail now id kind) = Some x.asked
request_of_event (Some x) (Wake now id) = Some x.asked
request_of_event (Some x) (Abandon id) = Some x.asked
request_of_event (Some x) (Overdue id) = Some x.asked
request_of_event None (Answer now id r) = None
request_of_event None (Fail now id kind) = None
request_of_event None (Wake now id) = None
request_of_event None (Abandon id) = None
request_of_event None (Overdue id) = None

-- no stored response is sent, nothing is stored, and the request waits for no other
pub record OutcomeBypassesTheStore (outcome : Outcome) : Type 0 where
  pub sends_nothing_stored : serial_used_by_outcome outcome ≡ None
  pub stores_nothing : serial_stored_by_outcome outcome ≡ None
  pub waits_for_none : (leader : ℕ) → outcome ≡ Waits leader → ⊥

-- ---- the statements

-- Over a line that names cookies a request that has one of them is sent no stored response, its answer isn't stored,
-- and it waits for no other: from its arrival to its end.
abbrev pub NamedCookieBypassesTheStore : Type 0
NamedCookieBypassesTheStore = (table : Table) (start : StoreAtStart) (first : ℕ) (line : RouteOverLine) (asked : Asked)
    (item : Item) (past : List Item) → IsGoodHistory table start first (item ∷ past) →
    EventGoesOverLine table (find_exchange (exchange_id_of_event item.event) (open_exchanges table start past))
    item.event line →
    request_of_event (find_exchange (exchange_id_of_event item.event) (open_exchanges table start past)) item.event
    ≡ Some asked →
    has_cookie_among (session_cookies_of table.lines line.number) asked.fields ≡ true
    → OutcomeBypassesTheStore item.outcome

-- nor does any other wait for it, whatever that could be sent
abbrev pub BypassingRequestLeadsNobody : Type 0
BypassingRequestLeadsNobody =
    (table : Table) (held : List Stored) (now id : ℕ) (asked other : Asked) (line : RouteOverLine)
    (policy : Policy) (awaited : Awaited) → line.past_store ≡ true →
    is_leader_for_request policy awaited other (forwarded_exchange table held now id asked line) ≡ false

-- and its answer tells why, in place of the operator's rule (RFC 9211, section 2.8)
abbrev pub BypassingAnswerReportsTheCookie : Type 0
BypassingAnswerReportsTheCookie = (policy : Policy) (x : Exchange) (status : ℕ) (fields : List Field) (now : ℕ)
    (stored : Bool) (rule : Option StoreRule) → x.line.past_store ≡ true →
    (cache_status_of_passed_answer policy x status fields now stored rule).detail ≡ Some SessionCookie
