-- What an open exchange carries from its arrival on, and in which order exchanges stand open. A
-- trace has its latest item first.
--
-- is_arrival_or_wake: an arrival, and a wake
-- ExchangeWasJudged: its request was judged there, and has the line that allows it
-- RuleWasLeastWhenJudged: the rule that it kept
-- ExchangeWentForwardOnce, ExchangeWentForwardASecondTime, HasWaitedSinceItsArrival: how it went forward last, or that
-- it waits
-- IdArrivesBeforeOtherId, IdsAreInOrderOfArrival: the order of arrival
-- Below them are the statements that a law of `src/laws.rt` proves.
use Rattle.std.specs.Prelude.{◌≡◌, ◌⊎◌, ℕ, ◌==◌, ◌&&◌, Bool, true, false, List, [], ◌∷◌, ◌++◌, map, Option, Some, None}
use Rattle.std.specs.List.{AllByRecursion}
use Rattle.hx_framing.specs.declared.messages.Response.{Response}
use Rattle.hx_allow.specs.TableLines.{Table}
use Rattle.hx_allow.specs.Matching.{policy_of}
use Rattle.proxy_core.specs.Allowing.{verdict_of_asked}
use Rattle.hx_allow.specs.declared.verdicts.Verdict.TheVariants.{Allowed}
use Rattle.hx_reuse.specs.ChosenAndNamed.{IsLeastReuseRule, RuleOnChosenNamesItsSerial}
use Rattle.proxy_core.specs.declared.open.stage.Stage.TheVariants.{Forwarded, Waiting, Released}
use Rattle.proxy_core.specs.declared.open.exchange.Exchange.{Exchange}
use Rattle.proxy_core.specs.declared.outcome.Outcome.{Outcome}
use Rattle.proxy_core.specs.declared.outcome.Outcome.TheVariants.{Forward, Waits}
use Rattle.proxy_core.specs.declared.event.Event.{Event}
use Rattle.proxy_core.specs.declared.event.Event.TheVariants.{Arrive, Answer, Fail, Wake, Abandon, Overdue}
use Rattle.proxy_core.specs.Validating.{condition_to_revalidate_serial}
use Rattle.proxy_core.specs.Leading.{is_waiting}
use Rattle.proxy_core.specs.LeadingOn.{wait_is_limited}
use Rattle.proxy_core.specs.Outcomes.{find_exchange, exchange_id_of_event, forward_text}
use Rattle.proxy_core.specs.Traces.{Item}
use Rattle.proxy_core.specs.Histories.{held_entries, open_exchanges, IsGoodHistory}
use Rattle.proxy_core.specs.Promises.{outcome_goes_forward, is_arrival_event, count_of_outcomes_of_id}
use Rattle.proxy_core.specs.Promises.{NoRequestOfIdArrives}
use Rattle.proxy_core.specs.Starts.{StoreAtStart}

-- a request is judged when it arrives, and anew when it is woken
abbrev pub is_arrival_or_wake : Event → Bool
is_arrival_or_wake (Arrive now id asked) = true
is_arrival_or_wake (Answer now id r) = false
is_arrival_or_wake (Fail now id kind) = false
is_arrival_or_wake (Wake now id) = true
is_arrival_or_wake (Abandon id) = false
is_arrival_or_wake (Overdue id) = false

-- no request of this id is judged
abbrev pub NoItemJudgesTheRequest : ℕ → List Item → Type 0
NoItemJudgesTheRequest id [] = Unit {0}
NoItemJudgesTheRequest id (i ∷ items) = ((exchange_id_of_event i.event == id && is_arrival_or_wake i.event) ≡ false)
    × NoItemJudgesTheRequest id items

-- at this moment the request of an exchange arrives, or is woken
abbrev pub EventArrivesOrWakesExchange : Event → ℕ → Exchange → Type 0
EventArrivesOrWakesExchange event now x = (event ≡ Arrive now x.id x.asked) ⊎ (event ≡ Wake now x.id)

-- the client's own request goes forward once more, behind an answer
abbrev pub second_forward_item : Table → Exchange → ℕ → Response → Item
second_forward_item table x now r =
    record { event = Answer now x.id r; outcome = Forward x.line (forward_text table x.line x.asked None) }

-- It went forward where it was judged alone: its request time is that moment, and its conditions,
-- which ask about the response that its rule names, are those in the bytes that went.
pub record ExchangeWentForwardOnce (table : Table) (start : StoreAtStart) (x : Exchange) (since before : List Item)
    (now : ℕ)
    (outcome : Outcome) : Type 0 where
  pub stage : x.stage ≡ Forwarded
  pub no_forward_since : count_of_outcomes_of_id outcome_goes_forward x.id since ≡ 0
  pub request_time : x.request_time ≡ now
  pub against : Option ℕ
  pub names : RuleOnChosenNamesItsSerial (held_entries table start before) x.asked x.rule against
  pub condition : x.condition ≡ condition_to_revalidate_serial (held_entries table start before) against
  pub outcome_is : outcome ≡ Forward x.line (forward_text table x.line x.asked x.condition)

-- it went forward once more, without conditions: its request time is the moment of that
pub record ExchangeWentForwardASecondTime (table : Table) (x : Exchange) (since : List Item) : Type 0 where
  pub stage : x.stage ≡ Forwarded
  pub later : List Item
  pub between : List Item
  pub now : ℕ
  pub response : Response
  pub since_is : since ≡ later ++ second_forward_item table x now response ∷ between
  pub no_forward_since : count_of_outcomes_of_id outcome_goes_forward x.id later ≡ 0
  pub request_time : x.request_time ≡ now
  pub condition : x.condition ≡ None

-- It has waited since it arrived: for the one of this id, until it was released, or, where it waits for a limited time,
-- for the one that led on behind that.
pub record HasWaitedSinceItsArrival (table : Table) (start : StoreAtStart) (x : Exchange) (since before : List Item)
    (outcome : Outcome) : Type 0 where
  pub leader : ℕ
  pub outcome_is : outcome ≡ Waits leader
  pub stage : (x.stage ≡ Waiting leader)
      ⊎ ((x.stage ≡ Released) ⊎ ((is_waiting x.stage ≡ true) × (wait_is_limited table x ≡ true)))
  pub no_forward_since : count_of_outcomes_of_id outcome_goes_forward x.id since ≡ 0
  pub against : Option ℕ
  pub names : RuleOnChosenNamesItsSerial (held_entries table start before) x.asked x.rule against
  pub condition : x.condition ≡ condition_to_revalidate_serial (held_entries table start before) against

-- The request of an open exchange was judged, and none of its id since: the line allows it, and its
-- rule is the least that stood then (RFC 9111, section 4).
pub record ExchangeWasJudged (table : Table) (start : StoreAtStart) (x : Exchange) (past : List Item) : Type 0 where
  pub since : List Item
  pub before : List Item
  pub item : Item
  pub now : ℕ
  pub past_is : past ≡ since ++ item ∷ before
  pub judged : EventArrivesOrWakesExchange item.event now x
  pub not_judged_since : NoItemJudgesTheRequest x.id since
  pub line_allows : verdict_of_asked table x.asked ≡ Allowed x.line
  pub rule_is_least : IsLeastReuseRule (policy_of table.lines x.line)
      (held_entries table start before) x.asked now x.rule
  pub went : ExchangeWentForwardOnce table start x since before now item.outcome
      ⊎ (ExchangeWentForwardASecondTime table x since
      ⊎ HasWaitedSinceItsArrival table start x since before item.outcome)

-- the rule of an open exchange is the least that stood when its request was judged
pub record RuleWasLeastWhenJudged (table : Table) (start : StoreAtStart) (x : Exchange)
    (past : List Item) : Type 0 where
  pub since : List Item
  pub before : List Item
  pub item : Item
  pub now : ℕ
  pub past_is : past ≡ since ++ item ∷ before
  pub judged : EventArrivesOrWakesExchange item.event now x
  pub not_judged_since : NoItemJudgesTheRequest x.id since
  pub least : IsLeastReuseRule (policy_of table.lines x.line) (held_entries table start before) x.asked now x.rule

-- of two ids the latest arrival of the one comes before that of the other
pub record IdArrivesBeforeOtherId (id other : ℕ) (past : List Item) : Type 0 where
  pub since : List Item
  pub between : List Item
  pub before : List Item
  pub later : Item
  pub earlier : Item
  pub past_is : past ≡ since ++ later ∷ (between ++ earlier ∷ before)
  pub later_arrives : is_arrival_event later.event ≡ true
  pub earlier_arrives : is_arrival_event earlier.event ≡ true
  pub later_id : exchange_id_of_event later.event ≡ other
  pub earlier_id : exchange_id_of_event earlier.event ≡ id
  pub id_arrives_no_more : NoRequestOfIdArrives id since × NoRequestOfIdArrives id (later ∷ between)
  pub other_arrives_no_more : NoRequestOfIdArrives other since

-- of these ids each arrived before those behind it
abbrev pub IdsAreInOrderOfArrival : List ℕ → List Item → Type 0
IdsAreInOrderOfArrival [] past = Unit {0}
IdsAreInOrderOfArrival (id ∷ ids) past = AllByRecursion (λ (other : ℕ). IdArrivesBeforeOtherId id other past) ids
    × IdsAreInOrderOfArrival ids past

abbrev pub ids_of_exchanges : List Exchange → List ℕ
ids_of_exchanges exchanges = map (λ (x : Exchange). x.id) exchanges

-- ---- the statements

abbrev pub OpenExchangeRecordsHowItWasJudged : Type 0
OpenExchangeRecordsHowItWasJudged =
    (table : Table) (start : StoreAtStart) (first id : ℕ) (trace : List Item) (x : Exchange)
    → IsGoodHistory table start first trace →
    find_exchange id (open_exchanges table start trace) ≡ Some x → ExchangeWasJudged table start x trace × (x.id ≡ id)

abbrev pub ExchangesAreOpenInOrderOfArrival : Type 0
ExchangesAreOpenInOrderOfArrival = (table : Table) (start : StoreAtStart) (first : ℕ) (trace : List Item)
    → IsGoodHistory table start first trace →
    IdsAreInOrderOfArrival (ids_of_exchanges (open_exchanges table start trace)) trace
