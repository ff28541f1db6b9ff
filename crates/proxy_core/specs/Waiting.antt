-- Requests that could be sent the answer to another wait for it. A trace has its latest item first.
--
-- RequestCouldWait: a request that could be sent one (`Awaiting.antt`), for the first that leads (`Leading.antt`)
-- RequestWaitsWhereALeaderIsOpen, RequestWaitsOnlyWhereALeaderIsOpen, OnlyOneGetPerKeyGoesForward: who waits, and what
-- for
-- ExchangeMayBeWoken: an exchange that may be woken
-- leader_of_waiter: for whom a request waits, of those that lead one behind the other
-- RequestWaitsUntilLeaderEndsOrTimeout, RequestIsWokenOnceAfterLeaderOrTimeout, ReleasedAreInOrderOfArrival,
-- TimeoutIsAcceptedExactlyForWaiters, OverdueRequestMayBeWoken, WakeIsAcceptedExactlyWhereReady,
-- WokenRequestIsJudgedAnew:
-- how it ends
-- FirstWaiterBecomesLeader, NoWaiterLeadsWhereNoneMay: what the end of a leader's client leaves
-- NoWaiterLeadsWhereWaitsAreUnlimited: the same over a table of an earlier version
--
-- The laws of `src/laws.rt` prove the statements.
use Rattle.std.specs.Prelude.{◌≡◌, ◌⊎◌, ℕ, ◌==◌, ◌&&◌, ◌||◌, not, Bool, true, false, List, [], ◌∷◌, ◌++◌, Option, Some}
use Rattle.std.specs.Prelude.{None, IfSome, option_map, is_some, cond}
use Rattle.std.specs.Option.{option_and_then}
use Rattle.std.specs.List.{AllByRecursion}
use Rattle.hx_target.specs.Keys.{same_key}
use Rattle.hx_hop.specs.declared.request_view.Asked.{Asked}
use Rattle.hx_hop.specs.Bypass.{asks_for_range}
use Rattle.hx_allow.specs.TableLines.{Table}
use Rattle.hx_allow.specs.Matching.{policy_of, wait_timeout_of}
use Rattle.proxy_core.specs.Allowing.{verdict_of_asked, is_refused_as_loop, exchanges_to_wait_for}
use Rattle.hx_allow.specs.declared.verdicts.Verdict.TheVariants.{Allowed}
use Rattle.hx_allow.specs.declared.verdicts.RouteOverLine.{RouteOverLine}
use Rattle.hx_store.specs.Serials.{serial_is_in}
use Rattle.hx_store.specs.Stored.{Stored}
use Rattle.hx_reuse.specs.ChosenAndNamed.{IsLeastReuseRule, RuleOnChosenNamesItsSerial}
use Rattle.hx_reuse.specs.FilledRanges.{forwards_range}
use Rattle.hx_reuse.specs.declared.rule.ReuseRule.{ReuseRule}
use Rattle.hx_reuse.specs.declared.rule.ReuseRule.TheVariants.{UriMiss}
use Rattle.proxy_core.specs.declared.open.stage.Stage.{Stage}
use Rattle.proxy_core.specs.declared.open.stage.Stage.TheVariants.{Forwarded, Waiting, Released}
use Rattle.proxy_core.specs.declared.open.awaited.Awaited.{Awaited}
use Rattle.proxy_core.specs.declared.open.awaited.Awaited.TheVariants.{Missing, Expired}
use Rattle.proxy_core.specs.declared.open.exchange.Exchange.{Exchange}
use Rattle.proxy_core.specs.declared.outcome.Outcome.TheVariants.{Forward, Waits, WaitsNoMore}
use Rattle.proxy_core.specs.declared.event.Event.{Event}
use Rattle.proxy_core.specs.declared.event.Event.TheVariants.{Arrive, Answer, Fail, Wake, Abandon, Overdue}
use Rattle.proxy_core.specs.Moments.{moment_too_late_fault}
use Rattle.hx_policy.specs.declared.words.Policy.{Policy}
use Rattle.proxy_core.specs.Leading.{is_forwarded, is_released, is_get, is_uri_miss, option_names_serial}
use Rattle.proxy_core.specs.Leading.{answer_may_be_shared_with}
use Rattle.proxy_core.specs.Leading.{is_waiting, waits_for, is_leader_for_request, wakeable_ids, IsFirstLeader}
use Rattle.proxy_core.specs.LeadingOn.{stage_after_leader, next_leader, exchanges_without, exchanges_after_abandon}
use Rattle.proxy_core.specs.LeadingOn.{IsNextLeader, WaiterCouldBeSentNextLeadersAnswer}
use Rattle.proxy_core.specs.Awaiting.{RequestMayAwaitAnother}
use Rattle.proxy_core.specs.Outcomes.{find_exchange, exchange_id_of_event, step_fault, is_only_if_cached}
use Rattle.proxy_core.specs.State.{serial_used_by_outcome, exchanges_after_end_and_release}
use Rattle.proxy_core.specs.Starts.{StoreAtStart}
use Rattle.proxy_core.specs.Traces.{Item}
use Rattle.proxy_core.specs.Histories.{held_entries, open_exchanges, IsGoodHistory}
use Rattle.proxy_core.specs.Promises.{outcome_ends_exchange, is_arrival_event, NoRequestOfIdArrives}
use Rattle.proxy_core.specs.Carrying.{IdsAreInOrderOfArrival}
use Rattle.proxy_core.specs.Sending.{StoredResponseIsReusable, MayBeSentWhileLeaderRevalidates}

-- ---- who waits

-- A GET that the table allows, that takes an answer of the origin, and that could be sent the answer
-- to another.
pub record RequestCouldWait (table : Table) (start : StoreAtStart) (past : List Item) (now : ℕ) (line : RouteOverLine)
    (asked : Asked) (awaited : Awaited) : Type 0 where
  pub line_allows : verdict_of_asked table asked ≡ Allowed line
  pub is_not_only_if_cached : is_only_if_cached asked ≡ false
  pub awaits : RequestMayAwaitAnother (policy_of table.lines line) (held_entries table start past) asked now awaited

-- whoever could wait does, where one leads, unless he is sent what is stale meanwhile
abbrev pub RequestWaitsWhereALeaderIsOpen : Type 0
RequestWaitsWhereALeaderIsOpen =
    (table : Table) (start : StoreAtStart) (first now id : ℕ) (line : RouteOverLine) (leader : ℕ)
    (asked : Asked)
    (awaited : Awaited)
    (item : Item) (past : List Item) →
    IsGoodHistory table start first (item ∷ past) → item.event ≡ Arrive now id asked
    → RequestCouldWait table start past now line asked awaited →
    IsFirstLeader (policy_of table.lines line) awaited asked
    (exchanges_to_wait_for table line asked (open_exchanges table start past)) leader
    → ((s : ℕ) → MayBeSentWhileLeaderRevalidates (policy_of table.lines line) (held_entries table start past)
    (exchanges_to_wait_for table line asked (open_exchanges table start past)) asked now s → ⊥)
    → item.outcome ≡ Waits leader

-- Whoever waits has just arrived, could wait, and waits for the first that leads.
pub record ArrivingRequestWaitsForLeader (table : Table) (start : StoreAtStart) (leader : ℕ) (item : Item)
    (past : List Item) : Type 0 where
  pub now : ℕ
  pub id : ℕ
  pub asked : Asked
  pub line : RouteOverLine
  pub arrives : item.event ≡ Arrive now id asked
  pub awaited : Awaited
  pub could : RequestCouldWait table start past now line asked awaited
  pub first_leads : IsFirstLeader (policy_of table.lines line) awaited asked
      (exchanges_to_wait_for table line asked (open_exchanges table start past)) leader

abbrev pub RequestWaitsOnlyWhereALeaderIsOpen : Type 0
RequestWaitsOnlyWhereALeaderIsOpen = (table : Table) (start : StoreAtStart) (first leader : ℕ) (item : Item)
    (past : List Item)
    → IsGoodHistory table start first (item ∷ past) →
    item.outcome ≡ Waits leader → ArrivingRequestWaitsForLeader table start leader item past

-- an open exchange of this id ends: by a reply that isn't given at an arrival, or since the client went away
abbrev pub open_exchange_has_ended : ℕ → List Item → Bool
open_exchange_has_ended id [] = false
open_exchange_has_ended id (i ∷ items) =
    (exchange_id_of_event i.event == id && (not (is_arrival_event i.event) && outcome_ends_exchange i.outcome))
    || open_exchange_has_ended id items

-- a request arrives and goes forward by this rule, which names this held response or none
pub record RequestGoesForwardByRule (table : Table) (start : StoreAtStart) (rule : ReuseRule) (named : Option ℕ)
    (item : Item)
    (past : List Item) : Type 0 where
  pub now : ℕ
  pub id : ℕ
  pub asked : Asked
  pub line : RouteOverLine
  pub bytes : List ℕ
  pub arrives : item.event ≡ Arrive now id asked
  pub forward : item.outcome ≡ Forward line bytes
  pub is_least : IsLeastReuseRule (policy_of table.lines line) (held_entries table start past) asked now rule
  pub names : RuleOnChosenNamesItsSerial (held_entries table start past) asked rule named

-- What it went forward for is what a request could be sent: nothing was held for its key, or the rule
-- names that held response.
abbrev pub went_forward_for_awaited : Awaited → ReuseRule → Option ℕ → Bool
went_forward_for_awaited Missing rule named = is_uri_miss rule
went_forward_for_awaited (Expired serial) rule named = option_names_serial named serial

-- The answer to the exchange of this id may be one for a request over a line of this policy: nothing
-- that is known of it, should it be open still, says otherwise.
abbrev pub AnswerMayServeAnotherRequest : Policy → Asked → Option Exchange → Type 0
AnswerMayServeAnotherRequest policy asked x =
    policy.waits_for_stale ≡ true → IfSome x (λ (x : Exchange). answer_may_be_shared_with policy asked x ≡ true)

-- Of the GETs that arrive for a key while one of them is at the origin none goes there too for what
-- that one's answer could bring it, unless it came back: before a later one does the earlier has
-- ended. Over a line with the word this is so while that answer may be for the later one.
abbrev pub OnlyOneGetPerKeyGoesForward : Type 0
OnlyOneGetPerKeyGoesForward =
    (table : Table) (start : StoreAtStart) (first : ℕ) (line : RouteOverLine) (awaited : Awaited)
    (rule : ReuseRule)
    (named : Option ℕ) (bytes : List ℕ) (now id : ℕ) (asked : Asked) (later earlier : Item)
    (between before : List Item) →
    IsGoodHistory table start first (later ∷ (between ++ earlier ∷ before))
    → later.event ≡ Arrive now id asked → later.outcome ≡ Forward line bytes → is_refused_as_loop table line asked
    ≡ false
    → RequestMayAwaitAnother (policy_of table.lines line) (held_entries table start (between ++ earlier
    ∷ before)) asked now
    awaited
    → (went : RequestGoesForwardByRule table start rule named earlier before)
    → is_get went.asked ≡ true → forwards_range (policy_of table.lines line) went.asked ≡ false
    → same_key went.asked.target.key asked.target.key ≡ true
    → went_forward_for_awaited awaited rule named ≡ true
    → AnswerMayServeAnotherRequest (policy_of table.lines line) asked
    (find_exchange went.id (open_exchanges table start (between ++ earlier ∷ before))) →
    open_exchange_has_ended (exchange_id_of_event earlier.event) between ≡ true

-- A line without the word lets a GET wait where nothing is held for its key, and nowhere else; and
-- for any that went for that, but for a range that goes to the origin. Where the line forwards ranges none went for
-- that with one.
abbrev pub LineWithoutWaitWaitsForMissesOnly : Type 0
LineWithoutWaitWaitsForMissesOnly = (policy : Policy) (held : List Stored) (asked : Asked) (now : ℕ) (awaited : Awaited)
    (x : Exchange) → policy.waits_for_stale ≡ false →
    (RequestMayAwaitAnother policy held asked now awaited
    → (awaited ≡ Missing) × IsLeastReuseRule policy held asked now UriMiss)
    × (is_get asked ≡ true → IsLeastReuseRule policy held asked now UriMiss
    → RequestMayAwaitAnother policy held asked now Missing)
    × (is_leader_for_request policy Missing asked x
    ≡ (same_key x.asked.target.key asked.target.key
    && (is_get x.asked && (is_forwarded x.stage && (is_uri_miss x.rule && not (forwards_range policy x.asked))))))
    × (policy.forwards_ranges ≡ true → IsLeastReuseRule policy held asked now UriMiss → asks_for_range asked ≡ false)

-- ---- until when

abbrev pub is_wake_event : Event → Bool
is_wake_event (Arrive now id asked) = false
is_wake_event (Answer now id r) = false
is_wake_event (Fail now id kind) = false
is_wake_event (Wake now id) = true
is_wake_event (Abandon id) = false
is_wake_event (Overdue id) = false

-- the request of this id is woken
abbrev pub request_was_woken : ℕ → List Item → Bool
request_was_woken id [] = false
request_was_woken id (i ∷ items) =
    cond (exchange_id_of_event i.event == id && is_wake_event i.event) true (request_was_woken id items)

abbrev pub is_overdue_event : Event → Bool
is_overdue_event (Arrive now id asked) = false
is_overdue_event (Answer now id r) = false
is_overdue_event (Fail now id kind) = false
is_overdue_event (Wake now id) = false
is_overdue_event (Abandon id) = false
is_overdue_event (Overdue id) = true

-- the request of this id has waited as long as it is to wait
abbrev pub request_wait_timed_out : ℕ → List Item → Bool
request_wait_timed_out id [] = false
request_wait_timed_out id (i ∷ items) =
    cond (exchange_id_of_event i.event == id && is_overdue_event i.event) true (request_wait_timed_out id items)

-- nothing has happened to the exchange of this id, but that its time to wait may be over
abbrev pub NothingButItsTimeoutHappened : ℕ → List Item → Type 0
NothingButItsTimeoutHappened id items =
    AllByRecursion (λ (i : Item). (exchange_id_of_event i.event == id && not (is_overdue_event i.event)) ≡ false) items

abbrev pub stage_of_exchange : Option Exchange → Option Stage
stage_of_exchange x = option_map (λ (x : Exchange). x.stage) x

-- the exchange of this id is open and may be woken
pub record ExchangeMayBeWoken (id : ℕ) (xs : List Exchange) : Type 0 where
  pub x : Exchange
  pub is_open : find_exchange id xs ≡ Some x
  pub stage : is_released x.stage ≡ true

-- the exchange of this id is open and waits for the answer to another
pub record ExchangeIsWaiting (id : ℕ) (xs : List Exchange) : Type 0 where
  pub x : Exchange
  pub is_open : find_exchange id xs ≡ Some x
  pub stage : is_waiting x.stage ≡ true

-- the exchange that an exchange of this stage waits for
abbrev pub leader_of_stage : Stage → Option ℕ
leader_of_stage Forwarded = None
leader_of_stage (Waiting leader) = Some leader
leader_of_stage Released = None

-- one that waits for this leader, or may be woken
abbrev pub stage_with_leader_if_any : Option ℕ → Stage
stage_with_leader_if_any None = Released
stage_with_leader_if_any (Some leader) = Waiting leader

-- for whom the exchange of an id waits once the client of its leader has gone away
abbrev pub leader_after_abandon : Table → List Exchange → ℕ → ℕ → Option ℕ
leader_after_abandon table xs id leader =
    option_and_then (λ (x : Exchange). leader_of_stage
    (stage_after_leader table (next_leader table leader xs) x))
    (find_exchange id (exchanges_without leader xs))

abbrev pub leader_after_end : Table → List Exchange → ℕ → ℕ → Event → Option ℕ
leader_after_end table xs id leader (Arrive now i asked) = None
leader_after_end table xs id leader (Answer now i r) = None
leader_after_end table xs id leader (Fail now i kind) = None
leader_after_end table xs id leader (Wake now i) = None
leader_after_end table xs id leader (Abandon i) = leader_after_abandon table xs id leader
leader_after_end table xs id leader (Overdue i) = None

-- One that waits for a leader does so until that has ended, by a reply or since the client went away, or until its own
-- time to wait is over. Where the leader's client went away it waits for the next leader, if it follows one.
abbrev pub leader_of_waiter_after_item : Table → List Exchange → ℕ → ℕ → Item → Option ℕ
leader_of_waiter_after_item table xs id leader i =
    cond (exchange_id_of_event i.event == id && is_overdue_event i.event) None
    (cond (exchange_id_of_event i.event == leader
    && (not (is_arrival_event i.event) && outcome_ends_exchange i.outcome))
    (leader_after_end table xs id leader i.event) (Some leader))

-- for whom the exchange of an id waits behind these items, where it began to wait for this leader: nobody, where it may
-- be woken
abbrev pub leader_of_waiter : Table → StoreAtStart → ℕ → ℕ → List Item → List Item → Option ℕ
leader_of_waiter table start id leader [] past = Some leader
leader_of_waiter table start id leader (i ∷ items) past =
    option_and_then (λ l. leader_of_waiter_after_item table (open_exchanges table start (items ++ past)) id l i)
    (leader_of_waiter table start id leader items past)

-- Who waits does so for one leader behind the other, each for as long as said above, and may be woken from then on.
abbrev pub RequestWaitsUntilLeaderEndsOrTimeout : Type 0
RequestWaitsUntilLeaderEndsOrTimeout =
    (table : Table) (start : StoreAtStart) (first leader : ℕ) (items before : List Item) (arrival : Item) →
    IsGoodHistory table start first (items ++ arrival ∷ before) → arrival.outcome ≡ Waits leader
    → NothingButItsTimeoutHappened (exchange_id_of_event arrival.event) items →
    stage_of_exchange (find_exchange (exchange_id_of_event arrival.event)
    (open_exchanges table start (items ++ arrival ∷ before)))
    ≡ Some (stage_with_leader_if_any
    (leader_of_waiter table start (exchange_id_of_event arrival.event) leader items (arrival ∷ before)))

-- It is woken where it waits for nobody any more, behind the end of its last leader or of its time, and once.
abbrev pub RequestIsWokenOnceAfterLeaderOrTimeout : Type 0
RequestIsWokenOnceAfterLeaderOrTimeout =
    (table : Table) (start : StoreAtStart) (first now leader : ℕ) (items before : List Item) (wake arrival : Item) →
    IsGoodHistory table start first (wake ∷ (items ++ arrival ∷ before)) → arrival.outcome ≡ Waits leader →
    wake.event ≡ Wake now (exchange_id_of_event arrival.event) → NoRequestOfIdArrives
    (exchange_id_of_event arrival.event) items →
    (leader_of_waiter table start (exchange_id_of_event arrival.event) leader items (arrival ∷ before) ≡ None)
    × (request_was_woken (exchange_id_of_event arrival.event) items ≡ false)

-- The client of an exchange goes away, and another leads on. What becomes of the one of this id that waited for the
-- exchange that ends: it waits for the next leader exactly where it could be sent the answer to that. All others may be
-- woken, and so may the next leader.
pub record WaiterFollowsTheNextLeader (table : Table) (start : StoreAtStart) (next : Exchange) (id : ℕ) (x : Exchange)
    (items : List Item) : Type 0 where
  pub it_leads : (x.id == next.id) ≡ true
      → stage_of_exchange (find_exchange id (open_exchanges table start items)) ≡ Some Released
  pub follows : WaiterCouldBeSentNextLeadersAnswer table next x
      → stage_of_exchange (find_exchange id (open_exchanges table start items)) ≡ Some (Waiting next.id)
  pub is_released_otherwise : (WaiterCouldBeSentNextLeadersAnswer table next x → ⊥)
      → stage_of_exchange (find_exchange id (open_exchanges table start items)) ≡ Some Released

-- the first of those that wait leads on, whose answer others could be sent
abbrev pub FirstWaiterBecomesLeader : Type 0
FirstWaiterBecomesLeader = (table : Table) (start : StoreAtStart) (first leader id : ℕ) (item : Item) (past : List Item)
    (next x : Exchange) →
    IsGoodHistory table start first (item ∷ past) → item.event ≡ Abandon leader
    → IsNextLeader table leader (open_exchanges table start past) next
    → find_exchange id (open_exchanges table start past) ≡ Some x → (leader == id) ≡ false
    → waits_for leader x.stage ≡ true → WaiterFollowsTheNextLeader table start next id x (item ∷ past)

-- where none may, all may be woken; and who doesn't wait for the exchange that ends stays as it is
abbrev pub NoWaiterLeadsWhereNoneMay : Type 0
NoWaiterLeadsWhereNoneMay = (table : Table) (start : StoreAtStart) (first leader id : ℕ) (item : Item)
    (past : List Item) (x : Exchange) →
    IsGoodHistory table start first (item ∷ past) → item.event ≡ Abandon leader
    → find_exchange id (open_exchanges table start past) ≡ Some x → (leader == id) ≡ false →
    (((next : Exchange) → IsNextLeader table leader (open_exchanges table start past) next → ⊥)
    → waits_for leader x.stage ≡ true
    → stage_of_exchange (find_exchange id (open_exchanges table start (item ∷ past))) ≡ Some Released)
    × (waits_for leader x.stage ≡ false → find_exchange id (open_exchanges table start (item ∷ past)) ≡ Some x)

-- Over a table whose waits have no end, as those of the versions before the fourth, nobody leads on: who waits does so
-- for one leader, until that has ended or, if it comes, its time.
abbrev pub NoWaiterLeadsWhereWaitsAreUnlimited : Type 0
NoWaiterLeadsWhereWaitsAreUnlimited = (table : Table) →
    ((line : ℕ) → is_some (wait_timeout_of table.lines line) ≡ false) →
    ((id : ℕ) (xs : List Exchange) → exchanges_after_abandon table id xs ≡ exchanges_after_end_and_release id xs)
    × ((start : StoreAtStart) (id leader : ℕ) (items past : List Item) →
    leader_of_waiter table start id leader items past
    ≡ cond (open_exchange_has_ended leader items || request_wait_timed_out id items) None (Some leader))

-- the time is over of one that waits for the answer to another, and of no other
abbrev pub TimeoutIsAcceptedExactlyForWaiters : Type 0
TimeoutIsAcceptedExactlyForWaiters = (table : Table) (start : StoreAtStart) (first id : ℕ) (trace : List Item)
    → IsGoodHistory table start first trace →
    (step_fault (open_exchanges table start trace) (Overdue id) ≡ None
    → ExchangeIsWaiting id (open_exchanges table start trace))
    × (ExchangeIsWaiting id (open_exchanges table start trace)
    → step_fault (open_exchanges table start trace) (Overdue id) ≡ None)

-- Then it may be woken, and nothing else has changed: no other exchange, whether it waits or leads, and nothing that is
-- held. Nothing is sent yet.
pub record TimeoutLetsOnlyThatWaiterBeWoken (table : Table) (start : StoreAtStart) (id : ℕ) (item : Item)
    (past : List Item) : Type 0 where
  pub outcome_is : item.outcome ≡ WaitsNoMore
  pub may_be_woken : ExchangeMayBeWoken id (open_exchanges table start (item ∷ past))
  pub others_stay : (other : ℕ) → (id == other) ≡ false →
      find_exchange other (open_exchanges table start (item ∷ past))
      ≡ find_exchange other (open_exchanges table start past)
  pub held_responses_are_unchanged : held_entries table start (item ∷ past) ≡ held_entries table start past

abbrev pub OverdueRequestMayBeWoken : Type 0
OverdueRequestMayBeWoken = (table : Table) (start : StoreAtStart) (first id : ℕ) (item : Item) (past : List Item)
    → IsGoodHistory table start first (item ∷ past) →
    item.event ≡ Overdue id → TimeoutLetsOnlyThatWaiterBeWoken table start id item past

-- those that may be woken stand in the order of arrival, so the first of them arrived first
abbrev pub ReleasedAreInOrderOfArrival : Type 0
ReleasedAreInOrderOfArrival = (table : Table) (start : StoreAtStart) (first : ℕ) (trace : List Item)
    → IsGoodHistory table start first trace →
    IdsAreInOrderOfArrival (wakeable_ids (open_exchanges table start trace)) trace

-- a wake is accepted exactly of those, at a moment that can be told
abbrev pub WakeIsAcceptedExactlyWhereReady : Type 0
WakeIsAcceptedExactlyWhereReady =
    (table : Table) (start : StoreAtStart) (first now id : ℕ) (trace : List Item)
    → IsGoodHistory table start first trace →
    ((serial_is_in id (wakeable_ids (open_exchanges table start trace)) ≡ true)
    → step_fault (open_exchanges table start trace) (Wake now id) ≡ moment_too_late_fault now)
    × (step_fault (open_exchanges table start trace) (Wake now id) ≡ None
    → serial_is_in id (wakeable_ids (open_exchanges table start trace)) ≡ true)

-- What it gets is decided anew over what is held then: a stored response that may be reused, or it
-- goes forward by the least rule against that. It doesn't wait again.
pub record WokenRequestIsJudged (table : Table) (start : StoreAtStart) (now id : ℕ) (item : Item)
    (past : List Item) : Type 0 where
  pub x : Exchange
  pub is_open : find_exchange id (open_exchanges table start past) ≡ Some x
  pub gets :
      ((s : ℕ) × StoredResponseIsReusable (policy_of table.lines x.line) (held_entries table start past) x.asked now s
      × (serial_used_by_outcome item.outcome ≡ Some s))
      ⊎ ((rule : ReuseRule) × (bytes : List ℕ)
      × IsLeastReuseRule (policy_of table.lines x.line) (held_entries table start past)
      x.asked now rule × (item.outcome ≡ Forward x.line bytes))

abbrev pub WokenRequestIsJudgedAnew : Type 0
WokenRequestIsJudgedAnew = (table : Table) (start : StoreAtStart) (first now id : ℕ) (item : Item) (past : List Item)
    → IsGoodHistory table start first (item ∷ past) →
    item.event ≡ Wake now id → WokenRequestIsJudged table start now id item past
