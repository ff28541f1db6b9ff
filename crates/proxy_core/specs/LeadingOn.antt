-- Who leads on where the client of a leader goes away before its answer, and who waits for that one.
--
-- wait_is_limited: over its line the request of an exchange waits for a limited time
-- may_lead_next, first_waiter_to_lead: the first of those that wait whose answer others could be sent
-- count_waiting_for, most_followers_led_on, next_leader: the same, where not too many wait
-- follows_next_leader: one that could be sent that answer, and waits for it
-- stage_after_leader, waiter_after_abandon, exchanges_after_abandon: what becomes of them
-- ExchangeMayBecomeLeader, IsNextLeader, WaiterCouldBeSentNextLeadersAnswer: the same in words
use Rattle.std.specs.Prelude.{◌≡◌, ℕ, ◌≤◌, nat_le, ◌==◌, ◌&&◌, ◌||◌, not, Bool, true, false, List, [], ◌∷◌, ◌++◌}
use Rattle.std.specs.Prelude.{Option, Some, None, cond, is_some, filter, length, map}
use Rattle.std.specs.List.{AllByRecursion}
use Rattle.hx_allow.specs.TableLines.{Table}
use Rattle.hx_allow.specs.Matching.{policy_of, wait_timeout_of}
use Rattle.hx_reuse.specs.Conditions.{forwards_client_condition}
use Rattle.hx_reuse.specs.FilledRanges.{forwards_range}
use Rattle.proxy_core.specs.declared.open.stage.Stage.{Stage}
use Rattle.proxy_core.specs.declared.open.stage.Stage.TheVariants.{Waiting, Released}
use Rattle.proxy_core.specs.declared.open.exchange.Exchange.{Exchange}
use Rattle.proxy_core.specs.declared.open.as_next_leader.NextLeader.{NextLeader}
use Rattle.proxy_core.specs.Leading.{waits_for, has_authorization, bools_are_equal}

-- own: over a line of a table before the fourth version a request waits without end, and once, as ever ("The first that
-- waits leads on")
abbrev pub wait_is_limited : Table → Exchange → Bool
wait_is_limited table x = is_some (wait_timeout_of table.lines x.line.number)

-- Nothing that is known of its request keeps the answer to it from all others. It is for this client alone where a
-- range goes to the origin (RFC 9110, section 14.2). What else may keep it back is looked at over a line with the word:
-- it isn't stored where the request has no-store (RFC 9111, section 5.2.1.5), and may be a 304 to the client's own
-- condition.
abbrev pub may_lead_next : Table → Exchange → Bool
may_lead_next table x =
    wait_is_limited table x
    && (not (forwards_range (policy_of table.lines x.line) x.asked)
    && (not (policy_of table.lines x.line).waits_for_stale
    || (not x.no_store && not (forwards_client_condition (policy_of table.lines x.line) x.asked))))

abbrev pub as_next_leader : Exchange → NextLeader
as_next_leader x = record { id = x.id; authorized = has_authorization x.asked }

-- of the exchanges, which stand in the order of arrival, the first that waits for the one of this id and may lead on
abbrev pub first_waiter_to_lead : Table → ℕ → List Exchange → Option NextLeader
first_waiter_to_lead table id [] = None
first_waiter_to_lead table id (x ∷ xs) =
    cond (waits_for id x.stage && may_lead_next table x) (Some (as_next_leader x)) (first_waiter_to_lead table id xs)

abbrev pub exchanges_without : ℕ → List Exchange → List Exchange
exchanges_without id xs = filter (λ x. not (x.id == id)) xs

-- how many wait for the exchange of this id
abbrev pub count_waiting_for : ℕ → List Exchange → ℕ
count_waiting_for id xs = length (filter (λ x. waits_for id x.stage) xs)

-- own: so many are led on at most. Each of them is looked at, so what one client costs that goes away has a bound
-- ("The first that waits leads on").
abbrev pub most_followers_led_on : ℕ
most_followers_led_on = 512

-- of the others the first that may lead on, where no more wait than are led on
abbrev pub next_leader : Table → ℕ → List Exchange → Option NextLeader
next_leader table id xs =
    cond (nat_le (count_waiting_for id xs) most_followers_led_on)
    (first_waiter_to_lead table id (exchanges_without id xs)) None

-- It could be sent the answer to the next leader, whose key is its own.
-- own: as where it began to wait, over a line with the word one waits for one with Authorization exactly where it has
-- Authorization (RFC 9111, section 3.5)
abbrev pub follows_next_leader : Table → NextLeader → Exchange → Bool
follows_next_leader table next x =
    not (x.id == next.id)
    && (wait_is_limited table x
    && (not (policy_of table.lines x.line).waits_for_stale
    || bools_are_equal (has_authorization x.asked) next.authorized))

-- One that follows waits for the next leader. That one itself may be woken, and so may all others, which may not be
-- sent its answer.
abbrev pub stage_after_leader : Table → Option NextLeader → Exchange → Stage
stage_after_leader table None x = Released
stage_after_leader table (Some next) x = cond (follows_next_leader table next x) (Waiting next.id) Released

-- what becomes of an exchange where the client of the one of this id goes away
abbrev pub waiter_after_abandon : Table → Option NextLeader → ℕ → Exchange → Exchange
waiter_after_abandon table next id x =
    cond (waits_for id x.stage) (record x { stage = stage_after_leader table next x }) x

-- own: an exchange ends since its client went away, and the first that waits for it leads on, if one may ("The first
-- that waits leads on")
abbrev pub exchanges_after_abandon : Table → ℕ → List Exchange → List Exchange
exchanges_after_abandon table id xs =
    map (waiter_after_abandon table (next_leader table id xs) id) (exchanges_without id xs)

-- ---- in words

-- It waits for the exchange of this id, for a limited time, and others could be sent the answer to it.
pub record ExchangeMayBecomeLeader (table : Table) (id : ℕ) (x : Exchange) : Type 0 where
  pub another : (x.id == id) ≡ false
  pub waits : waits_for id x.stage ≡ true
  pub has_limited_wait : wait_is_limited table x ≡ true
  pub whole : forwards_range (policy_of table.lines x.line) x.asked ≡ false
  pub answer_may_serve_others : (policy_of table.lines x.line).waits_for_stale ≡ true
      → (x.no_store ≡ false) × (forwards_client_condition (policy_of table.lines x.line) x.asked ≡ false)

-- it is the first of these to arrive, and no more wait than are led on
pub record IsNextLeader (table : Table) (id : ℕ) (xs : List Exchange) (x : Exchange) : Type 0 where
  pub before : List Exchange
  pub behind : List Exchange
  pub open_exchanges_are : xs ≡ before ++ x ∷ behind
  pub it_may_lead : ExchangeMayBecomeLeader table id x
  pub none_before : AllByRecursion (λ (y : Exchange). ExchangeMayBecomeLeader table id y → ⊥) before
  pub few_enough_wait : count_waiting_for id xs ≤ most_followers_led_on

-- Another exchange waits for a limited time, and the answer to this one could be sent to it: over a line with the word
-- both have Authorization, or neither has.
pub record WaiterCouldBeSentNextLeadersAnswer (table : Table) (next x : Exchange) : Type 0 where
  pub another : (x.id == next.id) ≡ false
  pub has_limited_wait : wait_is_limited table x ≡ true
  pub has_same_authorization : (policy_of table.lines x.line).waits_for_stale ≡ true
      → has_authorization x.asked ≡ has_authorization next.asked
