-- What becomes of those that waited for an exchange whose client went away.
use Rattle.std.proofs.Common.{◌≡◌, ℕ, Bool, true, false, not, cond, ◌&&◌, ◌||◌, eqb, Option, None, Some, is_some, List, [], ◌∷◌, ◌++◌, map, refl, ◌∙◌, ap}
use Rattle.std.specs.Prelude.{option_map, nat_le}
use Rattle.std.specs.Option.{option_and_then}
use Rattle.std.proofs.lemmas.Bool.{false_from_ne_true}
use Rattle.hx_allow.specs.TableLines.{Table}
use Rattle.hx_allow.specs.Matching.{policy_of, wait_timeout_of}
use Rattle.hx_reuse.specs.Conditions.{forwards_client_condition}
use Rattle.hx_reuse.specs.FilledRanges.{forwards_range}
use Rattle.proxy_core.specs.declared.open.stage.Stage.{Stage}
use Rattle.proxy_core.specs.declared.open.stage.Stage.TheVariants.{Waiting, Released}
use Rattle.proxy_core.specs.declared.open.exchange.Exchange.{Exchange}
use Rattle.proxy_core.specs.declared.open.as_next_leader.NextLeader.{NextLeader}
use Rattle.proxy_core.specs.declared.event.Event.{Event}
use Rattle.proxy_core.specs.declared.event.Event.TheVariants.{Arrive, Answer, Fail, Wake, Abandon, Overdue}
use Rattle.proxy_core.specs.Leading.{waits_for, has_authorization, bools_are_equal}
use Rattle.proxy_core.specs.LeadingOn.{wait_is_limited, as_next_leader, first_waiter_to_lead, count_waiting_for, most_followers_led_on, next_leader, follows_next_leader, stage_after_leader, waiter_after_abandon, exchanges_without, exchanges_after_abandon, IsNextLeader}
use Rattle.proxy_core.specs.Outcomes.{find_exchange, exchange_id_of_event}
use Rattle.proxy_core.specs.State.{open_exchanges_after_event, exchanges_after_end_and_release}
use Rattle.proxy_core.specs.Starts.{StoreAtStart}
use Rattle.proxy_core.specs.Traces.{Item}
use Rattle.proxy_core.specs.Histories.{held_entries, open_exchanges}
use Rattle.proxy_core.specs.Promises.{outcome_ends_exchange, is_arrival_event}
use Rattle.proxy_core.specs.Waiting.{open_exchange_has_ended, is_overdue_event, request_wait_timed_out, stage_of_exchange, leader_of_stage, leader_after_abandon, leader_after_end, leader_of_waiter_after_item, leader_of_waiter, FirstWaiterBecomesLeader, NoWaiterLeadsWhereNoneMay, NoWaiterLeadsWhereWaitsAreUnlimited}
use Rattle.proxy_core.proofs.ExchangeLists.{find-abandoned}
use Rattle.proxy_core.proofs.Moves.{and_none}
use Rattle.proxy_core.proofs.LedOn.{led_on-stage, led_on-others, next_is, next_in_words, follows_in_words, follows_by_words}

-- ---- who waits for whom

module _ (table : Table) (start : StoreAtStart) (leader id : ℕ) (item : Item) (past : List Item) (x : Exchange) (left : item.event ≡ Abandon leader) (here : find_exchange id (open_exchanges table start past) ≡ Some x) (other : eqb leader id ≡ false) where
  abbrev next_of : Option NextLeader
  next_of = next_leader table leader (open_exchanges table start past)

  after_it : find_exchange id (open_exchanges table start (item ∷ past)) ≡ Some (waiter_after_abandon table next_of leader x)
  after_it =
      ap (λ (v : Event). find_exchange id (open_exchanges_after_event table (held_entries table start past) (open_exchanges table start past) v item.outcome)) left
      ∙ (find-abandoned table leader id (open_exchanges table start past)
      ∙ (ap (λ b. cond b None (option_map (waiter_after_abandon table next_of leader) (find_exchange id (open_exchanges table start past)))) other
      ∙ ap (option_map (waiter_after_abandon table next_of leader)) here))

  -- by the next leader
  pub stage_after : (next : Option NextLeader) → next_of ≡ next → waits_for leader x.stage ≡ true → stage_of_exchange (find_exchange id (open_exchanges table start (item ∷ past))) ≡ Some (stage_after_leader table next x)
  stage_after next e w =
      ap stage_of_exchange after_it
      ∙ ap (λ (s : Stage). Some s) (led_on-stage table next_of leader x ∙ (ap (λ b. cond b (stage_after_leader table next_of x) x.stage) w ∙ ap (λ (n : Option NextLeader). stage_after_leader table n x) e))

  pub unchanged : waits_for leader x.stage ≡ false → find_exchange id (open_exchanges table start (item ∷ past)) ≡ Some x
  unchanged w = after_it ∙ ap (λ (y : Exchange). Some y) (led_on-others table next_of leader x w)

by_follow : (b : Bool) (n : ℕ) (c : Bool) → b ≡ c → Some (cond b (Waiting n) Released) ≡ Some (cond c (Waiting n) Released)
by_follow b n c e = ap (λ b. Some (cond b (Waiting n) Released)) e

pub first_leads_on : FirstWaiterBecomesLeader
first_leads_on table start first leader id item past next x g left n here other waits =
    let is = next_is table leader (open_exchanges table start past) next n in
    let stage = stage_after table start leader id item past x left here other (Some (as_next_leader next)) is waits in
    record {
      it_leads = λ e. stage ∙ by_follow (follows_next_leader table (as_next_leader next) x) next.id false (ap (λ b. not b && (wait_is_limited table x && (not (policy_of table.lines x.line).waits_for_stale || bools_are_equal (has_authorization x.asked) (has_authorization next.asked)))) e);
      follows = λ c. stage ∙ by_follow (follows_next_leader table (as_next_leader next) x) next.id true (follows_by_words table next x c);
      is_released_otherwise = λ no. stage ∙ by_follow (follows_next_leader table (as_next_leader next) x) next.id false (false_from_ne_true _ (λ t. no (follows_in_words table next x t)));
    }

pub nobody_leads_on : NoWaiterLeadsWhereNoneMay
nobody_leads_on table start first leader id item past x g left here other =
    (λ none waits. stage_after table start leader id item past x left here other None (nobody none) waits, λ waits. unchanged table start leader id item past x left here other waits)
  where
    by_next : (o : Option NextLeader) → next_leader table leader (open_exchanges table start past) ≡ o → ((next : Exchange) → IsNextLeader table leader (open_exchanges table start past) next → ⊥) → o ≡ None
    by_next None e none = refl
    by_next (Some next) e none =
        let w = next_in_words table leader (open_exchanges table start past) next e in
        absurd (none w.0 w.1)

    nobody : ((next : Exchange) → IsNextLeader table leader (open_exchanges table start past) next → ⊥) → next_leader table leader (open_exchanges table start past) ≡ None
    nobody none = by_next (next_leader table leader (open_exchanges table start past)) refl none

-- ---- where waits have no end

module _ (table : Table) (no_end : (line : ℕ) → is_some (wait_timeout_of table.lines line) ≡ false) where
  none_first : (id : ℕ) (xs : List Exchange) → first_waiter_to_lead table id xs ≡ None
  none_first id [] = refl
  none_first id (x ∷ xs) =
      ap (λ b. cond (waits_for id x.stage && (b && (not (forwards_range (policy_of table.lines x.line) x.asked) && (not (policy_of table.lines x.line).waits_for_stale || (not x.no_store && not (forwards_client_condition (policy_of table.lines x.line) x.asked)))))) (Some (as_next_leader x)) (first_waiter_to_lead table id xs)) (no_end x.line.number)
      ∙ (ap (λ b. cond b (Some (as_next_leader x)) (first_waiter_to_lead table id xs)) (and_none (waits_for id x.stage)) ∙ none_first id xs)

  none_next : (id : ℕ) (xs : List Exchange) → next_leader table id xs ≡ None
  none_next id xs = either (first_waiter_to_lead table id (exchanges_without id xs)) (none_first id (exchanges_without id xs)) (nat_le (count_waiting_for id xs) most_followers_led_on)
    where
      either : (o : Option NextLeader) → o ≡ None → (b : Bool) → cond b o None ≡ None
      either o e true = e
      either o e false = refl

  all_released : (id : ℕ) (xs : List Exchange) → exchanges_after_abandon table id xs ≡ exchanges_after_end_and_release id xs
  all_released id xs = ap (λ (next : Option NextLeader). map (waiter_after_abandon table next id) (exchanges_without id xs)) (none_next id xs)

  none_followed : (xs : List Exchange) (id l : ℕ) → leader_after_abandon table xs id l ≡ None
  none_followed xs id l =
      ap (λ (next : Option NextLeader). option_and_then (λ (x : Exchange). leader_of_stage (stage_after_leader table next x)) (find_exchange id (exchanges_without l xs))) (none_next l xs)
      ∙ nothing (find_exchange id (exchanges_without l xs))
    where
      nothing : (o : Option Exchange) → option_and_then (λ (x : Exchange). leader_of_stage (stage_after_leader table None x)) o ≡ None
      nothing None = refl
      nothing (Some x) = refl

  none_after : (xs : List Exchange) (id l : ℕ) (event : Event) → leader_after_end table xs id l event ≡ None
  none_after xs id l (Arrive now i asked) = refl
  none_after xs id l (Answer now i r) = refl
  none_after xs id l (Fail now i kind) = refl
  none_after xs id l (Wake now i) = refl
  none_after xs id l (Abandon i) = none_followed xs id l
  none_after xs id l (Overdue i) = refl

  -- an item more: whether the leader ends by it, has ended before, and the time is over by it, was before
  joined : (f : ℕ → Option ℕ) (l : ℕ) (ends closed now over : Bool) → f l ≡ cond now None (cond ends None (Some l)) →
      option_and_then f (cond (closed || over) None (Some l)) ≡ cond ((ends || closed) || cond now true over) None (Some l)
  joined f l true true true over h = refl
  joined f l true true false over h = refl
  joined f l false true now over h = refl
  joined f l true false true true h = refl
  joined f l true false false true h = refl
  joined f l true false true false h = h
  joined f l true false false false h = h
  joined f l false false true true h = refl
  joined f l false false false true h = refl
  joined f l false false true false h = h
  joined f l false false false false h = h

  one_leader : (start : StoreAtStart) (id l : ℕ) (items past : List Item) → leader_of_waiter table start id l items past ≡ cond (open_exchange_has_ended l items || request_wait_timed_out id items) None (Some l)
  one_leader start id l [] past = refl
  one_leader start id l (i ∷ items) past =
      let xs = open_exchanges table start (items ++ past) in
      ap (option_and_then (λ m. leader_of_waiter_after_item table xs id m i)) (one_leader start id l items past)
      ∙ joined (λ m. leader_of_waiter_after_item table xs id m i) l (eqb (exchange_id_of_event i.event) l && (not (is_arrival_event i.event) && outcome_ends_exchange i.outcome)) (open_exchange_has_ended l items)
      (eqb (exchange_id_of_event i.event) id && is_overdue_event i.event) (request_wait_timed_out id items)
      (ap (λ (o : Option ℕ). cond (eqb (exchange_id_of_event i.event) id && is_overdue_event i.event) None (cond (eqb (exchange_id_of_event i.event) l && (not (is_arrival_event i.event) && outcome_ends_exchange i.outcome)) o (Some l))) (none_after xs id l i.event))

pub one_leads_alone : NoWaiterLeadsWhereWaitsAreUnlimited
one_leads_alone table no_end = (all_released table no_end, one_leader table no_end)
