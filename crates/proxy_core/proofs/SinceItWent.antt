-- An exchange whose answer comes is overtaken exactly where an item since its request last went forward invalidates its key.
use Rattle.std.proofs.Common.{◌≡◌, ◌⊎◌, inl, inr, ℕ, true, false, ◌||◌, Option, None, Some, List, [], ◌∷◌, ◌++◌, refl, sym, ◌∙◌, ap, subst}
use Rattle.hx_target.specs.declared.keys.Key.{Key}
use Rattle.hx_framing.specs.declared.messages.Response.{Response}
use Rattle.hx_allow.specs.TableLines.{Table}
use Rattle.proxy_core.specs.declared.open.stage.Stage.{Stage}
use Rattle.proxy_core.specs.declared.open.stage.Stage.TheVariants.{Forwarded, Waiting, Released}
use Rattle.proxy_core.specs.declared.open.exchange.Exchange.{Exchange}
use Rattle.proxy_core.specs.declared.event.Event.{Event}
use Rattle.proxy_core.specs.declared.event.Event.TheVariants.{Answer}
use Rattle.proxy_core.specs.declared.core_fault.CoreFault.{CoreFault}
use Rattle.proxy_core.specs.Moments.{moment_too_late_fault}
use Rattle.proxy_core.specs.Leading.{is_waiting}
use Rattle.proxy_core.specs.LeadingOn.{wait_is_limited}
use Rattle.std.proofs.lemmas.Bool.{false≢true}
use Rattle.proxy_core.specs.Outcomes.{find_exchange, exchange_id_of_event, fault_at_exchange, fault_if_not_forwarded, fault_else}
use Rattle.proxy_core.specs.Traces.{Item}
use Rattle.proxy_core.specs.Histories.{open_exchanges, IsGoodHistory}
use Rattle.proxy_core.specs.Promises.{outcome_goes_forward, count_of_outcomes_of_id, some_item_overtakes_key, NoItemOvertakesKey}
use Rattle.proxy_core.specs.Carrying.{ExchangeWasJudged, EventArrivesOrWakesExchange, ExchangeWentForwardOnce, ExchangeWentForwardASecondTime, HasWaitedSinceItsArrival, second_forward_item}
use Rattle.proxy_core.specs.StoredAnswers.{KeyIsNotOvertakenSinceForward}
use Rattle.proxy_core.proofs.Marks.{none_of_some}
use Rattle.proxy_core.proofs.OpenLaws.{exchanges_are_overtaken_where_invalidated}
use Rattle.proxy_core.specs.Starts.{StoreAtStart}

-- ---- its request is at the origin

is_out : (a : Option CoreFault) (stage : Stage) → fault_else a (fault_if_not_forwarded stage) ≡ None → stage ≡ Forwarded
is_out a Forwarded h = refl
is_out None (Waiting leader) h = absurd (cc)
is_out None Released h = absurd (cc)
is_out (Some fault) (Waiting leader) h = absurd (cc)
is_out (Some fault) Released h = absurd (cc)

pub at_the_origin : (x : Exchange) (now id : ℕ) (r : Response) → fault_at_exchange (Some x) (Answer now id r) ≡ None → x.stage ≡ Forwarded
at_the_origin x now id r h = is_out (moment_too_late_fault now) x.stage h

-- ---- the last item by which it went there

record WentLast (past : List Item) (x : Exchange) : Type 0 where
  since : List Item
  before : List Item
  went : Item
  past_is : past ≡ since ++ went ∷ before
  is_of_exchange : exchange_id_of_event went.event ≡ x.id
  goes_forward : outcome_goes_forward went.outcome ≡ true
  is_the_last : count_of_outcomes_of_id outcome_goes_forward x.id since ≡ 0

id_of_judged : (event : Event) (now : ℕ) (x : Exchange) → EventArrivesOrWakesExchange event now x → exchange_id_of_event event ≡ x.id
id_of_judged event now x (inl arrives) = ap exchange_id_of_event arrives
id_of_judged event now x (inr wakes) = ap exchange_id_of_event wakes

together : (xs ys : List Item) (y : Item) (zs : List Item) → (xs ++ y ∷ ys) ++ zs ≡ xs ++ y ∷ (ys ++ zs)
together [] ys y zs = refl
together (x ∷ xs) ys y zs = ap (λ (is : List Item). x ∷ is) (together xs ys y zs)

went_last : (table : Table) (start : StoreAtStart) (x : Exchange) (past : List Item) → x.stage ≡ Forwarded → ExchangeWasJudged table start x past → WentLast past x
went_last table start x past out judged = by_way judged.went
  where
    by_way : ExchangeWentForwardOnce table start x judged.since judged.before judged.now judged.item.outcome ⊎ (ExchangeWentForwardASecondTime table x judged.since ⊎ HasWaitedSinceItsArrival table start x judged.since judged.before judged.item.outcome) → WentLast past x
    by_way (inl once) = record {
      since = judged.since;
      before = judged.before;
      went = judged.item;
      past_is = judged.past_is;
      is_of_exchange = id_of_judged judged.item.event judged.now x judged.judged;
      goes_forward = ap outcome_goes_forward once.outcome_is;
      is_the_last = once.no_forward_since;
    }
    by_way (inr (inl twice)) = record {
      since = twice.later;
      before = twice.between ++ judged.item ∷ judged.before;
      went = second_forward_item table x twice.now twice.response;
      past_is = judged.past_is ∙ ap (λ (is : List Item). is ++ judged.item ∷ judged.before) twice.since_is ∙ together twice.later twice.between (second_forward_item table x twice.now twice.response) (judged.item ∷ judged.before);
      is_of_exchange = refl;
      goes_forward = refl;
      is_the_last = twice.no_forward_since;
    }
    by_way (inr (inr waits)) = absurd (never_waits waits.stage)
      where
        never_waits : (x.stage ≡ Waiting waits.leader) ⊎ ((x.stage ≡ Released) ⊎ ((is_waiting x.stage ≡ true) × (wait_is_limited table x ≡ true))) → ⊥
        never_waits (inl h) = let no : Waiting waits.leader ≡ Forwarded = sym h ∙ out in cc
        never_waits (inr (inl h)) = let no : Released ≡ Forwarded = sym h ∙ out in cc
        never_waits (inr (inr h)) = false≢true (sym (ap is_waiting out) ∙ h.0)

-- ---- its mark, in words and back

some_of_none : (key : Key) (items past : List Item) → NoItemOvertakesKey key items past → some_item_overtakes_key key items past ≡ false
some_of_none key [] past h = refl
some_of_none key (i ∷ items) past h = ap (λ b. b || some_item_overtakes_key key items past) h.0 ∙ some_of_none key items past h.1

module _ (table : Table) (start : StoreAtStart) (first : ℕ) (past : List Item) (good : IsGoodHistory table start first past) (x : Exchange) (found : find_exchange x.id (open_exchanges table start past) ≡ Some x) (out : x.stage ≡ Forwarded) where
  mark_is : (since before : List Item) (went : Item) → past ≡ since ++ went ∷ before → exchange_id_of_event went.event ≡ x.id → outcome_goes_forward went.outcome ≡ true → count_of_outcomes_of_id outcome_goes_forward x.id since ≡ 0 →
      x.overtaken ≡ some_item_overtakes_key x.asked.target.key since (went ∷ before)
  mark_is since before went is id goes last =
      exchanges_are_overtaken_where_invalidated table start first since before went x (subst (IsGoodHistory table start first) is good) goes
      (ap (λ n. count_of_outcomes_of_id outcome_goes_forward n since) id ∙ last)
      (ap (λ n. find_exchange n (open_exchanges table start (since ++ went ∷ before))) id ∙ sym (ap (λ (is : List Item). find_exchange x.id (open_exchanges table start is)) is) ∙ found)
      out

  pub unmarked : KeyIsNotOvertakenSinceForward past x → x.overtaken ≡ false
  unmarked stays =
      mark_is stays.since stays.before stays.went stays.past_is stays.is_of_exchange stays.goes_forward stays.is_the_last
      ∙ some_of_none x.asked.target.key stays.since (stays.went ∷ stays.before) stays.nothing_overtakes

  pub stays_valid : ExchangeWasJudged table start x past → x.overtaken ≡ false → KeyIsNotOvertakenSinceForward past x
  stays_valid judged plain =
      let last = went_last table start x past out judged in
      record {
        since = last.since;
        before = last.before;
        went = last.went;
        past_is = last.past_is;
        is_of_exchange = last.is_of_exchange;
        goes_forward = last.goes_forward;
        is_the_last = last.is_the_last;
        nothing_overtakes =
            none_of_some x.asked.target.key last.since (last.went ∷ last.before)
            (sym (mark_is last.since last.before last.went last.past_is last.is_of_exchange last.goes_forward last.is_the_last) ∙ plain);
      }
