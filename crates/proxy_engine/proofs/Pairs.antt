-- What keeps connections, links and open exchanges together.
use Rattle.std.proofs.Common.{◌≡◌, ◌≢◌, ◌⊎◌, inl, inr, ℕ, zero, suc, ◌+◌, ◌<◌, ◌≤◌, ◌==◌, List, [], ◌∷◌, ◌++◌, length, get_or, set, refl, sym, ap, ◌∙◌, subst, arith, Bool, true, false, not, ◌&&◌, cond, Option, None, Some, is_some, map, Result, Ok, Err, OnOk, OnErr}
use Rattle.std.proofs.lemmas.Bool.{cases_lt, eqb-true, eq-eqb, lt-ltb}
use Rattle.std.proofs.lemmas.Bool.Decides.{eqb_tells}
use Rattle.std.proofs.lemmas.List.{get_or-set_same, get_or-set_other, get_or-map, length_push}
use Rattle.std.proofs.Math.ListN.{get_or-append, length-map, length-set}
use Rattle.std.proofs.Math.Seq.{get_or-append_seam}
use Rattle.hx_fields.specs.declared.limits.TheConstants.{START_OF_YEAR_10000}
use Rattle.proxy_core.specs.Moments.{moment_too_late_fault}
use Rattle.proxy_core.specs.Outcomes.{find_exchange, fault_else, fault_if_not_forwarded, fault_if_not_released, fault_at_exchange, step_fault}
use Rattle.proxy_core.specs.Leading.{is_forwarded, is_waiting as stage_waits, is_released, waits_for}
use Rattle.proxy_core.specs.Waiting.{ExchangeMayBeWoken}
use Rattle.proxy_core.specs.declared.open.stage.Stage.{Stage}
use Rattle.proxy_core.specs.declared.open.stage.Stage.TheVariants as stages
use Rattle.std.specs.Prelude.{filter, option_map}
use Rattle.hx_framing.specs.declared.messages.Response.{Response}
use Rattle.hx_status.specs.declared.cause.FailKind.{FailKind}
use Rattle.proxy_core.specs.Allowing.{verdict_of_asked}
use Rattle.proxy_core.specs.declared.core_fault.CoreFault.{CoreFault}
use Rattle.proxy_core.specs.declared.core_fault.CoreFault.TheVariants.{MomentTooLate, OutOfMemory, NotForwarded, NotReady}
use Rattle.hx_hop.specs.declared.request_view.Asked.{Asked}
use Rattle.hx_allow.specs.TableLines.{Table}
use Rattle.hx_store.specs.Stored.{Stored}
use Rattle.proxy_core.specs.LeadingOn.{next_leader, stage_after_leader, waiter_after_abandon, exchanges_after_abandon}
use Rattle.proxy_core.proofs.LedOn.{behind-not_out}
use Rattle.proxy_engine.proofs.Ending.{Remains, Renews, renewed}
use Rattle.proxy_core.specs.Scopes.{Scope, key_is_in_scope}
use Rattle.proxy_core.specs.State.{exchanges_after_end_and_release, exchange_released_from_leader, forwarded_exchange, exchange_begun_waiting, line_of_verdict, open_exchanges_after_event, exchange_overtaken_if_in_scope, exchanges_after_exchange_end, exchanges_overtaken_in_scope, scope_purged, exchange_released_by_timeout, exchange_after_wait_timeout}
use Rattle.proxy_core.specs.declared.outcome.Outcome.{Outcome}
use Rattle.proxy_core.specs.declared.event.Event.{Event}
use Rattle.proxy_core.specs.declared.event.Event.TheVariants.{Arrive, Answer, Fail, Wake}
use Rattle.proxy_core.specs.declared.outcome.Outcome.TheVariants.{Reply, Forward, Waits, Ended, WaitsNoMore}
use Rattle.proxy_core.specs.declared.open.exchange.Exchange.{Exchange}
use Rattle.proxy_engine.specs.Activities.{link_place_of_activity, has_exchange, is_forwarded_if_exchange}
use Rattle.proxy_engine.specs.Pairing.{ConnectionsLinksAndExchangesMatch, is_forwarded_if_open, activity_at, owner_at, activity_of_connection, owner_of_open_link, activities_of_connections, owners_of_links, activities_after_outcome, owners_after_outcome}
use Rattle.proxy_engine.specs.State.{NoDisconnectedClientHasExchange, is_gone_if_connection, connection_is_open_and_idle}
use Rattle.proxy_engine.proofs.ActivityCases.{open_from, forwarded_from, waiting_by}
use Rattle.proxy_engine.proofs.Keeping.{inside}
use Rattle.proxy_engine.proofs.Changes.{free_there, free_activity}
use Rattle.proxy_engine.proofs.Searching.{some_from}
use Rattle.proxy_engine.specs.declared.endpoints.activities.Activity.{Activity}
use Rattle.proxy_engine.specs.declared.endpoints.activities.Activity.TheVariants.{Free, Forwarded, Waiting}
use Rattle.proxy_engine.specs.declared.endpoints.ends.Connection.{Connection}
use Rattle.proxy_engine.specs.declared.endpoints.ends.Link.{Link}

some_same : {B : Type 0} {a b : B} → Some a ≡ Some b → a ≡ b
some_same h = cc

-- beyond the list nothing stands
beyond : (xs : List (Option ℕ)) (i : ℕ) → length xs ≤ i → owner_at xs i ≡ None
beyond [] i l = refl
beyond (x ∷ xs) zero l = absurd (omega (arith, l))
beyond (x ∷ xs) (suc i) l = beyond xs i (omega (arith, l))

beyond_all : (activities : List Activity) (i : ℕ) → length activities ≤ i → activity_at activities i ≡ Free
beyond_all [] i l = refl
beyond_all (a ∷ activities) zero l = absurd (omega (arith, l))
beyond_all (a ∷ activities) (suc i) l = beyond_all activities i (omega (arith, l))

-- what stands, stands within
pub within : (xs : List (Option ℕ)) (i j : ℕ) → owner_at xs i ≡ Some j → i < length xs
within xs i j e = by_order (cases_lt i (length xs))
  where
    by_order : (i < length xs) ⊎ (length xs ≤ i) → i < length xs
    by_order (inl l) = l
    by_order (inr l) = let none = beyond xs i l in cc

pub has_place : (activities : List Activity) (i j : ℕ) → link_place_of_activity (activity_at activities i) ≡ Some j → i < length activities
has_place activities i j e = by_order (cases_lt i (length activities))
  where
    by_order : (i < length activities) ⊎ (length activities ≤ i) → i < length activities
    by_order (inl l) = l
    by_order (inr l) = let none : link_place_of_activity (activity_at activities i) ≡ None = ap link_place_of_activity (beyond_all activities i l) in cc

same_or_not : (i j : ℕ) → (i ≡ j) ⊎ (i ≢ j)
same_or_not i j = by_order (cases_lt i j) (cases_lt j i)
  where
    by_order : (i < j) ⊎ (j ≤ i) → (j < i) ⊎ (i ≤ j) → (i ≡ j) ⊎ (i ≢ j)
    by_order (inl l) o = inr (λ e. absurd (omega (arith, l, e)))
    by_order (inr l) (inl m) = inr (λ e. absurd (omega (arith, m, e)))
    by_order (inr l) (inr m) = inl (omega (arith, l, m))

-- one more place, which is free
pub at_more : (activities : List Activity) (i : ℕ) → activity_at (activities ++ Free ∷ []) i ≡ activity_at activities i
at_more [] zero = refl
at_more [] (suc i) = refl
at_more (a ∷ activities) zero = refl
at_more (a ∷ activities) (suc i) = at_more activities i

-- a connection more
pub paired_more : (activities : List Activity) (owners : List (Option ℕ)) (xs : List Exchange) → ConnectionsLinksAndExchangesMatch activities owners xs → ConnectionsLinksAndExchangesMatch (activities ++ Free ∷ []) owners xs
paired_more activities owners xs h = record {
  owned = λ i j e. h.owned i j (sym (ap link_place_of_activity (at_more activities i)) ∙ e);
  linked = λ i j e. ap link_place_of_activity (at_more activities i) ∙ h.linked i j e;
  opened = λ i. h.opened i ∙ sym (ap is_forwarded_if_exchange (at_more activities i));
  numbered = h.numbered;
}

other_number : (a b : ℕ) → a ≢ b → (a == b) ≡ false
other_number a b n = by_cases (eqb_tells a b)
  where
    by_cases : (((a == b) ≡ true) × (a ≡ b)) ⊎ (((a == b) ≡ false) × (a ≢ b)) → (a == b) ≡ false
    by_cases (inl p) = absurd (n p.1)
    by_cases (inr p) = p.0

gone_by : (b : Bool) (id : ℕ) (x : Exchange) (xs : List Exchange) → (x.id == id) ≡ b → find_exchange id xs ≡ None → find_exchange id (cond (not b) (x ∷ xs) xs) ≡ None
gone_by true id x xs e h = h
gone_by false id x xs e h = ap (λ (b : Bool). cond b (Some x) (find_exchange id xs)) e ∙ h

abbrev but : ℕ → List Exchange → List Exchange
but id xs = filter (λ (x : Exchange). not (x.id == id)) xs

-- the exchange that ends isn't open any more
find_closed : (id : ℕ) (xs : List Exchange) → find_exchange id (but id xs) ≡ None
find_closed id [] = refl
find_closed id (x ∷ xs) = gone_by (x.id == id) id x (but id xs) refl (find_closed id xs)

kept_by : (b : Bool) (id other : ℕ) (x : Exchange) (xs ys : List Exchange) → (x.id == id) ≡ b → other ≢ id → find_exchange other xs ≡ find_exchange other ys → find_exchange other (cond (not b) (x ∷ xs) xs) ≡ find_exchange other (x ∷ ys)
kept_by true id other x xs ys e n h =
    let same : x.id ≡ id = eqb-true x.id id e in
    h ∙ sym (ap (λ (b : Bool). cond b (Some x) (find_exchange other ys)) (other_number x.id other (λ q. n (sym q ∙ same))))
kept_by false id other x xs ys e n h = ap (λ (o : Option Exchange). cond (x.id == other) (Some x) o) h

-- the others are
find_kept : (id other : ℕ) (xs : List Exchange) → other ≢ id → find_exchange other (but id xs) ≡ find_exchange other xs
find_kept id other [] n = refl
find_kept id other (x ∷ xs) n = kept_by (x.id == id) id other x (but id xs) xs refl n (find_kept id other xs n)

-- whether its request is at the origin
abbrev out : Option Exchange → Option Bool
out o = option_map (λ (x : Exchange). is_forwarded x.stage) o

none_out : (o : Option Exchange) → out o ≡ None → o ≡ None
none_out None h = refl
none_out (Some x) h = absurd (cc)

pub some_out : (o : Option Exchange) (b : Bool) → out o ≡ Some b → is_some o ≡ true
some_out None b h = absurd (cc)
some_out (Some x) b h = refl

out_by : (b : Bool) (x : Exchange) (o p : Option Exchange) → out o ≡ out p → out (cond b (Some x) o) ≡ out (cond b (Some x) p)
out_by true x o p h = refl
out_by false x o p h = h

waits_apart : (l : ℕ) (s : Stage) → waits_for l s ≡ true → ◌≡◌ {A = Option Bool} (Some false) (Some (is_forwarded s))
waits_apart l stages.Forwarded h = absurd (cc)
waits_apart l (stages.Waiting m) h = refl
waits_apart l stages.Released h = refl

released_by : (b : Bool) (l : ℕ) (x : Exchange) (id : ℕ) (o p : Option Exchange) → waits_for l x.stage ≡ b → out o ≡ out p
    → out (cond ((cond b (record x { stage = stages.Released }) x).id == id) (Some (cond b (record x { stage = stages.Released }) x)) o) ≡ out (cond (x.id == id) (Some x) p)
released_by true l x id o p w h = open_by (x.id == id)
  where
    open_by : (b : Bool) → out (cond b (Some (record x { stage = stages.Released })) o) ≡ out (cond b (Some x) p)
    open_by true = waits_apart l x.stage w
    open_by false = h
released_by false l x id o p w h = out_by (x.id == id) x o p h

-- one that is released has waited
out_released : (l id : ℕ) (xs : List Exchange) → is_forwarded_if_open id (map (exchange_released_from_leader l) xs) ≡ is_forwarded_if_open id xs
out_released l id [] = refl
out_released l id (x ∷ xs) = released_by (waits_for l x.stage) l x id (find_exchange id (map (exchange_released_from_leader l) xs)) (find_exchange id xs) refl (out_released l id xs)

waits_apart_still : (s : Stage) → stage_waits s ≡ true → ◌≡◌ {A = Option Bool} (Some false) (Some (is_forwarded s))
waits_apart_still stages.Forwarded h = absurd (cc)
waits_apart_still (stages.Waiting m) h = refl
waits_apart_still stages.Released h = absurd (cc)

overdue_by : (b : Bool) (x : Exchange) (id : ℕ) (o p : Option Exchange) → (b ≡ true → stage_waits x.stage ≡ true) → out o ≡ out p
    → out (cond ((cond b (exchange_released_by_timeout x) x).id == id) (Some (cond b (exchange_released_by_timeout x) x)) o) ≡ out (cond (x.id == id) (Some x) p)
overdue_by true x id o p w h = open_by (x.id == id)
  where
    open_by : (b : Bool) → out (cond b (Some (exchange_released_by_timeout x)) o) ≡ out (cond b (Some x) p)
    open_by true = waits_apart_still x.stage (w refl)
    open_by false = h
overdue_by false x id o p w h = out_by (x.id == id) x o p h

second_holds : (a b : Bool) → (a && b) ≡ true → b ≡ true
second_holds true b h = h
second_holds false b h = absurd (cc)

-- so has one whose time to wait is over
out_overdue : (n id : ℕ) (xs : List Exchange) → is_forwarded_if_open id (map (exchange_after_wait_timeout n) xs) ≡ is_forwarded_if_open id xs
out_overdue n id [] = refl
out_overdue n id (x ∷ xs) =
    overdue_by (x.id == n && stage_waits x.stage) x id (find_exchange id (map (exchange_after_wait_timeout n) xs)) (find_exchange id xs) (second_holds (x.id == n) (stage_waits x.stage)) (out_overdue n id xs)

pub paired_overdue : (activities : List Activity) (owners : List (Option ℕ)) (xs : List Exchange) (n : ℕ) → ConnectionsLinksAndExchangesMatch activities owners xs → ConnectionsLinksAndExchangesMatch activities owners (map (exchange_after_wait_timeout n) xs)
paired_overdue activities owners xs n h = record {
  owned = h.owned;
  linked = h.linked;
  opened = λ i. out_overdue n (i + 1) xs ∙ h.opened i;
  numbered = out_overdue n 0 xs ∙ h.numbered;
}

forwarded_closed : (id : ℕ) (xs : List Exchange) → is_forwarded_if_open id (exchanges_after_end_and_release id xs) ≡ None
forwarded_closed id xs = out_released id id (but id xs) ∙ ap out (find_closed id xs)

forwarded_kept : (id other : ℕ) (xs : List Exchange) → other ≢ id → is_forwarded_if_open other (exchanges_after_end_and_release id xs) ≡ is_forwarded_if_open other xs
forwarded_kept id other xs n = out_released id other (but id xs) ∙ ap out (find_kept id other xs n)

-- a new one is open, and the others are as before
forwarded_pushed : (id : ℕ) (xs : List Exchange) (x : Exchange) → x.id ≡ id → find_exchange id xs ≡ None → is_forwarded_if_open id (xs ++ x ∷ []) ≡ Some (is_forwarded x.stage)
forwarded_pushed id [] x e n = ap (λ (b : Bool). out (cond b (Some x) None)) (eq-eqb x.id id e)
forwarded_pushed id (y ∷ xs) x e n = pushed_by (y.id == id) n (λ m. forwarded_pushed id xs x e m)
  where
    pushed_by : (b : Bool) → cond b (Some y) (find_exchange id xs) ≡ None → (find_exchange id xs ≡ None → is_forwarded_if_open id (xs ++ x ∷ []) ≡ Some (is_forwarded x.stage))
        → out (cond b (Some y) (find_exchange id (xs ++ x ∷ []))) ≡ Some (is_forwarded x.stage)
    pushed_by true n rest = absurd (cc)
    pushed_by false n rest = rest n

forwarded_before : (id : ℕ) (xs : List Exchange) (x : Exchange) → x.id ≢ id → is_forwarded_if_open id (xs ++ x ∷ []) ≡ is_forwarded_if_open id xs
forwarded_before id [] x n = ap (λ (b : Bool). out (cond b (Some x) None)) (other_number x.id id n)
forwarded_before id (y ∷ xs) x n = out_by (y.id == id) y (find_exchange id (xs ++ x ∷ [])) (find_exchange id xs) (forwarded_before id xs x n)

-- links and connections that read the same
pub paired_same : (ds ds1 : List Activity) (os os1 : List (Option ℕ)) (xs : List Exchange) → ds1 ≡ ds → os1 ≡ os → ConnectionsLinksAndExchangesMatch ds os xs → ConnectionsLinksAndExchangesMatch ds1 os1 xs
paired_same ds ds1 os os1 xs d o w = subst (λ (ds : List Activity). ConnectionsLinksAndExchangesMatch ds os1 xs) (sym d) (subst (λ (os : List (Option ℕ)). ConnectionsLinksAndExchangesMatch ds os xs) (sym o) w)

-- ---- an exchange ends

pub paired_freed : (activities : List Activity) (owners : List (Option ℕ)) (xs : List Exchange) (i j : ℕ) → link_place_of_activity (activity_at activities i) ≡ Some j → ConnectionsLinksAndExchangesMatch activities owners xs → ConnectionsLinksAndExchangesMatch (set activities i Free) (set owners j None) (exchanges_after_end_and_release (i + 1) xs)
paired_freed activities owners xs i j here h = record {
  owned = λ k l e. owned_by k l e (same_or_not k i);
  linked = λ k l e. linked_by k l e (same_or_not l j);
  opened = λ k. opened_by k (same_or_not k i);
  numbered = forwarded_kept (i + 1) 0 xs (λ q. absurd (omega (arith, q))) ∙ h.numbered;
}
  where
    there : owner_at owners j ≡ Some i
    there = h.owned i j here

    owned_by : (k l : ℕ) → link_place_of_activity (activity_at (set activities i Free) k) ≡ Some l → (k ≡ i) ⊎ (k ≢ i) → owner_at (set owners j None) l ≡ Some k
    owned_by k l e (inl same) =
        let free : activity_at (set activities i Free) i ≡ Free = get_or-set_same activities i Free Free (has_place activities i j here) in
        let none_there : link_place_of_activity (activity_at (set activities i Free) k) ≡ None = ap link_place_of_activity (ap (activity_at (set activities i Free)) same ∙ free) in
        cc
    owned_by k l e (inr other) =
        let was : link_place_of_activity (activity_at activities k) ≡ Some l = sym (ap link_place_of_activity (get_or-set_other activities i k Free Free other)) ∙ e in
        let owner : owner_at owners l ≡ Some k = h.owned k l was in
        let apart : l ≢ j = λ q. other (some_same (sym owner ∙ (ap (owner_at owners) q ∙ there))) in
        get_or-set_other owners j l None None apart ∙ owner

    linked_by : (k l : ℕ) → owner_at (set owners j None) l ≡ Some k → (l ≡ j) ⊎ (l ≢ j) → link_place_of_activity (activity_at (set activities i Free) k) ≡ Some l
    linked_by k l e (inl same) =
        let none : owner_at (set owners j None) j ≡ None = get_or-set_same owners j None None (within owners j i there) in
        let none_there : owner_at (set owners j None) l ≡ None = ap (owner_at (set owners j None)) same ∙ none in
        cc
    linked_by k l e (inr other) =
        let was : owner_at owners l ≡ Some k = sym (get_or-set_other owners j l None None other) ∙ e in
        let link : link_place_of_activity (activity_at activities k) ≡ Some l = h.linked k l was in
        let apart : k ≢ i = λ q. other (some_same (sym link ∙ (ap (λ n. link_place_of_activity (activity_at activities n)) q ∙ here))) in
        ap link_place_of_activity (get_or-set_other activities i k Free Free apart) ∙ link

    opened_by : (k : ℕ) → (k ≡ i) ⊎ (k ≢ i) → is_forwarded_if_open (k + 1) (exchanges_after_end_and_release (i + 1) xs) ≡ is_forwarded_if_exchange (activity_at (set activities i Free) k)
    opened_by k (inl same) =
        subst (λ n. is_forwarded_if_open (n + 1) (exchanges_after_end_and_release (i + 1) xs) ≡ is_forwarded_if_exchange (activity_at (set activities i Free) n)) (sym same)
        (forwarded_closed (i + 1) xs ∙ sym (ap is_forwarded_if_exchange (get_or-set_same activities i Free Free (has_place activities i j here))))
    opened_by k (inr other) =
        forwarded_kept (i + 1) (k + 1) xs (λ q. other (omega (arith, q))) ∙ (h.opened k ∙ sym (ap is_forwarded_if_exchange (get_or-set_other activities i k Free Free other)))

-- ---- what names no link changes none

pub waits_inside : (activities : List Activity) (i : ℕ) → activity_at activities i ≡ Waiting → i < length activities
waits_inside activities i e = by_order (cases_lt i (length activities))
  where
    by_order : (i < length activities) ⊎ (length activities ≤ i) → i < length activities
    by_order (inl l) = l
    by_order (inr l) =
        let no : Free ≡ Waiting = sym (beyond_all activities i l) ∙ e in
        absurd (cc)

module _ (activities : List Activity) (owners : List (Option ℕ)) (i : ℕ) (a : Activity) (inside : i < length activities) (was : link_place_of_activity (activity_at activities i) ≡ None) (now : link_place_of_activity a ≡ None) where
  quiet_owned : ((k l : ℕ) → link_place_of_activity (activity_at activities k) ≡ Some l → owner_at owners l ≡ Some k) → (k l : ℕ) → link_place_of_activity (activity_at (set activities i a) k) ≡ Some l → owner_at owners l ≡ Some k
  quiet_owned owned k l e = by_place (same_or_not k i)
    where
      by_place : (k ≡ i) ⊎ (k ≢ i) → owner_at owners l ≡ Some k
      by_place (inl same) =
          let none : link_place_of_activity (activity_at (set activities i a) k) ≡ None = ap (λ n. link_place_of_activity (activity_at (set activities i a) n)) same ∙ (ap link_place_of_activity (get_or-set_same activities i a Free inside) ∙ now) in
          cc
      by_place (inr other) = owned k l (sym (ap link_place_of_activity (get_or-set_other activities i k a Free other)) ∙ e)

  quiet_linked : ((k l : ℕ) → owner_at owners l ≡ Some k → link_place_of_activity (activity_at activities k) ≡ Some l) → (k l : ℕ) → owner_at owners l ≡ Some k → link_place_of_activity (activity_at (set activities i a) k) ≡ Some l
  quiet_linked linked k l e = by_place (same_or_not k i)
    where
      by_place : (k ≡ i) ⊎ (k ≢ i) → link_place_of_activity (activity_at (set activities i a) k) ≡ Some l
      by_place (inl same) =
          let link : link_place_of_activity (activity_at activities k) ≡ Some l = linked k l e in
          let none : link_place_of_activity (activity_at activities k) ≡ None = ap (λ n. link_place_of_activity (activity_at activities n)) same ∙ was in
          cc
      by_place (inr other) = ap link_place_of_activity (get_or-set_other activities i k a Free other) ∙ linked k l e

-- the exchange of a request that waited ends
pub paired_unqueued : (activities : List Activity) (owners : List (Option ℕ)) (xs : List Exchange) (i : ℕ) → activity_at activities i ≡ Waiting → ConnectionsLinksAndExchangesMatch activities owners xs → ConnectionsLinksAndExchangesMatch (set activities i Free) owners (exchanges_after_end_and_release (i + 1) xs)
paired_unqueued activities owners xs i here h =
    let inside = waits_inside activities i here in
    let was : link_place_of_activity (activity_at activities i) ≡ None = ap link_place_of_activity here in
    record {
      owned = quiet_owned activities owners i Free inside was refl h.owned;
      linked = quiet_linked activities owners i Free inside was refl h.linked;
      opened = λ k. opened_by k (same_or_not k i);
      numbered = forwarded_kept (i + 1) 0 xs (λ q. absurd (omega (arith, q))) ∙ h.numbered;
    }
  where
    opened_by : (k : ℕ) → (k ≡ i) ⊎ (k ≢ i) → is_forwarded_if_open (k + 1) (exchanges_after_end_and_release (i + 1) xs) ≡ is_forwarded_if_exchange (activity_at (set activities i Free) k)
    opened_by k (inl same) =
        subst (λ n. is_forwarded_if_open (n + 1) (exchanges_after_end_and_release (i + 1) xs) ≡ is_forwarded_if_exchange (activity_at (set activities i Free) n)) (sym same)
        (forwarded_closed (i + 1) xs ∙ sym (ap is_forwarded_if_exchange (get_or-set_same activities i Free Free (waits_inside activities i here))))
    opened_by k (inr other) =
        forwarded_kept (i + 1) (k + 1) xs (λ q. other (omega (arith, q))) ∙ (h.opened k ∙ sym (ap is_forwarded_if_exchange (get_or-set_other activities i k Free Free other)))

-- ---- others are overtaken

overtaken_by : (b : Bool) (x : Exchange) (id : ℕ) (o p : Option Exchange) → out o ≡ out p
    → out (cond ((cond b (record x { overtaken = true }) x).id == id) (Some (cond b (record x { overtaken = true }) x)) o) ≡ out (cond (x.id == id) (Some x) p)
overtaken_by true x id o p h = open_by (x.id == id)
  where
    open_by : (b : Bool) → out (cond b (Some (record x { overtaken = true })) o) ≡ out (cond b (Some x) p)
    open_by true = refl
    open_by false = h
overtaken_by false x id o p h = out_by (x.id == id) x o p h

find_overtaken : (key : Scope) (id : ℕ) (xs : List Exchange) → is_forwarded_if_open id (map (exchange_overtaken_if_in_scope key) xs) ≡ is_forwarded_if_open id xs
find_overtaken key id [] = refl
find_overtaken key id (x ∷ xs) = overtaken_by (key_is_in_scope key x.asked.target.key) x id (find_exchange id (map (exchange_overtaken_if_in_scope key) xs)) (find_exchange id xs) (find_overtaken key id xs)

-- what is marked stays open
find_left : (key : Option Scope) (id other : ℕ) (xs : List Exchange) → is_forwarded_if_open other (exchanges_after_exchange_end key id xs) ≡ is_forwarded_if_open other (exchanges_after_end_and_release id xs)
find_left None id other xs = refl
find_left (Some key) id other xs = find_overtaken key other (exchanges_after_end_and_release id xs)

pub paired_left : (activities : List Activity) (owners : List (Option ℕ)) (xs : List Exchange) (key : Option Scope) (id : ℕ) → ConnectionsLinksAndExchangesMatch activities owners (exchanges_after_end_and_release id xs) → ConnectionsLinksAndExchangesMatch activities owners (exchanges_after_exchange_end key id xs)
paired_left activities owners xs key id h = record {
  owned = h.owned;
  linked = h.linked;
  opened = λ i. find_left key id (i + 1) xs ∙ h.opened i;
  numbered = find_left key id 0 xs ∙ h.numbered;
}

-- who is led on waits still, and who is released has waited
out_led_on : (table : Table) (ys : List Exchange) (l id : ℕ) (xs : List Exchange) → is_forwarded_if_open id (map (waiter_after_abandon table (next_leader table l ys) l) xs) ≡ is_forwarded_if_open id xs
out_led_on table ys l id [] = refl
out_led_on table ys l id (x ∷ xs) = led_on_by (waits_for l x.stage) refl (find_exchange id (map (waiter_after_abandon table (next_leader table l ys) l) xs)) (find_exchange id xs) (out_led_on table ys l id xs)
  where
    led_on_by : (b : Bool) → waits_for l x.stage ≡ b → (o p : Option Exchange) → out o ≡ out p
        → out (cond ((cond b (record x { stage = stage_after_leader table (next_leader table l ys) x }) x).id == id) (Some (cond b (record x { stage = stage_after_leader table (next_leader table l ys) x }) x)) o) ≡ out (cond (x.id == id) (Some x) p)
    led_on_by true w o p h = open_by (x.id == id)
      where
        open_by : (b : Bool) → out (cond b (Some (record x { stage = stage_after_leader table (next_leader table l ys) x })) o) ≡ out (cond b (Some x) p)
        open_by true = ap (λ (c : Bool). Some c) (behind-not_out table (next_leader table l ys) x) ∙ waits_apart l x.stage w
        open_by false = h
    led_on_by false w o p h = out_by (x.id == id) x o p h

find_abandoned : (table : Table) (id other : ℕ) (xs : List Exchange) → is_forwarded_if_open other (exchanges_after_abandon table id xs) ≡ is_forwarded_if_open other (exchanges_after_end_and_release id xs)
find_abandoned table id other xs = out_led_on table xs id other (but id xs) ∙ sym (out_released id other (but id xs))

pub paired_abandoned : (activities : List Activity) (owners : List (Option ℕ)) (xs : List Exchange) (table : Table) (id : ℕ) → ConnectionsLinksAndExchangesMatch activities owners (exchanges_after_end_and_release id xs) → ConnectionsLinksAndExchangesMatch activities owners (exchanges_after_abandon table id xs)
paired_abandoned activities owners xs table id h = record {
  owned = h.owned;
  linked = h.linked;
  opened = λ i. find_abandoned table id (i + 1) xs ∙ h.opened i;
  numbered = find_abandoned table id 0 xs ∙ h.numbered;
}

-- ---- one opens

pub paired_opened : (activities : List Activity) (owners : List (Option ℕ)) (xs : List Exchange) (x : Exchange) (i : ℕ) → i < length activities → activity_at activities i ≡ Free → x.id ≡ i + 1 → is_forwarded x.stage ≡ true → ConnectionsLinksAndExchangesMatch activities owners xs
    → ConnectionsLinksAndExchangesMatch (set activities i (Forwarded (length owners))) (owners ++ Some i ∷ []) (xs ++ x ∷ [])
paired_opened activities owners xs x i here free id staged h = record {
  owned = λ k l e. owned_by k l e (same_or_not k i);
  linked = λ k l e. linked_by k l e (cases_lt l (length owners));
  opened = λ k. opened_by k (same_or_not k i);
  numbered = forwarded_before 0 xs x (λ q. absurd (omega (arith, q, id))) ∙ h.numbered;
}
  where
    next : activity_at (set activities i (Forwarded (length owners))) i ≡ Forwarded (length owners)
    next = get_or-set_same activities i (Forwarded (length owners)) Free here

    owned_by : (k l : ℕ) → link_place_of_activity (activity_at (set activities i (Forwarded (length owners))) k) ≡ Some l → (k ≡ i) ⊎ (k ≢ i) → owner_at (owners ++ Some i ∷ []) l ≡ Some k
    owned_by k l e (inl same) =
        let place : length owners ≡ l = some_same (sym (ap link_place_of_activity next) ∙ (ap (λ n. link_place_of_activity (activity_at (set activities i (Forwarded (length owners))) n)) (sym same) ∙ e)) in
        ap (owner_at (owners ++ Some i ∷ [])) (sym place) ∙ (get_or-append_seam owners (Some i) [] None ∙ ap Some (sym same))
    owned_by k l e (inr other) =
        let owner : owner_at owners l ≡ Some k = h.owned k l (sym (ap link_place_of_activity (get_or-set_other activities i k (Forwarded (length owners)) Free other)) ∙ e) in
        get_or-append owners (Some i ∷ []) None l (within owners l k owner) ∙ owner

    linked_by : (k l : ℕ) → owner_at (owners ++ Some i ∷ []) l ≡ Some k → (l < length owners) ⊎ (length owners ≤ l) → link_place_of_activity (activity_at (set activities i (Forwarded (length owners))) k) ≡ Some l
    linked_by k l e (inl before) =
        let link : link_place_of_activity (activity_at activities k) ≡ Some l = h.linked k l (sym (get_or-append owners (Some i ∷ []) None l before) ∙ e) in
        let apart : k ≢ i = λ q. let none : link_place_of_activity (activity_at activities k) ≡ None = ap link_place_of_activity (ap (activity_at activities) q ∙ free) in cc in
        ap link_place_of_activity (get_or-set_other activities i k (Forwarded (length owners)) Free apart) ∙ link
    linked_by k l e (inr behind) =
        let last : l < length (owners ++ Some i ∷ []) = within (owners ++ Some i ∷ []) l k e in
        let place : l ≡ length owners = omega (arith, last, behind, length_push owners (Some i)) in
        let same : i ≡ k = some_same (sym (get_or-append_seam owners (Some i) [] None) ∙ (ap (owner_at (owners ++ Some i ∷ [])) (sym place) ∙ e)) in
        ap link_place_of_activity (ap (activity_at (set activities i (Forwarded (length owners)))) (sym same) ∙ next) ∙ ap Some (sym place)

    unfound : find_exchange (i + 1) xs ≡ None
    unfound = none_out (find_exchange (i + 1) xs) (h.opened i ∙ ap is_forwarded_if_exchange free)

    opened_by : (k : ℕ) → (k ≡ i) ⊎ (k ≢ i) → is_forwarded_if_open (k + 1) (xs ++ x ∷ []) ≡ is_forwarded_if_exchange (activity_at (set activities i (Forwarded (length owners))) k)
    opened_by k (inl same) =
        subst (λ n. is_forwarded_if_open (n + 1) (xs ++ x ∷ []) ≡ is_forwarded_if_exchange (activity_at (set activities i (Forwarded (length owners))) n)) (sym same)
        (forwarded_pushed (i + 1) xs x id unfound ∙ (ap (λ (b : Bool). Some b) staged ∙ sym (ap is_forwarded_if_exchange next)))
    opened_by k (inr other) =
        forwarded_before (k + 1) xs x (λ q. other (omega (arith, q, id))) ∙ (h.opened k ∙ sym (ap is_forwarded_if_exchange (get_or-set_other activities i k (Forwarded (length owners)) Free other)))

-- one waits
pub paired_queued : (activities : List Activity) (owners : List (Option ℕ)) (xs : List Exchange) (x : Exchange) (i : ℕ) → i < length activities → activity_at activities i ≡ Free → x.id ≡ i + 1 → is_forwarded x.stage ≡ false → ConnectionsLinksAndExchangesMatch activities owners xs
    → ConnectionsLinksAndExchangesMatch (set activities i Waiting) owners (xs ++ x ∷ [])
paired_queued activities owners xs x i here free id staged h =
    record {
      owned = quiet_owned activities owners i Waiting here (ap link_place_of_activity free) refl h.owned;
      linked = quiet_linked activities owners i Waiting here (ap link_place_of_activity free) refl h.linked;
      opened = λ k. opened_by k (same_or_not k i);
      numbered = forwarded_before 0 xs x (λ q. absurd (omega (arith, q, id))) ∙ h.numbered;
    }
  where
    unfound : find_exchange (i + 1) xs ≡ None
    unfound = none_out (find_exchange (i + 1) xs) (h.opened i ∙ ap is_forwarded_if_exchange free)

    opened_by : (k : ℕ) → (k ≡ i) ⊎ (k ≢ i) → is_forwarded_if_open (k + 1) (xs ++ x ∷ []) ≡ is_forwarded_if_exchange (activity_at (set activities i Waiting) k)
    opened_by k (inl same) =
        subst (λ n. is_forwarded_if_open (n + 1) (xs ++ x ∷ []) ≡ is_forwarded_if_exchange (activity_at (set activities i Waiting) n)) (sym same)
        (forwarded_pushed (i + 1) xs x id unfound ∙ (ap (λ (b : Bool). Some b) staged ∙ sym (ap is_forwarded_if_exchange (get_or-set_same activities i Waiting Free here))))
    opened_by k (inr other) =
        forwarded_before (k + 1) xs x (λ q. other (omega (arith, q, id))) ∙ (h.opened k ∙ sym (ap is_forwarded_if_exchange (get_or-set_other activities i k Waiting Free other)))

-- ---- one goes forward once more, or when it is woken

renewed_here : (id : ℕ) (g : Exchange → Exchange) → Renews g → (xs : List Exchange) → is_some (find_exchange id xs) ≡ true → is_forwarded_if_open id (map (renewed id g) xs) ≡ Some true
renewed_here id g r [] h = absurd (cc)
renewed_here id g r (x ∷ xs) h = by_id (x.id == id) refl h (λ m. renewed_here id g r xs m)
  where
    by_id : (b : Bool) → (x.id == id) ≡ b → is_some (cond b (Some x) (find_exchange id xs)) ≡ true → (is_some (find_exchange id xs) ≡ true → is_forwarded_if_open id (map (renewed id g) xs) ≡ Some true)
        → out (cond ((cond b (g x) x).id == id) (Some (cond b (g x) x)) (find_exchange id (map (renewed id g) xs))) ≡ Some true
    by_id true e h rest = ap (λ (b : Bool). out (cond b (Some (g x)) (find_exchange id (map (renewed id g) xs)))) (ap (λ n. n == id) (r.id x) ∙ e) ∙ ap (λ (b : Bool). Some b) (r.stage x)
    by_id false e h rest = ap (λ (b : Bool). out (cond b (Some x) (find_exchange id (map (renewed id g) xs)))) e ∙ rest h

renewed_by : (b : Bool) (id other : ℕ) (g : Exchange → Exchange) → Renews g → (x : Exchange) (o p : Option Exchange) → (x.id == id) ≡ b → other ≢ id → out o ≡ out p
    → out (cond ((cond b (g x) x).id == other) (Some (cond b (g x) x)) o) ≡ out (cond (x.id == other) (Some x) p)
renewed_by true id other g r x o p e n h =
    let off : (x.id == other) ≡ false = other_number x.id other (λ q. n (sym q ∙ eqb-true x.id id e)) in
    ap (λ (c : Bool). out (cond c (Some (g x)) o)) (ap (λ m. m == other) (r.id x) ∙ off) ∙ (h ∙ sym (ap (λ (c : Bool). out (cond c (Some x) p)) off))
renewed_by false id other g r x o p e n h = out_by (x.id == other) x o p h

renewed_other : (id other : ℕ) (g : Exchange → Exchange) → Renews g → (xs : List Exchange) → other ≢ id → is_forwarded_if_open other (map (renewed id g) xs) ≡ is_forwarded_if_open other xs
renewed_other id other g r [] n = refl
renewed_other id other g r (x ∷ xs) n =
    renewed_by (x.id == id) id other g r x (find_exchange other (map (renewed id g) xs)) (find_exchange other xs) refl n (renewed_other id other g r xs n)

-- where its exchange ended, it has one more, with a link
renewed_paired : (less : List Activity) (owners : List (Option ℕ)) (xs : List Exchange) (i : ℕ) (g : Exchange → Exchange) → Renews g → i < length less → activity_at less i ≡ Free → is_some (find_exchange (i + 1) xs) ≡ true → ConnectionsLinksAndExchangesMatch less owners (exchanges_after_end_and_release (i + 1) xs)
    → ConnectionsLinksAndExchangesMatch (set less i (Forwarded (length owners))) (owners ++ Some i ∷ []) (map (renewed (i + 1) g) xs)
renewed_paired less owners xs i g r inside free there h = record {
  owned = opens.owned;
  linked = opens.linked;
  opened = λ k. open_still k (same_or_not k i) ∙ opens.opened k;
  numbered = renewed_other (i + 1) 0 g r xs (λ q. absurd (omega (arith, q))) ∙ (sym (forwarded_kept (i + 1) 0 xs (λ q. absurd (omega (arith, q)))) ∙ h.numbered);
}
  where
    found : (y : Exchange) × (find_exchange (i + 1) xs ≡ Some y)
    found = some_from (find_exchange (i + 1) xs) (sym there)

    x : Exchange
    x = record found.0 { id = i + 1; stage = stages.Forwarded }

    opens : ConnectionsLinksAndExchangesMatch (set less i (Forwarded (length owners))) (owners ++ Some i ∷ []) (exchanges_after_end_and_release (i + 1) xs ++ x ∷ [])
    opens = paired_opened less owners (exchanges_after_end_and_release (i + 1) xs) x i inside free refl refl h

    unfound : find_exchange (i + 1) (exchanges_after_end_and_release (i + 1) xs) ≡ None
    unfound = none_out (find_exchange (i + 1) (exchanges_after_end_and_release (i + 1) xs)) (forwarded_closed (i + 1) xs)

    open_still : (k : ℕ) → (k ≡ i) ⊎ (k ≢ i) → is_forwarded_if_open (k + 1) (map (renewed (i + 1) g) xs) ≡ is_forwarded_if_open (k + 1) (exchanges_after_end_and_release (i + 1) xs ++ x ∷ [])
    open_still k (inl same) =
        subst (λ n. is_forwarded_if_open (n + 1) (map (renewed (i + 1) g) xs) ≡ is_forwarded_if_open (n + 1) (exchanges_after_end_and_release (i + 1) xs ++ x ∷ [])) (sym same)
        (renewed_here (i + 1) g r xs there ∙ sym (forwarded_pushed (i + 1) (exchanges_after_end_and_release (i + 1) xs) x refl unfound))
    open_still k (inr other) =
        renewed_other (i + 1) (k + 1) g r xs (λ q. other (omega (arith, q)))
        ∙ (sym (forwarded_kept (i + 1) (k + 1) xs (λ q. other (omega (arith, q)))) ∙ sym (forwarded_before (k + 1) (exchanges_after_end_and_release (i + 1) xs) x (λ q. other (omega (arith, q)))))

-- the exchange of a connection that lost its link has a new one
pub paired_again : (activities : List Activity) (owners : List (Option ℕ)) (xs : List Exchange) (i j : ℕ) (g : Exchange → Exchange) → Renews g → link_place_of_activity (activity_at activities i) ≡ Some j → is_some (find_exchange (i + 1) xs) ≡ true → ConnectionsLinksAndExchangesMatch activities owners xs
    → ConnectionsLinksAndExchangesMatch (set (set activities i Free) i (Forwarded (length (set owners j None)))) (set owners j None ++ Some i ∷ []) (map (renewed (i + 1) g) xs)
paired_again activities owners xs i j g r here there h =
    renewed_paired (set activities i Free) (set owners j None) xs i g r (subst (λ n. i < n) (sym (length-set activities i Free)) (has_place activities i j here))
    (get_or-set_same activities i Free Free (has_place activities i j here)) there (paired_freed activities owners xs i j here h)

-- that of one that waited has its first
pub paired_awake : (activities : List Activity) (owners : List (Option ℕ)) (xs : List Exchange) (i : ℕ) (g : Exchange → Exchange) → Renews g → activity_at activities i ≡ Waiting → is_some (find_exchange (i + 1) xs) ≡ true → ConnectionsLinksAndExchangesMatch activities owners xs
    → ConnectionsLinksAndExchangesMatch (set (set activities i Free) i (Forwarded (length owners))) (owners ++ Some i ∷ []) (map (renewed (i + 1) g) xs)
paired_awake activities owners xs i g r here there h =
    renewed_paired (set activities i Free) owners xs i g r (subst (λ n. i < n) (sym (length-set activities i Free)) (waits_inside activities i here))
    (get_or-set_same activities i Free Free (waits_inside activities i here)) there (paired_unqueued activities owners xs i here h)

-- a purge overtakes exchanges
find_purged : (key : Option Scope) (id : ℕ) (xs : List Exchange) → is_forwarded_if_open id (exchanges_overtaken_in_scope key xs) ≡ is_forwarded_if_open id xs
find_purged None id xs = refl
find_purged (Some key) id xs = find_overtaken key id xs

pub paired_purged : (activities : List Activity) (owners : List (Option ℕ)) (xs : List Exchange) (key : Option Scope) → ConnectionsLinksAndExchangesMatch activities owners xs → ConnectionsLinksAndExchangesMatch activities owners (exchanges_overtaken_in_scope key xs)
paired_purged activities owners xs key h = record {
  owned = h.owned;
  linked = h.linked;
  opened = λ k. find_purged key (k + 1) xs ∙ h.opened k;
  numbered = find_purged key 0 xs ∙ h.numbered;
}

-- a request has arrived: it goes forward, or not
pub paired_arrived : (table : Table) (cs cs1 cs2 : List (Option Connection)) (ks ks2 : List (Option Link)) (held : List Stored) (xs : List Exchange) (now i : ℕ) (asked : Asked) (o : Outcome) → i < length cs → activities_of_connections cs1 ≡ activities_of_connections cs → activity_at (activities_of_connections cs) i ≡ Free
    → activities_of_connections cs2 ≡ activities_after_outcome i (length ks) o (activities_of_connections cs1) → owners_of_links ks2 ≡ owners_after_outcome i o (owners_of_links ks) → ConnectionsLinksAndExchangesMatch (activities_of_connections cs) (owners_of_links ks) xs → ConnectionsLinksAndExchangesMatch (activities_of_connections cs2) (owners_of_links ks2) (open_exchanges_after_event table held xs (Arrive now (i + 1) asked) o)
paired_arrived table cs cs1 cs2 ks ks2 held xs now i asked (Reply r) inside same free links owners h =
    let key = scope_purged asked (Reply r) in
    paired_same _ _ _ _ (exchanges_overtaken_in_scope key xs) (links ∙ same) owners (paired_purged (activities_of_connections cs) (owners_of_links ks) xs key h)
paired_arrived table cs cs1 cs2 ks ks2 held xs now i asked (Forward line bytes) inside same free links owners h =
    let size : length (owners_of_links ks) ≡ length ks = length-map ks owner_of_open_link in
    let pairing : length (activities_of_connections cs) ≡ length cs = length-map cs activity_of_connection in
    let ys = xs ++ forwarded_exchange table held now (i + 1) asked line ∷ [] in
    let opens = paired_opened (activities_of_connections cs) (owners_of_links ks) xs (forwarded_exchange table held now (i + 1) asked line) i (omega (arith, inside, pairing)) free refl refl h in
    paired_same _ _ _ _ ys (links ∙ (ap (λ (ds : List Activity). set ds i (Forwarded (length ks))) same ∙ ap (λ n. set (activities_of_connections cs) i (Forwarded n)) (sym size))) owners opens
paired_arrived table cs cs1 cs2 ks ks2 held xs now i asked (Waits leader) inside same free links owners h =
    let pairing : length (activities_of_connections cs) ≡ length cs = length-map cs activity_of_connection in
    let x = exchange_begun_waiting table held now (i + 1) asked (line_of_verdict (verdict_of_asked table asked)) leader in
    paired_same _ _ _ _ (xs ++ x ∷ []) (links ∙ ap (λ (ds : List Activity). set ds i Waiting) same) owners
    (paired_queued (activities_of_connections cs) (owners_of_links ks) xs x i (omega (arith, inside, pairing)) free refl refl h)
paired_arrived table cs cs1 cs2 ks ks2 held xs now i asked Ended inside same free links owners h = paired_same _ _ _ _ xs (links ∙ same) owners h
paired_arrived table cs cs1 cs2 ks ks2 held xs now i asked WaitsNoMore inside same free links owners h = paired_same _ _ _ _ xs (links ∙ same) owners h

-- ---- on both sides

-- what is read of the part at a place
pub mapped_at : {A : Type 0} (f : A → Option ℕ) (xs : List A) (i : ℕ) (d : A) → i < length xs → owner_at (map f xs) i ≡ f (get_or xs i d)
mapped_at f xs i d l = get_or-map f xs i d None l

pub doing_at : (cs : List (Option Connection)) (i : ℕ) → i < length cs → activity_at (activities_of_connections cs) i ≡ activity_of_connection (get_or cs i None)
doing_at cs i l = get_or-map activity_of_connection cs i None Free l

-- a link that is open belongs to a connection that has it
pub owned_link : (cs : List (Option Connection)) (ks : List (Option Link)) (xs : List Exchange) (j : ℕ) (x : Link) → get_or ks j None ≡ Some x → ConnectionsLinksAndExchangesMatch (activities_of_connections cs) (owners_of_links ks) xs → link_place_of_activity (activity_at (activities_of_connections cs) x.connection) ≡ Some j
owned_link cs ks xs j x e w = w.linked x.connection j (mapped_at owner_of_open_link ks j None (inside ks j (ap is_some e)) ∙ ap owner_of_open_link e)

-- the place of a connection that has a link, and that of its link
pub within_connections : (cs : List (Option Connection)) (i j : ℕ) → link_place_of_activity (activity_at (activities_of_connections cs) i) ≡ Some j → i < length cs
within_connections cs i j h = subst (λ n. i < n) (length-map cs activity_of_connection) (has_place (activities_of_connections cs) i j h)

pub within_links : (cs : List (Option Connection)) (ks : List (Option Link)) (xs : List Exchange) (i j : ℕ) → link_place_of_activity (activity_at (activities_of_connections cs) i) ≡ Some j → ConnectionsLinksAndExchangesMatch (activities_of_connections cs) (owners_of_links ks) xs → j < length ks
within_links cs ks xs i j h w = subst (λ n. j < n) (length-map ks owner_of_open_link) (within (owners_of_links ks) j i (w.owned i j h))

-- its exchange is open, and its request at the origin
pub is_out : (cs : List (Option Connection)) (ks : List (Option Link)) (xs : List Exchange) (i j : ℕ) → link_place_of_activity (activity_at (activities_of_connections cs) i) ≡ Some j → ConnectionsLinksAndExchangesMatch (activities_of_connections cs) (owners_of_links ks) xs → is_forwarded_if_open (i + 1) xs ≡ Some true
is_out cs ks xs i j h w = w.opened i ∙ forwarded_from (activity_at (activities_of_connections cs) i) j h

pub is_open : (cs : List (Option Connection)) (ks : List (Option Link)) (xs : List Exchange) (i j : ℕ) → link_place_of_activity (activity_at (activities_of_connections cs) i) ≡ Some j → ConnectionsLinksAndExchangesMatch (activities_of_connections cs) (owners_of_links ks) xs → is_some (find_exchange (i + 1) xs) ≡ true
is_open cs ks xs i j h w = some_out (find_exchange (i + 1) xs) true (is_out cs ks xs i j h w)

-- that of a request that waits is open
pub is_waiting : (cs : List (Option Connection)) (ks : List (Option Link)) (xs : List Exchange) (i : ℕ) → activity_at (activities_of_connections cs) i ≡ Waiting → ConnectionsLinksAndExchangesMatch (activities_of_connections cs) (owners_of_links ks) xs → is_some (find_exchange (i + 1) xs) ≡ true
is_waiting cs ks xs i h w = some_out (find_exchange (i + 1) xs) false (w.opened i ∙ ap is_forwarded_if_exchange h)

pub within_waiting : (cs : List (Option Connection)) (i : ℕ) → activity_at (activities_of_connections cs) i ≡ Waiting → i < length cs
within_waiting cs i h = subst (λ n. i < n) (length-map cs activity_of_connection) (waits_inside (activities_of_connections cs) i h)

released_out : (s : Stage) → is_released s ≡ true → is_forwarded s ≡ false
released_out stages.Forwarded h = absurd (cc)
released_out (stages.Waiting m) h = refl
released_out stages.Released h = refl

-- one that may be woken waits
pub ready_waits : (activities : List Activity) (owners : List (Option ℕ)) (xs : List Exchange) (i : ℕ) → ExchangeMayBeWoken (i + 1) xs → ConnectionsLinksAndExchangesMatch activities owners xs → activity_at activities i ≡ Waiting
ready_waits activities owners xs i r w =
    waiting_by (activity_at activities i) (sym (w.opened i) ∙ (ap out r.is_open ∙ ap (λ (b : Bool). Some b) (released_out r.x.stage r.stage)))

-- and has the number of a connection
pub ready_numbered : (activities : List Activity) (owners : List (Option ℕ)) (xs : List Exchange) (id : ℕ) → ExchangeMayBeWoken id xs → ConnectionsLinksAndExchangesMatch activities owners xs → 0 < id
ready_numbered activities owners xs zero r w =
    let none : None ≡ Some r.x = sym (none_out (find_exchange 0 xs) w.numbered) ∙ r.is_open in
    absurd (cc)
ready_numbered activities owners xs (suc i) r w = omega arith

-- that of a free connection isn't
pub not_open : (cs : List (Option Connection)) (ks : List (Option Link)) (xs : List Exchange) (i : ℕ) → connection_is_open_and_idle (get_or cs i None) ≡ true → ConnectionsLinksAndExchangesMatch (activities_of_connections cs) (owners_of_links ks) xs → (activity_at (activities_of_connections cs) i ≡ Free) × (is_some (find_exchange (i + 1) xs) ≡ false)
not_open cs ks xs i free w =
    let idle : activity_at (activities_of_connections cs) i ≡ Free = doing_at cs i (inside cs i (free_there (get_or cs i None) free)) ∙ free_activity (get_or cs i None) free in
    (idle, ap is_some (none_out (find_exchange (i + 1) xs) (w.opened i ∙ ap is_forwarded_if_exchange idle)))

-- what has a link is open
linked_there : (o : Option Connection) (j : ℕ) → link_place_of_activity (activity_of_connection o) ≡ Some j → (c : Connection) × (o ≡ Some c) × (link_place_of_activity c.activity ≡ Some j)
linked_there None j e = absurd (cc)
linked_there (Some c) j e = (c, refl, e)

pub linked_at : (cs : List (Option Connection)) (i j : ℕ) → link_place_of_activity (activity_at (activities_of_connections cs) i) ≡ Some j → (c : Connection) × (get_or cs i None ≡ Some c) × (link_place_of_activity c.activity ≡ Some j)
linked_at cs i j e = linked_there (get_or cs i None) j (sym (ap link_place_of_activity (doing_at cs i (within_connections cs i j e))) ∙ e)

owned_there : (o : Option Link) (i : ℕ) → owner_of_open_link o ≡ Some i → is_some o ≡ true
owned_there None i e = absurd (cc)
owned_there (Some k) i e = refl

-- the link of a connection is open
pub link_there : (cs : List (Option Connection)) (ks : List (Option Link)) (xs : List Exchange) (i j : ℕ) → link_place_of_activity (activity_at (activities_of_connections cs) i) ≡ Some j → ConnectionsLinksAndExchangesMatch (activities_of_connections cs) (owners_of_links ks) xs → is_some (get_or ks j None) ≡ true
link_there cs ks xs i j e w = owned_there (get_or ks j None) i (sym (mapped_at owner_of_open_link ks j None (within_links cs ks xs i j e w)) ∙ w.owned i j e)

here_by : (gone : Bool) (a : Activity) (j : ℕ) → link_place_of_activity a ≡ Some j → gone && has_exchange a ≡ false → gone ≡ false
here_by true a j l e = sym (open_from a j l) ∙ e
here_by false a j l e = refl

-- where none is lost, a connection that has a link isn't gone
pub still_here : (cs : List (Option Connection)) (i j : ℕ) → NoDisconnectedClientHasExchange cs → link_place_of_activity (activity_at (activities_of_connections cs) i) ≡ Some j → is_gone_if_connection (get_or cs i None) ≡ Some false
still_here cs i j none e =
    let c = linked_at cs i j e in
    ap is_gone_if_connection c.1 ∙ ap (λ (b : Bool). Some b) (here_by c.0.gone c.0.activity j c.2 (none i c.0 c.1))

waiting_there : (o : Option Connection) → activity_of_connection o ≡ Waiting → (c : Connection) × (o ≡ Some c) × (has_exchange c.activity ≡ true)
waiting_there None e = absurd (cc)
waiting_there (Some c) e = (c, refl, ap has_exchange e)

here_with : (gone held : Bool) → held ≡ true → gone && held ≡ false → gone ≡ false
here_with true held o e = sym o ∙ e
here_with false held o e = refl

-- nor is one whose request waits
pub waits_here : (cs : List (Option Connection)) (i : ℕ) → NoDisconnectedClientHasExchange cs → activity_at (activities_of_connections cs) i ≡ Waiting → is_gone_if_connection (get_or cs i None) ≡ Some false
waits_here cs i none e =
    let c = waiting_there (get_or cs i None) (sym (doing_at cs i (within_waiting cs i e)) ∙ e) in
    ap is_gone_if_connection c.1 ∙ ap (λ (b : Bool). Some b) (here_with c.0.gone (has_exchange c.0.activity) c.2 (none i c.0 c.1))

-- an exchange has ended, on all sides
pub paired_ended : (cs cs1 : List (Option Connection)) (ks ks1 : List (Option Link)) (xs xs1 : List Exchange) (i j : ℕ) → link_place_of_activity (activity_at (activities_of_connections cs) i) ≡ Some j → activities_of_connections cs1 ≡ set (activities_of_connections cs) i Free → owners_of_links ks1 ≡ set (owners_of_links ks) j None → (key : Option Scope) → xs1 ≡ exchanges_after_exchange_end key (i + 1) xs
    → ConnectionsLinksAndExchangesMatch (activities_of_connections cs) (owners_of_links ks) xs → ConnectionsLinksAndExchangesMatch (activities_of_connections cs1) (owners_of_links ks1) xs1
paired_ended cs cs1 ks ks1 xs xs1 i j h links owners key exchanges w =
    subst (λ (ds : List Activity). ConnectionsLinksAndExchangesMatch ds (owners_of_links ks1) xs1) (sym links)
    (subst (λ (os : List (Option ℕ)). ConnectionsLinksAndExchangesMatch (set (activities_of_connections cs) i Free) os xs1) (sym owners)
    (subst (λ (es : List Exchange). ConnectionsLinksAndExchangesMatch (set (activities_of_connections cs) i Free) (set (owners_of_links ks) j None) es) (sym exchanges) (paired_left (set (activities_of_connections cs) i Free) (set (owners_of_links ks) j None) xs key (i + 1) (paired_freed (activities_of_connections cs) (owners_of_links ks) xs i j h w))))

-- its client has gone, so that another may lead on
pub paired_lost : (cs cs1 : List (Option Connection)) (ks ks1 : List (Option Link)) (xs xs1 : List Exchange) (i j : ℕ) → link_place_of_activity (activity_at (activities_of_connections cs) i) ≡ Some j → activities_of_connections cs1 ≡ set (activities_of_connections cs) i Free → owners_of_links ks1 ≡ set (owners_of_links ks) j None → (table : Table) → xs1 ≡ exchanges_after_abandon table (i + 1) xs
    → ConnectionsLinksAndExchangesMatch (activities_of_connections cs) (owners_of_links ks) xs → ConnectionsLinksAndExchangesMatch (activities_of_connections cs1) (owners_of_links ks1) xs1
paired_lost cs cs1 ks ks1 xs xs1 i j h links owners table exchanges w =
    subst (λ (es : List Exchange). ConnectionsLinksAndExchangesMatch (activities_of_connections cs1) (owners_of_links ks1) es) (sym exchanges)
    (paired_abandoned (activities_of_connections cs1) (owners_of_links ks1) xs table (i + 1) (paired_ended cs cs1 ks ks1 xs (exchanges_after_end_and_release (i + 1) xs) i j h links owners None refl w))

-- an exchange was finished, or goes forward once more
pub paired_finished : (cs cs1 cs2 : List (Option Connection)) (ks ks1 ks2 : List (Option Link)) (xs ys : List Exchange) (i j : ℕ) (o : Outcome) → link_place_of_activity (activity_at (activities_of_connections cs) i) ≡ Some j → activities_of_connections cs1 ≡ set (activities_of_connections cs) i Free → owners_of_links ks1 ≡ set (owners_of_links ks) j None
    → activities_of_connections cs2 ≡ activities_after_outcome i (length ks1) o (activities_of_connections cs1) → owners_of_links ks2 ≡ owners_after_outcome i o (owners_of_links ks1) → is_some (find_exchange (i + 1) xs) ≡ true → Remains o (i + 1) xs ys → ConnectionsLinksAndExchangesMatch (activities_of_connections cs) (owners_of_links ks) xs → ConnectionsLinksAndExchangesMatch (activities_of_connections cs2) (owners_of_links ks2) ys
paired_finished cs cs1 cs2 ks ks1 ks2 xs ys i j (Reply r) here links owners links2 owners2 there left h = paired_ended cs cs2 ks ks2 xs ys i j here (links2 ∙ links) (owners2 ∙ owners) left.0 left.1 h
paired_finished cs cs1 cs2 ks ks1 ks2 xs ys i j (Forward line bytes) here links owners links2 owners2 there left h =
    let free = set (owners_of_links ks) j None in
    let size : length ks1 ≡ length free = sym (length-map ks1 owner_of_open_link) ∙ ap length owners in
    subst (λ (es : List Exchange). ConnectionsLinksAndExchangesMatch (activities_of_connections cs2) (owners_of_links ks2) es) (sym left.2)
    (paired_same _ _ _ _ (map (renewed (i + 1) left.0) xs)
    (links2 ∙ (ap (λ (ds : List Activity). set ds i (Forwarded (length ks1))) links ∙ ap (λ n. set (set (activities_of_connections cs) i Free) i (Forwarded n)) size))
    (owners2 ∙ ap (λ (os : List (Option ℕ)). os ++ Some i ∷ []) owners) (paired_again (activities_of_connections cs) (owners_of_links ks) xs i j left.0 left.1 here there h))
paired_finished cs cs1 cs2 ks ks1 ks2 xs ys i j (Waits leader) here links owners links2 owners2 there left h = absurd left
paired_finished cs cs1 cs2 ks ks1 ks2 xs ys i j Ended here links owners links2 owners2 there left h = paired_ended cs cs2 ks ks2 xs ys i j here (links2 ∙ links) (owners2 ∙ owners) left.0 left.1 h
paired_finished cs cs1 cs2 ks ks1 ks2 xs ys i j WaitsNoMore here links owners links2 owners2 there left h = paired_ended cs cs2 ks ks2 xs ys i j here (links2 ∙ links) (owners2 ∙ owners) left.0 left.1 h

-- the exchange of a request that waited has ended, on all sides
pub paired_waited : (cs cs1 : List (Option Connection)) (os : List (Option ℕ)) (xs xs1 : List Exchange) (i : ℕ) → activity_at (activities_of_connections cs) i ≡ Waiting → activities_of_connections cs1 ≡ set (activities_of_connections cs) i Free → (key : Option Scope) → xs1 ≡ exchanges_after_exchange_end key (i + 1) xs
    → ConnectionsLinksAndExchangesMatch (activities_of_connections cs) os xs → ConnectionsLinksAndExchangesMatch (activities_of_connections cs1) os xs1
paired_waited cs cs1 os xs xs1 i h links key exchanges w =
    subst (λ (ds : List Activity). ConnectionsLinksAndExchangesMatch ds os xs1) (sym links)
    (subst (λ (es : List Exchange). ConnectionsLinksAndExchangesMatch (set (activities_of_connections cs) i Free) os es) (sym exchanges) (paired_left (set (activities_of_connections cs) i Free) os xs key (i + 1) (paired_unqueued (activities_of_connections cs) os xs i h w)))

pub paired_given_up : (cs cs1 : List (Option Connection)) (os : List (Option ℕ)) (xs xs1 : List Exchange) (i : ℕ) → activity_at (activities_of_connections cs) i ≡ Waiting → activities_of_connections cs1 ≡ set (activities_of_connections cs) i Free → (table : Table) → xs1 ≡ exchanges_after_abandon table (i + 1) xs
    → ConnectionsLinksAndExchangesMatch (activities_of_connections cs) os xs → ConnectionsLinksAndExchangesMatch (activities_of_connections cs1) os xs1
paired_given_up cs cs1 os xs xs1 i h links table exchanges w =
    subst (λ (es : List Exchange). ConnectionsLinksAndExchangesMatch (activities_of_connections cs1) os es) (sym exchanges)
    (paired_abandoned (activities_of_connections cs1) os xs table (i + 1) (paired_waited cs cs1 os xs (exchanges_after_end_and_release (i + 1) xs) i h links None refl w))

-- a request that waited was answered, or goes forward
pub paired_woken : (cs cs1 cs2 : List (Option Connection)) (ks ks2 : List (Option Link)) (xs ys : List Exchange) (i : ℕ) (o : Outcome) → activity_at (activities_of_connections cs) i ≡ Waiting → activities_of_connections cs1 ≡ set (activities_of_connections cs) i Free
    → activities_of_connections cs2 ≡ activities_after_outcome i (length ks) o (activities_of_connections cs1) → owners_of_links ks2 ≡ owners_after_outcome i o (owners_of_links ks) → is_some (find_exchange (i + 1) xs) ≡ true → Remains o (i + 1) xs ys → ConnectionsLinksAndExchangesMatch (activities_of_connections cs) (owners_of_links ks) xs → ConnectionsLinksAndExchangesMatch (activities_of_connections cs2) (owners_of_links ks2) ys
paired_woken cs cs1 cs2 ks ks2 xs ys i (Reply r) here links links2 owners2 there left h =
    subst (λ (os : List (Option ℕ)). ConnectionsLinksAndExchangesMatch (activities_of_connections cs2) os ys) (sym owners2) (paired_waited cs cs2 (owners_of_links ks) xs ys i here (links2 ∙ links) left.0 left.1 h)
paired_woken cs cs1 cs2 ks ks2 xs ys i (Forward line bytes) here links links2 owners2 there left h =
    let size : length ks ≡ length (owners_of_links ks) = sym (length-map ks owner_of_open_link) in
    subst (λ (es : List Exchange). ConnectionsLinksAndExchangesMatch (activities_of_connections cs2) (owners_of_links ks2) es) (sym left.2)
    (paired_same _ _ _ _ (map (renewed (i + 1) left.0) xs)
    (links2 ∙ (ap (λ (ds : List Activity). set ds i (Forwarded (length ks))) links ∙ ap (λ n. set (set (activities_of_connections cs) i Free) i (Forwarded n)) size))
    owners2 (paired_awake (activities_of_connections cs) (owners_of_links ks) xs i left.0 left.1 here there h))
paired_woken cs cs1 cs2 ks ks2 xs ys i (Waits leader) here links links2 owners2 there left h = absurd left
paired_woken cs cs1 cs2 ks ks2 xs ys i Ended here links links2 owners2 there left h =
    subst (λ (os : List (Option ℕ)). ConnectionsLinksAndExchangesMatch (activities_of_connections cs2) os ys) (sym owners2) (paired_waited cs cs2 (owners_of_links ks) xs ys i here (links2 ∙ links) left.0 left.1 h)
paired_woken cs cs1 cs2 ks ks2 xs ys i WaitsNoMore here links links2 owners2 there left h =
    subst (λ (os : List (Option ℕ)). ConnectionsLinksAndExchangesMatch (activities_of_connections cs2) os ys) (sym owners2) (paired_waited cs cs2 (owners_of_links ks) xs ys i here (links2 ∙ links) left.0 left.1 h)

-- a connection was accepted, or wasn't
pub paired_accepted : {E : Type 0} (r : Result (Unit {0}) E) (cs cs1 : List (Option Connection)) (os : List (Option ℕ)) (xs : List Exchange) → OnOk r (activities_of_connections cs1 ≡ activities_of_connections cs ++ Free ∷ []) → OnErr r (cs1 ≡ cs) → ConnectionsLinksAndExchangesMatch (activities_of_connections cs) os xs → ConnectionsLinksAndExchangesMatch (activities_of_connections cs1) os xs
paired_accepted (Ok u) cs cs1 os xs more same w = subst (λ (ds : List Activity). ConnectionsLinksAndExchangesMatch ds os xs) (sym more) (paired_more (activities_of_connections cs) os xs w)
paired_accepted (Err e) cs cs1 os xs more same w = subst (λ (ds : List (Option Connection)). ConnectionsLinksAndExchangesMatch (activities_of_connections ds) os xs) (sym same) w

early_by : (now : ℕ) → now < START_OF_YEAR_10000 → moment_too_late_fault now ≡ None
early_by now l = ap (λ (b : Bool). cond b None (Some MomentTooLate)) (lt-ltb now START_OF_YEAR_10000 l)

-- an arrival at a free id, in time, is refused only where memory runs out
pub arrival_refused : (xs : List Exchange) (now id : ℕ) (asked : Asked) (fault : CoreFault) → is_some (find_exchange id xs) ≡ false → now < START_OF_YEAR_10000
    → (step_fault xs (Arrive now id asked) ≡ Some fault) ⊎ ((step_fault xs (Arrive now id asked) ≡ None) × (fault ≡ OutOfMemory)) → fault ≡ OutOfMemory
arrival_refused xs now id asked fault free early (inl represents) = refused_by (find_exchange id xs) free represents
  where
    refused_by : (o : Option Exchange) → is_some o ≡ false → fault_at_exchange o (Arrive now id asked) ≡ Some fault → fault ≡ OutOfMemory
    refused_by (Some x) f h = cc
    refused_by None f h = let none = early_by now early in cc
arrival_refused xs now id asked fault free early (inr memory) = memory.1

not_out : (s : Stage) → is_forwarded s ≡ true → fault_if_not_forwarded s ≡ None
not_out s h = ap (λ (b : Bool). cond b None (Some NotForwarded)) h

-- what stands on a link of an open exchange is refused only where memory runs out
module _ (xs : List Exchange) (now id : ℕ) (fault : CoreFault) (out_now : is_forwarded_if_open id xs ≡ Some true) (early : now < START_OF_YEAR_10000) where
  -- so is any event that asks of its exchange to be at the origin
  out_refused : (e : Event) → ((x : Exchange) → fault_at_exchange (Some x) e ≡ fault_else (moment_too_late_fault now) (fault_if_not_forwarded x.stage))
      → (fault_at_exchange (find_exchange id xs) e ≡ Some fault) ⊎ ((fault_at_exchange (find_exchange id xs) e ≡ None) × (fault ≡ OutOfMemory)) → fault ≡ OutOfMemory
  out_refused e asks (inl represents) = refused_by (find_exchange id xs) out_now represents
    where
      refused_by : (o : Option Exchange) → out o ≡ Some true → fault_at_exchange o e ≡ Some fault → fault ≡ OutOfMemory
      refused_by None h f = absurd (cc)
      refused_by (Some x) h f =
          let staged : is_forwarded x.stage ≡ true = cc in
          let none : fault_at_exchange (Some x) e ≡ None = asks x ∙ (ap (λ (a : Option CoreFault). fault_else a (fault_if_not_forwarded x.stage)) (early_by now early) ∙ not_out x.stage staged) in
          let no : None ≡ Some fault = sym none ∙ f in
          absurd (cc)
  out_refused e asks (inr memory) = memory.1

  pub answer_refused : (r : Response) → (step_fault xs (Answer now id r) ≡ Some fault) ⊎ ((step_fault xs (Answer now id r) ≡ None) × (fault ≡ OutOfMemory)) → fault ≡ OutOfMemory
  answer_refused r h = out_refused (Answer now id r) (λ x. refl) h

  pub failure_refused : (kind : FailKind) → (step_fault xs (Fail now id kind) ≡ Some fault) ⊎ ((step_fault xs (Fail now id kind) ≡ None) × (fault ≡ OutOfMemory)) → fault ≡ OutOfMemory
  failure_refused kind h = out_refused (Fail now id kind) (λ x. refl) h

-- and a wake of one that may be woken
pub wake_refused : (xs : List Exchange) (now id : ℕ) (fault : CoreFault) → ExchangeMayBeWoken id xs → now < START_OF_YEAR_10000 → (step_fault xs (Wake now id) ≡ Some fault) ⊎ ((step_fault xs (Wake now id) ≡ None) × (fault ≡ OutOfMemory)) → fault ≡ OutOfMemory
wake_refused xs now id fault r early (inl represents) =
    let none : step_fault xs (Wake now id) ≡ None =
    ap (λ (w : Option Exchange). fault_at_exchange w (Wake now id)) r.is_open
    ∙ (ap (λ (a : Option CoreFault). fault_else a (fault_if_not_released r.x.stage)) (early_by now early) ∙ ap (λ (b : Bool). cond b None (Some NotReady)) r.stage) in
    let no : None ≡ Some fault = sym none ∙ represents in
    absurd (cc)
wake_refused xs now id fault r early (inr memory) = memory.1
