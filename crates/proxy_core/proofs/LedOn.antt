-- The next leader, and what becomes of those that waited for one whose client went away.
use Rattle.std.proofs.Common.{◌≡◌, ◌⊎◌, ℕ, Bool, true, false, not, cond, ◌&&◌, ◌||◌, eqb, Option, None, Some, List, [], ◌∷◌, ◌++◌, map, refl, sym, ◌∙◌, ap, inl, inr}
use Rattle.std.specs.Prelude.{option_map, nat_le}
use Rattle.std.specs.List.{AllByRecursion}
use Rattle.std.proofs.lemmas.Bool.{cases_Bool, false≢true, false_from_ne_true, le-leb, leb-true}
use Rattle.std.proofs.lemmas.Option.{same_Some}
use Rattle.hx_allow.specs.TableLines.{Table}
use Rattle.hx_allow.specs.Matching.{policy_of}
use Rattle.hx_reuse.specs.Conditions.{forwards_client_condition}
use Rattle.hx_reuse.specs.FilledRanges.{forwards_range}
use Rattle.proxy_core.specs.declared.open.stage.Stage.{Stage}
use Rattle.proxy_core.specs.declared.open.stage.Stage.TheVariants.{Forwarded, Waiting, Released}
use Rattle.proxy_core.specs.declared.open.exchange.Exchange.{Exchange}
use Rattle.proxy_core.specs.declared.open.as_next_leader.NextLeader.{NextLeader}
use Rattle.proxy_core.specs.Leading.{waits_for, is_waiting, is_forwarded, has_authorization, bools_are_equal}
use Rattle.proxy_core.specs.Outcomes.{find_exchange}
use Rattle.proxy_core.proofs.ExchangeLists.{find-abandoned, led_on-id}
use Rattle.proxy_core.specs.LeadingOn.{wait_is_limited, may_lead_next, as_next_leader, first_waiter_to_lead, count_waiting_for, most_followers_led_on, next_leader, follows_next_leader, stage_after_leader, waiter_after_abandon, exchanges_without, exchanges_after_abandon, ExchangeMayBecomeLeader, IsNextLeader, WaiterCouldBeSentNextLeadersAnswer}
use Rattle.proxy_core.proofs.AskedArrivals.{KeepsItsPlace}
use Rattle.proxy_core.proofs.Waiters.{TurnsAway}

-- ---- what becomes of one that waited

pub behind_is : (table : Table) (next : Option NextLeader) (x : Exchange) → (stage_after_leader table next x ≡ Released) ⊎ ((l : ℕ) × (stage_after_leader table next x ≡ Waiting l) × (wait_is_limited table x ≡ true))
behind_is table None x = inl refl
behind_is table (Some next) x = elim (cases_Bool (follows_next_leader table next x)) [
  | inl t ↦ inr (next.id, ap (λ b. cond b (Waiting next.id) Released) t, middle (not (eqb x.id next.id)) (wait_is_limited table x) _ t)
  | inr f ↦ inl (ap (λ b. cond b (Waiting next.id) Released) f)
]
  where
    middle : (a b c : Bool) → (a && (b && c)) ≡ true → b ≡ true
    middle true true c h = refl
    middle true false c h = absurd (false≢true h)
    middle false b c h = absurd (false≢true h)

-- the stage of one that is led on
pub led_on-stage : (table : Table) (next : Option NextLeader) (q : ℕ) (x : Exchange) → (waiter_after_abandon table next q x).stage ≡ cond (waits_for q x.stage) (stage_after_leader table next x) x.stage
led_on-stage table next q x = elim (waits_for q x.stage) as (λ b. (cond b (record x { stage = stage_after_leader table next x }) x).stage ≡ cond b (stage_after_leader table next x) x.stage) [
  | true ↦ refl
  | false ↦ refl
]

-- one that waited and waits on does so for a limited time
pub turned_has_an_end : (table : Table) (j id m : ℕ) (xs : List Exchange) (z : Exchange) → find_exchange id xs ≡ Some z → eqb j id ≡ false → waits_for j z.stage ≡ true
    → find_exchange id (exchanges_after_abandon table j xs) ≡ Some (record z { stage = Waiting m }) → wait_is_limited table z ≡ true
turned_has_an_end table j id m xs z f n w there = elim (behind_is table next z) [
  | inl r ↦ (
      let no : Released ≡ Waiting m = sym r ∙ waits in
      absurd (cc)
      )
  | inr v ↦ v.2
]
  where
    next : Option NextLeader
    next = next_leader table j xs

    is : Some (waiter_after_abandon table (next_leader table j xs) j z) ≡ Some (record z { stage = Waiting m })
    is =
        sym (find-abandoned table j id xs ∙ ap (λ b. cond b None (option_map (waiter_after_abandon table (next_leader table j xs) j) (find_exchange id xs))) n
        ∙ ap (option_map (waiter_after_abandon table (next_leader table j xs) j)) f) ∙ there

    waits : stage_after_leader table (next_leader table j xs) z ≡ Waiting m
    waits =
        sym (led_on-stage table (next_leader table j xs) j z ∙ ap (λ b. cond b (stage_after_leader table (next_leader table j xs) z) z.stage) w)
        ∙ ap (λ (y : Exchange). y.stage) (same_Some (waiter_after_abandon table (next_leader table j xs) j z) (record z { stage = Waiting m }) is)

-- nobody is at the origin behind it
pub behind-not_out : (table : Table) (next : Option NextLeader) (x : Exchange) → is_forwarded (stage_after_leader table next x) ≡ false
behind-not_out table next x = elim (behind_is table next x) [
  | inl r ↦ ap is_forwarded r
  | inr w ↦ ap is_forwarded w.1
]

pub waits_not_out : (q : ℕ) (s : Stage) → waits_for q s ≡ true → is_forwarded s ≡ false
waits_not_out q Forwarded h = absurd (false≢true h)
waits_not_out q (Waiting leader) h = refl
waits_not_out q Released h = refl

pub waits_waiting : (q : ℕ) (s : Stage) → waits_for q s ≡ true → is_waiting s ≡ true
waits_waiting q Forwarded h = absurd (false≢true h)
waits_waiting q (Waiting leader) h = refl
waits_waiting q Released h = absurd (false≢true h)

pub led_on-place : (table : Table) (next : Option NextLeader) (q : ℕ) → KeepsItsPlace (waiter_after_abandon table next q)
led_on-place table next q x = (
  elim (waits_for q x.stage) as (λ b. (cond b (record x { stage = stage_after_leader table next x }) x).asked ≡ x.asked) [ true ↦ refl | false ↦ refl ],
  elim (cases_Bool (waits_for q x.stage)) [
    | inl t ↦ ap (λ b. is_forwarded (cond b (record x { stage = stage_after_leader table next x }) x).stage) t ∙ (behind-not_out table next x ∙ sym (waits_not_out q x.stage t))
    | inr f ↦ ap (λ b. is_forwarded (cond b (record x { stage = stage_after_leader table next x }) x).stage) f
  ],
)

pub led_on-others : (table : Table) (next : Option NextLeader) (q : ℕ) (x : Exchange) → waits_for q x.stage ≡ false → waiter_after_abandon table next q x ≡ x
led_on-others table next q x f = ap (λ b. cond b (record x { stage = stage_after_leader table next x }) x) f

-- it waits for the next leader, or for nobody
pub led_away : (table : Table) (next : NextLeader) (q : ℕ) → eqb next.id q ≡ false → TurnsAway q (waiter_after_abandon table (Some next) q)
led_away table next q apart = record {
  others = led_on-others table (Some next) q;
  no_more = λ x. ap (waits_for q) (led_on-stage table (Some next) q x) ∙ by_wait x (waits_for q x.stage) refl;
}
  where
    by_follow : (b : Bool) → waits_for q (cond b (Waiting next.id) Released) ≡ false
    by_follow true = apart
    by_follow false = refl

    by_wait : (x : Exchange) (b : Bool) → waits_for q x.stage ≡ b → waits_for q (cond b (stage_after_leader table (Some next) x) x.stage) ≡ false
    by_wait x true w = by_follow (follows_next_leader table next x)
    by_wait x false w = w

-- it is all the same whether the one that ends goes first
pub without-led_on : (table : Table) (next : Option NextLeader) (q id : ℕ) (xs : List Exchange) → exchanges_without id (map (waiter_after_abandon table next q) xs) ≡ map (waiter_after_abandon table next q) (exchanges_without id xs)
without-led_on table next q id [] = refl
without-led_on table next q id (x ∷ xs) =
    ap (λ n. cond (not (eqb n id)) (waiter_after_abandon table next q x ∷ exchanges_without id (map (waiter_after_abandon table next q) xs)) (exchanges_without id (map (waiter_after_abandon table next q) xs))) (led_on-id table next q x)
    ∙ by_id (without-led_on table next q id xs) (eqb x.id id)
  where
    by_id : exchanges_without id (map (waiter_after_abandon table next q) xs) ≡ map (waiter_after_abandon table next q) (exchanges_without id xs) → (b : Bool) →
        cond (not b) (waiter_after_abandon table next q x ∷ exchanges_without id (map (waiter_after_abandon table next q) xs)) (exchanges_without id (map (waiter_after_abandon table next q) xs))
        ≡ map (waiter_after_abandon table next q) (cond (not b) (x ∷ exchanges_without id xs) (exchanges_without id xs))
    by_id rest true = rest
    by_id rest false = ap (λ (ys : List Exchange). waiter_after_abandon table next q x ∷ ys) rest

-- ---- which leads on

and_left : (a b : Bool) → (a && b) ≡ true → a ≡ true
and_left true b h = refl
and_left false b h = absurd (false≢true h)

and_right : (a b : Bool) → (a && b) ≡ true → b ≡ true
and_right true b h = h
and_right false b h = absurd (false≢true h)

not_true : (a : Bool) → not a ≡ true → a ≡ false
not_true true h = sym h
not_true false h = refl

-- over a line without the word it is so, over one with it where the test is
by_word : (w b : Bool) → (not w || b) ≡ true → w ≡ true → b ≡ true
by_word true b h e = h
by_word false b h e = absurd (false≢true e)

to_word : (w b : Bool) → (w ≡ true → b ≡ true) → (not w || b) ≡ true
to_word true b h = h refl
to_word false b h = refl

both_true : (a b : Bool) → a ≡ true → b ≡ true → (a && b) ≡ true
both_true true b h k = k
both_true false b h k = absurd (false≢true h)

pub may_in_words : (table : Table) (id : ℕ) (x : Exchange) → eqb x.id id ≡ false → (waits_for id x.stage && may_lead_next table x) ≡ true → ExchangeMayBecomeLeader table id x
may_in_words table id x another h =
    let p = policy_of table.lines x.line in
    let may = and_right (waits_for id x.stage) (may_lead_next table x) h in
    let rest = and_right (wait_is_limited table x) (not (forwards_range p x.asked) && (not p.waits_for_stale || (not x.no_store && not (forwards_client_condition p x.asked)))) may in
    let others = and_right (not (forwards_range p x.asked)) (not p.waits_for_stale || (not x.no_store && not (forwards_client_condition p x.asked))) rest in
    record {
      another = another;
      waits = and_left (waits_for id x.stage) (may_lead_next table x) h;
      has_limited_wait = and_left (wait_is_limited table x) (not (forwards_range p x.asked) && (not p.waits_for_stale || (not x.no_store && not (forwards_client_condition p x.asked)))) may;
      whole = not_true (forwards_range p x.asked) (and_left (not (forwards_range p x.asked)) (not p.waits_for_stale || (not x.no_store && not (forwards_client_condition p x.asked))) rest);
      answer_may_serve_others = λ w.
          let k = by_word p.waits_for_stale (not x.no_store && not (forwards_client_condition p x.asked)) others w in
          (not_true x.no_store (and_left (not x.no_store) (not (forwards_client_condition p x.asked)) k), not_true (forwards_client_condition p x.asked) (and_right (not x.no_store) (not (forwards_client_condition p x.asked)) k));
    }

pub may_by_words : (table : Table) (id : ℕ) (x : Exchange) → ExchangeMayBecomeLeader table id x → (waits_for id x.stage && may_lead_next table x) ≡ true
may_by_words table id x m =
    let p = policy_of table.lines x.line in
    both_true (waits_for id x.stage) (may_lead_next table x) m.waits
    (both_true (wait_is_limited table x) (not (forwards_range p x.asked) && (not p.waits_for_stale || (not x.no_store && not (forwards_client_condition p x.asked)))) m.has_limited_wait
    (both_true (not (forwards_range p x.asked)) (not p.waits_for_stale || (not x.no_store && not (forwards_client_condition p x.asked))) (ap not m.whole)
    (to_word p.waits_for_stale (not x.no_store && not (forwards_client_condition p x.asked)) (λ w. both_true (not x.no_store) (not (forwards_client_condition p x.asked)) (ap not (m.answer_may_serve_others w).0) (ap not (m.answer_may_serve_others w).1)))))

-- it is the first that may lead on, however many wait
record IsFirstToLeadOn (table : Table) (id : ℕ) (xs : List Exchange) (x : Exchange) : Type 0 where
  before : List Exchange
  behind : List Exchange
  open_exchanges_are : xs ≡ before ++ x ∷ behind
  it_may_lead : ExchangeMayBecomeLeader table id x
  none_before : AllByRecursion (λ (y : Exchange). ExchangeMayBecomeLeader table id y → ⊥) before

-- the first in words is the first that is found
first_is : (table : Table) (id : ℕ) (xs before behind : List Exchange) (x : Exchange) → xs ≡ before ++ x ∷ behind → ExchangeMayBecomeLeader table id x
    → AllByRecursion (λ (y : Exchange). ExchangeMayBecomeLeader table id y → ⊥) before → first_waiter_to_lead table id (exchanges_without id xs) ≡ Some (as_next_leader x)
first_is table id xs before behind x is may none = ap (λ (zs : List Exchange). first_waiter_to_lead table id (exchanges_without id zs)) is ∙ among before none
  where
    among : (before : List Exchange) → AllByRecursion (λ (y : Exchange). ExchangeMayBecomeLeader table id y → ⊥) before → first_waiter_to_lead table id (exchanges_without id (before ++ x ∷ behind)) ≡ Some (as_next_leader x)
    among [] none =
        ap (λ b. first_waiter_to_lead table id (cond (not b) (x ∷ exchanges_without id behind) (exchanges_without id behind))) may.another
        ∙ ap (λ b. cond b (Some (as_next_leader x)) (first_waiter_to_lead table id (exchanges_without id behind))) (may_by_words table id x may)
    among (y ∷ before) none = elim (cases_Bool (eqb y.id id)) [
      | inl t ↦ ap (λ b. first_waiter_to_lead table id (cond (not b) (y ∷ exchanges_without id (before ++ x ∷ behind)) (exchanges_without id (before ++ x ∷ behind)))) t ∙ among before none.1
      | inr f ↦ (
          ap (λ b. first_waiter_to_lead table id (cond (not b) (y ∷ exchanges_without id (before ++ x ∷ behind)) (exchanges_without id (before ++ x ∷ behind)))) f
          ∙ (ap (λ b. cond b (Some (as_next_leader y)) (first_waiter_to_lead table id (exchanges_without id (before ++ x ∷ behind)))) (may_not y f none.0) ∙ among before none.1)
          )
    ]
      where
        may_not : (y : Exchange) → eqb y.id id ≡ false → (ExchangeMayBecomeLeader table id y → ⊥) → (waits_for id y.stage && may_lead_next table y) ≡ false
        may_not y f never = false_from_ne_true _ (λ t. never (may_in_words table id y f t))

-- and where one is found there is one in words
first_in_words : (table : Table) (id : ℕ) (xs : List Exchange) (next : NextLeader) → first_waiter_to_lead table id (exchanges_without id xs) ≡ Some next → (x : Exchange) × IsFirstToLeadOn table id xs x
first_in_words table id [] next h = absurd (cc)
first_in_words table id (y ∷ xs) next h = by_id (λ k. first_in_words table id xs next k) (eqb y.id id) refl h
  where
    behind_it : ((z : Exchange) × IsFirstToLeadOn table id xs z) → (ExchangeMayBecomeLeader table id y → ⊥) → (z : Exchange) × IsFirstToLeadOn table id (y ∷ xs) z
    behind_it n never = (
      n.0,
      record {
        before = y ∷ n.1.before;
        behind = n.1.behind;
        open_exchanges_are = ap (λ (zs : List Exchange). y ∷ zs) n.1.open_exchanges_are;
        it_may_lead = n.1.it_may_lead;
        none_before = (never, n.1.none_before);
      },
    )

    by_test : (first_waiter_to_lead table id (exchanges_without id xs) ≡ Some next → (z : Exchange) × IsFirstToLeadOn table id xs z) → (b : Bool) → (waits_for id y.stage && may_lead_next table y) ≡ b → eqb y.id id ≡ false → cond b (Some (as_next_leader y)) (first_waiter_to_lead table id (exchanges_without id xs)) ≡ Some next → (z : Exchange) × IsFirstToLeadOn table id (y ∷ xs) z
    by_test rest true t f h = (y, record { before = []; behind = xs; open_exchanges_are = refl; it_may_lead = may_in_words table id y f t; none_before = tt })
    by_test rest false t f h = behind_it (rest h) (λ m. false≢true (sym t ∙ may_by_words table id y m))

    by_id : (first_waiter_to_lead table id (exchanges_without id xs) ≡ Some next → (z : Exchange) × IsFirstToLeadOn table id xs z) → (b : Bool) → eqb y.id id ≡ b → first_waiter_to_lead table id (cond (not b) (y ∷ exchanges_without id xs) (exchanges_without id xs)) ≡ Some next → (z : Exchange) × IsFirstToLeadOn table id (y ∷ xs) z
    by_id rest true e h = behind_it (rest h) (λ m. false≢true (sym m.another ∙ e))
    by_id rest false e h = by_test rest (waits_for id y.stage && may_lead_next table y) refl e h

-- the same where no more wait than are led on
pub next_is : (table : Table) (id : ℕ) (xs : List Exchange) (x : Exchange) → IsNextLeader table id xs x → next_leader table id xs ≡ Some (as_next_leader x)
next_is table id xs x n =
    ap (λ b. cond b (first_waiter_to_lead table id (exchanges_without id xs)) None) (le-leb (count_waiting_for id xs) most_followers_led_on n.few_enough_wait)
    ∙ first_is table id xs n.before n.behind x n.open_exchanges_are n.it_may_lead n.none_before

pub next_in_words : (table : Table) (id : ℕ) (xs : List Exchange) (next : NextLeader) → next_leader table id xs ≡ Some next → (x : Exchange) × IsNextLeader table id xs x
next_in_words table id xs next h = by_count (nat_le (count_waiting_for id xs) most_followers_led_on) refl h
  where
    by_count : (b : Bool) → nat_le (count_waiting_for id xs) most_followers_led_on ≡ b → cond b (first_waiter_to_lead table id (exchanges_without id xs)) None ≡ Some next → (x : Exchange) × IsNextLeader table id xs x
    by_count true few k =
        let w = first_in_words table id xs next k in (
          w.0,
          record {
            before = w.1.before;
            behind = w.1.behind;
            open_exchanges_are = w.1.open_exchanges_are;
            it_may_lead = w.1.it_may_lead;
            none_before = w.1.none_before;
            few_enough_wait = leb-true (count_waiting_for id xs) most_followers_led_on few;
          },
        )
    by_count false few k = absurd (cc)

-- ---- who follows it

same_is : (a b : Bool) → bools_are_equal a b ≡ true → a ≡ b
same_is true true h = refl
same_is true false h = absurd (false≢true h)
same_is false true h = absurd (false≢true h)
same_is false false h = refl

is_same : (a b : Bool) → a ≡ b → bools_are_equal a b ≡ true
is_same true true h = refl
is_same true false h = sym h
is_same false true h = h
is_same false false h = refl

pub follows_in_words : (table : Table) (next x : Exchange) → follows_next_leader table (as_next_leader next) x ≡ true → WaiterCouldBeSentNextLeadersAnswer table next x
follows_in_words table next x h =
    let p = policy_of table.lines x.line in
    let same = bools_are_equal (has_authorization x.asked) (has_authorization next.asked) in
    let rest = and_right (not (eqb x.id next.id)) (wait_is_limited table x && (not p.waits_for_stale || same)) h in
    record {
      another = not_true (eqb x.id next.id) (and_left (not (eqb x.id next.id)) (wait_is_limited table x && (not p.waits_for_stale || same)) h);
      has_limited_wait = and_left (wait_is_limited table x) (not p.waits_for_stale || same) rest;
      has_same_authorization = λ w. same_is (has_authorization x.asked) (has_authorization next.asked) (by_word p.waits_for_stale same (and_right (wait_is_limited table x) (not p.waits_for_stale || same) rest) w);
    }

pub follows_by_words : (table : Table) (next x : Exchange) → WaiterCouldBeSentNextLeadersAnswer table next x → follows_next_leader table (as_next_leader next) x ≡ true
follows_by_words table next x c =
    let p = policy_of table.lines x.line in
    let same = bools_are_equal (has_authorization x.asked) (has_authorization next.asked) in
    both_true (not (eqb x.id next.id)) (wait_is_limited table x && (not p.waits_for_stale || same)) (ap not c.another)
    (both_true (wait_is_limited table x) (not p.waits_for_stale || same) c.has_limited_wait
    (to_word p.waits_for_stale same (λ w. is_same (has_authorization x.asked) (has_authorization next.asked) (c.has_same_authorization w))))
