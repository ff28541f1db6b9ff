-- Who waits for an id, among exchanges that were changed: each still has a number that passes, and the index of those that
-- wait tells just them.
use Rattle.std.proofs.Common.{◌≡◌, ◌<◌, ℕ, Bool, true, false, not, cond, ◌&&◌, ◌||◌, eqb, None, Some, Option, List, [], ◌∷◌, ◌++◌, refl, sym, ◌∙◌, ap, subst, is_eq, arith, inl, inr}
use Rattle.std.specs.Option.{ForSome}
use Rattle.std.specs.Ordering.{nat_cmp, match_ordering}
use Rattle.std.specs.BTreeMap.{get, is_at}
use Rattle.std.specs.BTreeSet.{BTreeSet, insert_key}
use Rattle.std.specs.List.{All, AllByRecursion, list_any}
use Rattle.std.specs.List.Sorted.{IsStrictlySortedBy}
use Rattle.std.specs.declared.cmp.Ordering.{Ordering}
use Rattle.std.specs.declared.cmp.Ordering.TheVariants.{Less, Equal, Greater}
use Rattle.std.proofs.lemmas.Map.Keys.{sorted_head, sorted_tail}
use Rattle.std.specs.Map.{lookup, remove_entry, set_value, keys_of}
use Rattle.std.proofs.lemmas.Bool.{cases_Bool, eqb-true, eq-eqb, false≢true, false_from_ne_true}
use Rattle.std.proofs.lemmas.Bool.Decides.{nat_tests}
use Rattle.std.proofs.lemmas.List.Elements.{All-head, All-tail}
use Rattle.std.proofs.lemmas.Option.{same_Some}
use Rattle.proxy_core.specs.declared.open.exchange.Exchange.{Exchange}
use Rattle.proxy_core.specs.declared.open.stage.Stage.{Stage}
use Rattle.proxy_core.specs.declared.open.stage.Stage.TheVariants.{Forwarded, Waiting, Released}
use Rattle.proxy_core.specs.declared.open.wait_index.WaitIndex.{WaitIndex}
use Rattle.proxy_core.specs.Leading.{is_forwarded, waits_for}
use Rattle.proxy_core.specs.Scopes.{Scope, key_is_in_scope}
use Rattle.proxy_core.specs.State.{exchange_released_from_leader, exchange_overtaken_if_in_scope}
use Rattle.proxy_core.specs.Waiters.{arrival_is_in_wait_index, ArrivalIsAddedIfWaiting, ArrivalIsRemovedIfWaiting, WaitersAreRemoved, WaitIndexesHaveSameMembers, ArrivalIsNotInWaitIndex, SetIsNotEmpty, WaitIndexHasNoEmptySet, OtherIdsHaveNoEmptyWaiterSet}
use Rattle.proxy_core.specs.Arrivals.{exchanges_each_changed, HaveDistinctArrivalsAndIds, SelectedArrivalsPassTest, IsExactIndexOfSelected, WaitingArrivalsPassTest}
use Rattle.proxy_core.proofs.ExchangeLists.{cond_none}
use Rattle.proxy_core.proofs.Indexed.{lookup-removed, lookup-set, not_indexed, indexes-entered, indexes-left, indexes-on_all}

abbrev Numbered : Type 0
Numbered = List (ℕ × Exchange)

abbrev at : ℕ → ℕ → Bool
at n k = is_at (nat_cmp n) k

pub at_is : (n k : ℕ) → at n k ≡ eqb n k
at_is n k = grind (arith, nat_tests)

-- ---- other tests

pub pass-more : (which : Exchange → Bool) (p q : ℕ → Bool) (es : Numbered) → ((m : ℕ) → p m ≡ true → q m ≡ true) → SelectedArrivalsPassTest which p es → SelectedArrivalsPassTest which q es
pass-more which p q [] k h = tt
pass-more which p q (e ∷ es) k h = (λ w. k e.0 (h.0 w), pass-more which p q es k h.1)

-- of a number that none has the test may say what it will
pub pass-but : (which : Exchange → Bool) (n : ℕ) (p q : ℕ → Bool) (es : Numbered) → lookup (at n) es ≡ None → ((m : ℕ) → eqb n m ≡ false → p m ≡ true → q m ≡ true) → SelectedArrivalsPassTest which p es → SelectedArrivalsPassTest which q es
pass-but which n p q [] none k h = tt
pass-but which n p q (e ∷ es) none k h =
    let c = cond_none (at n e.0) e.1 (lookup (at n) es) none in
    (λ w. k e.0 (sym (at_is n e.0) ∙ c.0) (h.0 w), pass-but which n p q es c.1 k h.1)

pub none_has : (n : ℕ) (es : Numbered) → All (λ k. k < n) (keys_of es) → lookup (at n) es ≡ None
none_has n [] h = refl
none_has n (e ∷ es) h =
    let below : e.0 < n = All-head (λ k. k < n) e.0 (keys_of es) h in
    let other : at n e.0 ≡ false = at_is n e.0 ∙ grind (arith, nat_tests) in
    ap (λ b. cond b (Some e.1) (lookup (at n) es)) other ∙ none_has n es (All-tail (λ k. k < n) e.0 (keys_of es) h)

-- ---- opening and closing

pub pass-opened : (which : Exchange → Bool) (n : ℕ) (x : Exchange) (p : ℕ → Bool) (es : Numbered) → (which x ≡ true → p n ≡ true) → SelectedArrivalsPassTest which p es → SelectedArrivalsPassTest which p (es ++ (n, x) ∷ [])
pass-opened which n x p [] k h = (k, tt)
pass-opened which n x p (e ∷ es) k h = (h.0, pass-opened which n x p es k h.1)

pub pass-removed : (which : Exchange → Bool) (n : ℕ) (p q : ℕ → Bool) (es : Numbered) → HaveDistinctArrivalsAndIds es → ((m : ℕ) → eqb n m ≡ false → p m ≡ true → q m ≡ true) →
    SelectedArrivalsPassTest which p es → SelectedArrivalsPassTest which q (remove_entry (at n) es)
pass-removed which n p q [] a k h = tt
pass-removed which n p q (e ∷ es) a k h = elim (cases_Bool (at n e.0)) [
  | inl t ↦ subst (λ b. SelectedArrivalsPassTest which q (cond b es (e ∷ remove_entry (at n) es))) (sym t)
      (pass-but which n p q es (ap (λ i. lookup (at i) es) (eqb-true n e.0 (sym (at_is n e.0) ∙ t)) ∙ a.0) k h.1)
  | inr f ↦ subst (λ b. SelectedArrivalsPassTest which q (cond b es (e ∷ remove_entry (at n) es))) (sym f)
      (λ w. k e.0 (sym (at_is n e.0) ∙ f) (h.0 w), pass-removed which n p q es a.2 k h.1)
]

-- ---- changing

pub pass-on_all : (which : Exchange → Bool) (p : ℕ → Bool) (f : Exchange → Exchange) → ((x : Exchange) → which (f x) ≡ true → which x ≡ true) →
    (es : Numbered) → SelectedArrivalsPassTest which p es → SelectedArrivalsPassTest which p (exchanges_each_changed f es)
pass-on_all which p f k [] h = tt
pass-on_all which p f k (e ∷ es) h = (λ w. h.0 (k e.1 w), pass-on_all which p f k es h.1)

-- ---- releasing

still : (id q : ℕ) (s : Stage) → waits_for q s ≡ true → waits_for id s ≡ true → eqb q id ≡ true
still id q Forwarded h k = absurd (false≢true h)
still id q (Waiting leader) h k = eq-eqb q id (sym (eqb-true leader q h) ∙ eqb-true leader id k)
still id q Released h k = absurd (false≢true h)

-- who still waits waits for another
pub waits_on : (q id : ℕ) (x : Exchange) → waits_for id (exchange_released_from_leader q x).stage ≡ true → (waits_for id x.stage ≡ true) × (eqb q id ≡ false)
waits_on q id x h = elim (cases_Bool (waits_for q x.stage)) [
  | inl t ↦ absurd (false≢true (sym (ap (λ b. waits_for id (cond b (record x { stage = Released }) x).stage) t) ∙ h))
  | inr f ↦ (
      let w : waits_for id x.stage ≡ true = sym (ap (λ b. waits_for id (cond b (record x { stage = Released }) x).stage) f) ∙ h in
      (w, other (eqb q id) refl w f)
      )
]
  where
    other : (b : Bool) → eqb q id ≡ b → waits_for id x.stage ≡ true → waits_for q x.stage ≡ false → b ≡ false
    other true e w f = absurd (false≢true (sym f ∙ ap (λ i. waits_for i x.stage) (eqb-true q id e) ∙ w))
    other false e w f = refl

-- a change of those alone that wait for an id, behind which they don't
pub record TurnsAway (q : ℕ) (f : Exchange → Exchange) : Type 0 where
  pub others : (x : Exchange) → waits_for q x.stage ≡ false → f x ≡ x
  pub no_more : (x : Exchange) → waits_for q (f x).stage ≡ false

pub released_away : (q : ℕ) → TurnsAway q (exchange_released_from_leader q)
released_away q = record {
  others = λ x f. ap (λ b. cond b (record x { stage = Released }) x) f;
  no_more = λ x. elim (cases_Bool (waits_for q (exchange_released_from_leader q x).stage)) [
    | inl t ↦ absurd (false≢true (sym (waits_on q q x t).1 ∙ eq-eqb q q refl))
    | inr f ↦ f
  ];
}

-- where none waits it changes nothing
pub none_turned : (q : ℕ) (f : Exchange → Exchange) → TurnsAway q f → (es : Numbered) → WaitingArrivalsPassTest q (λ n. false) es → exchanges_each_changed f es ≡ es
none_turned q f k [] h = refl
none_turned q f k (e ∷ es) h = elim (cases_Bool (waits_for q e.1.stage)) [
  | inl t ↦ absurd (false≢true (h.0 t))
  | inr o ↦ (
      ap (λ (x : Exchange). (e.0, x) ∷ exchanges_each_changed f es) (k.others e.1 o)
      ∙ ap (λ (zs : Numbered). e ∷ zs) (none_turned q f k es h.1)
      )
]

pub none_released : (q : ℕ) (es : Numbered) → WaitingArrivalsPassTest q (λ n. false) es → exchanges_each_changed (exchange_released_from_leader q) es ≡ es
none_released q es h = none_turned q (exchange_released_from_leader q) (released_away q) es h

-- those whose numbers are still to come
abbrev pub TheRest : ℕ → List ℕ → Numbered → Type 0
TheRest q ns es = WaitingArrivalsPassTest q (λ k. list_any (λ n. at k n) ns) es

-- one was turned away at its number
pub turned_at : (q : ℕ) (f : Exchange → Exchange) → TurnsAway q f → (n : ℕ) (x : Exchange) (es : Numbered) → lookup (at n) es ≡ Some x → exchanges_each_changed f (set_value (at n) es (f x)) ≡ exchanges_each_changed f es
turned_at q f k n x [] h = absurd (cc)
turned_at q f k n x (e ∷ es) h = elim (cases_Bool (at n e.0)) [
  | inl t ↦ (
      let is : e.1 ≡ x = same_Some e.1 x (sym (ap (λ b. cond b (Some e.1) (lookup (at n) es)) t) ∙ h) in
      ap (λ b. exchanges_each_changed f (cond b ((e.0, f x) ∷ es) (e ∷ set_value (at n) es (f x)))) t
      ∙ ap (λ (y : Exchange). (e.0, y) ∷ exchanges_each_changed f es) (k.others (f x) (k.no_more x) ∙ ap f (sym is))
      )
  | inr o ↦ (
      ap (λ b. exchanges_each_changed f (cond b ((e.0, f x) ∷ es) (e ∷ set_value (at n) es (f x)))) o
      ∙ ap (λ (zs : Numbered). (e.0, f e.1) ∷ zs) (turned_at q f k n x es (sym (ap (λ b. cond b (Some e.1) (lookup (at n) es)) o) ∙ h))
      )
]

pub released_at : (q n : ℕ) (x : Exchange) (es : Numbered) → lookup (at n) es ≡ Some x → exchanges_each_changed (exchange_released_from_leader q) (set_value (at n) es (exchange_released_from_leader q x)) ≡ exchanges_each_changed (exchange_released_from_leader q) es
released_at q n x es h = turned_at q (exchange_released_from_leader q) (released_away q) n x es h

pub not_at : (n m : ℕ) → eqb n m ≡ false → at m n ≡ false
not_at n m o = grind (arith, nat_tests, o)

rest-none : (q n : ℕ) (ns : List ℕ) (es : Numbered) → lookup (at n) es ≡ None → TheRest q (n ∷ ns) es → TheRest q ns es
rest-none q n ns es none h =
    pass-but (λ x. waits_for q x.stage) n (λ k. list_any (λ m. at k m) (n ∷ ns)) (λ k. list_any (λ m. at k m) ns) es none (λ m o t. other m o t) h
  where
    other : (m : ℕ) → eqb n m ≡ false → (at m n || list_any (λ k. at m k) ns) ≡ true → list_any (λ k. at m k) ns ≡ true
    other m o t = sym (ap (λ b. b || list_any (λ k. at m k) ns) (not_at n m o)) ∙ t

pub rest-closed : (q n : ℕ) (ns : List ℕ) (es : Numbered) → None ≡ lookup (at n) es → TheRest q (n ∷ ns) es → TheRest q ns es
rest-closed q n ns es none h = rest-none q n ns es (sym none) h

pub none_behind : (n : ℕ) (es : Numbered) → AllByRecursion (λ k. nat_cmp n k ≡ Less) (keys_of es) → lookup (at n) es ≡ None
none_behind n [] h = refl
none_behind n (e ∷ es) h =
    let other : at n e.0 ≡ false = ap is_eq h.0 in
    ap (λ b. cond b (Some e.1) (lookup (at n) es)) other ∙ none_behind n es h.1

pub rest-turned : (q : ℕ) (f : Exchange → Exchange) → TurnsAway q f → (n : ℕ) (x : Exchange) (ns : List ℕ) (es : Numbered) → IsStrictlySortedBy nat_cmp (keys_of es) → lookup (at n) es ≡ Some x →
    TheRest q (n ∷ ns) es → TheRest q ns (set_value (at n) es (f x))
rest-turned q f k n x ns [] s there h = absurd (cc)
rest-turned q f k n x ns (e ∷ es) s there h = elim (cases_Bool (at n e.0)) [
  | inl t ↦ (
      let i : n ≡ e.0 = eqb-true n e.0 (sym (at_is n e.0) ∙ t) in
      let none : lookup (at n) es ≡ None = ap (λ i. lookup (at i) es) i ∙ none_behind e.0 es (sorted_head nat_cmp e.0 (keys_of es) s) in
      subst (λ b. TheRest q ns (cond b ((e.0, f x) ∷ es) (e ∷ set_value (at n) es (f x)))) (sym t)
      (λ w. absurd (false≢true (sym (k.no_more x) ∙ w)), rest-none q n ns es none h.1)
      )
  | inr o ↦ (
      subst (λ b. TheRest q ns (cond b ((e.0, f x) ∷ es) (e ∷ set_value (at n) es (f x)))) (sym o) (
        λ w. sym (ap (λ b. b || list_any (λ m. at e.0 m) ns) (not_at n e.0 (sym (at_is n e.0) ∙ o))) ∙ h.0 w,
        rest-turned q f k n x ns es (sorted_tail nat_cmp e.0 (keys_of es) s) (sym (ap (λ b. cond b (Some e.1) (lookup (at n) es)) o) ∙ there) h.1,
      )
      )
]

pub rest-released : (q n : ℕ) (x : Exchange) (ns : List ℕ) (es : Numbered) → IsStrictlySortedBy nat_cmp (keys_of es) → lookup (at n) es ≡ Some x →
    TheRest q (n ∷ ns) es → TheRest q ns (set_value (at n) es (exchange_released_from_leader q x))
rest-released q n x ns es s there h = rest-turned q (exchange_released_from_leader q) (released_away q) n x ns es s there h

-- ---- the index

abbrev pub AllIndexed : WaitIndex → Numbered → Type 0
AllIndexed index es = (id : ℕ) → IsExactIndexOfSelected (λ x. waits_for id x.stage) (arrival_is_in_wait_index index id) es

pub waiters-not : (n : ℕ) (es : Numbered) (index : WaitIndex) → All (λ k. k < n) (keys_of es) → AllIndexed index es → ArrivalIsNotInWaitIndex n index
waiters-not n es index l h id = not_indexed (λ x. waits_for id x.stage) (arrival_is_in_wait_index index id) n es (none_has n es l) (h id)

pub waiters-entered : (n : ℕ) (x : Exchange) (es : Numbered) (old new : WaitIndex) → All (λ k. k < n) (keys_of es) → ArrivalIsAddedIfWaiting x.stage n old new →
    AllIndexed old es → AllIndexed new (es ++ (n, x) ∷ [])
waiters-entered n x es old new l k h id = indexes-entered (λ y. waits_for id y.stage) n x (arrival_is_in_wait_index old id) (arrival_is_in_wait_index new id) es (none_has n es l) (k id) (h id)

pub waiters-again : (es : Numbered) (old new : WaitIndex) → WaitIndexesHaveSameMembers old new → AllIndexed old es → AllIndexed new es
waiters-again es old new k h id m = k id m ∙ h id m

pub waiters-closed : (n : ℕ) (x : Exchange) (es : Numbered) (old new : WaitIndex) → HaveDistinctArrivalsAndIds es → lookup (at n) es ≡ Some x → ArrivalIsRemovedIfWaiting x.stage n old new →
    AllIndexed old es → AllIndexed new (remove_entry (at n) es)
waiters-closed n x es old new a there k h id =
    indexes-left (λ y. waits_for id y.stage) n x None (arrival_is_in_wait_index old id) (arrival_is_in_wait_index new id) es (remove_entry (at n) es) there refl (λ m. lookup-removed m n es a) (k id) (h id)

-- one that waits for none any more was written at its number
pub waiters-written : (n : ℕ) (x y : Exchange) (es : Numbered) (old new : WaitIndex) → lookup (at n) es ≡ Some x → is_forwarded y.stage ≡ true → ArrivalIsRemovedIfWaiting x.stage n old new →
    AllIndexed old es → AllIndexed new (set_value (at n) es y)
waiters-written n x y es old new there out k h id =
    indexes-left (λ z. waits_for id z.stage) n x (Some y) (arrival_is_in_wait_index old id) (arrival_is_in_wait_index new id) es (set_value (at n) es y) there (at_the_origin y.stage out) (λ m. lookup-set m n x y es there) (k id) (h id)
  where
    at_the_origin : (s : Stage) → is_forwarded s ≡ true → waits_for id s ≡ false
    at_the_origin Forwarded h = refl
    at_the_origin (Waiting leader) h = absurd (false≢true h)
    at_the_origin Released h = absurd (false≢true h)

-- a change that leaves each where it stands
pub waiters-on_all : (f : Exchange → Exchange) → ((x : Exchange) → (f x).stage ≡ x.stage) → (es : Numbered) (index : WaitIndex) → AllIndexed index es → AllIndexed index (exchanges_each_changed f es)
waiters-on_all f k es index h id =
    indexes-on_all (λ x. waits_for id x.stage) f (λ b. b) (arrival_is_in_wait_index index id) (arrival_is_in_wait_index index id) es refl (λ x. ap (waits_for id) (k x)) (λ m. refl) (h id)

pub waiters-released : (q : ℕ) (es : Numbered) (old new : WaitIndex) → WaitersAreRemoved q old new → AllIndexed old es → AllIndexed new (exchanges_each_changed (exchange_released_from_leader q) es)
waiters-released q es old new k h id =
    indexes-on_all (λ x. waits_for id x.stage) (exchange_released_from_leader q) (λ b. not (eqb q id) && b) (arrival_is_in_wait_index old id) (arrival_is_in_wait_index new id) es (none (eqb q id)) (λ x. still_waits x) (k id) (h id)
  where
    none : (b : Bool) → (not b && false) ≡ false
    none true = refl
    none false = refl

    no_more : (s : Stage) → waits_for q s ≡ true → (b : Bool) → eqb q id ≡ b → false ≡ (not b && waits_for id s)
    no_more s t true e = refl
    no_more s t false e = sym (false_from_ne_true _ (λ w. false≢true (sym e ∙ still id q s t w)))

    as_before : (s : Stage) → waits_for q s ≡ false → (b : Bool) → eqb q id ≡ b → waits_for id s ≡ (not b && waits_for id s)
    as_before s f true e = sym (ap (λ i. waits_for i s) (eqb-true q id e)) ∙ f
    as_before s f false e = refl

    still_waits : (x : Exchange) → waits_for id (exchange_released_from_leader q x).stage ≡ (not (eqb q id) && waits_for id x.stage)
    still_waits x = elim (cases_Bool (waits_for q x.stage)) [
      | inl t ↦ ap (λ b. waits_for id (cond b (record x { stage = Released }) x).stage) t ∙ no_more x.stage t (eqb q id) refl
      | inr f ↦ ap (λ b. waits_for id (cond b (record x { stage = Released }) x).stage) f ∙ as_before x.stage f (eqb q id) refl
    ]

pub overtake-stage : (key : Scope) (x : Exchange) → (exchange_overtaken_if_in_scope key x).stage ≡ x.stage
overtake-stage key x = elim (key_is_in_scope key x.asked.target.key) as (λ b. (cond b (record x { overtaken = true }) x).stage ≡ x.stage) [ true ↦ refl | false ↦ refl ]

-- ---- no id stands there for nothing

abbrev WritesAt : ℕ → Option (BTreeSet ℕ) → WaitIndex → WaitIndex → Type 0
WritesAt id w old new = (q : ℕ) → get nat_cmp new.arrivals q ≡ cond (is_at (nat_cmp id) q) w (get nat_cmp old.arrivals q)

pub some_has : (set : BTreeSet ℕ) → SetIsNotEmpty set → ForSome (Some set) SetIsNotEmpty
some_has set n x e k = n (ap (λ (s : BTreeSet ℕ). s.keys) (same_Some set x e) ∙ k)

pub nothing_has : ForSome None SetIsNotEmpty
nothing_has x e k =
    let no : None ≡ Some x = e in
    absurd (cc)

pub trim-written : (id : ℕ) (old new : WaitIndex) (w : Option (BTreeSet ℕ)) → WritesAt id w old new → ForSome w SetIsNotEmpty → WaitIndexHasNoEmptySet old → WaitIndexHasNoEmptySet new
trim-written id old new w h n o q set e k =
    let g = get nat_cmp old.arrivals q in
    elim (cases_Bool (is_at (nat_cmp id) q)) [
      | inl t ↦ n set (sym (h q ∙ ap (λ b. cond b w g) t) ∙ e) k
      | inr f ↦ o q set (sym (h q ∙ ap (λ b. cond b w g) f) ∙ e) k
    ]

pub trim-beside : (id : ℕ) (old new : WaitIndex) (w : Option (BTreeSet ℕ)) → WritesAt id w old new → WaitIndexHasNoEmptySet old → OtherIdsHaveNoEmptyWaiterSet id new
trim-beside id old new w h o q f set e k =
    let g = get nat_cmp old.arrivals q in
    o q set (sym (h q ∙ ap (λ b. cond b w g) (at_is id q ∙ f)) ∙ e) k

pub trim-removed : (id : ℕ) (mid new : WaitIndex) → WritesAt id None mid new → OtherIdsHaveNoEmptyWaiterSet id mid → WaitIndexHasNoEmptySet new
trim-removed id mid new h b q set e k =
    let g = get nat_cmp mid.arrivals q in
    elim (cases_Bool (is_at (nat_cmp id) q)) [
      | inl t ↦ (
          let n : None ≡ Some set = sym (h q ∙ ap (λ b. cond b None g) t) ∙ e in
          absurd (cc)
          )
      | inr f ↦ b q (sym (at_is id q) ∙ f) set (sym (h q ∙ ap (λ b. cond b None g) f) ∙ e) k
    ]

pub trim-same : (old new : WaitIndex) → new.arrivals.entries ≡ old.arrivals.entries → WaitIndexHasNoEmptySet old → WaitIndexHasNoEmptySet new
trim-same old new s o q set e k = o q set (ap (lookup (is_at (nat_cmp q))) (sym s) ∙ e) k

-- a number that was put in stands there
pub not_nothing : (n : ℕ) (ks : List ℕ) → insert_key nat_cmp ks n ≡ [] → ⊥
not_nothing n [] h = cc
not_nothing n (k ∷ ks) h = by_order (nat_cmp n k) h
  where
    by_order : (o : Ordering) → match_ordering o (n ∷ k ∷ ks) (k ∷ ks) (k ∷ insert_key nat_cmp ks n) ≡ [] → ⊥
    by_order Less h = cc
    by_order Equal h = cc
    by_order Greater h = cc
