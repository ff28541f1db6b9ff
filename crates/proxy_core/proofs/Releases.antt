-- The first of the exchanges that is released: between which numbers it is looked for, and that it is the one that may be woken first.
use Rattle.std.proofs.Common.{◌≡◌, ◌⊎◌, ◌<◌, ℕ, Bool, true, false, cond, ◌&&◌, eqb, nat_le, None, Some, Option, List, [], ◌∷◌, ◌++◌, filter, slice_get, refl, sym, ◌∙◌, ap, subst, arith, inl, inr}
use Rattle.std.specs.Ordering.{nat_cmp}
use Rattle.std.specs.BTreeMap.{is_at}
use Rattle.std.specs.Option.{option_map}
use Rattle.std.specs.List.{AllByRecursion}
use Rattle.std.specs.List.Sorted.{IsStrictlySortedBy}
use Rattle.std.specs.declared.cmp.Ordering.TheVariants.{Less}
use Rattle.std.specs.Map.{lookup, keys_of, values_of, remove_entry}
use Rattle.std.specs.BTreeMap.Range.{range_contains}
use Rattle.std.specs.declared.ops.Bound.TheVariants.{Included}
use Rattle.std.proofs.lemmas.Map.Keys.{sorted_head, sorted_tail}
use Rattle.std.proofs.lemmas.Bool.{cases_Bool, eq-eqb, false≢true}
use Rattle.std.proofs.lemmas.Bool.Decides.{nat_tests}
use Rattle.std.proofs.lemmas.Option.{same_Some}
use Rattle.proxy_core.specs.declared.open.exchange.Exchange.{Exchange}
use Rattle.hx_reuse.specs.declared.rule.ReuseRule.{ReuseRule}
use Rattle.proxy_core.specs.declared.steps.condition.Condition.{Condition}
use Rattle.proxy_core.specs.declared.open.released.Released.{Released}
use Rattle.proxy_core.specs.Scopes.{Scope, key_is_in_scope}
use Rattle.proxy_core.specs.State.{exchange_released_from_leader, exchange_overtaken_if_in_scope, exchange_gone_forward, exchange_after_second_forward, exchange_sent_forward_if_of_id}
use Rattle.proxy_core.specs.Leading.{is_released, wakeable_ids, waits_for}
use Rattle.proxy_core.specs.Arrivals.{HaveDistinctArrivalsAndIds, WaitingArrivalsPassTest, exchanges_each_changed}
use Rattle.proxy_core.specs.Releases.{first_released_arrival, is_between_arrivals, arrival_may_be_released, ReleasedRangeIsNotNarrowed, ReleasedArrivalsPassTest}
use Rattle.proxy_core.proofs.Waiters.{TurnsAway, released_away, pass-more, pass-opened, pass-removed, pass-on_all}

abbrev Numbered : Type 0
Numbered = List (ℕ × Exchange)

abbrev at : ℕ → ℕ → Bool
at n k = is_at (nat_cmp n) k

-- where none passes none is released
pub none_first : (es : Numbered) → ReleasedArrivalsPassTest (λ n. false) es → first_released_arrival es ≡ None
none_first [] h = refl
none_first (e ∷ es) h = elim (cases_Bool (is_released e.1.stage)) [
  | inl t ↦ absurd (false≢true (h.0 t))
  | inr f ↦ ap (λ b. cond b (Some e.0) (first_released_arrival es)) f ∙ none_first es h.1
]

first-none : (test : ℕ → Bool) (es : Numbered) → first_released_arrival es ≡ None → ReleasedArrivalsPassTest test es
first-none test [] h = tt
first-none test (e ∷ es) h = elim (cases_Bool (is_released e.1.stage)) [
  | inl t ↦ (let k : Some e.0 ≡ None = sym (ap (λ b. cond b (Some e.0) (first_released_arrival es)) t) ∙ h in absurd (cc))
  | inr f ↦ (λ w. absurd (false≢true (sym f ∙ w)), first-none test es (sym (ap (λ b. cond b (Some e.0) (first_released_arrival es)) f) ∙ h))
]

pub turned : (first last : ℕ) (es : Numbered) → last < first → ReleasedArrivalsPassTest (is_between_arrivals (Some first) last) es → first_released_arrival es ≡ None
turned first last es l h = none_first es (pass-more (λ x. is_released x.stage) (is_between_arrivals (Some first) last) (λ n. false) es (λ m t. no m t) h)
  where
    no : (m : ℕ) → (nat_le first m && nat_le m last) ≡ true → false ≡ true
    no m t = grind (arith, nat_tests, l, t)

pub turned-none : (first last : ℕ) (es : Numbered) → last < first → ReleasedArrivalsPassTest (is_between_arrivals (Some first) last) es → ReleasedArrivalsPassTest (is_between_arrivals None last) es
turned-none first last es l h = first-none (is_between_arrivals None last) es (turned first last es l h)

-- it may be looked for among those that pass
filtered : (g test : ℕ → Bool) (es : Numbered) → ((n : ℕ) → test n ≡ true → g n ≡ true) → ReleasedArrivalsPassTest test es →
    first_released_arrival (filter (λ (e : ℕ × Exchange). g e.0) es) ≡ first_released_arrival es
filtered g test [] k h = refl
filtered g test (e ∷ es) k h =
    let rest = filter (λ (d : ℕ × Exchange). g d.0) es in
    elim (cases_Bool (is_released e.1.stage)) [
      | inl t ↦ (
          ap (λ b. first_released_arrival (cond b (e ∷ rest) rest)) (k e.0 (h.0 t))
          ∙ ap (λ b. cond b (Some e.0) (first_released_arrival rest)) t
          ∙ sym (ap (λ b. cond b (Some e.0) (first_released_arrival es)) t)
          )
      | inr f ↦ (
          either e rest f (g e.0) ∙ filtered g test es k h.1 ∙ sym (ap (λ b. cond b (Some e.0) (first_released_arrival es)) f)
          )
    ]
  where
    either : (e : ℕ × Exchange) (rest : Numbered) → is_released e.1.stage ≡ false → (b : Bool) → first_released_arrival (cond b (e ∷ rest) rest) ≡ first_released_arrival rest
    either e rest f true = ap (λ b. cond b (Some e.0) (first_released_arrival rest)) f
    either e rest f false = refl

pub between_first : (first last : ℕ) (es : Numbered) → ReleasedArrivalsPassTest (is_between_arrivals (Some first) last) es →
    first_released_arrival (filter (λ (e : ℕ × Exchange). range_contains nat_cmp (Included first) (Included last) e.0) es) ≡ first_released_arrival es
between_first first last es h = filtered (range_contains nat_cmp (Included first) (Included last)) (is_between_arrivals (Some first) last) es (λ n t. in_range n t) h
  where
    in_range : (n : ℕ) → (nat_le first n && nat_le n last) ≡ true → range_contains nat_cmp (Included first) (Included last) n ≡ true
    in_range n t = grind (arith, nat_tests, t)

-- none is released before the first
above : (n : ℕ) (es : Numbered) → AllByRecursion (λ k. nat_cmp n k ≡ Less) (keys_of es) → ReleasedArrivalsPassTest (λ k. nat_le n k) es
above n [] h = tt
above n (e ∷ es) h = (λ w. less n e.0 h.0, above n es h.1)
  where
    less : (a b : ℕ) → nat_cmp a b ≡ Less → nat_le a b ≡ true
    less a b l = grind (arith, nat_tests, l)

from_first : (n : ℕ) (es : Numbered) → IsStrictlySortedBy nat_cmp (keys_of es) → first_released_arrival es ≡ Some n → ReleasedArrivalsPassTest (λ k. nat_le n k) es
from_first n [] s h = tt
from_first n (e ∷ es) s h = elim (cases_Bool (is_released e.1.stage)) [
  | inl t ↦ (
      let k : e.0 ≡ n = same_Some e.0 n (sym (ap (λ b. cond b (Some e.0) (first_released_arrival es)) t) ∙ h) in
      subst (λ i. ReleasedArrivalsPassTest (λ j. nat_le i j) (e ∷ es)) k (λ w. itself e.0, above e.0 es (sorted_head nat_cmp e.0 (keys_of es) s))
      )
  | inr f ↦ (
      (λ w. absurd (false≢true (sym f ∙ w)), from_first n es (sorted_tail nat_cmp e.0 (keys_of es) s) (sym (ap (λ b. cond b (Some e.0) (first_released_arrival es)) f) ∙ h))
      )
]
  where
    itself : (a : ℕ) → nat_le a a ≡ true
    itself a = grind (arith, nat_tests)

both : (n first last : ℕ) (es : Numbered) → ReleasedArrivalsPassTest (λ k. nat_le n k) es → ReleasedArrivalsPassTest (is_between_arrivals (Some first) last) es → ReleasedArrivalsPassTest (is_between_arrivals (Some n) last) es
both n first last [] h k = tt
both n first last (e ∷ es) h k = (λ w. join e.0 (h.0 w) (k.0 w), both n first last es h.1 k.1)
  where
    join : (m : ℕ) → nat_le n m ≡ true → (nat_le first m && nat_le m last) ≡ true → (nat_le n m && nat_le m last) ≡ true
    join m a b = grind (arith, nat_tests, a, b)

pub from_it : (o : Option ℕ) (first last : ℕ) (es : Numbered) → IsStrictlySortedBy nat_cmp (keys_of es) → o ≡ first_released_arrival es →
    ReleasedArrivalsPassTest (is_between_arrivals (Some first) last) es → ReleasedArrivalsPassTest (is_between_arrivals o last) es
from_it None first last es s h k = first-none (is_between_arrivals None last) es (sym h)
from_it (Some n) first last es s h k = both n first last es (from_first n es s (sym h)) k

-- ---- which that is

pub first_is : (n : ℕ) (es : Numbered) → HaveDistinctArrivalsAndIds es → first_released_arrival es ≡ Some n → option_map (λ (x : Exchange). x.id) (lookup (at n) es) ≡ slice_get (wakeable_ids (values_of es)) 0
first_is n [] a h = absurd (cc)
first_is n (e ∷ es) a h = elim (cases_Bool (is_released e.1.stage)) [
  | inl t ↦ (
      let k : e.0 ≡ n = same_Some e.0 n (sym (ap (λ b. cond b (Some e.0) (first_released_arrival es)) t) ∙ h) in
      ap (λ b. option_map (λ (x : Exchange). x.id) (cond b (Some e.1) (lookup (at n) es))) (it n e.0 (sym k))
      ∙ sym (ap (λ b. slice_get (cond b (e.1.id ∷ wakeable_ids (values_of es)) (wakeable_ids (values_of es))) 0) t)
      )
  | inr f ↦ (
      let k : first_released_arrival es ≡ Some n = sym (ap (λ b. cond b (Some e.0) (first_released_arrival es)) f) ∙ h in
      ap (λ b. option_map (λ (x : Exchange). x.id) (cond b (Some e.1) (lookup (at n) es))) (not_it n e.0 es a.0 (there n es k))
      ∙ first_is n es a.2 k
      ∙ sym (ap (λ b. slice_get (cond b (e.1.id ∷ wakeable_ids (values_of es)) (wakeable_ids (values_of es))) 0) f)
      )
]
  where
    it : (n k : ℕ) → n ≡ k → at n k ≡ true
    it n k e = at_is n k ∙ eq-eqb n k e
      where
        at_is : (n k : ℕ) → at n k ≡ eqb n k
        at_is n k = grind (arith, nat_tests)

    -- it has the number
    there : (n : ℕ) (es : Numbered) → first_released_arrival es ≡ Some n → lookup (at n) es ≡ None → false ≡ true
    there n [] h none = absurd (cc)
    there n (e ∷ es) h none = elim (cases_Bool (is_released e.1.stage)) [
      | inl t ↦ (
          let k : e.0 ≡ n = same_Some e.0 n (sym (ap (λ b. cond b (Some e.0) (first_released_arrival es)) t) ∙ h) in
          let no : Some e.1 ≡ None = sym (ap (λ b. cond b (Some e.1) (lookup (at n) es)) (it n e.0 (sym k))) ∙ none in
          absurd (cc)
          )
      | inr f ↦ there n es (sym (ap (λ b. cond b (Some e.0) (first_released_arrival es)) f) ∙ h) (rest (at n e.0) e.1 (lookup (at n) es) none)
    ]
      where
        rest : (b : Bool) (x : Exchange) (o : Option Exchange) → cond b (Some x) o ≡ None → o ≡ None
        rest true x o h = absurd (cc)
        rest false x o h = h

    not_it : (n k : ℕ) (es : Numbered) → lookup (at k) es ≡ None → (lookup (at n) es ≡ None → false ≡ true) → at n k ≡ false
    not_it n k es none h = elim (cases_Bool (at n k)) [
      | inl t ↦ absurd (false≢true (h (ap (λ i. lookup (at i) es) (same n k t) ∙ none)))
      | inr f ↦ f
    ]
      where
        same : (n k : ℕ) → at n k ≡ true → n ≡ k
        same n k t = grind (arith, nat_tests, t)

pub none_is : (es : Numbered) → first_released_arrival es ≡ None → slice_get (wakeable_ids (values_of es)) 0 ≡ None
none_is [] h = refl
none_is (e ∷ es) h = elim (cases_Bool (is_released e.1.stage)) [
  | inl t ↦ (let k : Some e.0 ≡ None = sym (ap (λ b. cond b (Some e.0) (first_released_arrival es)) t) ∙ h in absurd (cc))
  | inr f ↦ (
      ap (λ b. slice_get (cond b (e.1.id ∷ wakeable_ids (values_of es)) (wakeable_ids (values_of es))) 0) f
      ∙ none_is es (sym (ap (λ b. cond b (Some e.0) (first_released_arrival es)) f) ∙ h)
      )
]

-- ---- changing

pub released-sent : (id now : ℕ) (rule : ReuseRule) (named : Option ℕ) (condition : Option Condition) (x : Exchange) → is_released (exchange_sent_forward_if_of_id id now rule named condition x).stage ≡ true → is_released x.stage ≡ true
released-sent id now rule named condition x h = elim (cases_Bool (eqb x.id id)) [
  | inl t ↦ absurd (false≢true (sym (ap (λ b. is_released (cond b (exchange_gone_forward now rule named condition x) x).stage) t) ∙ h))
  | inr f ↦ sym (ap (λ b. is_released (cond b (exchange_gone_forward now rule named condition x) x).stage) f) ∙ h
]

pub released-gone : (id now : ℕ) (x : Exchange) → is_released (exchange_after_second_forward id now x).stage ≡ true → is_released x.stage ≡ true
released-gone id now x h = elim (cases_Bool (eqb x.id id)) [
  | inl t ↦ absurd (false≢true (sym (ap (λ b. is_released (cond b (exchange_gone_forward now x.rule x.named None x) x).stage) t) ∙ h))
  | inr f ↦ sym (ap (λ b. is_released (cond b (exchange_gone_forward now x.rule x.named None x) x).stage) f) ∙ h
]

pub released-overtaken : (key : Scope) (x : Exchange) → is_released (exchange_overtaken_if_in_scope key x).stage ≡ true → is_released x.stage ≡ true
released-overtaken key x h = elim (cases_Bool (key_is_in_scope key x.asked.target.key)) [
  | inl t ↦ sym (ap (λ b. is_released (cond b (record x { overtaken = true }) x).stage) t) ∙ h
  | inr f ↦ sym (ap (λ b. is_released (cond b (record x { overtaken = true }) x).stage) f) ∙ h
]

pub pass-changed : (test : ℕ → Bool) (f : Exchange → Exchange) → ((x : Exchange) → is_released (f x).stage ≡ true → is_released x.stage ≡ true) →
    (es : Numbered) → ReleasedArrivalsPassTest test es → ReleasedArrivalsPassTest test (exchanges_each_changed f es)
pass-changed test f k es h = pass-on_all (λ x. is_released x.stage) test f k es h

pub pass-closed : (n : ℕ) (test : ℕ → Bool) (es : Numbered) → HaveDistinctArrivalsAndIds es → ReleasedArrivalsPassTest test es → ReleasedArrivalsPassTest test (remove_entry (at n) es)
pass-closed n test es a h = pass-removed (λ x. is_released x.stage) n test test es a (λ m o t. t) h

pub pass-entered : (n : ℕ) (x : Exchange) (old new : Released) (es : Numbered) → ReleasedRangeIsNotNarrowed old new → (is_released x.stage ≡ true → arrival_may_be_released new n ≡ true) →
    ReleasedArrivalsPassTest (arrival_may_be_released old) es → ReleasedArrivalsPassTest (arrival_may_be_released new) (es ++ (n, x) ∷ [])
pass-entered n x old new es w k h =
    pass-opened (λ y. is_released y.stage) n x (arrival_may_be_released new) es k (pass-more (λ y. is_released y.stage) (arrival_may_be_released old) (arrival_may_be_released new) es w h)

-- whom a change of those alone that wait for an id releases waited for that
pub pass-turned : (q : ℕ) (f : Exchange → Exchange) → TurnsAway q f → (ns : ℕ → Bool) (old new : Released) (es : Numbered) → ReleasedRangeIsNotNarrowed old new → ((n : ℕ) → ns n ≡ true → arrival_may_be_released new n ≡ true) →
    WaitingArrivalsPassTest q ns es → ReleasedArrivalsPassTest (arrival_may_be_released old) es → ReleasedArrivalsPassTest (arrival_may_be_released new) (exchanges_each_changed f es)
pass-turned q f t ns old new [] w k g h = tt
pass-turned q f t ns old new (e ∷ es) w k g h =
    (λ r. elim (freed e.1 r) [ inl s ↦ w e.0 (h.0 s) | inr a ↦ k e.0 (g.0 a) ], pass-turned q f t ns old new es w k g.1 h.1)
  where
    freed : (x : Exchange) → is_released (f x).stage ≡ true → (is_released x.stage ≡ true) ⊎ (waits_for q x.stage ≡ true)
    freed x r = elim (cases_Bool (waits_for q x.stage)) [
      | inl a ↦ inr a
      | inr o ↦ inl (ap (λ (y : Exchange). is_released y.stage) (sym (t.others x o)) ∙ r)
    ]

pub pass-freed : (q : ℕ) (ns : ℕ → Bool) (old new : Released) (es : Numbered) → ReleasedRangeIsNotNarrowed old new → ((n : ℕ) → ns n ≡ true → arrival_may_be_released new n ≡ true) →
    WaitingArrivalsPassTest q ns es → ReleasedArrivalsPassTest (arrival_may_be_released old) es → ReleasedArrivalsPassTest (arrival_may_be_released new) (exchanges_each_changed (exchange_released_from_leader q) es)
pass-freed q ns old new es w k g h = pass-turned q (exchange_released_from_leader q) (released_away q) ns old new es w k g h
