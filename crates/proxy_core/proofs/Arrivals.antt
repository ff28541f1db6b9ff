-- Exchanges by the numbers of their arrivals, with an index of ids: what finding, opening, closing and changing them comes
-- to in their list, and that the index stays right.
use Rattle.std.proofs.Common.{◌≡◌, ◌<◌, ℕ, Bool, true, false, not, cond, eqb, Option, None, Some, is_some, List, [], ◌∷◌, ◌++◌, map, refl, sym, ◌∙◌, ap, arith, inl, inr}
use Rattle.std.specs.Ordering.{nat_cmp, match_ordering}
use Rattle.std.specs.Cmp.{nat_cmp_is}
use Rattle.std.specs.declared.cmp.Ordering.TheVariants.{Greater}
use Rattle.std.specs.BTreeMap.{is_at, insert_entry}
use Rattle.std.specs.List.{All}
use Rattle.std.specs.Map.{lookup, remove_entry, set_value, keys_of, values_of}
use Rattle.std.proofs.lemmas.Bool.{cases_Bool, eqb-true, eq-eqb, false≢true}
use Rattle.std.proofs.lemmas.Bool.Decides.{nat_tests}
use Rattle.std.proofs.lemmas.List.Elements.{All-head, All-tail}
use Rattle.std.proofs.lemmas.Option.{same_Some}
use Rattle.proxy_core.specs.declared.open.exchange.Exchange.{Exchange}
use Rattle.std.specs.Prelude.{slice_get}
use Rattle.proxy_core.specs.Leading.{is_released, wakeable_ids}
use Rattle.proxy_core.specs.Waiting.{ExchangeMayBeWoken}
use Rattle.proxy_core.specs.Outcomes.{find_exchange}
use Rattle.std.specs.Prelude.{filter}
use Rattle.hx_reuse.specs.declared.rule.ReuseRule.{ReuseRule}
use Rattle.proxy_core.specs.declared.steps.condition.Condition.{Condition}
use Rattle.proxy_core.specs.State.{exchange_gone_forward, exchange_after_second_forward, exchange_sent_forward_if_of_id}
use Rattle.proxy_core.proofs.ExchangeLists.{cond_none, nones, swap, not_both, found-id}
use Rattle.proxy_core.specs.Arrivals.{arrival_number_of_id, exchanges_each_changed, HaveDistinctArrivalsAndIds, IsIdIndexOf}

abbrev Numbered : Type 0
Numbered = List (ℕ × Exchange)

-- the test for a number
abbrev at : ℕ → ℕ → Bool
at n k = is_at (nat_cmp n) k

at_is : (n k : ℕ) → at n k ≡ eqb n k
at_is n k = grind (arith, nat_tests)

at_itself : (n k : ℕ) → n ≡ k → at n k ≡ true
at_itself n k h = at_is n k ∙ eq-eqb n k h

at_other : (n k : ℕ) → eqb n k ≡ false → at n k ≡ false
at_other n k h = at_is n k ∙ h

-- ---- finding

-- an arrival that an id has is a number of the list
pub has_number : (id n : ℕ) (es : Numbered) → arrival_number_of_id id es ≡ Some n → is_some (lookup (at n) es) ≡ true
has_number id n [] h = absurd (cc)
has_number id n (e ∷ es) h = elim (cases_Bool (eqb e.1.id id)) [
  | inl t ↦ (
      let k : e.0 ≡ n = same_Some e.0 n (sym (ap (λ b. cond b (Some e.0) (arrival_number_of_id id es)) t) ∙ h) in
      ap (λ b. is_some (cond b (Some e.1) (lookup (at n) es))) (at_itself n e.0 (sym k))
      )
  | inr f ↦ (
      let k : arrival_number_of_id id es ≡ Some n = sym (ap (λ b. cond b (Some e.0) (arrival_number_of_id id es)) f) ∙ h in
      either (at n e.0) e.1 (lookup (at n) es) (has_number id n es k)
      )
]
  where
    either : (b : Bool) (x : Exchange) (o : Option Exchange) → is_some o ≡ true → is_some (cond b (Some x) o) ≡ true
    either true x o h = refl
    either false x o h = h

-- of a number in the rest the first one isn't the entry
not_first : (id n : ℕ) (e : ℕ × Exchange) (es : Numbered) → lookup (at e.0) es ≡ None → arrival_number_of_id id es ≡ Some n → at n e.0 ≡ false
not_first id n e es none h = elim (cases_Bool (eqb n e.0)) [
  | inl t ↦ absurd (false≢true (ap is_some (sym none ∙ ap (λ k. lookup (at k) es) (sym (eqb-true n e.0 t))) ∙ has_number id n es h))
  | inr f ↦ at_other n e.0 f
]

pub not_found : (id : ℕ) (es : Numbered) → arrival_number_of_id id es ≡ None → find_exchange id (values_of es) ≡ None
not_found id [] h = refl
not_found id (e ∷ es) h = elim (cases_Bool (eqb e.1.id id)) [
  | inl t ↦ absurd (false≢true (ap is_some (sym h ∙ ap (λ b. cond b (Some e.0) (arrival_number_of_id id es)) t)))
  | inr f ↦ (
      ap (λ b. cond b (Some e.1) (find_exchange id (values_of es))) f
      ∙ not_found id es (sym (ap (λ b. cond b (Some e.0) (arrival_number_of_id id es)) f) ∙ h)
      )
]

pub not_numbered : (id : ℕ) (es : Numbered) → find_exchange id (values_of es) ≡ None → arrival_number_of_id id es ≡ None
not_numbered id [] h = refl
not_numbered id (e ∷ es) h = elim (cases_Bool (eqb e.1.id id)) [
  | inl t ↦ absurd (false≢true (ap is_some (sym h ∙ ap (λ b. cond b (Some e.1) (find_exchange id (values_of es))) t)))
  | inr f ↦ (
      ap (λ b. cond b (Some e.0) (arrival_number_of_id id es)) f
      ∙ not_numbered id es (sym (ap (λ b. cond b (Some e.1) (find_exchange id (values_of es))) f) ∙ h)
      )
]

-- the exchange at the arrival of an id is the one of the id
pub found : (id n : ℕ) (es : Numbered) → HaveDistinctArrivalsAndIds es → arrival_number_of_id id es ≡ Some n → lookup (at n) es ≡ find_exchange id (values_of es)
found id n [] a h = absurd (cc)
found id n (e ∷ es) a h = elim (cases_Bool (eqb e.1.id id)) [
  | inl t ↦ (
      let k : e.0 ≡ n = same_Some e.0 n (sym (ap (λ b. cond b (Some e.0) (arrival_number_of_id id es)) t) ∙ h) in
      ap (λ b. cond b (Some e.1) (lookup (at n) es)) (at_itself n e.0 (sym k))
      ∙ sym (ap (λ b. cond b (Some e.1) (find_exchange id (values_of es))) t)
      )
  | inr f ↦ (
      let k : arrival_number_of_id id es ≡ Some n = sym (ap (λ b. cond b (Some e.0) (arrival_number_of_id id es)) f) ∙ h in
      ap (λ b. cond b (Some e.1) (lookup (at n) es)) (not_first id n e es a.0 k)
      ∙ found id n es a.2 k
      ∙ sym (ap (λ b. cond b (Some e.1) (find_exchange id (values_of es))) f)
      )
]

-- the first that may be woken is found by its id
pub first_found : (id : ℕ) (es : Numbered) → HaveDistinctArrivalsAndIds es → Some id ≡ slice_get (wakeable_ids (values_of es)) 0 → ExchangeMayBeWoken id (values_of es)
first_found id [] a h = absurd (cc)
first_found id (e ∷ es) a h = by_stage (λ k. first_found id es a.2 k) (is_released e.1.stage) refl h
  where
    not_it : ExchangeMayBeWoken id (values_of es) → eqb e.1.id id ≡ false
    not_it r = elim (cases_Bool (eqb e.1.id id)) [
      | inl t ↦ (
          let none : find_exchange id (values_of es) ≡ None = not_found id es (ap (λ i. arrival_number_of_id i es) (sym (eqb-true e.1.id id t)) ∙ a.1) in
          let no : None ≡ Some r.x = sym none ∙ r.is_open in
          absurd (cc)
          )
      | inr f ↦ f
    ]

    by_stage : (Some id ≡ slice_get (wakeable_ids (values_of es)) 0 → ExchangeMayBeWoken id (values_of es)) → (b : Bool) → is_released e.1.stage ≡ b →
        Some id ≡ slice_get (cond b (e.1.id ∷ wakeable_ids (values_of es)) (wakeable_ids (values_of es))) 0 → ExchangeMayBeWoken id (values_of (e ∷ es))
    by_stage rest true s h =
        let same : e.1.id ≡ id = sym (same_Some id e.1.id h) in
        record { x = e.1; is_open = ap (λ b. cond b (Some e.1) (find_exchange id (values_of es))) (eq-eqb e.1.id id same); stage = s }
    by_stage rest false s h =
        let r = rest h in
        record { x = r.x; is_open = ap (λ b. cond b (Some e.1) (find_exchange id (values_of es))) (not_it r) ∙ r.is_open; stage = r.stage }

-- ---- closing

abbrev pub but : ℕ → List Exchange → List Exchange
but id xs = filter (λ (x : Exchange). not (eqb x.id id)) xs

-- where an id isn't open, closing it changes nothing
pub closed_none : (id : ℕ) (es : Numbered) → arrival_number_of_id id es ≡ None → but id (values_of es) ≡ values_of es
closed_none id [] h = refl
closed_none id (e ∷ es) h = elim (cases_Bool (eqb e.1.id id)) [
  | inl t ↦ absurd (false≢true (ap is_some (sym h ∙ ap (λ b. cond b (Some e.0) (arrival_number_of_id id es)) t)))
  | inr f ↦ (
      ap (λ b. cond (not b) (e.1 ∷ but id (values_of es)) (but id (values_of es))) f
      ∙ ap (λ (xs : List Exchange). e.1 ∷ xs) (closed_none id es (sym (ap (λ b. cond b (Some e.0) (arrival_number_of_id id es)) f) ∙ h))
      )
]

pub closed_one : (id n : ℕ) (es : Numbered) → HaveDistinctArrivalsAndIds es → arrival_number_of_id id es ≡ Some n → values_of (remove_entry (at n) es) ≡ but id (values_of es)
closed_one id n [] a h = absurd (cc)
closed_one id n (e ∷ es) a h = elim (cases_Bool (eqb e.1.id id)) [
  | inl t ↦ (
      let k : e.0 ≡ n = same_Some e.0 n (sym (ap (λ b. cond b (Some e.0) (arrival_number_of_id id es)) t) ∙ h) in
      let none : arrival_number_of_id id es ≡ None = ap (λ i. arrival_number_of_id i es) (sym (eqb-true e.1.id id t)) ∙ a.1 in
      ap (λ b. values_of (cond b es (e ∷ remove_entry (at n) es))) (at_itself n e.0 (sym k))
      ∙ sym (ap (λ b. cond (not b) (e.1 ∷ but id (values_of es)) (but id (values_of es))) t ∙ closed_none id es none)
      )
  | inr f ↦ (
      let k : arrival_number_of_id id es ≡ Some n = sym (ap (λ b. cond b (Some e.0) (arrival_number_of_id id es)) f) ∙ h in
      ap (λ b. values_of (cond b es (e ∷ remove_entry (at n) es))) (not_first id n e es a.0 k)
      ∙ ap (λ (xs : List Exchange). e.1 ∷ xs) (closed_one id n es a.2 k)
      ∙ sym (ap (λ b. cond (not b) (e.1 ∷ but id (values_of es)) (but id (values_of es))) f)
      )
]

no_number : (n : ℕ) (test : ℕ → Bool) (es : Numbered) → lookup (at n) es ≡ None → lookup (at n) (remove_entry test es) ≡ None
no_number n test [] h = refl
no_number n test (e ∷ es) h =
    let p = cond_none (at n e.0) e.1 (lookup (at n) es) h in
    elim (test e.0) as (λ b. lookup (at n) (cond b es (e ∷ remove_entry test es)) ≡ None) [
      | true ↦ p.1
      | false ↦ ap (λ b. cond b (Some e.1) (lookup (at n) (remove_entry test es))) p.0 ∙ no_number n test es p.1
    ]

no_arrival : (id : ℕ) (test : ℕ → Bool) (es : Numbered) → arrival_number_of_id id es ≡ None → arrival_number_of_id id (remove_entry test es) ≡ None
no_arrival id test [] h = refl
no_arrival id test (e ∷ es) h =
    let p = cond_none (eqb e.1.id id) e.0 (arrival_number_of_id id es) h in
    elim (test e.0) as (λ b. arrival_number_of_id id (cond b es (e ∷ remove_entry test es)) ≡ None) [
      | true ↦ p.1
      | false ↦ ap (λ b. cond b (Some e.0) (arrival_number_of_id id (remove_entry test es))) p.0 ∙ no_arrival id test es p.1
    ]

apart_closed : (test : ℕ → Bool) (es : Numbered) → HaveDistinctArrivalsAndIds es → HaveDistinctArrivalsAndIds (remove_entry test es)
apart_closed test [] a = a
apart_closed test (e ∷ es) a = elim (test e.0) as (λ b. HaveDistinctArrivalsAndIds (cond b es (e ∷ remove_entry test es))) [
  | true ↦ a.2
  | false ↦ (no_number e.0 test es a.0, no_arrival e.1.id test es a.1, apart_closed test es a.2)
]

arrival_closed : (id n : ℕ) (es : Numbered) → HaveDistinctArrivalsAndIds es → arrival_number_of_id id es ≡ Some n → (q : ℕ) →
    arrival_number_of_id q (remove_entry (at n) es) ≡ cond (eqb id q) None (arrival_number_of_id q es)
arrival_closed id n [] a h q = nones (eqb id q)
arrival_closed id n (e ∷ es) a h q = elim (cases_Bool (eqb e.1.id id)) [
  | inl t ↦ (
      let k : e.0 ≡ n = same_Some e.0 n (sym (ap (λ b. cond b (Some e.0) (arrival_number_of_id id es)) t) ∙ h) in
      let same : e.1.id ≡ id = eqb-true e.1.id id t in
      ap (λ b. arrival_number_of_id q (cond b es (e ∷ remove_entry (at n) es))) (at_itself n e.0 (sym k))
      ∙ here (eqb id q) e.0 (λ s. ap (λ i. arrival_number_of_id i es) (sym (eqb-true id q s) ∙ sym same) ∙ a.1)
      ∙ ap (λ i. cond (eqb id q) None (cond (eqb i q) (Some e.0) (arrival_number_of_id q es))) (sym same)
      )
  | inr f ↦ (
      let k : arrival_number_of_id id es ≡ Some n = sym (ap (λ b. cond b (Some e.0) (arrival_number_of_id id es)) f) ∙ h in
      ap (λ b. arrival_number_of_id q (cond b es (e ∷ remove_entry (at n) es))) (not_first id n e es a.0 k)
      ∙ ap (λ (o : Option ℕ). cond (eqb e.1.id q) (Some e.0) o) (arrival_closed id n es a.2 k q)
      ∙ swap (eqb e.1.id q) (eqb id q) (Some e.0) None (arrival_number_of_id q es) (not_both e.1.id id q f)
      )
]
  where
    here : (b : Bool) (m : ℕ) → (b ≡ true → arrival_number_of_id q es ≡ None) → arrival_number_of_id q es ≡ cond b None (cond b (Some m) (arrival_number_of_id q es))
    here true m none = none refl
    here false m none = refl

-- what a removal leaves in the index
abbrev Without : (ℕ → Option ℕ) → (ℕ → Option ℕ) → ℕ → Type 0
Without f g id = (q : ℕ) → g q ≡ cond (at id q) None (f q)

pub indexed_closed : (id n : ℕ) (es : Numbered) (f g : ℕ → Option ℕ) → IsIdIndexOf es f → f id ≡ Some n → Without f g id → IsIdIndexOf (remove_entry (at n) es) g
indexed_closed id n es f g s h w =
    let here : arrival_number_of_id id es ≡ Some n = sym (s.indexed id) ∙ h in
    record {
      apart = apart_closed (at n) es s.apart;
      indexed = λ q. w q ∙ ap (λ b. cond b None (f q)) (at_is id q) ∙ ap (λ (o : Option ℕ). cond (eqb id q) None o) (s.indexed q) ∙ sym (arrival_closed id n es s.apart here q);
    }

-- ---- changing exchanges that keep their ids

pub values_on_all : (f : Exchange → Exchange) (es : Numbered) → values_of (exchanges_each_changed f es) ≡ map f (values_of es)
values_on_all f [] = refl
values_on_all f (e ∷ es) = ap (λ (xs : List Exchange). f e.1 ∷ xs) (values_on_all f es)

number_on_all : (f : Exchange → Exchange) (n : ℕ) (es : Numbered) → lookup (at n) es ≡ None → lookup (at n) (exchanges_each_changed f es) ≡ None
number_on_all f n [] h = refl
number_on_all f n (e ∷ es) h =
    let p = cond_none (at n e.0) e.1 (lookup (at n) es) h in
    ap (λ b. cond b (Some (f e.1)) (lookup (at n) (exchanges_each_changed f es))) p.0 ∙ number_on_all f n es p.1

module _ (f : Exchange → Exchange) (keeps : (x : Exchange) → (f x).id ≡ x.id) where
  arrival_on_all : (id : ℕ) (es : Numbered) → arrival_number_of_id id (exchanges_each_changed f es) ≡ arrival_number_of_id id es
  arrival_on_all id [] = refl
  arrival_on_all id (e ∷ es) =
      ap (λ i. cond (eqb i id) (Some e.0) (arrival_number_of_id id (exchanges_each_changed f es))) (keeps e.1)
      ∙ ap (λ (o : Option ℕ). cond (eqb e.1.id id) (Some e.0) o) (arrival_on_all id es)

  apart_on_all : (es : Numbered) → HaveDistinctArrivalsAndIds es → HaveDistinctArrivalsAndIds (exchanges_each_changed f es)
  apart_on_all [] a = a
  apart_on_all (e ∷ es) a =
      (number_on_all f e.0 es a.0, ap (λ i. arrival_number_of_id i (exchanges_each_changed f es)) (keeps e.1) ∙ (arrival_on_all e.1.id es ∙ a.1), apart_on_all es a.2)

  pub indexed_on_all : (es : Numbered) (g : ℕ → Option ℕ) → IsIdIndexOf es g → IsIdIndexOf (exchanges_each_changed f es) g
  indexed_on_all es g s = record { apart = apart_on_all es s.apart; indexed = λ q. s.indexed q ∙ sym (arrival_on_all q es) }

-- a change of none but an exchange of this id
module _ (id : ℕ) (f : Exchange → Exchange) (others : (x : Exchange) → eqb x.id id ≡ false → f x ≡ x) where
  pub same_all : (es : Numbered) → arrival_number_of_id id es ≡ None → exchanges_each_changed f es ≡ es
  same_all [] h = refl
  same_all (e ∷ es) h =
      let p = cond_none (eqb e.1.id id) e.0 (arrival_number_of_id id es) h in
      ap (λ (x : Exchange). (e.0, x) ∷ exchanges_each_changed f es) (others e.1 p.0) ∙ ap (λ (xs : Numbered). e ∷ xs) (same_all es p.1)

  -- it is written at the arrival of the id
  pub written : (n : ℕ) (es : Numbered) (x : Exchange) → HaveDistinctArrivalsAndIds es → arrival_number_of_id id es ≡ Some n → lookup (at n) es ≡ Some x → set_value (at n) es (f x) ≡ exchanges_each_changed f es
  written n [] x a h here = absurd (cc)
  written n (e ∷ es) x a h here = elim (cases_Bool (eqb e.1.id id)) [
    | inl t ↦ (
        let k : e.0 ≡ n = same_Some e.0 n (sym (ap (λ b. cond b (Some e.0) (arrival_number_of_id id es)) t) ∙ h) in
        let first : at n e.0 ≡ true = at_itself n e.0 (sym k) in
        let is : e.1 ≡ x = same_Some e.1 x (sym (ap (λ b. cond b (Some e.1) (lookup (at n) es)) first) ∙ here) in
        let none : arrival_number_of_id id es ≡ None = ap (λ i. arrival_number_of_id i es) (sym (eqb-true e.1.id id t)) ∙ a.1 in
        ap (λ b. cond b ((e.0, f x) ∷ es) (e ∷ set_value (at n) es (f x))) first
        ∙ ap (λ (y : Exchange). (e.0, f y) ∷ es) (sym is)
        ∙ ap (λ (xs : Numbered). (e.0, f e.1) ∷ xs) (sym (same_all es none))
        )
    | inr n' ↦ (
        let k : arrival_number_of_id id es ≡ Some n = sym (ap (λ b. cond b (Some e.0) (arrival_number_of_id id es)) n') ∙ h in
        let later : at n e.0 ≡ false = not_first id n e es a.0 k in
        ap (λ b. cond b ((e.0, f x) ∷ es) (e ∷ set_value (at n) es (f x))) later
        ∙ ap (λ (xs : Numbered). e ∷ xs) (written n es x a.2 k (sym (ap (λ b. cond b (Some e.1) (lookup (at n) es)) later) ∙ here))
        ∙ ap (λ (y : Exchange). (e.0, y) ∷ exchanges_each_changed f es) (sym (others e.1 n'))
        )
  ]

pub gone_out-others : (id now : ℕ) (x : Exchange) → eqb x.id id ≡ false → exchange_after_second_forward id now x ≡ x
gone_out-others id now x h = ap (λ b. cond b (exchange_gone_forward now x.rule x.named None x) x) h

pub sent_out-others : (id now : ℕ) (rule : ReuseRule) (named : Option ℕ) (condition : Option Condition) (x : Exchange) → eqb x.id id ≡ false → exchange_sent_forward_if_of_id id now rule named condition x ≡ x
sent_out-others id now rule named condition x h = ap (λ b. cond b (exchange_gone_forward now rule named condition x) x) h

-- one goes forward at the arrival of its id
pub sent_written : (id now : ℕ) (rule : ReuseRule) (named : Option ℕ) (condition : Option Condition) (n : ℕ) (x y : Exchange) (es : Numbered) (arrivals : ℕ → Option ℕ) → IsIdIndexOf es arrivals →
    Some n ≡ arrivals id → Some x ≡ lookup (at n) es → y ≡ exchange_gone_forward now rule named condition x → set_value (at n) es y ≡ exchanges_each_changed (exchange_sent_forward_if_of_id id now rule named condition) es
sent_written id now rule named condition n x y es arrivals s h there e =
    let here : arrival_number_of_id id es ≡ Some n = sym (s.indexed id) ∙ sym h in
    let is : find_exchange id (values_of es) ≡ Some x = sym (found id n es s.apart here) ∙ sym there in
    let same : y ≡ exchange_sent_forward_if_of_id id now rule named condition x = e ∙ sym (ap (λ b. cond b (exchange_gone_forward now rule named condition x) x) (found-id id (values_of es) x is)) in
    ap (λ (z : Exchange). set_value (at n) es z) same
    ∙ written id (exchange_sent_forward_if_of_id id now rule named condition) (sent_out-others id now rule named condition) n es x s.apart here (sym there)

pub gone_written : (id now n : ℕ) (x y : Exchange) (es : Numbered) (arrivals : ℕ → Option ℕ) → IsIdIndexOf es arrivals →
    Some n ≡ arrivals id → Some x ≡ lookup (at n) es → y ≡ exchange_gone_forward now x.rule x.named None x → set_value (at n) es y ≡ exchanges_each_changed (exchange_after_second_forward id now) es
gone_written id now n x y es arrivals s h there e =
    let here : arrival_number_of_id id es ≡ Some n = sym (s.indexed id) ∙ sym h in
    let is : find_exchange id (values_of es) ≡ Some x = sym (found id n es s.apart here) ∙ sym there in
    let same : y ≡ exchange_after_second_forward id now x = e ∙ sym (ap (λ b. cond b (exchange_gone_forward now x.rule x.named None x) x) (found-id id (values_of es) x is)) in
    ap (λ (z : Exchange). set_value (at n) es z) same
    ∙ written id (exchange_after_second_forward id now) (gone_out-others id now) n es x s.apart here (sym there)

-- ---- opening

greater : (n k : ℕ) → k < n → nat_cmp n k ≡ Greater
greater n k h = sym (nat_cmp_is n k Greater h)

pub at_the_end : (n : ℕ) (x : Exchange) (es : Numbered) → All (λ k. k < n) (keys_of es) → insert_entry nat_cmp es n x ≡ es ++ (n, x) ∷ []
at_the_end n x [] h = refl
at_the_end n x (e ∷ es) h =
    ap (λ o. match_ordering o ((n, x) ∷ e ∷ es) ((e.0, x) ∷ es) (e ∷ insert_entry nat_cmp es n x)) (greater n e.0 (All-head (λ k. k < n) e.0 (keys_of es) h))
    ∙ ap (λ (zs : Numbered). e ∷ zs) (at_the_end n x es (All-tail (λ k. k < n) e.0 (keys_of es) h))

pub values_opened : (n : ℕ) (x : Exchange) (es : Numbered) → values_of (es ++ (n, x) ∷ []) ≡ values_of es ++ x ∷ []
values_opened n x [] = refl
values_opened n x (e ∷ es) = ap (λ (zs : List Exchange). e.1 ∷ zs) (values_opened n x es)

number_opened : (k n : ℕ) (x : Exchange) (es : Numbered) → k < n → lookup (at k) es ≡ None → lookup (at k) (es ++ (n, x) ∷ []) ≡ None
number_opened k n x [] l h = ap (λ b. cond b (Some x) None) (at_other k n (grind (arith, nat_tests)))
number_opened k n x (e ∷ es) l h =
    let p = cond_none (at k e.0) e.1 (lookup (at k) es) h in
    ap (λ b. cond b (Some e.1) (lookup (at k) (es ++ (n, x) ∷ []))) p.0 ∙ number_opened k n x es l p.1

arrival_opened : (n : ℕ) (x : Exchange) (es : Numbered) → arrival_number_of_id x.id es ≡ None → (q : ℕ) → arrival_number_of_id q (es ++ (n, x) ∷ []) ≡ cond (eqb x.id q) (Some n) (arrival_number_of_id q es)
arrival_opened n x [] h q = refl
arrival_opened n x (e ∷ es) h q =
    let p = cond_none (eqb e.1.id x.id) e.0 (arrival_number_of_id x.id es) h in
    ap (λ (o : Option ℕ). cond (eqb e.1.id q) (Some e.0) o) (arrival_opened n x es p.1 q)
    ∙ swap (eqb e.1.id q) (eqb x.id q) (Some e.0) (Some n) (arrival_number_of_id q es) (not_both e.1.id x.id q p.0)

apart_opened : (n : ℕ) (x : Exchange) (es : Numbered) → All (λ k. k < n) (keys_of es) → arrival_number_of_id x.id es ≡ None → HaveDistinctArrivalsAndIds es → HaveDistinctArrivalsAndIds (es ++ (n, x) ∷ [])
apart_opened n x [] l h a = (refl, refl, tt)
apart_opened n x (e ∷ es) l h a =
    let p = cond_none (eqb e.1.id x.id) e.0 (arrival_number_of_id x.id es) h in
    let other : eqb x.id e.1.id ≡ false = grind (arith, nat_tests, p.0) in (
      number_opened e.0 n x es (All-head (λ k. k < n) e.0 (keys_of es) l) a.0,
      arrival_opened n x es p.1 e.1.id ∙ (ap (λ b. cond b (Some n) (arrival_number_of_id e.1.id es)) other ∙ a.1),
      apart_opened n x es (All-tail (λ k. k < n) e.0 (keys_of es) l) p.1 a.2,
    )

-- what an insertion leaves in the index
abbrev With : (ℕ → Option ℕ) → (ℕ → Option ℕ) → ℕ → ℕ → Type 0
With f g id n = (q : ℕ) → g q ≡ cond (at id q) (Some n) (f q)

pub indexed_opened : (n : ℕ) (x : Exchange) (es : Numbered) (f g : ℕ → Option ℕ) → All (λ k. k < n) (keys_of es) → IsIdIndexOf es f → find_exchange x.id (values_of es) ≡ None
    → With f g x.id n → IsIdIndexOf (es ++ (n, x) ∷ []) g
indexed_opened n x es f g l s free w =
    let none : arrival_number_of_id x.id es ≡ None = not_numbered x.id es free in
    record {
      apart = apart_opened n x es l none s.apart;
      indexed = λ q. w q ∙ ap (λ b. cond b (Some n) (f q)) (at_is x.id q) ∙ ap (λ (o : Option ℕ). cond (eqb x.id q) (Some n) o) (s.indexed q) ∙ sym (arrival_opened n x es none q);
    }

-- what is inserted into the index and taken out again leaves it as it was
pub indexed_again : (id n : ℕ) (es : Numbered) (f g h : ℕ → Option ℕ) → IsIdIndexOf es f → find_exchange id (values_of es) ≡ None → With f g id n → Without g h id → IsIdIndexOf es h
indexed_again id n es f g h s free w wo = record { apart = s.apart; indexed = λ q. wo q ∙ (ap (λ (o : Option ℕ). cond (at id q) None o) (w q) ∙ (ap (λ b. cond b None (cond b (Some n) (f q))) (at_is id q) ∙ back q)) }
  where
    back : (q : ℕ) → cond (eqb id q) None (cond (eqb id q) (Some n) (f q)) ≡ arrival_number_of_id q es
    back q = elim (cases_Bool (eqb id q)) [
      | inl t ↦ ap (λ b. cond b None (cond b (Some n) (f q))) t ∙ sym (ap (λ i. arrival_number_of_id i es) (sym (eqb-true id q t)) ∙ not_numbered id es free)
      | inr o ↦ ap (λ b. cond b None (cond b (Some n) (f q))) o ∙ s.indexed q
    ]
