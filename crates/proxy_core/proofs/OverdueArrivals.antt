-- The arrival of a request whose time to wait is over, in what stands beside the open exchanges.
use Rattle.std.proofs.Common.{arith, ◌≡◌, ℕ, Bool, true, false, cond, ◌&&◌, ◌||◌, not, eqb, None, Some, Option, List, [], ◌∷◌, refl, sym, ◌∙◌, ap, subst, inl, inr}
use Rattle.std.specs.Ordering.{nat_cmp}
use Rattle.std.specs.BTreeMap.{is_at}
use Rattle.std.specs.Map.{lookup, set_value, values_of}
use Rattle.std.proofs.lemmas.Bool.{cases_Bool, eqb-true, false≢true}
use Rattle.std.proofs.lemmas.Bool.Decides.{nat_tests}
use Rattle.hx_hop.specs.declared.request_view.Asked.{Asked}
use Rattle.proxy_core.specs.declared.open.exchange.Exchange.{Exchange}
use Rattle.proxy_core.specs.declared.open.released.Released.{Released}
use Rattle.proxy_core.specs.declared.open.stage.Stage.{Stage}
use Rattle.proxy_core.specs.declared.open.stage.Stage.TheVariants as stages
use Rattle.proxy_core.specs.declared.open.wait_index.WaitIndex.{WaitIndex}
use Rattle.proxy_core.specs.Arrivals.{HaveDistinctArrivalsAndIds, IsIdIndexOf, SelectedArrivalsPassTest, arrival_number_of_id, exchanges_each_changed}
use Rattle.proxy_core.specs.Leading.{is_forwarded, is_released, is_waiting, waits_for}
use Rattle.proxy_core.specs.Outcomes.{find_exchange}
use Rattle.proxy_core.specs.Releases.{ReleasedRangeIsNotNarrowed, ReleasedArrivalsPassTest, arrival_may_be_released}
use Rattle.proxy_core.specs.State.{exchange_released_by_timeout, exchange_after_wait_timeout}
use Rattle.proxy_core.specs.Waiters.{ArrivalIsRemovedIfWaiting, arrival_is_in_wait_index}
use Rattle.proxy_core.proofs.Arrivals.{found, written}
use Rattle.proxy_core.proofs.AskedArrivals.{KeepsItsPlace, written_again}
use Rattle.proxy_core.proofs.ExchangeLists.{found-id}
use Rattle.proxy_core.proofs.Indexed.{indexes-left, lookup-set}
use Rattle.proxy_core.proofs.Waiters.{AllIndexed, pass-more}

abbrev Numbered : Type 0
Numbered = List (ℕ × Exchange)

abbrev at : ℕ → ℕ → Bool
at n k = is_at (nat_cmp n) k

pub overdue-others : (id : ℕ) (x : Exchange) → eqb x.id id ≡ false → exchange_after_wait_timeout id x ≡ x
overdue-others id x h = ap (λ b. cond (b && is_waiting x.stage) (exchange_released_by_timeout x) x) h

-- it is written at the arrival of its id
pub overdue_written : (id n : ℕ) (x y : Exchange) (es : Numbered) (arrivals : ℕ → Option ℕ) → IsIdIndexOf es arrivals → Some n ≡ arrivals id → Some x ≡ lookup (at n) es → is_waiting x.stage ≡ true → y ≡ exchange_released_by_timeout x →
    set_value (at n) es y ≡ exchanges_each_changed (exchange_after_wait_timeout id) es
overdue_written id n x y es arrivals s h there waits e =
    let here : arrival_number_of_id id es ≡ Some n = sym (s.indexed id) ∙ sym h in
    let is : find_exchange id (values_of es) ≡ Some x = sym (found id n es s.apart here) ∙ sym there in
    let its : (eqb x.id id && is_waiting x.stage) ≡ true = ap (λ b. b && is_waiting x.stage) (found-id id (values_of es) x is) ∙ waits in
    let same : y ≡ exchange_after_wait_timeout id x = e ∙ sym (ap (λ b. cond b (exchange_released_by_timeout x) x) its) in
    ap (λ (z : Exchange). set_value (at n) es z) same
    ∙ written id (exchange_after_wait_timeout id) (overdue-others id) n es x s.apart here (sym there)

-- one that doesn't wait stays
pub none_overdue : (id n : ℕ) (x : Exchange) (es : Numbered) (arrivals : ℕ → Option ℕ) → IsIdIndexOf es arrivals → Some n ≡ arrivals id → Some x ≡ lookup (at n) es → is_waiting x.stage ≡ false →
    exchanges_each_changed (exchange_after_wait_timeout id) es ≡ es
none_overdue id n x es arrivals s h there waits_not =
    let here : arrival_number_of_id id es ≡ Some n = sym (s.indexed id) ∙ sym h in
    let same : exchange_after_wait_timeout id x ≡ x = ap (λ b. cond b (exchange_released_by_timeout x) x) (ap (λ b. eqb x.id id && b) waits_not ∙ none (eqb x.id id)) in
    sym (written id (exchange_after_wait_timeout id) (overdue-others id) n es x s.apart here (sym there))
    ∙ (ap (λ (z : Exchange). set_value (at n) es z) same ∙ written_again n x es (sym there))
  where
    none : (a : Bool) → (a && false) ≡ false
    none true = refl
    none false = refl

-- it waits for none any more
pub waiters-past : (n : ℕ) (x y : Exchange) (es : Numbered) (old new : WaitIndex) → lookup (at n) es ≡ Some x → y ≡ exchange_released_by_timeout x → ArrivalIsRemovedIfWaiting x.stage n old new →
    AllIndexed old es → AllIndexed new (set_value (at n) es y)
waiters-past n x y es old new there is k h id =
    indexes-left (λ z. waits_for id z.stage) n x (Some y) (arrival_is_in_wait_index old id) (arrival_is_in_wait_index new id) es (set_value (at n) es y) there (ap (λ (z : Exchange). waits_for id z.stage) is) (λ m. lookup-set m n x y es there) (k id) (h id)

-- whoever waits isn't at the origin
pub overdue-place : (id : ℕ) → KeepsItsPlace (exchange_after_wait_timeout id)
overdue-place id x = (
  elim (eqb x.id id && is_waiting x.stage) as (λ b. (cond b (exchange_released_by_timeout x) x).asked ≡ x.asked) [ true ↦ refl | false ↦ refl ],
  elim (cases_Bool (eqb x.id id && is_waiting x.stage)) [
    | inl t ↦ ap (λ b. is_forwarded (cond b (exchange_released_by_timeout x) x).stage) t ∙ sym (not_yet x.stage (second (eqb x.id id) (is_waiting x.stage) t))
    | inr f ↦ ap (λ b. is_forwarded (cond b (exchange_released_by_timeout x) x).stage) f
  ],
)
  where
    second : (a b : Bool) → (a && b) ≡ true → b ≡ true
    second true b h = h
    second false b h = absurd (false≢true h)

    not_yet : (s : Stage) → is_waiting s ≡ true → is_forwarded s ≡ false
    not_yet stages.Forwarded h = absurd (false≢true h)
    not_yet (stages.Waiting leader) h = refl
    not_yet stages.Released h = refl

-- it may be released, as those may that might be before
pass-set : (which : Exchange → Bool) (n : ℕ) (y : Exchange) (p q : ℕ → Bool) (es : Numbered) → ((m : ℕ) → p m ≡ true → q m ≡ true) → q n ≡ true → SelectedArrivalsPassTest which p es → SelectedArrivalsPassTest which q (set_value (at n) es y)
pass-set which n y p q [] more here h = tt
pass-set which n y p q (e ∷ es) more here h = by_test (pass-set which n y p q es more here h.1) (at n e.0) refl
  where
    same : at n e.0 ≡ true → e.0 ≡ n
    same t = grind (arith, nat_tests, t)

    by_test : SelectedArrivalsPassTest which q (set_value (at n) es y) → (b : Bool) → at n e.0 ≡ b → SelectedArrivalsPassTest which q (cond b ((e.0, y) ∷ es) (e ∷ set_value (at n) es y))
    by_test rest true t = (λ w. ap q (same t) ∙ here, pass-more which p q es more h.1)
    by_test rest false t = (λ w. more e.0 (h.0 w), rest)

pub pass-lapsed : (n : ℕ) (y : Exchange) (old new : Released) (es : Numbered) → ReleasedRangeIsNotNarrowed old new → arrival_may_be_released new n ≡ true →
    ReleasedArrivalsPassTest (arrival_may_be_released old) es → ReleasedArrivalsPassTest (arrival_may_be_released new) (set_value (at n) es y)
pass-lapsed n y old new es covers here h = pass-set (λ x. is_released x.stage) n y (arrival_may_be_released old) (arrival_may_be_released new) es covers here h
