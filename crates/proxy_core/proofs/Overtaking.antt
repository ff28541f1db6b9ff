-- Overtaking those of a key at the numbers that the indexes tell is overtaking all of that key.
use Rattle.std.proofs.Common.{◌≡◌, ℕ, Bool, true, false, cond, ◌&&◌, ◌||◌, not, eqb, None, Some, List, [], ◌∷◌, refl, sym, ◌∙◌, ap, inl, inr}
use Rattle.std.specs.Ordering.{nat_cmp}
use Rattle.std.specs.BTreeMap.{is_at}
use Rattle.std.specs.List.{list_any}
use Rattle.std.specs.List.Sorted.{IsStrictlySortedBy}
use Rattle.std.specs.Map.{lookup, set_value, keys_of}
use Rattle.std.proofs.lemmas.Bool.{cases_Bool, eqb-true, eq-eqb}
use Rattle.std.proofs.lemmas.Option.{same_Some}
use Rattle.std.proofs.lemmas.Map.Keys.{sorted_head, sorted_tail}
use Rattle.hx_target.specs.declared.keys.Key.{Key}
use Rattle.hx_target.specs.Keys.{same_key}
use Rattle.proxy_core.specs.declared.open.arrivals_by_key.ArrivalsByKey.{ArrivalsByKey}
use Rattle.proxy_core.specs.declared.open.exchange.Exchange.{Exchange}
use Rattle.proxy_core.specs.Scopes.{scope_of_target_alone}
use Rattle.proxy_core.specs.State.{exchange_overtaken_if_in_scope}
use Rattle.proxy_core.specs.Arrivals.{HaveDistinctArrivalsAndIds, exchanges_each_changed, map_exchanges_where_number_passes}
use Rattle.proxy_core.specs.ByKey.{is_get_at_origin, is_get_at_origin_for_key, is_for_key_but_no_get_at_origin, arrival_is_in_key_index, ArrivalsOfGetsAtOriginPassTest, ArrivalsButGetsAtOriginPassTest, ArrivalsByKeyAreExact}
use Rattle.proxy_core.proofs.ExchangeLists.{cond_none}
use Rattle.proxy_core.proofs.Indexed.{passes}
use Rattle.proxy_core.proofs.Waiters.{at_is, not_at, none_behind}

abbrev Numbered : Type 0
Numbered = List (ℕ × Exchange)

abbrev at : ℕ → ℕ → Bool
at n k = is_at (nat_cmp n) k

abbrev among : List ℕ → ℕ → Bool
among ns k = list_any (λ n. at k n) ns

-- those at the numbers that are still to come
abbrev pub overtaken_at : Key → List ℕ → Numbered → Numbered
overtaken_at key ns es = map_exchanges_where_number_passes (among ns) (exchange_overtaken_if_in_scope (scope_of_target_alone key)) es

overtaken_twice : (key : Key) (x : Exchange) → exchange_overtaken_if_in_scope (scope_of_target_alone key) (exchange_overtaken_if_in_scope (scope_of_target_alone key) x) ≡ exchange_overtaken_if_in_scope (scope_of_target_alone key) x
overtaken_twice key x = elim (cases_Bool (same_key x.asked.target.key key)) [
  | inl t ↦ (
      ap (λ b. exchange_overtaken_if_in_scope (scope_of_target_alone key) (cond b (record x { overtaken = true }) x)) t
      ∙ (ap (λ b. cond b (record x { overtaken = true }) (record x { overtaken = true })) t
      ∙ sym (ap (λ b. cond b (record x { overtaken = true }) x) t))
      )
  | inr f ↦ ap (λ b. exchange_overtaken_if_in_scope (scope_of_target_alone key) (cond b (record x { overtaken = true }) x)) f
]

either_way : (b : Bool) (x : Exchange) → cond b x x ≡ x
either_way true x = refl
either_way false x = refl

pub none_at : (key : Key) (es : Numbered) → map_exchanges_where_number_passes (λ k. false) (exchange_overtaken_if_in_scope (scope_of_target_alone key)) es ≡ es
none_at key [] = refl
none_at key (e ∷ es) = ap (λ (zs : Numbered). e ∷ zs) (none_at key es)

apart : (n m : ℕ) (ns : List ℕ) → at n m ≡ false → among (n ∷ ns) m ≡ among ns m
apart n m ns f = ap (λ b. b || among ns m) (not_at n m (sym (at_is n m) ∙ f))

here : (n m : ℕ) (ns : List ℕ) → at n m ≡ true → among (n ∷ ns) m ≡ true
here n m ns t = ap (λ b. b || among ns m) (at_is m n ∙ ap (λ k. eqb m k) (eqb-true n m (sym (at_is n m) ∙ t)) ∙ eq-eqb m m refl)

-- one that isn't open
pub closed_at : (key : Key) (n : ℕ) (ns : List ℕ) (es : Numbered) → lookup (at n) es ≡ None → overtaken_at key (n ∷ ns) es ≡ overtaken_at key ns es
closed_at key n ns [] none = refl
closed_at key n ns (e ∷ es) none =
    let c = cond_none (at n e.0) e.1 (lookup (at n) es) none in
    ap (λ b. (e.0, cond b (exchange_overtaken_if_in_scope (scope_of_target_alone key) e.1) e.1) ∷ overtaken_at key (n ∷ ns) es) (apart n e.0 ns c.0)
    ∙ ap (λ (zs : Numbered). (e.0, cond (among ns e.0) (exchange_overtaken_if_in_scope (scope_of_target_alone key) e.1) e.1) ∷ zs) (closed_at key n ns es c.1)

-- one that is
pub set_at : (key : Key) (n : ℕ) (x : Exchange) (ns : List ℕ) (es : Numbered) → IsStrictlySortedBy nat_cmp (keys_of es) → lookup (at n) es ≡ Some x →
    overtaken_at key ns (set_value (at n) es (exchange_overtaken_if_in_scope (scope_of_target_alone key) x)) ≡ overtaken_at key (n ∷ ns) es
set_at key n x ns [] s there = absurd (cc)
set_at key n x ns (e ∷ es) s there = elim (cases_Bool (at n e.0)) [
  | inl t ↦ (
      let is : e.1 ≡ x = same_Some e.1 x (sym (ap (λ b. cond b (Some e.1) (lookup (at n) es)) t) ∙ there) in
      let k : n ≡ e.0 = eqb-true n e.0 (sym (at_is n e.0) ∙ t) in
      let none : lookup (at n) es ≡ None = ap (λ i. lookup (at i) es) k ∙ none_behind e.0 es (sorted_head nat_cmp e.0 (keys_of es) s) in
      let y = exchange_overtaken_if_in_scope (scope_of_target_alone key) x in
      ap (λ b. overtaken_at key ns (cond b ((e.0, y) ∷ es) (e ∷ set_value (at n) es y))) t
      ∙ (ap (λ (z : Exchange). (e.0, cond (among ns e.0) z y) ∷ overtaken_at key ns es) (overtaken_twice key x)
      ∙ (ap (λ (z : Exchange). (e.0, z) ∷ overtaken_at key ns es) (either_way (among ns e.0) y)
      ∙ (ap (λ (z : Exchange). (e.0, exchange_overtaken_if_in_scope (scope_of_target_alone key) z) ∷ overtaken_at key ns es) (sym is)
      ∙ (ap (λ b. (e.0, cond b (exchange_overtaken_if_in_scope (scope_of_target_alone key) e.1) e.1) ∷ overtaken_at key ns es) (sym (here n e.0 ns t))
      ∙ ap (λ (zs : Numbered). (e.0, cond (among (n ∷ ns) e.0) (exchange_overtaken_if_in_scope (scope_of_target_alone key) e.1) e.1) ∷ zs) (sym (closed_at key n ns es none))))))
      )
  | inr f ↦ (
      let y = exchange_overtaken_if_in_scope (scope_of_target_alone key) x in
      ap (λ b. overtaken_at key ns (cond b ((e.0, y) ∷ es) (e ∷ set_value (at n) es y))) f
      ∙ (ap (λ b. (e.0, cond b (exchange_overtaken_if_in_scope (scope_of_target_alone key) e.1) e.1) ∷ overtaken_at key ns (set_value (at n) es y)) (sym (apart n e.0 ns f))
      ∙ ap (λ (zs : Numbered). (e.0, cond (among (n ∷ ns) e.0) (exchange_overtaken_if_in_scope (scope_of_target_alone key) e.1) e.1) ∷ zs)
      (set_at key n x ns es (sorted_tail nat_cmp e.0 (keys_of es) s) (sym (ap (λ b. cond b (Some e.1) (lookup (at n) es)) f) ∙ there)))
      )
]

-- ---- both indexes

of_another_key : (key : Key) (x : Exchange) → same_key x.asked.target.key key ≡ false → exchange_overtaken_if_in_scope (scope_of_target_alone key) x ≡ x
of_another_key key x f = ap (λ b. cond b (record x { overtaken = true }) x) f

-- what both indexes do to one exchange
one_by_both : (key : Key) (x : Exchange) (p q : Bool) → ((same_key x.asked.target.key key && is_get_at_origin x) ≡ true → p ≡ true) →
    ((same_key x.asked.target.key key && not (is_get_at_origin x)) ≡ true → q ≡ true) →
    cond q (exchange_overtaken_if_in_scope (scope_of_target_alone key) (cond p (exchange_overtaken_if_in_scope (scope_of_target_alone key) x) x)) (cond p (exchange_overtaken_if_in_scope (scope_of_target_alone key) x) x) ≡ exchange_overtaken_if_in_scope (scope_of_target_alone key) x
one_by_both key x p q gets others = elim (cases_Bool (same_key x.asked.target.key key)) [
  | inr f ↦ (
      let same = of_another_key key x f in
      ap (λ (z : Exchange). cond q (exchange_overtaken_if_in_scope (scope_of_target_alone key) (cond p z x)) (cond p z x)) same
      ∙ (ap (λ (z : Exchange). cond q (exchange_overtaken_if_in_scope (scope_of_target_alone key) z) z) (either_way p x)
      ∙ (ap (λ (z : Exchange). cond q z x) same
      ∙ (either_way q x ∙ sym same)))
      )
  | inl t ↦ elim (cases_Bool (is_get_at_origin x)) [
    | inl g ↦ (
        let y = exchange_overtaken_if_in_scope (scope_of_target_alone key) x in
        ap (λ b. cond q (exchange_overtaken_if_in_scope (scope_of_target_alone key) (cond b y x)) (cond b y x)) (gets (ap (λ b. b && is_get_at_origin x) t ∙ g))
        ∙ (ap (λ (z : Exchange). cond q z y) (overtaken_twice key x) ∙ either_way q y)
        )
    | inr o ↦ (
        let y = exchange_overtaken_if_in_scope (scope_of_target_alone key) x in
        ap (λ b. cond b (exchange_overtaken_if_in_scope (scope_of_target_alone key) (cond p y x)) (cond p y x)) (others (ap (λ b. b && not (is_get_at_origin x)) t ∙ ap not o))
        ∙ marked p
        )
  ]
]
  where
    marked : (b : Bool) → exchange_overtaken_if_in_scope (scope_of_target_alone key) (cond b (exchange_overtaken_if_in_scope (scope_of_target_alone key) x) x) ≡ exchange_overtaken_if_in_scope (scope_of_target_alone key) x
    marked true = overtaken_twice key x
    marked false = refl

pub all_by_both : (key : Key) (p q : ℕ → Bool) (es : Numbered) → ArrivalsOfGetsAtOriginPassTest key p es → ArrivalsButGetsAtOriginPassTest key q es →
    map_exchanges_where_number_passes q (exchange_overtaken_if_in_scope (scope_of_target_alone key)) (map_exchanges_where_number_passes p (exchange_overtaken_if_in_scope (scope_of_target_alone key)) es) ≡ exchanges_each_changed (exchange_overtaken_if_in_scope (scope_of_target_alone key)) es
all_by_both key p q [] gets others = refl
all_by_both key p q (e ∷ es) gets others =
    ap (λ (z : Exchange). (e.0, z) ∷ map_exchanges_where_number_passes q (exchange_overtaken_if_in_scope (scope_of_target_alone key)) (map_exchanges_where_number_passes p (exchange_overtaken_if_in_scope (scope_of_target_alone key)) es)) (one_by_both key e.1 (p e.0) (q e.0) gets.0 others.0)
    ∙ ap (λ (zs : Numbered). (e.0, exchange_overtaken_if_in_scope (scope_of_target_alone key) e.1) ∷ zs) (all_by_both key p q es gets.1 others.1)

pub all_overtaken : (key : Key) (by_key : ArrivalsByKey) (es mid new : Numbered) → HaveDistinctArrivalsAndIds es → ArrivalsByKeyAreExact by_key es →
    mid ≡ map_exchanges_where_number_passes (arrival_is_in_key_index by_key.gets key) (exchange_overtaken_if_in_scope (scope_of_target_alone key)) es → new ≡ map_exchanges_where_number_passes (arrival_is_in_key_index by_key.others key) (exchange_overtaken_if_in_scope (scope_of_target_alone key)) mid →
    new ≡ exchanges_each_changed (exchange_overtaken_if_in_scope (scope_of_target_alone key)) es
all_overtaken key by_key es mid new apart told first second =
    second ∙ (ap (map_exchanges_where_number_passes (arrival_is_in_key_index by_key.others key) (exchange_overtaken_if_in_scope (scope_of_target_alone key))) first
    ∙ all_by_both key (arrival_is_in_key_index by_key.gets key) (arrival_is_in_key_index by_key.others key) es
    (passes (is_get_at_origin_for_key key) (arrival_is_in_key_index by_key.gets key) es apart (told.0 key))
    (passes (is_for_key_but_no_get_at_origin key) (arrival_is_in_key_index by_key.others key) es apart (told.1 key)))
