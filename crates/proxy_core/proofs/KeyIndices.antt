-- What a map from keys to sets of arrivals says of who asks for them.
use Rattle.std.proofs.Common.{◌≡◌, ℕ, Bool, true, false, not, cond, ◌&&◌, ◌||◌, eqb, Option, None, Some, refl, sym, ◌∙◌, ap, arith, inl, inr}
use Rattle.std.specs.Option.{ForSome}
use Rattle.std.specs.Map.{lookup}
use Rattle.std.specs.Ordering.{nat_cmp}
use Rattle.std.specs.BTreeMap.{get, is_at}
use Rattle.std.specs.BTreeSet.{BTreeSet, contains}
use Rattle.std.proofs.lemmas.Bool.{cases_Bool, false≢true, eqb-true}
use Rattle.std.proofs.lemmas.Bool.Decides.{nat_tests}
use Rattle.proxy_core.specs.declared.open.key_index.ArrivalKeyIndex.{ArrivalKeyIndex}
use Rattle.proxy_core.specs.Waiters.{set_contains, SetIsNotEmpty}
use Rattle.proxy_core.specs.ByKey.{arrival_is_in_key_index, KeyIndexHasNoEmptySet, OtherKeysHaveNoEmptySet}
use Rattle.hx_target.specs.declared.keys.Key.{Key}
use Rattle.hx_target.specs.Keys.{same_key}
use Rattle.hx_target.specs.KeyOrder.{key_cmp, key_cmp_ties_are_same}
use Rattle.std.specs.Cmp.Lexicographic.{bytes_decides}

at_is : (n k : ℕ) → is_at (nat_cmp n) k ≡ eqb n k
at_is n k = grind (arith, nat_tests)

both : (a b : Bool) → (a && b) ≡ true → (a ≡ true) × (b ≡ true)
both true b h = (refl, h)
both false b h = absurd (false≢true h)

-- keys that are the same are one
pub one_key : (a b : Key) → same_key a b ≡ true → a ≡ b
one_key a b h =
    let p = both _ _ h in
    let q = both _ _ p.0 in
    let host = (bytes_decides a.host b.host).0 q.0 in
    let port = eqb-true a.port b.port q.1 in
    let path_query = (bytes_decides a.path_query b.path_query).0 p.1 in
    λ i. record { host = host i; port = port i; path_query = path_query i }

-- a map that has w at a key, and else what it had
abbrev Has : Key → Option (BTreeSet ℕ) → ArrivalKeyIndex → ArrivalKeyIndex → Type 0
Has key w old new = (q : Key) → get key_cmp new.arrivals q ≡ cond (is_at (key_cmp key) q) w (get key_cmp old.arrivals q)

pub written : (key : Key) (old new : ArrivalKeyIndex) (w : Option (BTreeSet ℕ)) → Has key w old new → (q : Key) (m : ℕ) → arrival_is_in_key_index new q m ≡ cond (same_key key q) (set_contains w m) (arrival_is_in_key_index old q m)
written key old new w h q m =
    let g = get key_cmp old.arrivals q in
    ap (λ o. set_contains o m) (h q)
    ∙ ap (λ b. set_contains (cond b w g) m) (sym (key_cmp_ties_are_same key q))
    ∙ (elim (same_key key q) as (λ b. set_contains (cond b w g) m ≡ cond b (set_contains w m) (set_contains g m)) [ true ↦ refl | false ↦ refl ])

-- what stands at the key is what was there, but at one arrival
pub entered : (key : Key) (n : ℕ) (old new : ArrivalKeyIndex) (f : ℕ → Bool) → ((q : Key) (m : ℕ) → arrival_is_in_key_index new q m ≡ cond (same_key key q) (f m) (arrival_is_in_key_index old q m)) →
    ((m : ℕ) → f m ≡ (eqb n m || arrival_is_in_key_index old key m)) → (q : Key) (m : ℕ) → arrival_is_in_key_index new q m ≡ ((same_key key q && eqb n m) || arrival_is_in_key_index old q m)
entered key n old new f h k q m = elim (cases_Bool (same_key key q)) [
  | inl t ↦ (
      h q m ∙ ap (λ b. cond b (f m) (arrival_is_in_key_index old q m)) t ∙ k m ∙ ap (λ i. eqb n m || arrival_is_in_key_index old i m) (one_key key q t)
      ∙ sym (ap (λ b. (b && eqb n m) || arrival_is_in_key_index old q m) t)
      )
  | inr o ↦ h q m ∙ ap (λ b. cond b (f m) (arrival_is_in_key_index old q m)) o ∙ sym (ap (λ b. (b && eqb n m) || arrival_is_in_key_index old q m) o)
]

pub left : (key : Key) (n : ℕ) (old new : ArrivalKeyIndex) (f : ℕ → Bool) → ((q : Key) (m : ℕ) → arrival_is_in_key_index new q m ≡ cond (same_key key q) (f m) (arrival_is_in_key_index old q m)) →
    ((m : ℕ) → f m ≡ (not (eqb n m) && arrival_is_in_key_index old key m)) → (q : Key) (m : ℕ) → arrival_is_in_key_index new q m ≡ (not (same_key key q && eqb n m) && arrival_is_in_key_index old q m)
left key n old new f h k q m = elim (cases_Bool (same_key key q)) [
  | inl t ↦ (
      h q m ∙ ap (λ b. cond b (f m) (arrival_is_in_key_index old q m)) t ∙ k m ∙ ap (λ i. not (eqb n m) && arrival_is_in_key_index old i m) (one_key key q t)
      ∙ sym (ap (λ b. not (b && eqb n m) && arrival_is_in_key_index old q m) t)
      )
  | inr o ↦ h q m ∙ ap (λ b. cond b (f m) (arrival_is_in_key_index old q m)) o ∙ sym (ap (λ b. not (b && eqb n m) && arrival_is_in_key_index old q m) o)
]

pub same : (key : Key) (old new : ArrivalKeyIndex) (f : ℕ → Bool) → ((q : Key) (m : ℕ) → arrival_is_in_key_index new q m ≡ cond (same_key key q) (f m) (arrival_is_in_key_index old q m)) →
    ((m : ℕ) → f m ≡ arrival_is_in_key_index old key m) → (q : Key) (m : ℕ) → arrival_is_in_key_index new q m ≡ arrival_is_in_key_index old q m
same key old new f h k q m = elim (cases_Bool (same_key key q)) [
  | inl t ↦ h q m ∙ ap (λ b. cond b (f m) (arrival_is_in_key_index old q m)) t ∙ k m ∙ ap (λ i. arrival_is_in_key_index old i m) (one_key key q t)
  | inr o ↦ h q m ∙ ap (λ b. cond b (f m) (arrival_is_in_key_index old q m)) o
]

-- what a set has once a number was put in, and once one was taken out
pub put : (n : ℕ) (old new : BTreeSet ℕ) → ((q : ℕ) → contains nat_cmp new q ≡ cond (is_at (nat_cmp n) q) true (contains nat_cmp old q)) →
    (m : ℕ) → contains nat_cmp new m ≡ (eqb n m || contains nat_cmp old m)
put n old new h m = h m ∙ ap (λ b. cond b true (contains nat_cmp old m)) (at_is n m)
    ∙ (elim (eqb n m) as (λ b. cond b true (contains nat_cmp old m) ≡ (b || contains nat_cmp old m)) [ true ↦ refl | false ↦ refl ])

pub entries_without_serials : (n : ℕ) (old new : BTreeSet ℕ) → ((q : ℕ) → contains nat_cmp new q ≡ cond (is_at (nat_cmp n) q) false (contains nat_cmp old q)) →
    (m : ℕ) → contains nat_cmp new m ≡ (not (eqb n m) && contains nat_cmp old m)
entries_without_serials n old new h m = h m ∙ ap (λ b. cond b false (contains nat_cmp old m)) (at_is n m)
    ∙ (elim (eqb n m) as (λ b. cond b false (contains nat_cmp old m) ≡ (not b && contains nat_cmp old m)) [ true ↦ refl | false ↦ refl ])

-- ---- no key stands there for nothing

pub trim-written : (key : Key) (old new : ArrivalKeyIndex) (w : Option (BTreeSet ℕ)) → Has key w old new → ForSome w SetIsNotEmpty → KeyIndexHasNoEmptySet old → KeyIndexHasNoEmptySet new
trim-written key old new w h n o q set e k =
    let g = get key_cmp old.arrivals q in
    elim (cases_Bool (is_at (key_cmp key) q)) [
      | inl t ↦ n set (sym (h q ∙ ap (λ b. cond b w g) t) ∙ e) k
      | inr f ↦ o q set (sym (h q ∙ ap (λ b. cond b w g) f) ∙ e) k
    ]

pub trim-beside : (key : Key) (old new : ArrivalKeyIndex) (w : Option (BTreeSet ℕ)) → Has key w old new → KeyIndexHasNoEmptySet old → OtherKeysHaveNoEmptySet key new
trim-beside key old new w h o q f set e k =
    let g = get key_cmp old.arrivals q in
    o q set (sym (h q ∙ ap (λ b. cond b w g) (sym (key_cmp_ties_are_same key q) ∙ f)) ∙ e) k

pub trim-removed : (key : Key) (mid new : ArrivalKeyIndex) → Has key None mid new → OtherKeysHaveNoEmptySet key mid → KeyIndexHasNoEmptySet new
trim-removed key mid new h b q set e k =
    let g = get key_cmp mid.arrivals q in
    elim (cases_Bool (is_at (key_cmp key) q)) [
      | inl t ↦ (
          let n : None ≡ Some set = sym (h q ∙ ap (λ b. cond b None g) t) ∙ e in
          absurd (cc)
          )
      | inr f ↦ b q (key_cmp_ties_are_same key q ∙ f) set (sym (h q ∙ ap (λ b. cond b None g) f) ∙ e) k
    ]

pub trim-same : (old new : ArrivalKeyIndex) → new.arrivals.entries ≡ old.arrivals.entries → KeyIndexHasNoEmptySet old → KeyIndexHasNoEmptySet new
trim-same old new s o q set e k = o q set (ap (lookup (is_at (key_cmp q))) (sym s) ∙ e) k
