-- The recent serials stand in the order of their last storing or use.
use Rattle.std.proofs.Common.{◌≡◌, ℕ, suc, ◌<◌, Bool, true, false, not, cond, eqb, Option, None, Some, List, [], ◌∷◌, ◌++◌, length, refl, sym, ◌∙◌, ap, subst, arith, inl, inr, ◌⊎◌}
use Rattle.std.specs.List.{filter}
use Rattle.std.proofs.lemmas.Bool.{cases_Bool, and_parts, or_cases, or_parts, false≢true, eqb-true, eq-eqb, false_from_ne_true, not-true}
use Rattle.hx_store.specs.Serials.{serial_is_in}
use Rattle.hx_store.specs.Recency.{StoreChange, option_is_serial, stores_or_uses, moved_to_front, recent_after_change, recent_of, count_before_serial, NoChangeStoresOrUsesSerial, IsStoredOrUsedLaterThan}
use Rattle.hx_store.proofs.Recency.{is_in-after, in_before}

pub place_of_listed : (s : ℕ) (xs ys : List ℕ) → serial_is_in s xs ≡ false → count_before_serial s (xs ++ s ∷ ys) ≡ length xs
place_of_listed s [] ys h = ap (λ e. cond e 0 (suc (count_before_serial s ys))) (eq-eqb s s refl)
place_of_listed s (x ∷ xs) ys h =
    let p = or_parts (eqb x s) (serial_is_in s xs) h in
    ap (λ e. cond e 0 (suc (count_before_serial s (xs ++ s ∷ ys)))) p.0 ∙ ap suc (place_of_listed s xs ys p.1) ∙ omega arith

pub place_of_absent : (s : ℕ) (xs : List ℕ) → serial_is_in s xs ≡ false → count_before_serial s xs ≡ length xs
place_of_absent s [] h = refl
place_of_absent s (x ∷ xs) h =
    let p = or_parts (eqb x s) (serial_is_in s xs) h in
    ap (λ e. cond e 0 (suc (count_before_serial s xs))) p.0 ∙ ap suc (place_of_absent s xs p.1) ∙ omega arith

apart_from : (s a b : ℕ) → eqb s a ≡ true → eqb s b ≡ false → eqb a b ≡ false
apart_from s a b h k = subst (λ z. eqb z b ≡ false) (eqb-true s a h) k

-- a stands before b, here at x ∷ xs, by the cases of x
first : (a b x : ℕ) (xs : List ℕ) → eqb x a ≡ true → eqb x b ≡ false → count_before_serial a (x ∷ xs) < count_before_serial b (x ∷ xs)
first a b x xs h k =
    let p : count_before_serial a (x ∷ xs) ≡ 0 = ap (λ e. cond e 0 (suc (count_before_serial a xs))) h in
    let q : count_before_serial b (x ∷ xs) ≡ suc (count_before_serial b xs) = ap (λ e. cond e 0 (suc (count_before_serial b xs))) k in
    omega arith

behind : (a b x : ℕ) (xs : List ℕ) → eqb x a ≡ false → eqb x b ≡ false → count_before_serial a xs < count_before_serial b xs → count_before_serial a (x ∷ xs) < count_before_serial b (x ∷ xs)
behind a b x xs h k l =
    let p : count_before_serial a (x ∷ xs) ≡ suc (count_before_serial a xs) = ap (λ e. cond e 0 (suc (count_before_serial a xs))) h in
    let q : count_before_serial b (x ∷ xs) ≡ suc (count_before_serial b xs) = ap (λ e. cond e 0 (suc (count_before_serial b xs))) k in
    omega arith

-- and back
not_first : (a b x : ℕ) (xs : List ℕ) → count_before_serial a (x ∷ xs) < count_before_serial b (x ∷ xs) → eqb x b ≡ false
not_first a b x xs l = false_from_ne_true _ (λ k.
    let q : count_before_serial b (x ∷ xs) ≡ 0 = ap (λ e. cond e 0 (suc (count_before_serial b xs))) k in absurd (omega arith))

rest_of : (a b x : ℕ) (xs : List ℕ) → eqb x a ≡ false → count_before_serial a (x ∷ xs) < count_before_serial b (x ∷ xs) → count_before_serial a xs < count_before_serial b xs
rest_of a b x xs h l =
    let k = not_first a b x xs l in
    let p : count_before_serial a (x ∷ xs) ≡ suc (count_before_serial a xs) = ap (λ e. cond e 0 (suc (count_before_serial a xs))) h in
    let q : count_before_serial b (x ∷ xs) ≡ suc (count_before_serial b xs) = ap (λ e. cond e 0 (suc (count_before_serial b xs))) k in
    omega arith

kept_order : (p : ℕ → Bool) (a b : ℕ) (xs : List ℕ) → p a ≡ true → count_before_serial a xs < count_before_serial b xs → count_before_serial a (filter p xs) < count_before_serial b (filter p xs)
kept_order p a b [] h l = absurd (omega arith)
kept_order p a b (x ∷ xs) h l =
    let k = not_first a b x xs l in
    elim (cases_Bool (eqb x a)) [
      | inl t ↦ (
          let keep : p x ≡ true = ap p (eqb-true x a t) ∙ h in
          subst (λ e. count_before_serial a (cond e (x ∷ filter p xs) (filter p xs)) < count_before_serial b (cond e (x ∷ filter p xs) (filter p xs))) (sym keep)
          (first a b x (filter p xs) t k)
          )
      | inr f ↦ (
          let r = kept_order p a b xs h (rest_of a b x xs f l) in
          elim (p x) as (λ e. count_before_serial a (cond e (x ∷ filter p xs) (filter p xs)) < count_before_serial b (cond e (x ∷ filter p xs) (filter p xs))) [
            | true ↦ behind a b x (filter p xs) f k r
            | false ↦ r
          ]
          )
    ]

front_order : (o : Option ℕ) (a b : ℕ) (xs : List ℕ) → option_is_serial o b ≡ false → count_before_serial a xs < count_before_serial b xs → count_before_serial a (moved_to_front o xs) < count_before_serial b (moved_to_front o xs)
front_order None a b xs h l = l
front_order (Some s) a b xs h l = elim (cases_Bool (eqb s a)) [
  | inl t ↦ first a b s _ t h
  | inr f ↦ behind a b s _ f h (kept_order (λ x. not (eqb x s)) a b xs
      (ap not (false_from_ne_true (eqb a s) (λ k. false≢true (sym f ∙ eq-eqb s a (sym (eqb-true a s k)))))) l)
]

touched_order : (o : Option ℕ) (a b : ℕ) (xs : List ℕ) → option_is_serial o a ≡ true → option_is_serial o b ≡ false → count_before_serial a (moved_to_front o xs) < count_before_serial b (moved_to_front o xs)
touched_order None a b xs h k = absurd (false≢true h)
touched_order (Some s) a b xs h k = first a b s _ h k

after_order : (i : StoreChange) (a b : ℕ) (xs : List ℕ) → stores_or_uses i b ≡ false → serial_is_in a i.removed ≡ false →
    ((stores_or_uses i a ≡ true) ⊎ (count_before_serial a xs < count_before_serial b xs)) → count_before_serial a (recent_after_change i xs) < count_before_serial b (recent_after_change i xs)
after_order i a b xs n off w =
    let q = or_parts (option_is_serial i.stored b) (option_is_serial i.used b) n in
    let p : ℕ → Bool = λ x. not (serial_is_in x i.removed) in
    let ok : p a ≡ true = ap not off in
    elim w [
      | inl t ↦ elim (or_cases (option_is_serial i.stored a) (option_is_serial i.used a) t) [
        | inl s ↦ kept_order p a b _ ok (touched_order i.stored a b _ s q.0)
        | inr u ↦ kept_order p a b _ ok (front_order i.stored a b _ q.0 (touched_order i.used a b _ u q.1))
      ]
      | inr l ↦ kept_order p a b _ ok (front_order i.stored a b _ q.0 (front_order i.used a b _ q.1 l))
    ]

not_removed : (i : StoreChange) (past : List StoreChange) (a : ℕ) → serial_is_in a (recent_of (i ∷ past)) ≡ true → serial_is_in a i.removed ≡ false
not_removed i past a h = not-true _ (and_parts _ _ (sym (is_in-after a i (recent_of past)) ∙ h)).1

pub ordered : (past : List StoreChange) (a b : ℕ) → serial_is_in a (recent_of past) ≡ true → IsStoredOrUsedLaterThan past a b → count_before_serial a (recent_of past) < count_before_serial b (recent_of past)
ordered past a b h q = subst (λ zs. count_before_serial a (recent_of zs) < count_before_serial b (recent_of zs)) q.3
    (go q.0 q.1 q.2 q.4 q.5 q.6 (ap (λ zs. serial_is_in a (recent_of zs)) q.3 ∙ h))
  where
    go : (later : List StoreChange) (item : StoreChange) (earlier : List StoreChange) → stores_or_uses item a ≡ true → stores_or_uses item b ≡ false → NoChangeStoresOrUsesSerial later b →
        serial_is_in a (recent_of (later ++ item ∷ earlier)) ≡ true → count_before_serial a (recent_of (later ++ item ∷ earlier)) < count_before_serial b (recent_of (later ++ item ∷ earlier))
    go [] item earlier t n none i = after_order item a b (recent_of earlier) n (not_removed item earlier a i) (inl t)
    go (j ∷ later) item earlier t n none i =
        after_order j a b (recent_of (later ++ item ∷ earlier)) none.0 (not_removed j (later ++ item ∷ earlier) a i) (elim (cases_Bool (stores_or_uses j a)) [
          | inl u ↦ inl u
          | inr f ↦ inr (go later item earlier t n none.1 (in_before (stores_or_uses j a) (serial_is_in a (recent_of (later ++ item ∷ earlier))) (not (serial_is_in a j.removed)) (sym (is_in-after a j (recent_of (later ++ item ∷ earlier))) ∙ i) f))
        ])
