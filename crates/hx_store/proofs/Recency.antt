-- The bounded list has exactly the held serials, in the order of the recent ones.
use Rattle.std.proofs.Common.{◌≡◌, ℕ, zero, suc, ◌<◌, ◌≤◌, Bool, true, false, not, cond, ◌&&◌, ◌||◌, eqb, ltb, Option, None, Some, List, [], ◌∷◌, ◌++◌, length, take, drop, refl, sym, ◌∙◌, ap, subst, arith, inl, inr, append_assoc}
use Rattle.std.specs.List.{filter}
use Rattle.std.specs.Bool.{Decides}
use Rattle.std.proofs.lemmas.Bool.{cases_Bool, and_parts, or_cases, and_from, or_left, or_right, false_from_ne_true, false≢true, lt-ltb, le-ltb, ltb-true, eqb-true, eq-eqb}
use Rattle.std.proofs.lemmas.Bool.Decides.{nat_tests}
use Rattle.std.proofs.lemmas.List.{take-append-drop, append-nil, length-take}
use Rattle.std.proofs.lemmas.List.Elements.{filter-append}
use Rattle.hx_store.specs.Serials.{serial_is_in, SerialsAreDistinct}
use Rattle.hx_store.specs.Recency.{StoreChange, option_is_serial, stores_or_uses, moved_to_front, recent_after_change, recent_of, count_before_serial, NoChangeStoresOrUsesSerial, Held, serial_stayed_within_count, is_held, held_serials_of, lru_list_of, SerialIsStoredOrUsedAndNotRemovedSince, NoChangeRemovesSerial}

or_assoc : (a b c : Bool) → (a || (b || c)) ≡ (a || b || c)
or_assoc true b c = refl
or_assoc false b c = refl

pub and_false : (m : Bool) → (m && false) ≡ false
and_false true = refl
and_false false = refl

pub is_in-append : (s : ℕ) (xs ys : List ℕ) → serial_is_in s (xs ++ ys) ≡ (serial_is_in s xs || serial_is_in s ys)
is_in-append s [] ys = refl
is_in-append s (x ∷ xs) ys = rw (is_in-append s xs ys) (or_assoc (eqb x s) (serial_is_in s xs) (serial_is_in s ys))

-- what p says of s is what it says of an x that equals s
filter_step : (s : ℕ) (e q r m : Bool) (x : ℕ) (ys : List ℕ) →
    e ≡ eqb x s → serial_is_in s ys ≡ (m && r) → (e ≡ true → q ≡ r) → serial_is_in s (cond q (x ∷ ys) ys) ≡ ((e || m) && r)
filter_step s e true r m x ys d i h = rw (← d, i) (cases e r m h)
  where
    cases : (e r m : Bool) → (e ≡ true → true ≡ r) → (e || (m && r)) ≡ ((e || m) && r)
    cases true r m h = h refl
    cases false r m h = refl
filter_step s e false r m x ys d i h = rw i (cases e r m h)
  where
    cases : (e r m : Bool) → (e ≡ true → false ≡ r) → (m && r) ≡ ((e || m) && r)
    cases true r m h = rw (← h refl) (and_false m)
    cases false r m h = refl

pub is_in-filter : (s : ℕ) (p : ℕ → Bool) (xs : List ℕ) → serial_is_in s (filter p xs) ≡ (serial_is_in s xs && p s)
is_in-filter s p [] = refl
is_in-filter s p (x ∷ xs) =
    filter_step s (eqb x s) (p x) (p s) (serial_is_in s xs) x (filter p xs) refl (is_in-filter s p xs) (λ e. ap p (eqb-true x s e))

place_step : (e : Bool) (m n : ℕ) → (e ≡ false → m ≡ n) → cond e 0 (suc m) ≡ cond e 0 (suc n)
place_step true m n h = refl
place_step false m n h = ap suc (h refl)

pub place-append : (s : ℕ) (xs ys : List ℕ) → serial_is_in s xs ≡ true → count_before_serial s (xs ++ ys) ≡ count_before_serial s xs
place-append s [] ys h = cc
place-append s (x ∷ xs) ys h =
    place_step (eqb x s) _ _ (λ e. place-append s xs ys (let k : (false || serial_is_in s xs) ≡ true = rw e at h in k))

take_step : (e m : Bool) (p n : ℕ) → (e || (m && ltb p n)) ≡ ((e || m) && ltb (cond e 0 (suc p)) (suc n))
take_step true m p n = grind (arith, nat_tests)
take_step false true p n = grind (arith, nat_tests)
take_step false false p n = refl

pub is_in-take : (s n : ℕ) (xs : List ℕ) → serial_is_in s (take n xs) ≡ (serial_is_in s xs && ltb (count_before_serial s xs) n)
is_in-take s zero [] = refl
is_in-take s (suc n) [] = refl
is_in-take s zero (x ∷ xs) = rw (le-ltb (count_before_serial s (x ∷ xs)) 0 (omega arith)) (sym (and_false _))
is_in-take s (suc n) (x ∷ xs) = rw (is_in-take s n xs) (take_step (eqb x s) (serial_is_in s xs) (count_before_serial s xs) n)

front_step : (e f m : Bool) → (e ≡ false → f ≡ false) → (e || (m && not f)) ≡ (e || m)
front_step true f m h = refl
front_step false f true h = rw (h refl) refl
front_step false f false h = refl

is_in-to_front : (s : ℕ) (o : Option ℕ) (xs : List ℕ) → serial_is_in s (moved_to_front o xs) ≡ (option_is_serial o s || serial_is_in s xs)
is_in-to_front s None xs = refl
is_in-to_front s (Some x) xs =
    rw (is_in-filter s (λ y. not (eqb y x)) xs) (front_step (eqb x s) (eqb s x) (serial_is_in s xs) (λ e. grind (arith, nat_tests)))

-- what is among the rest after an item: what it touches or what was there, but not what it removes
pub is_in-after : (s : ℕ) (i : StoreChange) (xs : List ℕ) → serial_is_in s (recent_after_change i xs) ≡ ((stores_or_uses i s || serial_is_in s xs) && not (serial_is_in s i.removed))
is_in-after s i xs =
    rw (
      is_in-filter s (λ x. not (serial_is_in x i.removed)) (moved_to_front i.stored (moved_to_front i.used xs)),
      is_in-to_front s i.stored (moved_to_front i.used xs),
      is_in-to_front s i.used xs,
    )
    (ap (λ b. b && not (serial_is_in s i.removed)) (or_assoc (option_is_serial i.stored s) (option_is_serial i.used s) (serial_is_in s xs)))

-- the front of a list stays a front
to_front-append : (o : Option ℕ) (xs ys : List ℕ) → (rest : List ℕ) × (moved_to_front o xs ++ rest ≡ moved_to_front o (xs ++ ys))
to_front-append None xs ys = (ys, refl)
to_front-append (Some x) xs ys = (filter (λ y. not (eqb y x)) ys, ap (λ zs. x ∷ zs) (sym (filter-append _ xs ys)))

pub after-append : (i : StoreChange) (xs ys : List ℕ) → (rest : List ℕ) × (recent_after_change i xs ++ rest ≡ recent_after_change i (xs ++ ys))
after-append i xs ys =
    let p : ℕ → Bool = λ x. not (serial_is_in x i.removed) in
    let a = to_front-append i.used xs ys in
    let b = to_front-append i.stored (moved_to_front i.used xs) a.0 in (
      filter p b.0,
      sym (filter-append p (moved_to_front i.stored (moved_to_front i.used xs)) b.0)
          ∙ ap (filter p) b.1
          ∙ ap (λ zs. filter p (moved_to_front i.stored zs)) a.1,
    )

-- the bounded list is a front of the recent serials
pub bounded_front : (C : ℕ) (past : List StoreChange) → (rest : List ℕ) × (lru_list_of C past ++ rest ≡ recent_of past)
bounded_front C [] = ([], refl)
bounded_front C (i ∷ past) =
    let h = bounded_front C past in
    let a = after-append i (lru_list_of C past) h.0 in
    let xs = recent_after_change i (lru_list_of C past) in (
      drop C xs ++ a.0,
      sym (append_assoc (take C xs) (drop C xs) a.0)
          ∙ ap (λ zs. zs ++ a.0) (take-append-drop C xs)
          ∙ a.1
          ∙ ap (recent_after_change i) h.1,
    )

-- t: touched. r: among the recent. k: kept its place. n: not removed. l, m: its place is below the limit
pub held_step : (t r k n l m : Bool) → (((t || (r && k)) && n) ≡ true → l ≡ m) →
    (((t || (r && k)) && n) && l) ≡ (((t || r) && n) && (m && (t || k)))
held_step true r k true l m h = h refl ∙ sym (and_true m)
  where
    and_true : (m : Bool) → (m && true) ≡ m
    and_true true = refl
    and_true false = refl
held_step true r k false l m h = refl
held_step false true true true l m h = h refl ∙ sym (and_true m)
  where
    and_true : (m : Bool) → (m && true) ≡ m
    and_true true = refl
    and_true false = refl
held_step false true true false l m h = refl
held_step false true false true l m h = sym (and_false m)
held_step false true false false l m h = refl
held_step false false k n l m h = refl

pub is_in-bounded : (C : ℕ) (past : List StoreChange) (s : ℕ) → serial_is_in s (lru_list_of C past) ≡ is_held C past s
is_in-bounded C [] s = refl
is_in-bounded C (i ∷ past) s =
    let h = bounded_front C past in
    let xs = recent_after_change i (lru_list_of C past) in
    let gone = serial_is_in s i.removed in
    let a = after-append i (lru_list_of C past) h.0 in
    let e : recent_after_change i (lru_list_of C past) ++ a.0 ≡ recent_after_change i (recent_of past) = a.1 ∙ ap (recent_after_change i) h.1 in
    let m : serial_is_in s xs ≡ ((stores_or_uses i s || is_held C past s) && not gone) =
    is_in-after s i (lru_list_of C past) ∙ ap (λ b. (stores_or_uses i s || b) && not gone) (is_in-bounded C past s)
    in
    is_in-take s C xs
    ∙ ap (λ b. b && ltb (count_before_serial s xs) C) m
    ∙ held_step (stores_or_uses i s) (serial_is_in s (recent_of past)) (serial_stayed_within_count C s past) (not gone) (ltb (count_before_serial s xs) C) (ltb (count_before_serial s (recent_of (i ∷ past))) C)
    (λ g. ap (λ n. ltb n C) (sym (place-append s xs a.0 (m ∙ g)) ∙ ap (count_before_serial s) e))
    ∙ ap (λ b. b && (ltb (count_before_serial s (recent_of (i ∷ past))) C && (stores_or_uses i s || serial_stayed_within_count C s past))) (sym (is_in-after s i (recent_of past)))

pub SerialsAreDistinct-filter : (p : ℕ → Bool) (xs : List ℕ) → SerialsAreDistinct xs → SerialsAreDistinct (filter p xs)
SerialsAreDistinct-filter p [] d = tt
SerialsAreDistinct-filter p (x ∷ xs) d =
    elim (p x) as (λ b. SerialsAreDistinct (cond b (x ∷ filter p xs) (filter p xs))) [
      | true ↦ (is_in-filter x p xs ∙ ap (λ b. b && p x) d.0, SerialsAreDistinct-filter p xs d.1)
      | false ↦ SerialsAreDistinct-filter p xs d.1
    ]

pub SerialsAreDistinct-to_front : (o : Option ℕ) (xs : List ℕ) → SerialsAreDistinct xs → SerialsAreDistinct (moved_to_front o xs)
SerialsAreDistinct-to_front None xs d = d
SerialsAreDistinct-to_front (Some s) xs d = (
  is_in-filter s (λ y. not (eqb y s)) xs ∙ ap (λ b. serial_is_in s xs && not b) (eq-eqb s s refl) ∙ and_false (serial_is_in s xs),
  SerialsAreDistinct-filter (λ y. not (eqb y s)) xs d,
)

pub SerialsAreDistinct-recent : (past : List StoreChange) → SerialsAreDistinct (recent_of past)
SerialsAreDistinct-recent [] = tt
SerialsAreDistinct-recent (i ∷ past) =
    SerialsAreDistinct-filter _ _ (SerialsAreDistinct-to_front i.stored _ (SerialsAreDistinct-to_front i.used _ (SerialsAreDistinct-recent past)))

pub filter_all : (p : ℕ → Bool) (xs : List ℕ) → ((s : ℕ) → serial_is_in s xs ≡ true → p s ≡ true) → filter p xs ≡ xs
filter_all p [] h = refl
filter_all p (x ∷ xs) h =
    ap (λ b. cond b (x ∷ filter p xs) (filter p xs)) (h x (ap (λ b. b || serial_is_in x xs) (eq-eqb x x refl)))
    ∙ ap (λ zs. x ∷ zs) (filter_all p xs (λ s e. h s (or_right (eqb x s) (serial_is_in s xs) e)))

pub filter_none : (p : ℕ → Bool) (xs : List ℕ) → ((s : ℕ) → serial_is_in s xs ≡ true → p s ≡ false) → filter p xs ≡ []
filter_none p [] h = refl
filter_none p (x ∷ xs) h =
    ap (λ b. cond b (x ∷ filter p xs) (filter p xs)) (h x (ap (λ b. b || serial_is_in x xs) (eq-eqb x x refl)))
    ∙ filter_none p xs (λ s e. h s (or_right (eqb x s) (serial_is_in s xs) e))

-- what stands behind the front does not stand in it
pub apart : (xs ys : List ℕ) (s : ℕ) → SerialsAreDistinct (xs ++ ys) → serial_is_in s ys ≡ true → serial_is_in s xs ≡ false
apart [] ys s d h = refl
apart (x ∷ xs) ys s d h =
    let no : eqb x s ≡ true → ⊥ = λ e.
    let same : x ≡ s = eqb-true x s e in
    false≢true (sym d.0 ∙ ap (λ z. serial_is_in z (xs ++ ys)) same ∙ is_in-append s xs ys ∙ or_right (serial_is_in s xs) (serial_is_in s ys) h)
    in
    ap (λ b. b || serial_is_in s xs) (false_from_ne_true (eqb x s) no) ∙ apart xs ys s d.1 h

-- a test that holds of just a front of a list keeps that front
pub filter_front : (p : ℕ → Bool) (xs ys : List ℕ) → ((s : ℕ) → serial_is_in s xs ≡ p s) → SerialsAreDistinct (xs ++ ys) → filter p (xs ++ ys) ≡ xs
filter_front p xs ys h d =
    filter-append p xs ys
    ∙ ap (λ zs. filter p xs ++ zs) (filter_none p ys (λ s e. sym (h s) ∙ apart xs ys s d e))
    ∙ append-nil (filter p xs)
    ∙ filter_all p xs (λ s e. sym (h s) ∙ e)

pub law : (C : ℕ) (past : List StoreChange) → lru_list_of C past ≡ held_serials_of C past
law C past =
    let h = bounded_front C past in
    sym (
    ap (filter (is_held C past)) (sym h.1)
    ∙ filter_front (is_held C past) (lru_list_of C past) h.0 (is_in-bounded C past)
    (subst SerialsAreDistinct (sym h.1) (SerialsAreDistinct-recent past))
    )

-- the part of "in the recent list, and touched or not" that goes down to the item before
pub in_before : (t r n : Bool) → ((t || r) && n) ≡ true → t ≡ false → r ≡ true
in_before true r n h e = absurd (false≢true (sym e))
in_before false true n h e = refl
in_before false false n h e = h

pub counted : (C : ℕ) (s : ℕ) (past : List StoreChange) → serial_is_in s (recent_of past) ≡ true → serial_stayed_within_count C s past ≡ true →
    (later earlier : List StoreChange) → later ++ earlier ≡ past → NoChangeStoresOrUsesSerial later s → count_before_serial s (recent_of earlier) < C
counted C s [] i k [] earlier e n = absurd (false≢true i)
counted C s (x ∷ past) i k [] earlier e n =
    let l : count_before_serial s (recent_of (x ∷ past)) < C = ltb-true _ _ (and_parts _ _ k).0 in
    subst (λ zs. count_before_serial s (recent_of zs) < C) (sym e) l
counted C s [] i k (y ∷ later) earlier e n = absurd (cc)
counted C s (x ∷ past) i k (y ∷ later) earlier e n =
    let same : y ≡ x = cc in
    let rest : later ++ earlier ≡ past = cc in
    let f : stores_or_uses x s ≡ false = subst (λ z. stores_or_uses z s ≡ false) same n.0 in
    counted C s past
    (in_before (stores_or_uses x s) _ _ (sym (is_in-after s x (recent_of past)) ∙ i) f)
    (elim (or_cases _ _ (and_parts _ _ k).1) [ inl t ↦ absurd (false≢true (sym f ∙ t)) | inr u ↦ u ])
    later earlier rest n.1

pub keeps : (C : ℕ) (s : ℕ) (past : List StoreChange) → serial_is_in s (recent_of past) ≡ true →
    ((later earlier : List StoreChange) → later ++ earlier ≡ past → NoChangeStoresOrUsesSerial later s → count_before_serial s (recent_of earlier) < C) →
    serial_stayed_within_count C s past ≡ true
keeps C s [] i h = refl
keeps C s (x ∷ past) i h =
    and_from _ _ (lt-ltb _ _ (h [] (x ∷ past) refl tt)) (
    elim (cases_Bool (stores_or_uses x s)) [
      | inl t ↦ or_left _ _ t
      | inr f ↦ or_right _ _ (
          keeps C s past (in_before (stores_or_uses x s) _ _ (sym (is_in-after s x (recent_of past)) ∙ i) f)
          (λ later earlier e n. h (x ∷ later) earlier (ap (λ zs. x ∷ zs) e) (f, n))
          )
    ]
    )

-- the test decides the count
pub Decides-held : (C : ℕ) (past : List StoreChange) (s : ℕ) → Decides (is_held C past s) (Held C past s)
Decides-held C past s = (
  λ h. let p = and_parts _ _ h in (p.0, counted C s past p.0 p.1),
  λ h. and_from _ _ h.0 (keeps C s past h.0 h.1),
)

-- one item more, said of the held serials alone
pub held_more : (C : ℕ) (i : StoreChange) (past : List StoreChange) → held_serials_of C (i ∷ past) ≡ take C (recent_after_change i (held_serials_of C past))
held_more C i past = sym (law C (i ∷ past)) ∙ ap (λ xs. take C (recent_after_change i xs)) (law C past)

-- the held serials are a front of the recent ones
pub held_front : (C : ℕ) (past : List StoreChange) → (rest : List ℕ) × (held_serials_of C past ++ rest ≡ recent_of past)
held_front C past = let h = bounded_front C past in (h.0, ap (λ xs. xs ++ h.0) (sym (law C past)) ∙ h.1)

pub is_in-held : (C : ℕ) (past : List StoreChange) (s : ℕ) → Decides (serial_is_in s (held_serials_of C past)) (Held C past s)
is_in-held C past s =
    let e : serial_is_in s (held_serials_of C past) ≡ is_held C past s = ap (serial_is_in s) (sym (law C past)) ∙ is_in-bounded C past s in
    let d = Decides-held C past s in
    (λ h. d.0 (sym e ∙ h), λ h. e ∙ d.1 h)

pub held_at_most : (C : ℕ) (past : List StoreChange) → length (held_serials_of C past) ≤ C
held_at_most C [] = omega arith
held_at_most C (i ∷ past) = rw (held_more C i past) (omega (arith, length-take C (recent_after_change i (held_serials_of C past))))

pub and_not : (a b : Bool) → a ≡ true → b ≡ false → (a && not b) ≡ true
and_not a b h k = ap (λ x. x && not b) h ∙ ap not k

not_true : (b : Bool) → not b ≡ true → b ≡ false
not_true true h = absurd (false≢true h)
not_true false h = refl

is_listed : (past : List StoreChange) (s : ℕ) → serial_is_in s (recent_of past) ≡ true → SerialIsStoredOrUsedAndNotRemovedSince past s
is_listed [] s h = absurd (false≢true h)
is_listed (i ∷ past) s h =
    let p = and_parts (stores_or_uses i s || serial_is_in s (recent_of past)) _ (sym (is_in-after s i (recent_of past)) ∙ h) in
    let off = not_true (serial_is_in s i.removed) p.1 in
    elim (or_cases _ _ p.0) [
      | inl t ↦ ([], i, past, refl, t, off, tt)
      | inr r ↦ (
          let q = is_listed past s r in
          (i ∷ q.0, q.1, q.2, ap (λ zs. i ∷ zs) q.3, q.4, q.5, (off, q.6))
          )
    ]

listed_is : (later : List StoreChange) (i : StoreChange) (earlier : List StoreChange) (s : ℕ) → stores_or_uses i s ≡ true → serial_is_in s i.removed ≡ false → NoChangeRemovesSerial later s →
    serial_is_in s (recent_of (later ++ i ∷ earlier)) ≡ true
listed_is [] i earlier s t off n = is_in-after s i (recent_of earlier) ∙ and_not _ _ (or_left _ _ t) off
listed_is (j ∷ later) i earlier s t off n =
    is_in-after s j (recent_of (later ++ i ∷ earlier)) ∙ and_not _ _ (or_right _ _ (listed_is later i earlier s t off n.1)) n.0

-- the recent serials are those stored or used and not removed since
pub Decides-recent : (past : List StoreChange) (s : ℕ) → Decides (serial_is_in s (recent_of past)) (SerialIsStoredOrUsedAndNotRemovedSince past s)
Decides-recent past s = (
  is_listed past s,
  λ q. ap (λ zs. serial_is_in s (recent_of zs)) (sym q.3) ∙ listed_is q.0 q.1 q.2 s q.4 q.5 q.6,
)
