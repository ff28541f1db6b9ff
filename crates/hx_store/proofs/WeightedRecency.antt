-- The list that is cut to its bounds has exactly the held serials, in the order of the recent ones.
use Rattle.std.proofs.Common.{◌≡◌, ℕ, ◌+◌, ◌-◌, ◌<◌, ◌≤◌, Bool, true, false, not, cond, ◌&&◌, ◌||◌, eqb, ltb, leb, Option, None, Some, List, [], ◌∷◌, ◌++◌, take, drop, refl, sym, ◌∙◌, ap, subst, arith, inl, inr, append_assoc, ◌↔◌}
use Rattle.std.specs.List.{filter}
use Rattle.std.specs.Bool.{Decides}
use Rattle.std.specs.Option.{IfSome}
use Rattle.std.proofs.lemmas.Bool.{cases_Bool, and_parts, or_cases, and_from, or_left, or_right, false≢true, lt-ltb, ltb-true, le-leb, leb-true, lt-leb, leb-false, eqb-true}
use Rattle.std.proofs.lemmas.List.{take-append-drop}
use Rattle.hx_store.specs.Serials.{serial_is_in, SerialsAreDistinct}
use Rattle.hx_store.specs.Recency.{stores_or_uses, recent_after_change, recent_of, count_before_serial, NoChangeStoresOrUsesSerial, Held, is_held, serial_stayed_within_count, held_serials_of, lru_list_of}
use Rattle.hx_store.specs.Weights.{StoreBounds, IsWithinBounds, prefix_within_weight, prefix_of_weight_if_any, longest_prefix_within}
use Rattle.hx_store.specs.WeightedRecency.{WeighedChange, changes_of, weight_of_more_recent_serials, SerialIsWithinBounds, SerialIsHeldWithinBounds, weight_fits_limit, serial_is_within_bounds, serial_stayed_within_bounds, serial_is_held_within_bounds, serials_within_bounds, lru_list_within_bounds}
use Rattle.hx_store.proofs.Recency.{and_false, is_in-take, is_in-after, after-append, place-append, held_step, SerialsAreDistinct-recent, filter_front, in_before, Decides-held, law}
use Rattle.hx_store.proofs.Fronts.{cut_is_longest, front_of_within}

-- fits n into what is left behind x, or x and n into all of it
fits_behind : (x n most : ℕ) → x ≤ most → leb n (most - x) ≡ leb (x + n) most
fits_behind x n most h = elim (cases_Bool (leb (x + n) most)) [
  | inl t ↦ (let k : x + n ≤ most = leb-true (x + n) most t in le-leb n (most - x) (omega arith) ∙ sym t)
  | inr f ↦ (let k : most < x + n = leb-false (x + n) most f in lt-leb n (most - x) (omega arith) ∙ sym f)
]

-- the serial is the first, or it is behind
weight_at : (w : ℕ → ℕ) (s x : ℕ) (xs : List ℕ) → eqb x s ≡ true → weight_of_more_recent_serials w s (x ∷ xs) + w s ≡ w x
weight_at w s x xs t =
    let z : weight_of_more_recent_serials w s (x ∷ xs) ≡ 0 = ap (λ e. cond e 0 (w x + weight_of_more_recent_serials w s xs)) t in
    let k : w x ≡ w s = ap w (eqb-true x s t) in
    omega arith

weight_behind : (w : ℕ → ℕ) (s x : ℕ) (xs : List ℕ) → eqb x s ≡ false → weight_of_more_recent_serials w s (x ∷ xs) + w s ≡ w x + (weight_of_more_recent_serials w s xs + w s)
weight_behind w s x xs f =
    let z : weight_of_more_recent_serials w s (x ∷ xs) ≡ w x + weight_of_more_recent_serials w s xs = ap (λ e. cond e 0 (w x + weight_of_more_recent_serials w s xs)) f in
    omega arith

is_in-front : (w : ℕ → ℕ) (s most : ℕ) (xs : List ℕ) →
    serial_is_in s (prefix_within_weight w most xs) ≡ (serial_is_in s xs && leb (weight_of_more_recent_serials w s xs + w s) most)
is_in-front w s most [] = refl
is_in-front w s most (x ∷ xs) =
    let rest = prefix_within_weight w (most - w x) xs in
    let q = is_in-front w s (most - w x) xs in
    elim (cases_Bool (eqb x s)) [
      | inl t ↦ (
          ap (λ e. serial_is_in s (cond (leb (w x) most) (x ∷ rest) [])) t
          ∙ here (leb (w x) most) t
          ∙ sym (ap (λ e. (e || serial_is_in s xs) && leb (weight_of_more_recent_serials w s (x ∷ xs) + w s) most) t
          ∙ ap (λ n. leb n most) (weight_at w s x xs t))
          )
      | inr f ↦ elim (cases_Bool (leb (w x) most)) [
        | inl fits ↦ (
            ap (λ b. serial_is_in s (cond b (x ∷ rest) [])) fits
            ∙ ap (λ e. e || serial_is_in s rest) f
            ∙ q
            ∙ ap (λ b. serial_is_in s xs && b) (fits_behind (w x) (weight_of_more_recent_serials w s xs + w s) most (leb-true (w x) most fits))
            ∙ sym (ap (λ e. (e || serial_is_in s xs) && leb (weight_of_more_recent_serials w s (x ∷ xs) + w s) most) f
            ∙ ap (λ n. serial_is_in s xs && leb n most) (weight_behind w s x xs f))
            )
        | inr heavy ↦ (
            let over : most < w x = leb-false (w x) most heavy in
            let more : leb (w x + (weight_of_more_recent_serials w s xs + w s)) most ≡ false = lt-leb _ _ (omega arith) in
            ap (λ b. serial_is_in s (cond b (x ∷ rest) [])) heavy
            ∙ sym (ap (λ e. (e || serial_is_in s xs) && leb (weight_of_more_recent_serials w s (x ∷ xs) + w s) most) f
            ∙ ap (λ n. serial_is_in s xs && leb n most) (weight_behind w s x xs f)
            ∙ ap (λ b. serial_is_in s xs && b) more
            ∙ and_false (serial_is_in s xs))
            )
      ]
    ]
  where
    here : (b : Bool) → eqb x s ≡ true → serial_is_in s (cond b (x ∷ prefix_within_weight w (most - w x) xs) []) ≡ b
    here true t = or_left _ _ t
    here false t = refl

before_step : (e : Bool) (x m n : ℕ) → (e ≡ false → m ≡ n) → cond e 0 (x + m) ≡ cond e 0 (x + n)
before_step true x m n h = refl
before_step false x m n h = ap (λ k. x + k) (h refl)

pub weight-append : (w : ℕ → ℕ) (s : ℕ) (xs ys : List ℕ) → serial_is_in s xs ≡ true → weight_of_more_recent_serials w s (xs ++ ys) ≡ weight_of_more_recent_serials w s xs
weight-append w s [] ys h = absurd (false≢true h)
weight-append w s (x ∷ xs) ys h =
    before_step (eqb x s) (w x) _ _ (λ e. weight-append w s xs ys (let k : (false || serial_is_in s xs) ≡ true = rw e at h in k))

-- t: in the front. i: in the list. l: few enough before it. a, b: light enough, in the front and in the list
front_step : (t i l a b : Bool) → t ≡ (i && l) → (t ≡ true → a ≡ b) → (t && a) ≡ (i && (l && b))
front_step t true true a b e h = ap (λ x. x && a) e ∙ h e
front_step t true false a b e h = ap (λ x. x && a) e
front_step t false l a b e h = ap (λ x. x && a) e

fits_if_any : (w : ℕ → ℕ) (s : ℕ) (bytes : Option ℕ) (xs : List ℕ) →
    serial_is_in s (prefix_of_weight_if_any w bytes xs) ≡ (serial_is_in s xs && weight_fits_limit bytes (weight_of_more_recent_serials w s xs + w s))
fits_if_any w s None xs = sym (and_true (serial_is_in s xs))
  where
    and_true : (m : Bool) → (m && true) ≡ m
    and_true true = refl
    and_true false = refl
fits_if_any w s (Some most) xs = is_in-front w s most xs

-- what stands in the front is what stands within the bounds
pub is_in-within : (bounds : StoreBounds) (w : ℕ → ℕ) (s : ℕ) (xs : List ℕ) →
    serial_is_in s (longest_prefix_within bounds w xs) ≡ (serial_is_in s xs && serial_is_within_bounds bounds w xs s)
is_in-within bounds w s xs =
    let few = take bounds.entries xs in
    fits_if_any w s bounds.bytes few
    ∙ front_step (serial_is_in s few) (serial_is_in s xs) (ltb (count_before_serial s xs) bounds.entries)
    (weight_fits_limit bounds.bytes (weight_of_more_recent_serials w s few + w s)) (weight_fits_limit bounds.bytes (weight_of_more_recent_serials w s xs + w s))
    (is_in-take s bounds.entries xs)
    (λ t. ap (λ n. weight_fits_limit bounds.bytes (n + w s))
    (sym (weight-append w s few (drop bounds.entries xs) t) ∙ ap (weight_of_more_recent_serials w s) (take-append-drop bounds.entries xs)))

-- and what it is within a front of a list, it is within the list
within-append : (bounds : StoreBounds) (w : ℕ → ℕ) (s : ℕ) (xs ys : List ℕ) → serial_is_in s xs ≡ true →
    serial_is_within_bounds bounds w (xs ++ ys) s ≡ serial_is_within_bounds bounds w xs s
within-append bounds w s xs ys h =
    ap (λ n. ltb n bounds.entries && weight_fits_limit bounds.bytes (weight_of_more_recent_serials w s (xs ++ ys) + w s)) (place-append s xs ys h)
    ∙ ap (λ n. ltb (count_before_serial s xs) bounds.entries && weight_fits_limit bounds.bytes (n + w s)) (weight-append w s xs ys h)

pub weighed_front : (bounds : StoreBounds) (past : List WeighedChange) → (rest : List ℕ) × (lru_list_within_bounds bounds past ++ rest ≡ recent_of (changes_of past))
weighed_front bounds [] = ([], refl)
weighed_front bounds (i ∷ past) =
    let h = weighed_front bounds past in
    let a = after-append i.change (lru_list_within_bounds bounds past) h.0 in
    let xs = recent_after_change i.change (lru_list_within_bounds bounds past) in
    let f = front_of_within bounds i.weights xs in (
      f.0 ++ a.0,
      sym (append_assoc (longest_prefix_within bounds i.weights xs) f.0 a.0)
          ∙ ap (λ zs. zs ++ a.0) f.1
          ∙ a.1
          ∙ ap (recent_after_change i.change) h.1,
    )

pub is_in-weighed_bounded : (bounds : StoreBounds) (past : List WeighedChange) (s : ℕ) → serial_is_in s (lru_list_within_bounds bounds past) ≡ serial_is_held_within_bounds bounds past s
is_in-weighed_bounded bounds [] s = refl
is_in-weighed_bounded bounds (i ∷ past) s =
    let h = weighed_front bounds past in
    let recent = recent_of (changes_of past) in
    let xs = recent_after_change i.change (lru_list_within_bounds bounds past) in
    let gone = serial_is_in s i.change.removed in
    let touched = stores_or_uses i.change s in
    let a = after-append i.change (lru_list_within_bounds bounds past) h.0 in
    let e : xs ++ a.0 ≡ recent_after_change i.change recent = a.1 ∙ ap (recent_after_change i.change) h.1 in
    let m : serial_is_in s xs ≡ ((touched || serial_is_held_within_bounds bounds past s) && not gone) =
    is_in-after s i.change (lru_list_within_bounds bounds past) ∙ ap (λ b. (touched || b) && not gone) (is_in-weighed_bounded bounds past s)
    in
    let now = serial_is_within_bounds bounds i.weights (recent_of (changes_of (i ∷ past))) s in
    is_in-within bounds i.weights s xs
    ∙ ap (λ b. b && serial_is_within_bounds bounds i.weights xs s) m
    ∙ held_step touched (serial_is_in s recent) (serial_stayed_within_bounds bounds s past) (not gone) (serial_is_within_bounds bounds i.weights xs s) now
    (λ g. sym (within-append bounds i.weights s xs a.0 (m ∙ g)) ∙ ap (λ zs. serial_is_within_bounds bounds i.weights zs s) e)
    ∙ ap (λ b. b && (now && (touched || serial_stayed_within_bounds bounds s past))) (sym (is_in-after s i.change recent))

pub weighed_law : (bounds : StoreBounds) (past : List WeighedChange) → lru_list_within_bounds bounds past ≡ serials_within_bounds bounds past
weighed_law bounds past =
    let h = weighed_front bounds past in
    sym (
    ap (filter (serial_is_held_within_bounds bounds past)) (sym h.1)
    ∙ filter_front (serial_is_held_within_bounds bounds past) (lru_list_within_bounds bounds past) h.0 (is_in-weighed_bounded bounds past)
    (subst SerialsAreDistinct (sym h.1) (SerialsAreDistinct-recent (changes_of past)))
    )

fits-true : (bytes : Option ℕ) (n : ℕ) → weight_fits_limit bytes n ≡ true → IfSome bytes (λ most. n ≤ most)
fits-true None n h = tt
fits-true (Some most) n h = leb-true n most h

true-fits : (bytes : Option ℕ) (n : ℕ) → IfSome bytes (λ most. n ≤ most) → weight_fits_limit bytes n ≡ true
true-fits None n h = refl
true-fits (Some most) n h = le-leb n most h

pub within-true : (bounds : StoreBounds) (w : ℕ → ℕ) (xs : List ℕ) (s : ℕ) → serial_is_within_bounds bounds w xs s ≡ true → SerialIsWithinBounds bounds w xs s
within-true bounds w xs s h =
    let p = and_parts _ _ h in
    record { number = ltb-true _ _ p.0; weighs = fits-true bounds.bytes _ p.1 }

pub true-within : (bounds : StoreBounds) (w : ℕ → ℕ) (xs : List ℕ) (s : ℕ) → SerialIsWithinBounds bounds w xs s → serial_is_within_bounds bounds w xs s ≡ true
true-within bounds w xs s h = and_from _ _ (lt-ltb _ _ h.number) (true-fits bounds.bytes _ h.weighs)

weighed_counted : (bounds : StoreBounds) (s : ℕ) (past : List WeighedChange) → serial_is_in s (recent_of (changes_of past)) ≡ true → serial_stayed_within_bounds bounds s past ≡ true →
    (later : List WeighedChange) (item : WeighedChange) (earlier : List WeighedChange) → later ++ item ∷ earlier ≡ past → NoChangeStoresOrUsesSerial (changes_of later) s →
    SerialIsWithinBounds bounds item.weights (recent_of (changes_of (item ∷ earlier))) s
weighed_counted bounds s [] i k [] item earlier e n = absurd (cc)
weighed_counted bounds s (x ∷ past) i k [] item earlier e n =
    let same : item ≡ x = cc in
    let rest : earlier ≡ past = cc in
    let l : SerialIsWithinBounds bounds x.weights (recent_of (changes_of (x ∷ past))) s = within-true bounds x.weights _ s (and_parts _ _ k).0 in
    subst (λ (y : WeighedChange). SerialIsWithinBounds bounds y.weights (recent_of (changes_of (y ∷ earlier))) s) (sym same)
    (subst (λ (zs : List WeighedChange). SerialIsWithinBounds bounds x.weights (recent_of (changes_of (x ∷ zs))) s) (sym rest) l)
weighed_counted bounds s [] i k (y ∷ later) item earlier e n = absurd (cc)
weighed_counted bounds s (x ∷ past) i k (y ∷ later) item earlier e n =
    let same : y ≡ x = cc in
    let rest : later ++ item ∷ earlier ≡ past = cc in
    let f : stores_or_uses x.change s ≡ false = subst (λ (z : WeighedChange). stores_or_uses z.change s ≡ false) same n.0 in
    weighed_counted bounds s past
    (in_before (stores_or_uses x.change s) _ _ (sym (is_in-after s x.change (recent_of (changes_of past))) ∙ i) f)
    (elim (or_cases _ _ (and_parts _ _ k).1) [ inl t ↦ absurd (false≢true (sym f ∙ t)) | inr u ↦ u ])
    later item earlier rest n.1

weighed_keeps : (bounds : StoreBounds) (s : ℕ) (past : List WeighedChange) → serial_is_in s (recent_of (changes_of past)) ≡ true →
    ((later : List WeighedChange) (item : WeighedChange) (earlier : List WeighedChange) → later ++ item ∷ earlier ≡ past → NoChangeStoresOrUsesSerial (changes_of later) s →
    SerialIsWithinBounds bounds item.weights (recent_of (changes_of (item ∷ earlier))) s) →
    serial_stayed_within_bounds bounds s past ≡ true
weighed_keeps bounds s [] i h = refl
weighed_keeps bounds s (x ∷ past) i h =
    and_from _ _ (true-within bounds x.weights _ s (h [] x past refl tt)) (
    elim (cases_Bool (stores_or_uses x.change s)) [
      | inl t ↦ or_left _ _ t
      | inr f ↦ or_right _ _ (
          weighed_keeps bounds s past (in_before (stores_or_uses x.change s) _ _ (sym (is_in-after s x.change (recent_of (changes_of past))) ∙ i) f)
          (λ later item earlier e n. h (x ∷ later) item earlier (ap (λ zs. x ∷ zs) e) (f, n))
          )
    ]
    )

-- the test decides the count
pub Decides-weighed_held : (bounds : StoreBounds) (past : List WeighedChange) (s : ℕ) → Decides (serial_is_held_within_bounds bounds past s) (SerialIsHeldWithinBounds bounds past s)
Decides-weighed_held bounds past s = (
  λ h. let p = and_parts _ _ h in (p.0, weighed_counted bounds s past p.0 p.1),
  λ h. and_from _ _ h.0 (weighed_keeps bounds s past h.0 h.1),
)

pub is_in-weighed_held : (bounds : StoreBounds) (past : List WeighedChange) (s : ℕ) → Decides (serial_is_in s (serials_within_bounds bounds past)) (SerialIsHeldWithinBounds bounds past s)
is_in-weighed_held bounds past s =
    let e : serial_is_in s (serials_within_bounds bounds past) ≡ serial_is_held_within_bounds bounds past s =
    ap (serial_is_in s) (sym (weighed_law bounds past)) ∙ is_in-weighed_bounded bounds past s in
    let d = Decides-weighed_held bounds past s in
    (λ h. d.0 (sym e ∙ h), λ h. e ∙ d.1 h)

pub weighed_held_more : (bounds : StoreBounds) (i : WeighedChange) (past : List WeighedChange) →
    serials_within_bounds bounds (i ∷ past) ≡ longest_prefix_within bounds i.weights (recent_after_change i.change (serials_within_bounds bounds past))
weighed_held_more bounds i past =
    sym (weighed_law bounds (i ∷ past)) ∙ ap (λ xs. longest_prefix_within bounds i.weights (recent_after_change i.change xs)) (weighed_law bounds past)

-- after each step what is held is within its bounds
pub weighed_held_within : (bounds : StoreBounds) (i : WeighedChange) (past : List WeighedChange) → IsWithinBounds bounds i.weights (serials_within_bounds bounds (i ∷ past))
weighed_held_within bounds i past =
    subst (IsWithinBounds bounds i.weights) (sym (weighed_held_more bounds i past))
    (cut_is_longest bounds i.weights (recent_after_change i.change (serials_within_bounds bounds past))).is_within

pub weighed_held_front : (bounds : StoreBounds) (past : List WeighedChange) → (rest : List ℕ) × (serials_within_bounds bounds past ++ rest ≡ recent_of (changes_of past))
weighed_held_front bounds past =
    let h = weighed_front bounds past in
    (h.0, ap (λ xs. xs ++ h.0) (sym (weighed_law bounds past)) ∙ h.1)

-- without a bound of bytes all is as by number
pub bounded_by_number : (most : ℕ) (past : List WeighedChange) → lru_list_within_bounds (record { entries = most; bytes = None }) past ≡ lru_list_of most (changes_of past)
bounded_by_number most [] = refl
bounded_by_number most (i ∷ past) = ap (λ xs. take most (recent_after_change i.change xs)) (bounded_by_number most past)

pub held_by_number : (most : ℕ) (past : List WeighedChange) → serials_within_bounds (record { entries = most; bytes = None }) past ≡ held_serials_of most (changes_of past)
held_by_number most past =
    sym (weighed_law (record { entries = most; bytes = None }) past) ∙ bounded_by_number most past ∙ law most (changes_of past)

and_yes : (m : Bool) → (m && true) ≡ m
and_yes true = refl
and_yes false = refl

stood_by_number : (most s : ℕ) (past : List WeighedChange) → serial_stayed_within_bounds (record { entries = most; bytes = None }) s past ≡ serial_stayed_within_count most s (changes_of past)
stood_by_number most s [] = refl
stood_by_number most s (i ∷ past) =
    ap (λ b. b && (stores_or_uses i.change s || serial_stayed_within_bounds (record { entries = most; bytes = None }) s past)) (and_yes (ltb (count_before_serial s (recent_of (changes_of (i ∷ past)))) most))
    ∙ ap (λ b. ltb (count_before_serial s (recent_of (changes_of (i ∷ past)))) most && (stores_or_uses i.change s || b)) (stood_by_number most s past)

pub same_words_by_number : (most : ℕ) (past : List WeighedChange) (s : ℕ) → SerialIsHeldWithinBounds (record { entries = most; bytes = None }) past s ↔ Held most (changes_of past) s
same_words_by_number most past s =
    let e : serial_is_held_within_bounds (record { entries = most; bytes = None }) past s ≡ is_held most (changes_of past) s =
    ap (λ b. serial_is_in s (recent_of (changes_of past)) && b) (stood_by_number most s past) in
    let d = Decides-weighed_held (record { entries = most; bytes = None }) past s in
    let o = Decides-held most (changes_of past) s in
    (λ h. o.0 (sym e ∙ d.1 h), λ h. d.0 (e ∙ o.1 h))
