-- A search over marked places alone finds what a search over all would.
use Rattle.std.proofs.Common.{◌≡◌, inl, inr, ℕ, zero, suc, ◌+◌, ◌-◌, ◌<◌, ◌≤◌, List, [], ◌∷◌, ◌++◌, length, map, get_or, refl, sym, ap, ◌∙◌, arith, Bool, true, false, cond, ◌||◌, Some, None, Option, is_some, Contains, append-nil}
use Rattle.std.specs.List.{range_with_len}
use Rattle.std.proofs.lemmas.List.FromFn.{length-map-range_with_len, get_or-map-range_with_len, map-range_with_len_more}
use Rattle.std.proofs.lemmas.List.{ext_get_or}
use Rattle.std.proofs.lemmas.Bool.{cases_lt, cases_order, cases_Bool}
use Rattle.std.proofs.lemmas.List.{append_assoc, map-append, length-append}
use Rattle.proxy_engine.specs.Held.{open_end_has_flag, open_link_has_failed}
use Rattle.proxy_engine.specs.Lookahead.{lookahead_may_be_due}
use Rattle.proxy_engine.specs.Marked.{link_may_be_due, end_if_open_at}
use Rattle.proxy_engine.specs.ReadyList.{PlacesAscend, PlacesAreBelow}
use Rattle.proxy_engine.specs.Reading.{places_with_flag}
use Rattle.proxy_engine.specs.declared.endpoints.ends.Link.{Link}
use Rattle.proxy_engine.specs.declared.work.End.{End}
use Rattle.proxy_engine.proofs.Rising.{at_any}

flagged_push : {A : Type 0} (flag : A → Bool) (xs : List A) (i : ℕ) (x : A) → places_with_flag flag i (xs ++ x ∷ []) ≡ places_with_flag flag i xs ++ cond (flag x) ((i + length xs) ∷ []) []
flagged_push flag [] i x = let same : i ≡ i + 0 = omega arith in ap (λ (n : ℕ). cond (flag x) (n ∷ []) []) same
flagged_push {A} flag (y ∷ xs) i x = by_flag (flag y) (let same : i + 1 + length xs ≡ i + suc (length xs) = omega arith in flagged_push flag xs (i + 1) x ∙ ap (λ (n : ℕ). places_with_flag flag (i + 1) xs ++ cond (flag x) (n ∷ []) []) same)
  where
    by_flag : (b : Bool) → places_with_flag flag (i + 1) (xs ++ x ∷ []) ≡ places_with_flag flag (i + 1) xs ++ cond (flag x) ((i + suc (length xs)) ∷ []) []
        → cond b (i ∷ places_with_flag flag (i + 1) (xs ++ x ∷ [])) (places_with_flag flag (i + 1) (xs ++ x ∷ [])) ≡ cond b (i ∷ places_with_flag flag (i + 1) xs) (places_with_flag flag (i + 1) xs) ++ cond (flag x) ((i + suc (length xs)) ∷ []) []
    by_flag true rest = ap (λ (ns : List ℕ). i ∷ ns) rest
    by_flag false rest = rest

-- behind so many of the places: the next of all, after the last of them
abbrev pub bound : List ℕ → ℕ → ℕ
bound places zero = 0
bound places (suc k) = get_or places k 0 + 1

module _ {A : Type 0} (flag : A → Bool) (at : ℕ → Option A) where
  -- at the places below a bound
  abbrev pub found_below : ℕ → List ℕ
  found_below n = places_with_flag (open_end_has_flag flag) 0 (map at (range_with_len 0 n))

  found_more : (n : ℕ) → found_below (n + 1) ≡ found_below n ++ cond (open_end_has_flag flag (at n)) (n ∷ []) []
  found_more n =
      let xs = map at (range_with_len 0 n) in
      let count : 0 + length xs ≡ n = omega (arith, length-map-range_with_len at 0 n) in
      ap (λ (ys : List (Option A)). places_with_flag (open_end_has_flag flag) 0 ys) (map-range_with_len_more at 0 n n (omega arith))
      ∙ (flagged_push (open_end_has_flag flag) xs 0 (at n) ∙ ap (λ (k : ℕ). found_below n ++ cond (open_end_has_flag flag (at n)) (k ∷ []) []) count)

  -- nothing is found where nothing has the flag
  found_none : (k n : ℕ) → ((q : ℕ) → n ≤ q → q < n + k → open_end_has_flag flag (at q) ≡ false) → found_below (n + k) ≡ found_below n
  found_none zero n none = let same : n + 0 ≡ n = omega arith in ap found_below same
  found_none (suc k) n none =
      let same : n + suc k ≡ n + k + 1 = omega arith in
      ap found_below same
      ∙ (found_more (n + k)
      ∙ (ap (λ (b : Bool). found_below (n + k) ++ cond b ((n + k) ∷ []) []) (none (n + k) (omega arith) (omega arith))
      ∙ (append-nil (found_below (n + k)) ∙ found_none k n (λ q l less. none q l (omega (arith, less))))))

  module _ (places : List ℕ) (rises : PlacesAscend places) (marked : (j : ℕ) (x : A) → at j ≡ Some x → flag x ≡ true → Contains places j) where
    -- those before are passed
    passed : (seen k : ℕ) → k < seen → seen ≤ length places → get_or places k 0 < bound places seen
    passed zero k before within = absurd (omega (arith, before))
    passed (suc last) k before within = elim (cases_order k last) [
      | inl same ↦ let here = ap (λ (i : ℕ). get_or places i 0) same in omega (arith, here)
      | inr (inl less) ↦ let rising = rises.rises k last less (omega (arith, within)) in omega (arith, rising)
      | inr (inr more) ↦ absurd (omega (arith, more, before))
    ]

    -- between one of the places and the next
    between : (seen p q : ℕ) → seen ≤ length places → ((k : ℕ) → seen ≤ k → k < length places → p ≤ get_or places k 0) → bound places seen ≤ q → q < p → open_end_has_flag flag (at q) ≡ false
    between seen p q most greater from less = by_kept (at q) refl
      where
        not_there : Contains places q → ⊥
        not_there c =
            let here : get_or places c.0 0 ≡ q = at_any places c.0 q c.1 ∙ c.2 in
            elim (cases_lt c.0 seen) [
              | inl before ↦ let low = passed seen c.0 before most in omega (arith, low, here, from)
              | inr behind ↦ let high = greater c.0 behind c.1 in omega (arith, high, here, less)
            ]

        by_kept : (o : Option A) → at q ≡ o → open_end_has_flag flag o ≡ false
        by_kept None e = refl
        by_kept (Some x) e = elim (cases_Bool (flag x)) [
          | inl shown ↦ absurd (not_there (marked q x e shown))
          | inr hidden ↦ hidden
        ]

    -- up to a greater bound, where nothing between has the flag
    found_up_to : (n p : ℕ) → n ≤ p → ((q : ℕ) → n ≤ q → q < p → open_end_has_flag flag (at q) ≡ false) → found_below p ≡ found_below n
    found_up_to n p l none =
        let same : n + (p - n) ≡ p = omega (arith, l) in
        sym (ap found_below same) ∙ found_none (p - n) n (λ q from less. none q from (omega (arith, less, l)))

    low : (seen : ℕ) → seen < length places → bound places seen ≤ get_or places seen 0
    low zero within = omega arith
    low (suc last) within = let rising = rises.rises last (suc last) (omega arith) within in omega (arith, rising)

    -- the next place
    pub found_next : (seen next : ℕ) → next ≡ seen + 1 → seen < length places → found_below (bound places next) ≡ found_below (bound places seen) ++ cond (open_end_has_flag flag (at (get_or places seen 0))) (get_or places seen 0 ∷ []) []
    found_next seen next e within =
        let p = get_or places seen 0 in
        let is : next ≡ suc seen = omega (arith, e) in
        let greater : (k : ℕ) → seen ≤ k → k < length places → p ≤ get_or places k 0 = λ k from inside. elim (cases_order seen k) [
          | inl same ↦ let here = ap (λ (i : ℕ). get_or places i 0) same in omega (arith, here)
          | inr (inl more) ↦ let rising = rises.rises seen k more inside in omega (arith, rising)
          | inr (inr less) ↦ absurd (omega (arith, less, from))
        ] in
        ap (λ (k : ℕ). found_below (bound places k)) is
        ∙ (found_more p ∙ ap (λ (ns : List ℕ). ns ++ cond (open_end_has_flag flag (at p)) (p ∷ []) []) (found_up_to (bound places seen) p (low seen within) (λ q from less. between seen p q (omega (arith, within)) greater from less)))

    -- all are passed
    pub found_all : (count : ℕ) → PlacesAreBelow count places → found_below count ≡ found_below (bound places (length places))
    found_all count fits =
        found_up_to (bound places (length places)) count (up_to (length places) (omega arith)) (λ q from less. between (length places) count q (omega arith) (λ k behind inside. absurd (omega (arith, behind, inside))) from less)
      where
        up_to : (seen : ℕ) → seen ≤ length places → bound places seen ≤ count
        up_to zero within = omega arith
        up_to (suc last) within = let inside : last < length places = omega (arith, within) in let here = fits (get_or places last 0) (last, inside, sym (at_any places last (get_or places last 0) inside)) in omega (arith, here)

-- a link that has failed may be due
pub shown_failed : (k : Link) → open_link_has_failed k ≡ true → link_may_be_due k ≡ true
shown_failed k e = by_look (lookahead_may_be_due k.reader.ahead)
  where
    by_look : (b : Bool) → b || is_some k.failed ≡ true
    by_look true = refl
    by_look false = e

-- what is emitted, with the next place where it has the flag
pub emitted_more : (f : ℕ → End) (before now : List End) (ps qs : List ℕ) (b : Bool) (p : ℕ) → now ≡ before ++ map f ps → qs ≡ ps ++ cond b (p ∷ []) [] → b ≡ true → now ++ f p ∷ [] ≡ before ++ map f qs
emitted_more f before now ps qs b p was more shown =
    ap (λ (es : List End). es ++ f p ∷ []) was
    ∙ (append_assoc before (map f ps) (f p ∷ [])
    ∙ ap (λ (es : List End). before ++ es) (sym (map-append f ps (p ∷ [])) ∙ ap (map f) (sym (more ∙ ap (λ (c : Bool). ps ++ cond c (p ∷ []) []) shown))))

pub emitted_same : (f : ℕ → End) (before now : List End) (ps qs : List ℕ) (b : Bool) (p : ℕ) → now ≡ before ++ map f ps → qs ≡ ps ++ cond b (p ∷ []) [] → b ≡ false → now ≡ before ++ map f qs
emitted_same f before now ps qs b p was more hidden =
    was ∙ ap (λ (ns : List ℕ). before ++ map f ns) (sym (more ∙ (ap (λ (c : Bool). ps ++ cond c (p ∷ []) []) hidden ∙ append-nil ps)))

-- a list is what is at each of its places
pub listed_back : {A : Type 0} (xs : List (Option A)) → map (end_if_open_at xs) (range_with_len 0 (length xs)) ≡ xs
listed_back {A} xs = ext_get_or None _ xs (length-map-range_with_len (end_if_open_at xs) 0 (length xs)) (λ q l.
    let count = length-map-range_with_len (end_if_open_at xs) 0 (length xs) in
    get_or-map-range_with_len (end_if_open_at xs) 0 (length xs) q q None (omega (arith, l, count)) (omega arith))

pub counted_more : (ps qs : List ℕ) (b : Bool) (p n : ℕ) → n ≡ length ps → qs ≡ ps ++ cond b (p ∷ []) [] → b ≡ true → n + 1 ≡ length qs
counted_more ps qs b p n was more shown =
    let is = ap length (more ∙ ap (λ (c : Bool). ps ++ cond c (p ∷ []) []) shown) in
    let one = length-append ps (p ∷ []) in
    omega (arith, was, is, one)

pub counted_same : (ps qs : List ℕ) (b : Bool) (p n : ℕ) → n ≡ length ps → qs ≡ ps ++ cond b (p ∷ []) [] → b ≡ false → n ≡ length qs
counted_same ps qs b p n was more hidden =
    let is = ap length (more ∙ (ap (λ (c : Bool). ps ++ cond c (p ∷ []) []) hidden ∙ append-nil ps)) in
    omega (arith, was, is)
