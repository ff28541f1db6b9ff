-- What a map has at each place below a count.
use Rattle.std.proofs.Common.{◌≡◌, ◌≢◌, inl, inr, ℕ, zero, suc, ◌+◌, ◌<◌, ◌≤◌, List, [], ◌∷◌, ◌++◌, length, get_or, set, map, refl, sym, ap, ◌∙◌, subst, arith, Bool, true, false, cond, Option, None, Some, is_some, Bor, MutBor, Contains}
use Rattle.std.proofs.Math.Path.{fun_ext}
use Rattle.std.specs.Option.{ghost_name_of, option_copied}
use Rattle.std.specs.Ordering.{nat_cmp, is_eq}
use Rattle.std.specs.declared.cmp.Ordering.TheVariants.{Less, Equal, Greater}
use Rattle.std.specs.Map.{lookup, remove_entry}
use Rattle.std.specs.BTreeMap.{BTreeMap, get, is_at}
use Rattle.std.specs.Cmp.{nat_cmp_is}
use Rattle.std.proofs.lemmas.Bool.{cases_eq, cases_order}
use Rattle.std.proofs.lemmas.List.{ext_get_or, get_or-set_same, get_or-set_other}
use Rattle.std.proofs.lemmas.List.FromFn.{length-map-range_with_len, get_or-map-range_with_len, map-range_with_len_more, sum_by-map-range_with_len_more}
use Rattle.std.specs.List.{range_with_len}
use Rattle.std.proofs.Math.ListN.{length-set}
use borrow.Follows.Closed.{read_of}
use Rattle.proxy_engine.proofs.Rising.{at_any}
use Rattle.proxy_engine.specs.ReadyList.{entries_below}
use Rattle.proxy_engine.specs.Marked.{open_end_count}

-- a query finds its place and no other
pub here_at : (p k : ℕ) → k ≡ p → is_at (nat_cmp p) k ≡ true
here_at p k e = ap is_eq (sym (nat_cmp_is p k Equal (sym e)))

pub elsewhere : (p k : ℕ) → k ≢ p → is_at (nat_cmp p) k ≡ false
elsewhere p k other = elim (cases_order p k) [
  | inl same ↦ absurd (other (sym same))
  | inr (inl less) ↦ ap is_eq (sym (nat_cmp_is p k Less less))
  | inr (inr more) ↦ ap is_eq (sym (nat_cmp_is p k Greater more))
]

-- one that is kept counts
abbrev pub one_if_some : {A : Type 0} → Option A → ℕ
one_if_some o = cond (is_some o) 1 0

-- what is borrowed is there
pub copied_some : {A : Type 0} (r : Option (Bor A)) (o : Option A) → option_copied r ≡ o → is_some r ≡ true → is_some o ≡ true
copied_some None o e h = absurd (cc)
copied_some (Some x) o e h = sym (ap is_some e)

module _ {A : Type 0} where
  pub listed_length : (m : BTreeMap ℕ A) (n : ℕ) → length (entries_below m n) ≡ n
  listed_length m n = length-map-range_with_len (get nat_cmp m) 0 n

  pub listed_at : (m : BTreeMap ℕ A) (n i : ℕ) (d : Option A) → i < n → get_or (entries_below m n) i d ≡ get nat_cmp m i
  listed_at m n i d l = get_or-map-range_with_len (get nat_cmp m) 0 n i i d l (omega arith)

  -- the same is at each of these places
  pub listed_same : (m k : BTreeMap ℕ A) (n : ℕ) → ((q : ℕ) → q < n → get nat_cmp k q ≡ get nat_cmp m q) → entries_below k n ≡ entries_below m n
  listed_same m k n same =
      ext_get_or None (entries_below k n) (entries_below m n) (listed_length k n ∙ sym (listed_length m n)) (λ q l.
      let within : q < n = omega (arith, l, listed_length k n) in
      listed_at k n q None within ∙ (same q within ∙ sym (listed_at m n q None within)))

  -- a map that has o at i
  pub listed_set : (m k : BTreeMap ℕ A) (n i : ℕ) (o : Option A) → get nat_cmp k i ≡ o → ((q : ℕ) → q ≢ i → get nat_cmp k q ≡ get nat_cmp m q) → entries_below k n ≡ set (entries_below m n) i o
  listed_set m k n i o here others =
      ext_get_or None (entries_below k n) (set (entries_below m n) i o) (listed_length k n ∙ (sym (listed_length m n) ∙ sym (length-set (entries_below m n) i o))) (λ q l.
      let within : q < n = omega (arith, l, listed_length k n) in
      listed_at k n q None within ∙ elim (cases_eq q i) [
        | inl is ↦ ap (get nat_cmp k) is ∙ (here ∙ (sym (get_or-set_same (entries_below m n) i o None (omega (arith, listed_length m n, within, is))) ∙ sym (ap (λ (j : ℕ). get_or (set (entries_below m n) i o) j None) is)))
        | inr other ↦ others q other ∙ (sym (listed_at m n q None within) ∙ sym (get_or-set_other (entries_below m n) i q o None other))
      ])

  -- one place more
  pub listed_more : (m : BTreeMap ℕ A) (n : ℕ) → entries_below m (n + 1) ≡ entries_below m n ++ get nat_cmp m n ∷ []
  listed_more m n = map-range_with_len_more (get nat_cmp m) 0 n n (omega arith)

  -- where nothing is, nothing is taken away
  pub set_none : (xs : List (Option A)) (i : ℕ) → get_or xs i None ≡ None → set xs i None ≡ xs
  set_none [] i e = refl
  set_none (x ∷ xs) zero e = ap (λ (o : Option A). o ∷ xs) (sym e)
  set_none (x ∷ xs) (suc i) e = ap (λ (ys : List (Option A)). x ∷ ys) (set_none xs i e)

  -- what is there, is within
  pub inside : (xs : List (Option A)) (i : ℕ) → is_some (get_or xs i None) ≡ true → i < length xs
  inside [] i e = absurd (cc)
  inside (x ∷ xs) zero e = omega arith
  inside (x ∷ xs) (suc i) e = let rest = inside xs i e in omega (arith, rest)

  -- what is seen at a place is what the map has there
  pub seen_at : (m : BTreeMap ℕ A) (n i : ℕ) (xs : List (Option A)) → entries_below m n ≡ xs → i < length xs → (i < n) × (get nat_cmp m i ≡ get_or xs i None)
  seen_at m n i xs e l =
      let within : i < n = omega (arith, l, ap length e, listed_length m n) in
      (within, sym (listed_at m n i None within) ∙ ap (λ (ys : List (Option A)). get_or ys i None) e)

  -- what is there by the list is there by the map
  pub there_in : (m : BTreeMap ℕ A) (n i : ℕ) (xs : List (Option A)) → entries_below m n ≡ xs → is_some (get_or xs i None) ≡ true → is_some (get nat_cmp m i) ≡ true
  there_in m n i xs e h = ap is_some (seen_at m n i xs e (inside xs i h)).1 ∙ h

  -- ---- no more places are told apart than a map has

  removed_by : (b : Bool) (x : ℕ × A) (es less : List (ℕ × A)) (o : Option A) → is_some (cond b (Some x.1) o) ≡ true → (is_some o ≡ true → length es ≡ length less + 1) → suc (length es) ≡ length (cond b es (x ∷ less)) + 1
  removed_by true x es less o e rest = omega arith
  removed_by false x es less o e rest = let behind = rest e in omega (arith, behind)

  removed_length : (test : ℕ → Bool) (es : List (ℕ × A)) → is_some (lookup test es) ≡ true → length es ≡ length (remove_entry test es) + 1
  removed_length test [] e = absurd (cc)
  removed_length test (x ∷ es) e = removed_by (test x.0) x es (remove_entry test es) (lookup test es) e (λ there. removed_length test es there)

  lookup_left : (p q : ℕ) → q ≢ p → (es : List (ℕ × A)) → lookup (is_at (nat_cmp q)) (remove_entry (is_at (nat_cmp p)) es) ≡ lookup (is_at (nat_cmp q)) es
  lookup_left p q other [] = refl
  lookup_left p q other (x ∷ es) = elim (cases_eq x.0 p) [
    | inl is ↦
        ap (λ (b : Bool). lookup (is_at (nat_cmp q)) (cond b es (x ∷ remove_entry (is_at (nat_cmp p)) es))) (here_at p x.0 is)
        ∙ sym (ap (λ (b : Bool). cond b (Some x.1) (lookup (is_at (nat_cmp q)) es)) (elsewhere q x.0 (λ e. other (sym e ∙ is))))
    | inr apart ↦
        ap (λ (b : Bool). lookup (is_at (nat_cmp q)) (cond b es (x ∷ remove_entry (is_at (nat_cmp p)) es))) (elsewhere p x.0 apart)
        ∙ ap (λ (o : Option A). cond (is_at (nat_cmp q) x.0) (Some x.1) o) (lookup_left p q other es)
  ]

  -- each is there, and none twice
  pub fits : (ps : List ℕ) (es : List (ℕ × A)) → ((i j : ℕ) → i < j → j < length ps → get_or ps j 0 ≢ get_or ps i 0) → ((p : ℕ) → Contains ps p → is_some (lookup (is_at (nat_cmp p)) es) ≡ true)
      → length ps ≤ length es
  fits [] es apart there = omega arith
  fits (p ∷ ps) es apart there =
      let one = removed_length (is_at (nat_cmp p)) es (there p (0, omega arith, refl)) in
      let rest : length ps ≤ length (remove_entry (is_at (nat_cmp p)) es) =
      fits ps (remove_entry (is_at (nat_cmp p)) es) (λ i j l m. apart (suc i) (suc j) (omega (arith, l)) (omega (arith, m)))
      (λ q c. ap is_some (lookup_left p q (not_first q c) es) ∙ there q (suc c.0, omega (arith, c.1), c.2)) in
      omega (arith, one, rest)
    where
      not_first : (q : ℕ) → Contains ps q → q ≢ p
      not_first q c e = apart 0 (suc c.0) (omega arith) (omega (arith, c.1)) (at_any ps c.0 q c.1 ∙ (c.2 ∙ e))

  -- no more are kept at the places below a count than a map has
  kept_within : (n : ℕ) (es : List (ℕ × A)) → open_end_count (map (λ q. lookup (is_at (nat_cmp q)) es) (range_with_len 0 n)) ≤ length es
  kept_within zero es = omega arith
  kept_within (suc n) es =
      let next : n + 1 ≡ suc n = omega arith in
      subst (λ (k : ℕ). open_end_count (map (λ q. lookup (is_at (nat_cmp q)) es) (range_with_len 0 k)) ≤ length es) next (by_last (lookup (is_at (nat_cmp n)) es) refl (kept_within n es) (kept_within n (remove_entry (is_at (nat_cmp n)) es)))
    where
      at : List (ℕ × A) → ℕ → Option A
      at fs q = lookup (is_at (nat_cmp q)) fs

      left : List (ℕ × A)
      left = remove_entry (is_at (nat_cmp n)) es

      more : open_end_count (map (at es) (range_with_len 0 (n + 1))) ≡ open_end_count (map (at es) (range_with_len 0 n)) + one_if_some (at es n)
      more = sum_by-map-range_with_len_more one_if_some (at es) 0 n n (omega arith)

      same : map (at left) (range_with_len 0 n) ≡ map (at es) (range_with_len 0 n)
      same =
          ext_get_or None _ _ (length-map-range_with_len (at left) 0 n ∙ sym (length-map-range_with_len (at es) 0 n)) (λ q l.
          let count = length-map-range_with_len (at left) 0 n in
          let within : q < n = omega (arith, l, count) in
          get_or-map-range_with_len (at left) 0 n q q None within (omega arith) ∙ (lookup_left n q (λ e. absurd (omega (arith, e, within))) es ∙ sym (get_or-map-range_with_len (at es) 0 n q q None within (omega arith))))

      by_last : (o : Option A) → at es n ≡ o → open_end_count (map (at es) (range_with_len 0 n)) ≤ length es → open_end_count (map (at left) (range_with_len 0 n)) ≤ length left → open_end_count (map (at es) (range_with_len 0 (n + 1))) ≤ length es
      by_last None e few fewer =
          let none = ap one_if_some e in
          omega (arith, few, more, none)
      by_last (Some x) e few fewer =
          let one = removed_length (is_at (nat_cmp n)) es (ap is_some e) in
          let some = ap one_if_some e in
          omega (arith, fewer, one, more, some, ap open_end_count same)

  pub kept_listed : (m : BTreeMap ℕ A) (n : ℕ) → open_end_count (entries_below m n) ≤ length m.entries
  kept_listed m n = kept_within n m.entries

-- ---- what a map answers

-- at most one more is there
pub one_more : {A : Type 0} (o : Option A) (n m : ℕ) → n ≡ m + cond (is_some o) 0 1 → n ≤ m + 1
one_more None n m e = omega (arith, e)
one_more (Some x) n m e = omega (arith, e)

pub one_less : {A : Type 0} (o : Option A) (n m : ℕ) → n + cond (is_some o) 1 0 ≡ m → n ≤ m
one_less None n m e = omega (arith, e)
one_less (Some x) n m e = omega (arith, e)

pub none_some : {A : Type 0} (o : Option A) → o ≡ None → is_some o ≡ true → ⊥
none_some None e h = absurd (cc)
none_some (Some x) e h = absurd (cc)

-- ---- what is lent

-- what a lender ends as, by what is lent
pub lent_if : {D E : Type 0} (r : Option (MutBor E)) (F G : E → D) (v u : D) → (is_some r ≡ true → (w : E) → F w ≡ G w) → v ≡ u → read_of (ghost_name_of r) F v ≡ read_of (ghost_name_of r) G u
lent_if None F G v u there none = ap inr none
lent_if (Some x) F G v u there none = ap (λ f. inl (x.ghost_name, f)) (fun_ext (there refl))
