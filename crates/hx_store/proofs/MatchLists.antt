-- The serials of a key whose entries nominate what a request has.
use Rattle.std.proofs.Common.{◌≡◌, ℕ, ◌+◌, ◌-◌, ◌<◌, ◌≤◌, Bool, true, false, not, cond, ◌||◌, ◌&&◌, eqb, Some, List, [], ◌∷◌, length, refl, sym, ◌∙◌, ap, subst, drop, get_or, arith, inl, inr}
use Rattle.std.specs.List.{filter, list_all, list_any}
use Rattle.std.proofs.lemmas.Bool.{and_parts, cases_Bool, eq-eqb, eqb-true, false≢true, false_from_ne_true, or_right}
use Rattle.std.proofs.lemmas.Bool.Decides.{leb_tells}
use Rattle.std.proofs.lemmas.Grind.{common_steps}
use Rattle.std.proofs.lemmas.List.{drop_more}
use Rattle.hx_fields.specs.Line.{Field}
use Rattle.hx_target.specs.declared.keys.Key.{Key}
use Rattle.hx_target.specs.Keys.{same_key}
use Rattle.hx_vary.specs.Vary.{vary_matches}
use Rattle.hx_store.specs.Serials.{serial_is_in, SerialsAreDistinct, insert_ascending}
use Rattle.hx_store.specs.Stored.{Stored}
use Rattle.hx_store.specs.Shelf.{serials, find_entry_of_serial, serials_of_key, entry_vary_matches_request, matching_serials}
use Rattle.hx_store.specs.Found.{SerialIsAtMostEachOf, SerialsNeverDescend}
use Rattle.hx_store.proofs.FoundSerials.{below_less, finds_ascending, finds_those}
use Rattle.hx_store.proofs.Indices.{not_nothing}
use Rattle.hx_store.proofs.IndexedLists.{insert-below, not_of_key}

below_filter : (p : ℕ → Bool) (a : ℕ) (xs : List ℕ) → SerialIsAtMostEachOf a xs → SerialIsAtMostEachOf a (filter p xs)
below_filter p a [] h = tt
below_filter p a (x ∷ xs) h =
    elim (p x) as (λ b. SerialIsAtMostEachOf a (cond b (x ∷ filter p xs) (filter p xs))) [ true ↦ (h.0, below_filter p a xs h.1) | false ↦ below_filter p a xs h.1 ]

-- what passes goes where it would go among those that pass
filter-insert : (p : ℕ → Bool) (s : ℕ) (xs : List ℕ) → SerialsNeverDescend xs →
    filter p (insert_ascending s xs) ≡ cond (p s) (insert_ascending s (filter p xs)) (filter p xs)
filter-insert p s [] h = refl
filter-insert p s (x ∷ xs) h = elim (leb_tells s x) [
  | inl q ↦ (
      let all = filter p (x ∷ xs) in
      ap (λ b. filter p (cond b (s ∷ x ∷ xs) (x ∷ insert_ascending s xs))) q.0
      ∙ ap (λ ys. cond (p s) ys all) (sym (insert-below s all (below_filter p s (x ∷ xs) (q.1, below_less s x xs q.1 h.0))))
      )
  | inr q ↦ (
      let some = filter p xs in
      ap (λ b. filter p (cond b (s ∷ x ∷ xs) (x ∷ insert_ascending s xs))) q.0
      ∙ ap (λ ys. cond (p x) (x ∷ ys) ys) (filter-insert p s xs h.1)
      ∙ (elim (p x) as (λ b. cond b (x ∷ cond (p s) (insert_ascending s some) some) (cond (p s) (insert_ascending s some) some)
      ≡ cond (p s) (insert_ascending s (cond b (x ∷ some) some)) (cond b (x ∷ some) some)) [
        | true ↦ elim (p s) as (λ c. x ∷ cond c (insert_ascending s some) some ≡ cond c (insert_ascending s (x ∷ some)) (x ∷ some)) [
          | true ↦ sym (ap (λ b. cond b (s ∷ x ∷ some) (x ∷ insert_ascending s some)) q.0)
          | false ↦ refl
        ]
        | false ↦ refl
      ])
      )
]

pub filter-agree : (p q : ℕ → Bool) (xs : List ℕ) → ((s : ℕ) → serial_is_in s xs ≡ true → p s ≡ q s) → filter p xs ≡ filter q xs
filter-agree p q [] h = refl
filter-agree p q (x ∷ xs) h =
    ap (λ b. cond b (x ∷ filter p xs) (filter p xs)) (h x (ap (λ b. b || serial_is_in x xs) (eq-eqb x x refl)))
    ∙ ap (λ ys. cond (q x) (x ∷ ys) ys) (filter-agree p q xs (λ s m. h s (or_right (eqb x s) (serial_is_in s xs) m)))

-- one entry more is found by its serial alone
others_match : (key : Key) (request : List Field) (e : Stored) (es : List Stored) → SerialsAreDistinct (serials (e ∷ es)) →
    filter (λ s. entry_vary_matches_request request (find_entry_of_serial s (e ∷ es))) (serials_of_key key es) ≡ matching_serials key request es
others_match key request e es d = filter-agree _ _ (serials_of_key key es) (λ s m.
    let apart : eqb e.serial s ≡ false = false_from_ne_true _ (λ t. false≢true (
    sym (not_of_key e.serial key es d.0) ∙ ap (λ z. serial_is_in z (serials_of_key key es)) (eqb-true e.serial s t) ∙ m)) in
    ap (λ b. entry_vary_matches_request request (cond b (Some e) (find_entry_of_serial s es))) apart)

-- it makes no odds whether the entries are tested first or their serials
pub walked : (key : Key) (request : List Field) (es : List Stored) → SerialsAreDistinct (serials es) →
    serials_of_key key (filter (λ e. vary_matches e.nominated request) es) ≡ matching_serials key request es
walked key request [] d = refl
walked key request (e ∷ es) d =
    let is : Stored → Bool = λ f. vary_matches f.nominated request in
    let test : ℕ → Bool = λ s. entry_vary_matches_request request (find_entry_of_serial s (e ∷ es)) in
    let xs = serials_of_key key es in
    let same : filter test xs ≡ serials_of_key key (filter is es) = others_match key request e es d ∙ sym (walked key request es d.1) in
    let its : test e.serial ≡ is e = ap (λ b. entry_vary_matches_request request (cond b (Some e) (find_entry_of_serial e.serial es))) (eq-eqb e.serial e.serial refl) in
    let some = serials_of_key key (filter is es) in
    sym (elim (cases_Bool (same_key e.key key)) [
      | inl y ↦ (
          ap (λ b. filter test (cond b (insert_ascending e.serial xs) xs)) y
          ∙ filter-insert test e.serial xs (finds_ascending key es)
          ∙ ap (λ ys. cond (test e.serial) (insert_ascending e.serial ys) ys) same
          ∙ ap (λ b. cond b (insert_ascending e.serial some) some) its
          ∙ (elim (is e) as (λ b. cond b (insert_ascending e.serial some) some ≡ serials_of_key key (cond b (e ∷ filter is es) (filter is es))) [
            | true ↦ sym (ap (λ c. cond c (insert_ascending e.serial some) some) y)
            | false ↦ refl
          ])
          )
      | inr n ↦ (
          ap (λ b. filter test (cond b (insert_ascending e.serial xs) xs)) n
          ∙ same
          ∙ (elim (is e) as (λ b. some ≡ serials_of_key key (cond b (e ∷ filter is es) (filter is es))) [
            | true ↦ sym (ap (λ c. cond c (insert_ascending e.serial some) some) n)
            | false ↦ refl
          ])
          )
    ])

-- one step of a walk from the end
pub drop_before : (es : List Stored) (n : ℕ) (x : Stored) → 0 < n → n ≤ length es → x ≡ get_or es (n - 1) x → drop (n - 1) es ≡ x ∷ drop n es
drop_before es n x some within is =
    let next : n - 1 + 1 ≡ n = omega arith in
    drop_more es (n - 1) x (omega arith)
    ∙ ap (λ y. y ∷ drop (n - 1 + 1) es) (sym is)
    ∙ ap (λ m. x ∷ drop m es) next

pub walk_step : (key : Key) (request : List Field) (e : Stored) (es : List Stored) → same_key e.key key ≡ true → vary_matches e.nominated request ≡ true →
    insert_ascending e.serial (serials_of_key key (filter (λ f. vary_matches f.nominated request) es)) ≡ serials_of_key key (filter (λ f. vary_matches f.nominated request) (e ∷ es))
walk_step key request e es k m =
    let some = filter (λ (f : Stored). vary_matches f.nominated request) es in
    sym (ap (λ b. serials_of_key key (cond b (e ∷ some) some)) m ∙ ap (λ b. cond b (insert_ascending e.serial (serials_of_key key some)) (serials_of_key key some)) k)

some_stand : (xs : List ℕ) → (xs ≡ [] → ⊥) → eqb (length xs) 0 ≡ false
some_stand [] n = absurd (n refl)
some_stand (x ∷ xs) n = grind (arith, common_steps)

pub key_is_held : (key : Key) (es : List Stored) → list_any (λ e. same_key e.key key) es ≡ not (eqb (length (serials_of_key key es)) 0)
key_is_held key [] = refl
key_is_held key (e ∷ es) =
    let xs = serials_of_key key es in
    elim (same_key e.key key) as (λ b. (b || list_any (λ (f : Stored). same_key f.key key) es) ≡ not (eqb (length (cond b (insert_ascending e.serial xs) xs)) 0)) [
      | true ↦ sym (ap not (some_stand (insert_ascending e.serial xs) (not_nothing e.serial xs)))
      | false ↦ key_is_held key es
    ]

any_of_filter : (p q : Stored → Bool) (es : List Stored) → list_any q (filter p es) ≡ list_any (λ e. p e && q e) es
any_of_filter p q [] = refl
any_of_filter p q (e ∷ es) =
    let more = any_of_filter p q es in
    elim (p e) as (λ b. list_any q (cond b (e ∷ filter p es) (filter p es)) ≡ ((b && q e) || list_any (λ (f : Stored). p f && q f) es)) [
      | true ↦ ap (λ b. q e || b) more
      | false ↦ more
    ]

pub finds_matches : (key : Key) (request : List Field) (s : ℕ) (es : List Stored) → SerialsAreDistinct (serials es) →
    serial_is_in s (matching_serials key request es) ≡ list_any (λ e. vary_matches e.nominated request && (same_key e.key key && eqb e.serial s)) es
finds_matches key request s es d =
    ap (serial_is_in s) (sym (walked key request es d))
    ∙ finds_those key s (filter (λ (e : Stored). vary_matches e.nominated request) es)
    ∙ any_of_filter (λ e. vary_matches e.nominated request) (λ e. same_key e.key key && eqb e.serial s) es

pub matches_ascend : (key : Key) (request : List Field) (es : List Stored) → SerialsAreDistinct (serials es) → SerialsNeverDescend (matching_serials key request es)
matches_ascend key request es d =
    subst SerialsNeverDescend (walked key request es d) (finds_ascending key (filter (λ (e : Stored). vary_matches e.nominated request) es))

-- where all pass a test, none is left out
pub filter_all : {X : Type 0} (p : X → Bool) (xs : List X) → list_all p xs ≡ true → filter p xs ≡ xs
filter_all p [] all = refl
filter_all p (x ∷ xs) all =
    let parts = and_parts (p x) (list_all p xs) all in
    rw parts.0 (ap (λ ys. x ∷ ys) (filter_all p xs parts.1))
