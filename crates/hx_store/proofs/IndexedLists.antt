-- The serials of a key, as entries come and go.
use Rattle.std.proofs.Common.{◌≡◌, ℕ, Bool, suc, ◌-◌, ◌<◌, ◌≤◌, true, false, not, cond, ◌||◌, ◌&&◌, eqb, leb, Option, None, Some, List, [], ◌∷◌, length, take, slice_get, is_some, refl, sym, ◌∙◌, ap, subst, arith, inl, inr}
use Rattle.std.proofs.lemmas.Bool.{cases_Bool, false≢true, eqb-true, eq-eqb, or_parts, or_left}
use Rattle.std.proofs.lemmas.Bool.Decides.{nat_tests, leb_tells}
use Rattle.std.proofs.lemmas.Option.{same_Some}
use Rattle.std.specs.Prelude.{IfSome}
use Rattle.std.specs.Map.{keys_of, remove_entry, set_value}
use Rattle.std.specs.Ordering.{nat_cmp}
use Rattle.std.specs.BTreeMap.{insert_entry, is_at}
use Rattle.hx_target.specs.declared.keys.Key.{Key}
use Rattle.hx_target.specs.Keys.{same_key}
use Rattle.hx_target.specs.KeyOrder.{same_key_equiv}
use Rattle.hx_store.specs.declared.key_index.KeyIndex.{KeyIndex}
use Rattle.hx_store.specs.Serials.{serial_is_in, SerialsAreDistinct, insert_ascending}
use Rattle.hx_store.specs.Stored.{Stored}
use Rattle.hx_store.specs.Shelf.{serials, holds_serial, find_entry_of_serial, without_serials, serials_of_key, entries_with_promoted, entries_with_first_if_any, entries_without_key}
use Rattle.hx_store.specs.Found.{SerialIsAtMostEachOf, SerialsNeverDescend}
use Rattle.hx_vary.specs.declared.marks.VariantMark.{VariantMark}
use Rattle.hx_vary.specs.Marks.{mark_of_values}
use Rattle.hx_store.specs.Index.{EachMarkIsOfItsEntry, IsKeyIndexOf, MarksAreOfTheirEntries, SerialMarkIsReplacedInIndex, SerialIsInsertedInIndex, SerialIsRemovedFromIndex, serials_without_first_match, serials_at_key_in_index, serials_and_marks_at, entries_without_serials_but_one}
use Rattle.hx_store.proofs.EntryLists.{eqb_comm, not_only, without_none, without_gone, find_none, find-serial, find_holds, SerialsAreDistinct-filter, length-filter_le, length-without}
use Rattle.hx_store.proofs.FoundSerials.{is_in-insert, finds_ascending, below_less}
use Rattle.hx_store.proofs.KeyedEntries.{is_some-find, distinct-front}
use Rattle.hx_target.specs.KeyHash.{same_keys_are_equal}
use Rattle.hx_store.proofs.Indices.{not_nothing}
use Rattle.hx_store.proofs.MarkLists.{IsPart, keys-marked, keys-put, keys-removed, marks-anew, marks-more, marks-part, marks-put, marks-removed, part-front, part-without}

-- ---- lists of serials

-- what was put in goes again
but-insert : (s : ℕ) (xs : List ℕ) → serials_without_first_match s (insert_ascending s xs) ≡ xs
but-insert s [] = ap (λ b. cond b [] (s ∷ [])) (eq-eqb s s refl)
but-insert s (x ∷ xs) = elim (cases_Bool (leb s x)) [
  | inl t ↦ ap (λ b. serials_without_first_match s (cond b (s ∷ x ∷ xs) (x ∷ insert_ascending s xs))) t ∙ ap (λ b. cond b (x ∷ xs) (s ∷ serials_without_first_match s (x ∷ xs))) (eq-eqb s s refl)
  | inr f ↦ (
      let n : eqb x s ≡ false = grind (arith, nat_tests, f) in
      ap (λ b. serials_without_first_match s (cond b (s ∷ x ∷ xs) (x ∷ insert_ascending s xs))) f
      ∙ ap (λ b. cond b (insert_ascending s xs) (x ∷ serials_without_first_match s (insert_ascending s xs))) n
      ∙ ap (λ ys. x ∷ ys) (but-insert s xs)
      )
]

but-none : (s : ℕ) (xs : List ℕ) → serial_is_in s xs ≡ false → serials_without_first_match s xs ≡ xs
but-none s [] h = refl
but-none s (x ∷ xs) h =
    let p = or_parts (eqb x s) (serial_is_in s xs) h in
    ap (λ b. cond b xs (x ∷ serials_without_first_match s xs)) p.0 ∙ ap (λ ys. x ∷ ys) (but-none s xs p.1)

pub insert-below : (a : ℕ) (xs : List ℕ) → SerialIsAtMostEachOf a xs → insert_ascending a xs ≡ a ∷ xs
insert-below a [] h = refl
insert-below a (x ∷ xs) h =
    let t : leb a x ≡ true = grind (arith, nat_tests, h.0) in
    ap (λ b. cond b (a ∷ x ∷ xs) (x ∷ insert_ascending a xs)) t

-- another one goes, whether before or after
but-other : (s a : ℕ) (xs : List ℕ) → eqb a s ≡ false → SerialsNeverDescend xs → serials_without_first_match s (insert_ascending a xs) ≡ insert_ascending a (serials_without_first_match s xs)
but-other s a [] n h = ap (λ b. cond b [] (a ∷ [])) n
but-other s a (x ∷ xs) n h = elim (leb_tells a x) [
  | inl p ↦ (
      let front : serials_without_first_match s (insert_ascending a (x ∷ xs)) ≡ a ∷ serials_without_first_match s (x ∷ xs) =
      ap (λ b. serials_without_first_match s (cond b (a ∷ x ∷ xs) (x ∷ insert_ascending a xs))) p.0 ∙ ap (λ b. cond b (x ∷ xs) (a ∷ serials_without_first_match s (x ∷ xs))) n in
      front ∙ sym (elim (cases_Bool (eqb x s)) [
        | inl t ↦ ap (λ b. insert_ascending a (cond b xs (x ∷ serials_without_first_match s xs))) t ∙ insert-below a xs (below_less a x xs p.1 h.0)
            ∙ sym (ap (λ b. a ∷ cond b xs (x ∷ serials_without_first_match s xs)) t)
        | inr f ↦ ap (λ b. insert_ascending a (cond b xs (x ∷ serials_without_first_match s xs))) f
            ∙ ap (λ b. cond b (a ∷ x ∷ serials_without_first_match s xs) (x ∷ insert_ascending a (serials_without_first_match s xs))) p.0
            ∙ sym (ap (λ b. a ∷ cond b xs (x ∷ serials_without_first_match s xs)) f)
      ])
      )
  | inr p ↦ (
      ap (λ b. serials_without_first_match s (cond b (a ∷ x ∷ xs) (x ∷ insert_ascending a xs))) p.0
      ∙ (elim (cases_Bool (eqb x s)) [
        | inl t ↦ ap (λ b. cond b (insert_ascending a xs) (x ∷ serials_without_first_match s (insert_ascending a xs))) t
            ∙ sym (ap (λ b. insert_ascending a (cond b xs (x ∷ serials_without_first_match s xs))) t)
        | inr f ↦ ap (λ b. cond b (insert_ascending a xs) (x ∷ serials_without_first_match s (insert_ascending a xs))) f
            ∙ ap (λ ys. x ∷ ys) (but-other s a xs n h.1)
            ∙ sym (ap (λ b. cond b (a ∷ x ∷ serials_without_first_match s xs) (x ∷ insert_ascending a (serials_without_first_match s xs))) p.0)
            ∙ sym (ap (λ b. insert_ascending a (cond b xs (x ∷ serials_without_first_match s xs))) f)
      ])
      )
]

none_below_in : (a s : ℕ) (xs : List ℕ) → SerialIsAtMostEachOf a xs → serial_is_in s xs ≡ true → a ≤ s
none_below_in a s [] h m = absurd (false≢true m)
none_below_in a s (x ∷ xs) h m = elim (cases_Bool (eqb x s)) [
  | inl t ↦ subst (λ y. a ≤ y) (eqb-true x s t) h.0
  | inr f ↦ none_below_in a s xs h.1 (sym (ap (λ b. b || serial_is_in s xs) f) ∙ m)
]

-- what went comes back where it was
insert-but : (s : ℕ) (xs : List ℕ) → SerialsNeverDescend xs → serial_is_in s xs ≡ true → insert_ascending s (serials_without_first_match s xs) ≡ xs
insert-but s [] h m = absurd (false≢true m)
insert-but s (x ∷ xs) h m = elim (cases_Bool (eqb x s)) [
  | inl t ↦ (
      let e : x ≡ s = eqb-true x s t in
      ap (λ b. insert_ascending s (cond b xs (x ∷ serials_without_first_match s xs))) t
      ∙ insert-below s xs (subst (λ y. SerialIsAtMostEachOf y xs) e h.0)
      ∙ ap (λ y. y ∷ xs) (sym e)
      )
  | inr f ↦ (
      let m' : serial_is_in s xs ≡ true = sym (ap (λ b. b || serial_is_in s xs) f) ∙ m in
      let l : x ≤ s = none_below_in x s xs h.0 m' in
      let g : leb s x ≡ false = grind (arith, nat_tests, f, l) in
      ap (λ b. insert_ascending s (cond b xs (x ∷ serials_without_first_match s xs))) f
      ∙ ap (λ b. cond b (s ∷ x ∷ serials_without_first_match s xs) (x ∷ insert_ascending s (serials_without_first_match s xs))) g
      ∙ ap (λ ys. x ∷ ys) (insert-but s xs h.1 m')
      )
]

-- ---- the serials of a key

pub not_of_key : (s : ℕ) (q : Key) (es : List Stored) → holds_serial s es ≡ false → serial_is_in s (serials_of_key q es) ≡ false
not_of_key s q [] h = refl
not_of_key s q (e ∷ es) h =
    let p = or_parts (eqb e.serial s) (holds_serial s es) h in
    let more = not_of_key s q es p.1 in
    elim (same_key e.key q) as (λ b. serial_is_in s (cond b (insert_ascending e.serial (serials_of_key q es)) (serials_of_key q es)) ≡ false) [
      | true ↦ is_in-insert s e.serial (serials_of_key q es) ∙ ap (λ b. b || serial_is_in s (serials_of_key q es)) p.0 ∙ more
      | false ↦ more
    ]

-- an entry that goes takes its serial with it
pub serials-without : (s : ℕ) (q : Key) (es : List Stored) → SerialsAreDistinct (serials es) → serials_of_key q (without_serials (s ∷ []) es) ≡ serials_without_first_match s (serials_of_key q es)
serials-without s q [] d = refl
serials-without s q (e ∷ es) d = elim (cases_Bool (eqb e.serial s)) [
  | inl t ↦ (
      let is : e.serial ≡ s = eqb-true e.serial s t in
      let none : holds_serial s es ≡ false = subst (λ z. holds_serial z es ≡ false) is d.0 in
      let gone : serial_is_in e.serial (s ∷ []) ≡ true = or_left _ _ (sym (eqb_comm e.serial s) ∙ t) in
      ap (λ b. serials_of_key q (cond (not b) (e ∷ without_serials (s ∷ []) es) (without_serials (s ∷ []) es))) gone
      ∙ ap (serials_of_key q) (without_none s es none)
      ∙ sym (elim (same_key e.key q) as (λ b. serials_without_first_match s (cond b (insert_ascending e.serial (serials_of_key q es)) (serials_of_key q es)) ≡ serials_of_key q es) [
        | true ↦ ap (λ z. serials_without_first_match s (insert_ascending z (serials_of_key q es))) is ∙ but-insert s (serials_of_key q es)
        | false ↦ but-none s (serials_of_key q es) (not_of_key s q es none)
      ])
      )
  | inr f ↦ (
      ap (λ b. serials_of_key q (cond (not b) (e ∷ without_serials (s ∷ []) es) (without_serials (s ∷ []) es))) (not_only e.serial s f)
      ∙ (elim (same_key e.key q) as (λ b. cond b (insert_ascending e.serial (serials_of_key q (without_serials (s ∷ []) es))) (serials_of_key q (without_serials (s ∷ []) es))
      ≡ serials_without_first_match s (cond b (insert_ascending e.serial (serials_of_key q es)) (serials_of_key q es))) [
        | true ↦ ap (insert_ascending e.serial) (serials-without s q es d.1)
            ∙ sym (but-other s e.serial (serials_of_key q es) f (finds_ascending q es))
        | false ↦ serials-without s q es d.1
      ])
      )
]

-- the serial of a held entry is among those of its key, and of no other key
of_its_key : (s : ℕ) (q : Key) (es : List Stored) (e : Stored) → SerialsAreDistinct (serials es) → find_entry_of_serial s es ≡ Some e → serial_is_in s (serials_of_key q es) ≡ same_key e.key q
of_its_key s q [] e d h = absurd (cc)
of_its_key s q (x ∷ xs) e d h = elim (cases_Bool (eqb x.serial s)) [
  | inl t ↦ (
      let k : x ≡ e = same_Some x e (sym (ap (λ b. cond b (Some x) (find_entry_of_serial s xs)) t) ∙ h) in
      let none : holds_serial s xs ≡ false = subst (λ z. holds_serial z xs ≡ false) (eqb-true x.serial s t) d.0 in
      let r = not_of_key s q xs none in
      (elim (same_key x.key q) as (λ b. serial_is_in s (cond b (insert_ascending x.serial (serials_of_key q xs)) (serials_of_key q xs)) ≡ b) [
        | true ↦ is_in-insert s x.serial (serials_of_key q xs) ∙ or_left _ _ t
        | false ↦ r
      ])
      ∙ ap (λ y. same_key y.key q) k
      )
  | inr f ↦ (
      let more = of_its_key s q xs e d.1 (sym (ap (λ b. cond b (Some x) (find_entry_of_serial s xs)) f) ∙ h) in
      (elim (same_key x.key q) as (λ b. serial_is_in s (cond b (insert_ascending x.serial (serials_of_key q xs)) (serials_of_key q xs)) ≡ serial_is_in s (serials_of_key q xs)) [
        | true ↦ is_in-insert s x.serial (serials_of_key q xs) ∙ ap (λ b. b || serial_is_in s (serials_of_key q xs)) f
        | false ↦ refl
      ])
      ∙ more
      )
]

-- an entry with the serial and the key of a held one, in its place, first
pub serials-front : (s : ℕ) (q : Key) (es : List Stored) (e x : Stored) → SerialsAreDistinct (serials es) → find_entry_of_serial s es ≡ Some e → x.serial ≡ s →
    same_key e.key x.key ≡ true → serials_of_key q (x ∷ without_serials (s ∷ []) es) ≡ serials_of_key q es
serials-front s q es e x d h is k =
    let same : same_key x.key q ≡ same_key e.key q = ap (λ y. same_key y q) (sym (same_keys_are_equal e.key x.key k)) in
    let its = of_its_key s q es e d h in
    let w = serials-without s q es d in
    elim (cases_Bool (same_key e.key q)) [
      | inl t ↦ (
          ap (λ b. cond b (insert_ascending x.serial (serials_of_key q (without_serials (s ∷ []) es))) (serials_of_key q (without_serials (s ∷ []) es))) (same ∙ t)
          ∙ ap (λ z. insert_ascending z (serials_of_key q (without_serials (s ∷ []) es))) is
          ∙ ap (insert_ascending s) w
          ∙ insert-but s (serials_of_key q es) (finds_ascending q es) (its ∙ t)
          )
      | inr f ↦ (
          ap (λ b. cond b (insert_ascending x.serial (serials_of_key q (without_serials (s ∷ []) es))) (serials_of_key q (without_serials (s ∷ []) es))) (same ∙ f)
          ∙ w ∙ but-none s (serials_of_key q es) (its ∙ f)
          )
    ]

-- ---- the index

-- at a key, the serials once one was put in at another, and once one was taken out there
abbrev Gains : KeyIndex → Key → ℕ → KeyIndex → Type 0
Gains old key s new = (q : Key) → serials_at_key_in_index new q ≡ cond (same_key key q) (insert_ascending s (serials_at_key_in_index old q)) (serials_at_key_in_index old q)

abbrev Loses : KeyIndex → Key → ℕ → KeyIndex → Type 0
Loses old key s new = (q : Key) → serials_at_key_in_index new q ≡ cond (same_key key q) (serials_without_first_match s (serials_at_key_in_index old q)) (serials_at_key_in_index old q)

gains : (key : Key) (s : ℕ) (m : VariantMark) (es : List Stored) (old new : KeyIndex) → holds_serial s es ≡ false → IsKeyIndexOf es old → SerialIsInsertedInIndex old key s m new → Gains old key s new
gains key s m es old new n i p q =
    let ps = serials_and_marks_at old q in
    let none : serial_is_in s (keys_of ps) ≡ false = ap (serial_is_in s) (i q) ∙ not_of_key s q es n in
    ap keys_of (p q)
    ∙ (elim (same_key key q) as (λ b. keys_of (cond b (insert_entry nat_cmp ps s m) ps) ≡ cond b (insert_ascending s (keys_of ps)) (keys_of ps)) [
      | true ↦ keys-put s m ps none
      | false ↦ refl
    ])

loses : (key : Key) (s : ℕ) (old new : KeyIndex) → SerialIsRemovedFromIndex old key s new → Loses old key s new
loses key s old new t q =
    let ps = serials_and_marks_at old q in
    ap keys_of (t q)
    ∙ (elim (same_key key q) as (λ b. keys_of (cond b (remove_entry (is_at (nat_cmp s)) ps) ps) ≡ cond b (serials_without_first_match s (keys_of ps)) (keys_of ps)) [
      | true ↦ keys-removed s ps
      | false ↦ refl
    ])

index-without : (s : ℕ) (es : List Stored) (e : Stored) (old new : KeyIndex) → SerialsAreDistinct (serials es) → find_entry_of_serial s es ≡ Some e →
    IsKeyIndexOf es old → Loses old e.key s new → IsKeyIndexOf (without_serials (s ∷ []) es) new
index-without s es e old new d h i t q =
    t q
    ∙ (elim (cases_Bool (same_key e.key q)) [
      | inl y ↦ ap (λ b. cond b (serials_without_first_match s (serials_at_key_in_index old q)) (serials_at_key_in_index old q)) y ∙ ap (serials_without_first_match s) (i q)
      | inr n ↦ ap (λ b. cond b (serials_without_first_match s (serials_at_key_in_index old q)) (serials_at_key_in_index old q)) n ∙ i q ∙ sym (but-none s (serials_of_key q es) (of_its_key s q es e d h ∙ n))
    ])
    ∙ sym (serials-without s q es d)

index-more : (e : Stored) (es : List Stored) (old new : KeyIndex) → IsKeyIndexOf es old → Gains old e.key e.serial new → IsKeyIndexOf (e ∷ es) new
index-more e es old new i p q = p q ∙ ap (λ xs. cond (same_key e.key q) (insert_ascending e.serial xs) xs) (i q)

-- put in and taken out again
index_back : (key : Key) (s : ℕ) (es : List Stored) (old mid new : KeyIndex) → IsKeyIndexOf es old → Gains old key s mid → Loses mid key s new →
    IsKeyIndexOf es new
index_back key s es old mid new i p t q =
    t q
    ∙ (elim (cases_Bool (same_key key q)) [
      | inl y ↦ ap (λ b. cond b (serials_without_first_match s (serials_at_key_in_index mid q)) (serials_at_key_in_index mid q)) y
          ∙ ap (serials_without_first_match s) (p q ∙ ap (λ b. cond b (insert_ascending s (serials_at_key_in_index old q)) (serials_at_key_in_index old q)) y)
          ∙ but-insert s (serials_at_key_in_index old q)
      | inr n ↦ ap (λ b. cond b (serials_without_first_match s (serials_at_key_in_index mid q)) (serials_at_key_in_index mid q)) n
          ∙ p q ∙ ap (λ b. cond b (insert_ascending s (serials_at_key_in_index old q)) (serials_at_key_in_index old q)) n
    ])
    ∙ i q

pub index-again : (key : Key) (s : ℕ) (m : VariantMark) (es : List Stored) (old mid new : KeyIndex) → holds_serial s es ≡ false → IsKeyIndexOf es old → SerialIsInsertedInIndex old key s m mid →
    SerialIsRemovedFromIndex mid key s new → IsKeyIndexOf es new
index-again key s m es old mid new n i p t = index_back key s es old mid new i (gains key s m es old mid n i p) (loses key s mid new t)

index-front : (s : ℕ) (es : List Stored) (e x : Stored) (index : KeyIndex) → SerialsAreDistinct (serials es) → find_entry_of_serial s es ≡ Some e → x.serial ≡ s →
    same_key e.key x.key ≡ true → IsKeyIndexOf es index → IsKeyIndexOf (x ∷ without_serials (s ∷ []) es) index
index-front s es e x index d h is k i q = i q ∙ sym (serials-front s q es e x d h is k)

-- the last of them
pub record IsLast (es : List Stored) (e : Stored) : Type 0 where
  pub found : find_entry_of_serial e.serial es ≡ Some e
  pub rest : without_serials (e.serial ∷ []) es ≡ take (length es - 1) es

pub last-is : (es : List Stored) (e : Stored) → SerialsAreDistinct (serials es) → slice_get es (length es - 1) ≡ Some e → IsLast es e
last-is [] e d h = absurd (cc)
last-is (x ∷ []) e d h =
    let k : x ≡ e = same_Some x e h in
    let t : eqb x.serial e.serial ≡ true = eq-eqb _ _ (ap (λ y. y.serial) k) in
    let gone : serial_is_in x.serial (e.serial ∷ []) ≡ true = or_left _ _ (sym (eqb_comm x.serial e.serial) ∙ t) in
    record {
      found = ap (λ b. cond b (Some x) None) t ∙ ap Some k;
      rest = ap (λ b. cond (not b) (x ∷ []) []) gone;
    }
last-is (x ∷ (y ∷ ys)) e d h =
    let one : length (x ∷ (y ∷ ys)) - 1 ≡ suc (length (y ∷ ys) - 1) = omega arith in
    let r = last-is (y ∷ ys) e d.1 (ap (slice_get (x ∷ (y ∷ ys))) (sym one) ∙ h) in
    let in' : holds_serial e.serial (y ∷ ys) ≡ true = find_holds e.serial (y ∷ ys) e r.found in
    let n : eqb x.serial e.serial ≡ false = elim (cases_Bool (eqb x.serial e.serial)) [
      | inl t ↦ absurd (false≢true (sym d.0 ∙ subst (λ z. holds_serial z (y ∷ ys) ≡ true) (sym (eqb-true x.serial e.serial t)) in'))
      | inr f ↦ f
    ] in
    record {
      found = ap (λ b. cond b (Some x) (find_entry_of_serial e.serial (y ∷ ys))) n ∙ r.found;
      rest = ap (λ b. cond (not b) (x ∷ without_serials (e.serial ∷ []) (y ∷ ys)) (without_serials (e.serial ∷ []) (y ∷ ys))) (not_only x.serial e.serial n)
          ∙ ap (λ zs. x ∷ zs) r.rest
          ∙ sym (ap (λ m. take m (x ∷ (y ∷ ys))) one);
    }

pub last-none : (es : List Stored) → slice_get es (length es - 1) ≡ None → take (length es - 1) es ≡ es
last-none [] h = refl
last-none (x ∷ []) h = absurd (cc)
last-none (x ∷ (y ∷ ys)) h =
    let one : length (x ∷ (y ∷ ys)) - 1 ≡ suc (length (y ∷ ys) - 1) = omega arith in
    ap (λ m. take m (x ∷ (y ∷ ys))) one ∙ ap (λ zs. x ∷ zs) (last-none (y ∷ ys) (ap (slice_get (x ∷ (y ∷ ys))) (sym one) ∙ h))

-- ---- what keeps the index: entries of which no serial stands twice, and an index of them
abbrev pub IsKept : List Stored → KeyIndex → Type 0
IsKept es index = SerialsAreDistinct (serials es) × IsKeyIndexOf es index

pub kept-none : (s : ℕ) (es : List Stored) (index : KeyIndex) → find_entry_of_serial s es ≡ None → IsKept es index → IsKept (without_serials (s ∷ []) es) index
kept-none s es index h k =
    subst (λ zs. IsKept zs index) (sym (without_none s es (sym (is_some-find s es) ∙ ap is_some h))) k

pub kept-without : (s : ℕ) (es : List Stored) (e : Stored) (old new : KeyIndex) → find_entry_of_serial s es ≡ Some e → SerialIsRemovedFromIndex old e.key s new →
    IsKept es old → IsKept (without_serials (s ∷ []) es) new
kept-without s es e old new h t k = (SerialsAreDistinct-filter _ es k.0, index-without s es e old new k.0 h k.1 (loses e.key s old new t))

kept-front : (s : ℕ) (es : List Stored) (e x : Stored) (index : KeyIndex) → find_entry_of_serial s es ≡ Some e → x.serial ≡ s → same_key e.key x.key ≡ true →
    IsKept es index → IsKept (x ∷ without_serials (s ∷ []) es) index
kept-front s es e x index h is same k = (distinct-front s x es is k.0, index-front s es e x index k.0 h is same k.1)

-- a new mark changes no serial
same_serials : (key : Key) (s : ℕ) (m : VariantMark) (old new : KeyIndex) → SerialMarkIsReplacedInIndex old key s m new → (q : Key) → serials_at_key_in_index new q ≡ serials_at_key_in_index old q
same_serials key s m old new a q =
    let ps = serials_and_marks_at old q in
    ap keys_of (a q)
    ∙ (elim (same_key key q) as (λ b. keys_of (cond b (set_value (is_at (nat_cmp s)) ps m) ps) ≡ keys_of ps) [
      | true ↦ keys-marked (is_at (nat_cmp s)) m ps
      | false ↦ refl
    ])

pub kept-anew : (key : Key) (s : ℕ) (m : VariantMark) (es : List Stored) (e x : Stored) (old new : KeyIndex) → find_entry_of_serial s es ≡ Some e → x.serial ≡ s →
    same_key e.key x.key ≡ true → SerialMarkIsReplacedInIndex old key s m new → IsKept es old → IsKept (x ∷ without_serials (s ∷ []) es) new
kept-anew key s m es e x old new h is same a k =
    kept-front s es e x new h is same (k.0, λ q. same_serials key s m old new a q ∙ k.1 q)

kept_promoted_by : (s : ℕ) (es : List Stored) (index : KeyIndex) (o : Option Stored) → find_entry_of_serial s es ≡ o → IsKept es index →
    IsKept (entries_with_first_if_any o (without_serials (s ∷ []) es)) index
kept_promoted_by s es index None h k = kept-none s es index h k
kept_promoted_by s es index (Some e) h k = kept-front s es e e index h (find-serial s es e h) (same_key_equiv.refl e.key) k

pub kept-promoted : (s : ℕ) (es : List Stored) (index : KeyIndex) → IsKept es index → IsKept (entries_with_promoted s es) index
kept-promoted s es index k = kept_promoted_by s es index (find_entry_of_serial s es) refl k

pub kept-last : (es : List Stored) (e : Stored) (old new : KeyIndex) → slice_get es (length es - 1) ≡ Some e → SerialIsRemovedFromIndex old e.key e.serial new →
    IsKept es old → IsKept (take (length es - 1) es) new
kept-last es e old new h t k =
    let l = last-is es e k.0 h in
    subst (λ zs. IsKept zs new) l.rest (kept-without e.serial es e old new l.found t k)

pub kept-more : (e : Stored) (m : VariantMark) (es : List Stored) (old new : KeyIndex) → holds_serial e.serial es ≡ false → SerialIsInsertedInIndex old e.key e.serial m new →
    IsKept es old → IsKept (e ∷ es) new
kept-more e m es old new n p k = ((n, k.0), index-more e es old new k.1 (gains e.key e.serial m es old new n k.1 p))

-- ---- what keeps the marks

pub marked-part : (seed : ℕ) (es zs : List Stored) (index : KeyIndex) → IsPart zs es → MarksAreOfTheirEntries seed es index → MarksAreOfTheirEntries seed zs index
marked-part seed es zs index part k q = marks-part seed es zs (serials_and_marks_at index q) part (k q)

pub marked-taken : (seed : ℕ) (key : Key) (s : ℕ) (es : List Stored) (old new : KeyIndex) → SerialIsRemovedFromIndex old key s new → MarksAreOfTheirEntries seed es old → MarksAreOfTheirEntries seed es new
marked-taken seed key s es old new t k q =
    let ps = serials_and_marks_at old q in
    let Are : Bool → Type 0 = λ b. EachMarkIsOfItsEntry seed es (cond b (remove_entry (is_at (nat_cmp s)) ps) ps) in
    let are : Are (same_key key q) = elim (same_key key q) as Are [ true ↦ marks-removed seed (is_at (nat_cmp s)) es ps (k q) | false ↦ k q ] in
    subst (EachMarkIsOfItsEntry seed es) (sym (t q)) are

marked-put : (seed : ℕ) (key : Key) (s : ℕ) (m : VariantMark) (es : List Stored) (old new : KeyIndex) → IfSome (find_entry_of_serial s es) (λ e. m ≡ mark_of_values seed e.nominated) →
    SerialIsInsertedInIndex old key s m new → MarksAreOfTheirEntries seed es old → MarksAreOfTheirEntries seed es new
marked-put seed key s m es old new f p k q =
    let ps = serials_and_marks_at old q in
    let Are : Bool → Type 0 = λ b. EachMarkIsOfItsEntry seed es (cond b (insert_entry nat_cmp ps s m) ps) in
    let are : Are (same_key key q) = elim (same_key key q) as Are [ true ↦ marks-put seed es s m ps f (k q) | false ↦ k q ] in
    subst (EachMarkIsOfItsEntry seed es) (sym (p q)) are

pub marked-more : (seed : ℕ) (x : Stored) (es : List Stored) (old new : KeyIndex) → holds_serial x.serial es ≡ false → IsKeyIndexOf es old →
    SerialIsInsertedInIndex old x.key x.serial (mark_of_values seed x.nominated) new → MarksAreOfTheirEntries seed es old → MarksAreOfTheirEntries seed (x ∷ es) new
marked-more seed x es old new n i p k =
    let first : IfSome (find_entry_of_serial x.serial (x ∷ es)) (λ e. mark_of_values seed x.nominated ≡ mark_of_values seed e.nominated) = rw (eq-eqb x.serial x.serial refl) refl in
    marked-put seed x.key x.serial (mark_of_values seed x.nominated) (x ∷ es) old new first p
    (λ q. marks-more seed x es (serials_and_marks_at old q) (ap (serial_is_in x.serial) (i q) ∙ not_of_key x.serial q es n) (k q))

-- put in and taken out again
pub marked-again : (seed : ℕ) (key : Key) (s : ℕ) (m : VariantMark) (es : List Stored) (old mid new : KeyIndex) → holds_serial s es ≡ false → SerialIsInsertedInIndex old key s m mid →
    SerialIsRemovedFromIndex mid key s new → MarksAreOfTheirEntries seed es old → MarksAreOfTheirEntries seed es new
marked-again seed key s m es old mid new n p t k =
    let none : IfSome (find_entry_of_serial s es) (λ e. m ≡ mark_of_values seed e.nominated) = rw (find_none s es n) tt in
    marked-taken seed key s es mid new t (marked-put seed key s m es old mid none p k)

pub marked-without : (seed : ℕ) (key : Key) (s : ℕ) (es : List Stored) (old new : KeyIndex) → SerialIsRemovedFromIndex old key s new → MarksAreOfTheirEntries seed es old →
    MarksAreOfTheirEntries seed (without_serials (s ∷ []) es) new
marked-without seed key s es old new t k = marked-taken seed key s (without_serials (s ∷ []) es) old new t (marked-part seed es (without_serials (s ∷ []) es) old (part-without s es) k)

pub marked-none : (seed : ℕ) (s : ℕ) (es : List Stored) (index : KeyIndex) → MarksAreOfTheirEntries seed es index → MarksAreOfTheirEntries seed (without_serials (s ∷ []) es) index
marked-none seed s es index k = marked-part seed es (without_serials (s ∷ []) es) index (part-without s es) k

pub marked-last : (seed : ℕ) (es : List Stored) (e : Stored) (old new : KeyIndex) → SerialsAreDistinct (serials es) → slice_get es (length es - 1) ≡ Some e →
    SerialIsRemovedFromIndex old e.key e.serial new → MarksAreOfTheirEntries seed es old → MarksAreOfTheirEntries seed (take (length es - 1) es) new
marked-last seed es e old new d h t k =
    let l = last-is es e d h in
    subst (λ zs. MarksAreOfTheirEntries seed zs new) l.rest (marked-without seed e.key e.serial es old new t k)

-- a new form of a held entry in its place
pub marked-anew : (seed : ℕ) (s : ℕ) (es : List Stored) (e x : Stored) (old new : KeyIndex) → find_entry_of_serial s es ≡ Some e → x.serial ≡ s → same_key e.key x.key ≡ true →
    SerialMarkIsReplacedInIndex old x.key s (mark_of_values seed x.nominated) new → IsKept es old → MarksAreOfTheirEntries seed es old → MarksAreOfTheirEntries seed (x ∷ without_serials (s ∷ []) es) new
marked-anew seed s es e x old new h is same a kept k q =
    let ps = serials_and_marks_at old q in
    let zs = without_serials (s ∷ []) es in
    let rest : EachMarkIsOfItsEntry seed zs ps = marks-part seed es zs ps (part-without s es) (k q) in
    let once : serial_is_in s (serials_without_first_match s (keys_of ps)) ≡ false =
    ap (λ xs. serial_is_in s (serials_without_first_match s xs)) (kept.1 q) ∙ ap (serial_is_in s) (sym (serials-without s q es kept.0)) ∙ not_of_key s q zs (without_gone s es) in
    let Are : Bool → Type 0 = λ b. EachMarkIsOfItsEntry seed (x ∷ zs) (cond b (set_value (is_at (nat_cmp s)) ps (mark_of_values seed x.nominated)) ps) in
    subst (EachMarkIsOfItsEntry seed (x ∷ zs)) (sym (a q)) (elim (cases_Bool (same_key x.key q)) [
      | inl y ↦ subst Are (sym y) (marks-anew seed s x zs ps is once rest)
      | inr n ↦ subst Are (sym n) (marks-more seed x zs ps (
          ap (λ z. serial_is_in z (keys_of ps)) is ∙ ap (serial_is_in s) (kept.1 q) ∙ of_its_key s q es e kept.0 h ∙ ap (λ y. same_key y q) (same_keys_are_equal e.key x.key same) ∙ n
          ) rest)
    ])

marked_promoted_by : (seed : ℕ) (s : ℕ) (es : List Stored) (index : KeyIndex) (o : Option Stored) → find_entry_of_serial s es ≡ o → MarksAreOfTheirEntries seed es index →
    MarksAreOfTheirEntries seed (entries_with_first_if_any o (without_serials (s ∷ []) es)) index
marked_promoted_by seed s es index None h k = marked-none seed s es index k
marked_promoted_by seed s es index (Some e) h k = marked-part seed es (e ∷ without_serials (s ∷ []) es) index (part-front s es e h) k

pub marked-promoted : (seed : ℕ) (s : ℕ) (es : List Stored) (index : KeyIndex) → MarksAreOfTheirEntries seed es index → MarksAreOfTheirEntries seed (entries_with_promoted s es) index
marked-promoted seed s es index k = marked_promoted_by seed s es index (find_entry_of_serial s es) refl k

-- ---- entries that go

stays : (s kept : ℕ) (gone : List ℕ) (e : Stored) → eqb s kept ≡ false →
    ((eqb e.serial kept || not (serial_is_in e.serial (s ∷ gone))) ≡ (not (serial_is_in e.serial (s ∷ [])) && (eqb e.serial kept || not (serial_is_in e.serial gone))))
stays s kept gone e n = grind (arith, nat_tests, n)

-- one of several goes
pub others-step : (s kept : ℕ) (gone : List ℕ) (es : List Stored) → eqb s kept ≡ false →
    entries_without_serials_but_one kept gone (without_serials (s ∷ []) es) ≡ entries_without_serials_but_one kept (s ∷ gone) es
others-step s kept gone [] n = refl
others-step s kept gone (e ∷ es) n =
    let more = others-step s kept gone es n in
    let b = serial_is_in e.serial (s ∷ []) in
    let r = eqb e.serial kept || not (serial_is_in e.serial gone) in
    sym (ap (λ x. cond x (e ∷ entries_without_serials_but_one kept (s ∷ gone) es) (entries_without_serials_but_one kept (s ∷ gone) es)) (stays s kept gone e n)
    ∙ (elim b as (λ x. cond (not x && r) (e ∷ entries_without_serials_but_one kept (s ∷ gone) es) (entries_without_serials_but_one kept (s ∷ gone) es)
    ≡ entries_without_serials_but_one kept gone (cond (not x) (e ∷ without_serials (s ∷ []) es) (without_serials (s ∷ []) es))) [
      | true ↦ sym more
      | false ↦ ap (λ zs. cond r (e ∷ zs) zs) (sym more)
    ]))

-- the one that stays in any case is passed over
pub others-same : (kept : ℕ) (gone : List ℕ) (es : List Stored) → entries_without_serials_but_one kept gone es ≡ entries_without_serials_but_one kept (kept ∷ gone) es
others-same kept gone [] = refl
others-same kept gone (e ∷ es) =
    let more = others-same kept gone es in
    let same : (eqb e.serial kept || not (serial_is_in e.serial gone)) ≡ (eqb e.serial kept || not (serial_is_in e.serial (kept ∷ gone))) = grind (arith, nat_tests) in
    ap (λ x. cond x (e ∷ entries_without_serials_but_one kept gone es) (entries_without_serials_but_one kept gone es)) same
    ∙ ap (λ zs. cond (eqb e.serial kept || not (serial_is_in e.serial (kept ∷ gone))) (e ∷ zs) zs) more

pub others-none : (kept : ℕ) (es : List Stored) → entries_without_serials_but_one kept [] es ≡ es
others-none kept [] = refl
others-none kept (e ∷ es) =
    (elim (eqb e.serial kept) as (λ b. cond (b || true) (e ∷ entries_without_serials_but_one kept [] es) (entries_without_serials_but_one kept [] es) ≡ e ∷ entries_without_serials_but_one kept [] es) [ true ↦ refl | false ↦ refl ])
    ∙ ap (λ zs. e ∷ zs) (others-none kept es)

others-old : (kept : ℕ) (gone : List ℕ) (es : List Stored) → holds_serial kept es ≡ false → entries_without_serials_but_one kept gone es ≡ without_serials gone es
others-old kept gone [] h = refl
others-old kept gone (e ∷ es) h =
    let p = or_parts (eqb e.serial kept) (holds_serial kept es) h in
    ap (λ b. cond (b || not (serial_is_in e.serial gone)) (e ∷ entries_without_serials_but_one kept gone es) (entries_without_serials_but_one kept gone es)) p.0
    ∙ ap (λ zs. cond (not (serial_is_in e.serial gone)) (e ∷ zs) zs) (others-old kept gone es p.1)

-- a new entry stays, of whatever serials the others go
others-new : (x : Stored) (gone : List ℕ) (es : List Stored) → holds_serial x.serial es ≡ false → entries_without_serials_but_one x.serial gone (x ∷ es) ≡ x ∷ without_serials gone es
others-new x gone es h =
    ap (λ b. cond (b || not (serial_is_in x.serial gone)) (x ∷ entries_without_serials_but_one x.serial gone es) (entries_without_serials_but_one x.serial gone es)) (eq-eqb x.serial x.serial refl)
    ∙ ap (λ zs. x ∷ zs) (others-old x.serial gone es h)

-- what stands once a new entry went in and the replaced ones went
pub put-stands : (x : Stored) (gone : List ℕ) (es mid zs : List Stored) (s : ℕ) → s ≡ x.serial → mid ≡ x ∷ es → zs ≡ entries_without_serials_but_one s gone mid →
    holds_serial x.serial es ≡ false → zs ≡ x ∷ without_serials gone es
put-stands x gone es mid zs s is stored left new =
    left ∙ ap (λ k. entries_without_serials_but_one k gone mid) is ∙ ap (entries_without_serials_but_one x.serial gone) stored ∙ others-new x gone es new

is_first : (s : ℕ) (xs : List ℕ) → slice_get xs 0 ≡ Some s → serial_is_in s xs ≡ true
is_first s [] h = absurd (cc)
is_first s (x ∷ xs) h = or_left _ _ (eq-eqb x s (same_Some x s h))

first-held : (s : ℕ) (q : Key) (es : List Stored) → slice_get (serials_of_key q es) 0 ≡ Some s → holds_serial s es ≡ true
first-held s q es h = elim (cases_Bool (holds_serial s es)) [
  | inl t ↦ t
  | inr f ↦ absurd (false≢true (sym (not_of_key s q es f) ∙ is_first s (serials_of_key q es) h))
]

goes : (s : ℕ) (q : Key) (es : List Stored) → SerialsAreDistinct (serials es) → serial_is_in s (serials_of_key q es) ≡ true → entries_without_key q (without_serials (s ∷ []) es) ≡ entries_without_key q es
goes s q [] d m = refl
goes s q (e ∷ es) d m = elim (cases_Bool (eqb e.serial s)) [
  | inl t ↦ (
      let none : holds_serial s es ≡ false = subst (λ z. holds_serial z es ≡ false) (eqb-true e.serial s t) d.0 in
      let gone : serial_is_in e.serial (s ∷ []) ≡ true = or_left _ _ (sym (eqb_comm e.serial s) ∙ t) in
      let key : same_key e.key q ≡ true = elim (cases_Bool (same_key e.key q)) [
        | inl y ↦ y
        | inr n ↦ absurd (false≢true (
            sym (not_of_key s q es none)
            ∙ sym (ap (λ b. serial_is_in s (cond b (insert_ascending e.serial (serials_of_key q es)) (serials_of_key q es))) n)
            ∙ m
            ))
      ] in
      ap (λ b. entries_without_key q (cond (not b) (e ∷ without_serials (s ∷ []) es) (without_serials (s ∷ []) es))) gone
      ∙ ap (entries_without_key q) (without_none s es none)
      ∙ sym (ap (λ b. cond (not b) (e ∷ entries_without_key q es) (entries_without_key q es)) key)
      )
  | inr f ↦ (
      let more : serial_is_in s (serials_of_key q es) ≡ true =
      (elim (same_key e.key q) as (λ b. serial_is_in s (serials_of_key q es) ≡ serial_is_in s (cond b (insert_ascending e.serial (serials_of_key q es)) (serials_of_key q es))) [
        | true ↦ sym (is_in-insert s e.serial (serials_of_key q es) ∙ ap (λ b. b || serial_is_in s (serials_of_key q es)) f)
        | false ↦ refl
      ]) ∙ m in
      ap (λ b. entries_without_key q (cond (not b) (e ∷ without_serials (s ∷ []) es) (without_serials (s ∷ []) es))) (not_only e.serial s f)
      ∙ ap (λ zs. cond (not (same_key e.key q)) (e ∷ zs) zs) (goes s q es d.1 more)
      )
]

-- one of a key goes, and those that are not of the key stay
pub key-step : (s : ℕ) (q : Key) (es zs : List Stored) → SerialsAreDistinct (serials es) → slice_get (serials_of_key q es) 0 ≡ Some s → zs ≡ without_serials (s ∷ []) es →
    entries_without_key q zs ≡ entries_without_key q es
key-step s q es zs d h e = ap (entries_without_key q) e ∙ goes s q es d (is_first s (serials_of_key q es) h)

pub key-smaller : (s : ℕ) (q : Key) (es zs : List Stored) → slice_get (serials_of_key q es) 0 ≡ Some s → zs ≡ without_serials (s ∷ []) es → length zs < length es
key-smaller s q es zs h e = subst (λ ys. length ys < length es) (sym e) (length-without s es (first-held s q es h))

nothing : (xs : List ℕ) → slice_get xs 0 ≡ None → xs ≡ []
nothing [] h = refl
nothing (x ∷ xs) h = absurd (cc)

none_of_key : (q : Key) (es : List Stored) → serials_of_key q es ≡ [] → entries_without_key q es ≡ es
none_of_key q [] h = refl
none_of_key q (e ∷ es) h = elim (cases_Bool (same_key e.key q)) [
  | inl y ↦ absurd (not_nothing e.serial (serials_of_key q es) (sym (ap (λ b. cond b (insert_ascending e.serial (serials_of_key q es)) (serials_of_key q es)) y) ∙ h))
  | inr n ↦ ap (λ b. cond (not b) (e ∷ entries_without_key q es) (entries_without_key q es)) n
      ∙ ap (λ zs. e ∷ zs) (none_of_key q es (sym (ap (λ b. cond b (insert_ascending e.serial (serials_of_key q es)) (serials_of_key q es)) n) ∙ h))
]

pub key-end : (q : Key) (es : List Stored) → slice_get (serials_of_key q es) 0 ≡ None → entries_without_key q es ≡ es
key-end q es h = none_of_key q es (nothing (serials_of_key q es) h)

length_front : (s : ℕ) (es : List Stored) (o : Option Stored) → find_entry_of_serial s es ≡ o → length (entries_with_first_if_any o (without_serials (s ∷ []) es)) ≤ length es
length_front s es None h = length-filter_le (λ e. not (serial_is_in e.serial (s ∷ []))) es
length_front s es (Some e) h =
    let l = length-without s es (sym (is_some-find s es) ∙ ap is_some h) in
    omega arith

pub length-promoted : (s : ℕ) (es : List Stored) → length (entries_with_promoted s es) ≤ length es
length-promoted s es = length_front s es (find_entry_of_serial s es) refl
