-- Lists of entries: places, filters, and that no serial stands twice.
use Rattle.std.proofs.Common.{◌≡◌, ℕ, zero, suc, ◌+◌, ◌<◌, ◌≤◌, Bool, true, false, not, cond, ◌||◌, eqb, leb, None, Some, List, [], ◌∷◌, length, take, refl, sym, ◌∙◌, ap, subst, arith, one-add, inl, inr}
use Rattle.std.specs.Prelude.{MatchOption, IfSome, map, is_some}
use Rattle.std.specs.List.{filter, position_or_len, position, insert, list_any}
use Rattle.std.proofs.lemmas.Bool.{cases_Bool, false≢true, eqb-true, eq-eqb, or_parts, cases_lt, lt-ltb, le-ltb, or_left, or_right}
use Rattle.std.proofs.lemmas.Bool.Decides.{nat_tests}
use Rattle.std.proofs.lemmas.List.{length-take}
use Rattle.std.proofs.lemmas.Option.{same_Some}
use Rattle.hx_store.specs.Serials.{serial_is_in, SerialsAreDistinct, insert_ascending}
use Rattle.hx_store.specs.Stored.{Stored}
use Rattle.hx_store.specs.Shelf.{serials, holds_serial, find_entry_of_serial, without_serials}
use Rattle.hx_store.specs.SerialPlaces.{SerialIsInNoEntry, IsIndexOfSerial}

pub eqb_comm : (a b : ℕ) → eqb a b ≡ eqb b a
eqb_comm a b = grind (arith, nat_tests)

pub not_only : (a s : ℕ) → eqb a s ≡ false → serial_is_in a (s ∷ []) ≡ false
not_only a s h = grind (arith, nat_tests)

pub without_none : (s : ℕ) (es : List Stored) → holds_serial s es ≡ false → without_serials (s ∷ []) es ≡ es
without_none s [] h = refl
without_none s (e ∷ es) h =
    let p = or_parts (eqb e.serial s) (serial_is_in s (serials es)) h in
    ap (λ b. cond (not b) (e ∷ without_serials (s ∷ []) es) (without_serials (s ∷ []) es)) (not_only e.serial s p.0)
    ∙ ap (λ zs. e ∷ zs) (without_none s es p.1)

pub find_none : (s : ℕ) (es : List Stored) → holds_serial s es ≡ false → find_entry_of_serial s es ≡ None
find_none s [] h = refl
find_none s (e ∷ es) h =
    let p = or_parts (eqb e.serial s) (serial_is_in s (serials es)) h in
    ap (λ b. cond b (Some e) (find_entry_of_serial s es)) p.0 ∙ find_none s es p.1

record LenIs (s : ℕ) (es : List Stored) (n : ℕ) : Type 0 where
  at : n < length es → IsIndexOfSerial s es n
  past : length es ≤ n → holds_serial s es ≡ false

len_is : (s : ℕ) (es : List Stored) → SerialsAreDistinct (serials es) → LenIs s es (position_or_len (λ e. eqb e.serial s) es)
len_is s [] d = record { at = λ h. absurd (omega arith); past = λ h. refl }
len_is s (e ∷ es) d = elim (cases_Bool (eqb e.serial s)) [
  | inl t ↦ (
      let none : holds_serial s es ≡ false = subst (λ z. serial_is_in z (serials es) ≡ false) (eqb-true e.serial s t) d.0 in
      let in' : serial_is_in e.serial (s ∷ []) ≡ true = or_left _ _ (sym (eqb_comm e.serial s) ∙ t) in
      let w : without_serials (s ∷ []) (e ∷ es) ≡ es = ap (λ b. cond (not b) (e ∷ without_serials (s ∷ []) es) (without_serials (s ∷ []) es)) in' ∙ without_none s es none in
      let zero_is : position_or_len (λ e. eqb e.serial s) (e ∷ es) ≡ 0 = ap (λ b. cond (not b) (1 + position_or_len (λ e. eqb e.serial s) es) 0) t in
      subst (LenIs s (e ∷ es)) (sym zero_is) (record {
        at = λ h. record {
          within = h;
          held = or_left _ _ t;
          found = λ d. ap (λ b. cond b (Some e) (find_entry_of_serial s es)) t;
          rest = sym w;
        };
        past = λ h. absurd (omega arith);
      })
      )
  | inr f ↦ (
      let n = position_or_len (λ e. eqb e.serial s) es in
      let r = len_is s es d.1 in
      let more : position_or_len (λ e. eqb e.serial s) (e ∷ es) ≡ suc n =
      ap (λ b. cond (not b) (1 + n) 0) f ∙ omega arith in
      let w : without_serials (s ∷ []) (e ∷ es) ≡ e ∷ without_serials (s ∷ []) es =
      ap (λ b. cond (not b) (e ∷ without_serials (s ∷ []) es) (without_serials (s ∷ []) es)) (not_only e.serial s f) in
      subst (LenIs s (e ∷ es)) (sym more) (record {
        at = λ h. let p = r.at (omega arith) in record {
          within = h;
          held = or_right _ _ p.held;
          found = λ d. ap (λ b. cond b (Some e) (find_entry_of_serial s es)) f ∙ p.found d;
          rest = ap (λ zs. e ∷ zs) p.rest ∙ sym w;
        };
        past = λ h. ap (λ b. b || holds_serial s es) f ∙ r.past (omega arith);
      })
      )
]

pub position_is : (s : ℕ) (es : List Stored) → SerialsAreDistinct (serials es) →
    MatchOption (position (λ e. eqb e.serial s) es) (SerialIsInNoEntry s es) (IsIndexOfSerial s es)
position_is s es d =
    let n = position_or_len (λ e. eqb e.serial s) es in
    let r = len_is s es d in
    elim (cases_lt n (length es)) [
      | inl l ↦ rw (lt-ltb n (length es) l) (r.at l)
      | inr g ↦ rw (le-ltb n (length es) g) (record {
        not_held = r.past g;
        not_found = find_none s es (r.past g);
        stays = without_none s es (r.past g);
      })
    ]

pub filter_keeps : (p : Stored → Bool) (s : ℕ) (es : List Stored) → holds_serial s es ≡ false → holds_serial s (filter p es) ≡ false
filter_keeps p s [] h = refl
filter_keeps p s (e ∷ es) h =
    let q = or_parts (eqb e.serial s) (serial_is_in s (serials es)) h in
    let r = filter_keeps p s es q.1 in
    elim (p e) as (λ b. holds_serial s (cond b (e ∷ filter p es) (filter p es)) ≡ false) [
      | true ↦ ap (λ b. b || holds_serial s (filter p es)) q.0 ∙ r
      | false ↦ r
    ]

pub SerialsAreDistinct-filter : (p : Stored → Bool) (es : List Stored) → SerialsAreDistinct (serials es) → SerialsAreDistinct (serials (filter p es))
SerialsAreDistinct-filter p [] d = tt
SerialsAreDistinct-filter p (e ∷ es) d =
    elim (p e) as (λ b. SerialsAreDistinct (serials (cond b (e ∷ filter p es) (filter p es)))) [
      | true ↦ (filter_keeps p e.serial es d.0, SerialsAreDistinct-filter p es d.1)
      | false ↦ SerialsAreDistinct-filter p es d.1
    ]

pub take_keeps : (n : ℕ) (s : ℕ) (es : List Stored) → holds_serial s es ≡ false → holds_serial s (take n es) ≡ false
take_keeps zero s es h = refl
take_keeps (suc n) s [] h = refl
take_keeps (suc n) s (e ∷ es) h =
    let q = or_parts (eqb e.serial s) (serial_is_in s (serials es)) h in
    ap (λ b. b || holds_serial s (take n es)) q.0 ∙ take_keeps n s es q.1

pub SerialsAreDistinct-take : (n : ℕ) (es : List Stored) → SerialsAreDistinct (serials es) → SerialsAreDistinct (serials (take n es))
SerialsAreDistinct-take zero es d = tt
SerialsAreDistinct-take (suc n) [] d = tt
SerialsAreDistinct-take (suc n) (e ∷ es) d = (take_keeps n e.serial es d.0, SerialsAreDistinct-take n es d.1)

pub without_gone : (s : ℕ) (es : List Stored) → holds_serial s (without_serials (s ∷ []) es) ≡ false
without_gone s [] = refl
without_gone s (e ∷ es) = elim (cases_Bool (eqb e.serial s)) [
  | inl t ↦ ap (λ b. holds_serial s (cond (not b) (e ∷ without_serials (s ∷ []) es) (without_serials (s ∷ []) es))) (or_left _ _ (sym (eqb_comm e.serial s) ∙ t))
      ∙ without_gone s es
  | inr f ↦ ap (λ b. holds_serial s (cond (not b) (e ∷ without_serials (s ∷ []) es) (without_serials (s ∷ []) es))) (not_only e.serial s f)
      ∙ ap (λ b. b || holds_serial s (without_serials (s ∷ []) es)) f ∙ without_gone s es
]

pub length-filter_le : (p : Stored → Bool) (es : List Stored) → length (filter p es) ≤ length es
length-filter_le p [] = omega arith
length-filter_le p (e ∷ es) =
    let h = length-filter_le p es in
    elim (p e) as (λ b. length (cond b (e ∷ filter p es) (filter p es)) ≤ suc (length es)) [ true ↦ omega arith | false ↦ omega arith ]

pub length-without : (s : ℕ) (es : List Stored) → holds_serial s es ≡ true → length (without_serials (s ∷ []) es) < length es
length-without s [] h = absurd (false≢true h)
length-without s (e ∷ es) h = elim (cases_Bool (eqb e.serial s)) [
  | inl t ↦ (
      let w : without_serials (s ∷ []) (e ∷ es) ≡ without_serials (s ∷ []) es =
      ap (λ b. cond (not b) (e ∷ without_serials (s ∷ []) es) (without_serials (s ∷ []) es)) (or_left _ _ (sym (eqb_comm e.serial s) ∙ t)) in
      let l = length-filter_le (λ e. not (serial_is_in e.serial (s ∷ []))) es in
      rw w (omega arith)
      )
  | inr f ↦ (
      let w : without_serials (s ∷ []) (e ∷ es) ≡ e ∷ without_serials (s ∷ []) es =
      ap (λ b. cond (not b) (e ∷ without_serials (s ∷ []) es) (without_serials (s ∷ []) es)) (not_only e.serial s f) in
      let l = length-without s es (sym (ap (λ b. b || holds_serial s es) f) ∙ h) in
      rw w (omega arith)
      )
]

-- what is true of every shelf
abbrev pub IsSound : ℕ → List Stored → Type 0
IsSound limit es = (length es ≤ limit) × SerialsAreDistinct (serials es)

pub sound_filter : (limit : ℕ) (p : Stored → Bool) (es zs : List Stored) → zs ≡ filter p es → IsSound limit es → IsSound limit zs
sound_filter limit p es zs e h =
    let l = length-filter_le p es in
    let k : IsSound limit (filter p es) = (omega arith, SerialsAreDistinct-filter p es h.1) in
    subst (IsSound limit) (sym e) k

pub sound_front : (limit s : ℕ) (es zs : List Stored) (x : Stored) → zs ≡ x ∷ without_serials (s ∷ []) es → x.serial ≡ s → holds_serial s es ≡ true →
    IsSound limit es → IsSound limit zs
sound_front limit s es zs x e k m h =
    let l = length-without s es m in
    let none : holds_serial x.serial (without_serials (s ∷ []) es) ≡ false =
    ap (λ z. holds_serial z (without_serials (s ∷ []) es)) k ∙ without_gone s es in
    let g : IsSound limit (x ∷ without_serials (s ∷ []) es) = (omega arith, (none, SerialsAreDistinct-filter _ es h.1)) in
    subst (IsSound limit) (sym e) g

pub sound_put : (limit : ℕ) (gone : List ℕ) (es zs : List Stored) (x : Stored) → zs ≡ take limit (x ∷ without_serials gone es) → holds_serial x.serial es ≡ false →
    IsSound limit es → IsSound limit zs
sound_put limit gone es zs x e m h =
    let g : IsSound limit (take limit (x ∷ without_serials gone es)) = (
      omega (arith, length-take limit (x ∷ without_serials gone es)),
      SerialsAreDistinct-take limit (x ∷ without_serials gone es) (filter_keeps _ x.serial es m, SerialsAreDistinct-filter _ es h.1),
    ) in
    subst (IsSound limit) (sym e) g

pub find-serial : (s : ℕ) (es : List Stored) (x : Stored) → find_entry_of_serial s es ≡ Some x → x.serial ≡ s
find-serial s [] x h = absurd (cc)
find-serial s (e ∷ es) x h = elim (cases_Bool (eqb e.serial s)) [
  | inl t ↦ (
      let k : Some e ≡ Some x = sym (ap (λ b. cond b (Some e) (find_entry_of_serial s es)) t) ∙ h in
      let m : e ≡ x = same_Some e x k in
      ap (λ y. y.serial) (sym m) ∙ eqb-true e.serial s t
      )
  | inr f ↦ find-serial s es x (sym (ap (λ b. cond b (Some e) (find_entry_of_serial s es)) f) ∙ h)
]

pub held_is_found : (s : ℕ) (es : List Stored) → holds_serial s es ≡ is_some (find_entry_of_serial s es)
held_is_found s [] = refl
held_is_found s (e ∷ es) =
    elim (eqb e.serial s) as (λ b. (b || holds_serial s es) ≡ is_some (cond b (Some e) (find_entry_of_serial s es))) [
      | true ↦ refl
      | false ↦ held_is_found s es
    ]

pub found_has_serial : (s : ℕ) (es : List Stored) → IfSome (find_entry_of_serial s es) (λ e. e.serial ≡ s)
found_has_serial s [] = tt
found_has_serial s (e ∷ es) =
    let Has : Bool → Type 0 = λ b. IfSome (cond b (Some e) (find_entry_of_serial s es)) (λ f. f.serial ≡ s) in
    elim (cases_Bool (eqb e.serial s)) [
      | inl t ↦ subst Has (sym t) (eqb-true e.serial s t)
      | inr f ↦ subst Has (sym f) (found_has_serial s es)
    ]

pub serials_in_order : (es : List Stored) → serials es ≡ map (λ e. e.serial) es
serials_in_order [] = refl
serials_in_order (e ∷ es) = ap (λ zs. e.serial ∷ zs) (serials_in_order es)

pub any_is_in : (s : ℕ) (xs : List ℕ) → list_any (λ x. eqb x s) xs ≡ serial_is_in s xs
any_is_in s [] = refl
any_is_in s (x ∷ xs) = ap (λ b. eqb x s || b) (any_is_in s xs)

pub insert_at_place : (s : ℕ) (xs : List ℕ) → insert xs (position_or_len (λ x. leb s x) xs) s ≡ insert_ascending s xs
insert_at_place s [] = refl
insert_at_place s (x ∷ xs) = elim (cases_Bool (leb s x)) [
  | inl t ↦ ap (λ b. insert (x ∷ xs) (cond (not b) (1 + position_or_len (λ x. leb s x) xs) 0) s) t
      ∙ sym (ap (λ b. cond b (s ∷ x ∷ xs) (x ∷ insert_ascending s xs)) t)
  | inr f ↦ ap (λ b. insert (x ∷ xs) (cond (not b) (1 + position_or_len (λ x. leb s x) xs) 0) s) f
      ∙ rw one-add (ap (λ zs. x ∷ zs) (insert_at_place s xs))
      ∙ sym (ap (λ b. cond b (s ∷ x ∷ xs) (x ∷ insert_ascending s xs)) f)
]

pub find_holds : (s : ℕ) (es : List Stored) (x : Stored) → find_entry_of_serial s es ≡ Some x → holds_serial x.serial es ≡ true
find_holds s [] x h = absurd (cc)
find_holds s (e ∷ es) x h = elim (cases_Bool (eqb e.serial s)) [
  | inl t ↦ (
      let k : Some e ≡ Some x = sym (ap (λ b. cond b (Some e) (find_entry_of_serial s es)) t) ∙ h in
      let m : e ≡ x = same_Some e x k in
      or_left _ _ (eq-eqb e.serial x.serial (ap (λ y. y.serial) m))
      )
  | inr f ↦ or_right _ _ (find_holds s es x (sym (ap (λ b. cond b (Some e) (find_entry_of_serial s es)) f) ∙ h))
]
