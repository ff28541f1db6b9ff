-- Names that nominate, each once.
use Rattle.std.proofs.Common.{◌≡◌, ℕ, ◌++◌, Bool, true, false, not, cond, ◌||◌, ◌&&◌, List, [], ◌∷◌, refl, sym, ◌∙◌, ap, inl, inr}
use Rattle.std.specs.Prelude.{map, filter, bytes_eq}
use Rattle.std.specs.List.{list_all, list_any}
use Rattle.std.specs.Str.{str_to_ascii_lowercase}
use Rattle.std.proofs.lemmas.Bool.{cases_Bool}
use Rattle.std.proofs.lemmas.Slice.Eq.{bytes_eq-Decides}
use Rattle.std.proofs.lemmas.List.Folds.{list_any-append}
use Rattle.hx_fields.specs.Folded.{folded}
use Rattle.hx_fields.specs.FieldLines.{combined_of}
use Rattle.hx_fields.specs.Names.{is_same_name, joined}
use Rattle.hx_fields.specs.Line.{Field}
use Rattle.hx_vary.specs.Vary.{names_without_repeats}

-- two names that are one have one value
pub one_value : (request : List Field) (a b : List ℕ) → is_same_name a b ≡ true → combined_of request a ≡ combined_of request b
one_value request a b e =
    ap (λ z. joined (map (λ (f : Field). f.value) (filter (λ (f : Field). bytes_eq (str_to_ascii_lowercase f.name) z) request)))
    ((bytes_eq-Decides (str_to_ascii_lowercase a) (str_to_ascii_lowercase b)).0 e)

-- what holds of a name holds of the same, so it may be left out
without_same : (P : List ℕ → Bool) (respects : (a b : List ℕ) → is_same_name a b ≡ true → P a ≡ P b) (x : List ℕ) → P x ≡ true → (ys : List (List ℕ)) →
    list_all P (filter (λ other. not (is_same_name x other)) ys) ≡ list_all P ys
without_same P respects x h [] = refl
without_same P respects x h (y ∷ ys) =
    let more = without_same P respects x h ys in
    let some = filter (λ (other : List ℕ). not (is_same_name x other)) ys in
    elim (cases_Bool (is_same_name x y)) [
      | inl t ↦ ap (λ b. list_all P (cond (not b) (y ∷ some) some)) t ∙ more ∙ sym (ap (λ b. b && list_all P ys) (sym (respects x y t) ∙ h))
      | inr f ↦ ap (λ b. list_all P (cond (not b) (y ∷ some) some)) f ∙ ap (λ b. P y && b) more
    ]

pub once_all : (P : List ℕ → Bool) (respects : (a b : List ℕ) → is_same_name a b ≡ true → P a ≡ P b) (names : List (List ℕ)) →
    list_all P (names_without_repeats names) ≡ list_all P names
once_all P respects [] = refl
once_all P respects (x ∷ xs) = elim (cases_Bool (P x)) [
  | inl t ↦ ap (λ b. P x && b) (without_same P respects x t (names_without_repeats xs) ∙ once_all P respects xs)
  | inr f ↦ ap (λ b. b && list_all P (filter (λ other. not (is_same_name x other)) (names_without_repeats xs))) f ∙ sym (ap (λ b. b && list_all P xs) f)
]

filter_more : (p : List ℕ → Bool) (xs : List (List ℕ)) (y : List ℕ) → filter p (xs ++ y ∷ []) ≡ filter p xs ++ cond (p y) (y ∷ []) []
filter_more p [] y = elim (p y) as (λ b. cond b (y ∷ []) [] ≡ cond b (y ∷ []) []) [ true ↦ refl | false ↦ refl ]
filter_more p (x ∷ xs) y =
    let more = filter_more p xs y in
    elim (p x) as (λ b. cond b (x ∷ filter p (xs ++ y ∷ [])) (filter p (xs ++ y ∷ [])) ≡ cond b (x ∷ filter p xs) (filter p xs) ++ cond (p y) (y ∷ []) []) [
      | true ↦ ap (λ zs. x ∷ zs) more
      | false ↦ more
    ]

-- one name more counts where none of those before is the same
pub once_more : (names : List (List ℕ)) (y : List ℕ) →
    names_without_repeats (names ++ y ∷ []) ≡ cond (list_any (λ name. is_same_name name y) names) (names_without_repeats names) (names_without_repeats names ++ y ∷ [])
once_more [] y = refl
once_more (x ∷ xs) y =
    let p : List ℕ → Bool = λ other. not (is_same_name x other) in
    let ys = names_without_repeats xs in
    let any = list_any (λ (name : List ℕ). is_same_name name y) xs in
    ap (λ zs. x ∷ filter p zs) (once_more xs y)
    ∙ (elim any as (λ b. x ∷ filter p (cond b ys (ys ++ y ∷ [])) ≡ cond (is_same_name x y || b) (x ∷ filter p ys) (x ∷ (filter p ys ++ y ∷ []))) [
      | true ↦ elim (is_same_name x y) as (λ c. x ∷ filter p ys ≡ cond (c || true) (x ∷ filter p ys) (x ∷ (filter p ys ++ y ∷ []))) [ true ↦ refl | false ↦ refl ]
      | false ↦ ap (λ zs. x ∷ zs) (filter_more p ys y)
          ∙ (elim (is_same_name x y) as (λ c. x ∷ (filter p ys ++ cond (not c) (y ∷ []) []) ≡ cond (c || false) (x ∷ filter p ys) (x ∷ (filter p ys ++ y ∷ []))) [
            | true ↦ ap (λ zs. x ∷ zs) (nothing_more (filter p ys))
            | false ↦ refl
          ])
    ])
  where
    nothing_more : (zs : List (List ℕ)) → zs ++ [] ≡ zs
    nothing_more [] = refl
    nothing_more (z ∷ zs) = ap (λ w. z ∷ w) (nothing_more zs)

-- a name is among these
abbrev pub seen_in : List (List ℕ) → List ℕ → Bool
seen_in names q = list_any (λ (name : List ℕ). bytes_eq (folded name) q) names

pub kept_same : (done : List (List ℕ)) (name : List ℕ) → seen_in done (folded name) ≡ true → names_without_repeats (done ++ name ∷ []) ≡ names_without_repeats done
kept_same done name h = once_more done name ∙ ap (λ b. cond b (names_without_repeats done) (names_without_repeats done ++ name ∷ [])) h

pub kept_more : (done : List (List ℕ)) (name : List ℕ) → seen_in done (folded name) ≡ false → names_without_repeats (done ++ name ∷ []) ≡ names_without_repeats done ++ name ∷ []
kept_more done name h = once_more done name ∙ ap (λ b. cond b (names_without_repeats done) (names_without_repeats done ++ name ∷ [])) h

with_one : (done : List (List ℕ)) (name q : List ℕ) → seen_in (done ++ name ∷ []) q ≡ (seen_in done q || (bytes_eq (folded name) q || false))
with_one done name q = list_any-append (λ (n : List ℕ). bytes_eq (folded n) q) done (name ∷ [])

pub seen_same : (done : List (List ℕ)) (name q : List ℕ) → seen_in done (folded name) ≡ true → seen_in (done ++ name ∷ []) q ≡ seen_in done q
seen_same done name q h = with_one done name q ∙ (elim (cases_Bool (bytes_eq (folded name) q)) [
  | inl t ↦ (
      let there : seen_in done q ≡ true = ap (seen_in done) (sym ((bytes_eq-Decides (folded name) q).0 t)) ∙ h in
      ap (λ b. b || (bytes_eq (folded name) q || false)) there ∙ sym there
      )
  | inr f ↦ ap (λ b. seen_in done q || (b || false)) f ∙ or_nothing (seen_in done q)
])
  where
    or_nothing : (b : Bool) → (b || false) ≡ b
    or_nothing true = refl
    or_nothing false = refl

pub seen_more : (done : List (List ℕ)) (name q : List ℕ) → seen_in (done ++ name ∷ []) q ≡ cond (bytes_eq (folded name) q) true (seen_in done q)
seen_more done name q = with_one done name q ∙ by (seen_in done q) (bytes_eq (folded name) q)
  where
    by : (s b : Bool) → (s || (b || false)) ≡ cond b true s
    by true true = refl
    by true false = refl
    by false true = refl
    by false false = refl
