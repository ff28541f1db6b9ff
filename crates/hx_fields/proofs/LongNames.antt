-- A name and a text that is shorter are two.
use Rattle.std.proofs.Common.{◌≡◌, ℕ, ◌<◌, Bool, false, cond, List, [], ◌∷◌, length, ◌||◌, refl, ap, sym, ◌∙◌, arith, inl, inr}
use Rattle.std.specs.Prelude.{filter}
use Rattle.std.specs.List.{list_any}
use Rattle.std.specs.Char.{to_ascii_lowercase}
use Rattle.std.specs.Str.{str_to_ascii_lowercase}
use Rattle.std.proofs.lemmas.Bool.{cases_Bool}
use Rattle.std.proofs.lemmas.Bool.Decides.{nat_tests}
use Rattle.std.proofs.lemmas.List.{length-map}
use Rattle.std.proofs.lemmas.Slice.Eq.{bytes_eq-Decides}
use Rattle.hx_fields.specs.LongMembers.{is_at_least_bytes_long}
use Rattle.hx_fields.specs.Names.{is_same_name}

pub shorter_differs : (a b : List ℕ) → length a < length b → is_same_name a b ≡ false
shorter_differs a b h = elim (cases_Bool (is_same_name a b)) [
  | inl t ↦ absurd (
      let same = ap length ((bytes_eq-Decides (str_to_ascii_lowercase a) (str_to_ascii_lowercase b)).0 t) in
      omega (arith, same, length-map a to_ascii_lowercase, length-map b to_ascii_lowercase)
      )
  | inr f ↦ f
]

pub is_shorter : (least : ℕ) (text : List ℕ) → is_at_least_bytes_long least text ≡ false → length text < least
is_shorter least text h = grind (arith, nat_tests)

-- where a test fails of each text that is short, the long ones alone are asked
pub long_ones_decide : (least : ℕ) (P : List ℕ → Bool) → ((text : List ℕ) → length text < least → P text ≡ false) → (texts : List (List ℕ)) → list_any P (filter (is_at_least_bytes_long least) texts) ≡ list_any P texts
long_ones_decide least P fails [] = refl
long_ones_decide least P fails (text ∷ texts) =
    let more = long_ones_decide least P fails texts in
    elim (cases_Bool (is_at_least_bytes_long least text)) [
      | inl t ↦ ap (λ b. list_any P (cond b (text ∷ filter (is_at_least_bytes_long least) texts) (filter (is_at_least_bytes_long least) texts))) t ∙ ap (λ b. P text || b) more
      | inr f ↦ ap (λ b. list_any P (cond b (text ∷ filter (is_at_least_bytes_long least) texts) (filter (is_at_least_bytes_long least) texts))) f ∙ more
          ∙ ap (λ b. b || list_any P texts) (sym (fails text (is_shorter least text f)))
    ]
