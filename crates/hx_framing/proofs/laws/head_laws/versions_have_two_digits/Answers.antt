use Rattle.std.proofs.Common.{◌≡◌, ℕ, zero, suc, ◌+◌, ◌-◌, ◌≤◌, ◌&&◌, ◌==◌, Bool, true, false, not, List, [], ◌∷◌, ◌++◌, length, slice_index, refl, sym, ap, ◌∙◌, arith, leb}
use Rattle.std.specs.Prelude.{codes, nat_eq, nat_lt}
use Rattle.std.specs.Char.{is_ascii_digit}
use Rattle.std.specs.List.{starts_with}
use Rattle.std.proofs.lemmas.Bool.{and_parts, and_from, leb-true, ltb-true, eqb-true, le-leb, false_from_ne_true}
use Rattle.hx_framing.specs.Version.{is_unsupported_version}
use Rattle.hx_framing.proofs.laws.head_laws.versions_have_two_digits.Goals as goal

-- a digit is 48 and at most 9
digit : (c : ℕ) → is_ascii_digit c ≡ true → (c - 48 ≤ 9) × (c ≡ 48 + (c - 48))
digit c is = let both = and_parts (leb 48 c) (leb c 57) is in let from = leb-true 48 c both.0 in let to = leb-true c 57 both.1 in (omega arith, omega arith)

begins : (a b c d e : ℕ) → starts_with nat_eq (a ∷ b ∷ c ∷ d ∷ e ∷ []) (codes "HTTP/") ≡ true → a ∷ b ∷ c ∷ d ∷ e ∷ [] ≡ codes "HTTP/"
begins a b c d e is =
    let p = and_parts (nat_eq 72 a) _ is in
    let q = and_parts (nat_eq 84 b) _ p.1 in
    let r = and_parts (nat_eq 84 c) _ q.1 in
    let s = and_parts (nat_eq 80 d) _ r.1 in
    let t = and_parts (nat_eq 47 e) _ s.1 in
    let h : a ≡ 72 = sym (eqb-true 72 a p.0) in
    let i : b ≡ 84 = sym (eqb-true 84 b q.0) in
    let j : c ≡ 84 = sym (eqb-true 84 c r.0) in
    let k : d ≡ 80 = sym (eqb-true 80 d s.0) in
    let l : e ≡ 47 = sym (eqb-true 47 e t.0) in
    cc

-- eight bytes
parts : (a b c d e f g h : ℕ) → is_unsupported_version (a ∷ b ∷ c ∷ d ∷ e ∷ f ∷ g ∷ h ∷ []) ≡ true
    → (a ∷ b ∷ c ∷ d ∷ e ∷ [] ≡ codes "HTTP/") × (is_ascii_digit f ≡ true) × (g ≡ 46) × (is_ascii_digit h ≡ true)
parts a b c d e f g h is =
    let text : List ℕ = a ∷ b ∷ c ∷ d ∷ e ∷ f ∷ g ∷ h ∷ [] in
    let name : Bool = length text == 8 && starts_with nat_eq text (codes "HTTP/") in
    let all = and_parts (name && is_ascii_digit f && (g == 46) && is_ascii_digit h) (not (f == 49 && nat_lt h 50)) is in
    let last = and_parts (name && is_ascii_digit f && (g == 46)) (is_ascii_digit h) all.0 in
    let dot = and_parts (name && is_ascii_digit f) (g == 46) last.0 in
    let first = and_parts name (is_ascii_digit f) dot.0 in
    let begun = and_parts (length text == 8) (starts_with nat_eq text (codes "HTTP/")) first.0 in
    (begins a b c d e begun.1, first.1, eqb-true g 46 dot.1, last.1)

-- it has eight bytes
eight : (text : List ℕ) → is_unsupported_version text ≡ true → length text ≡ 8
eight text is =
    let major : ℕ = slice_index text 5 in
    let minor : ℕ = slice_index text 7 in
    let name : Bool = length text == 8 && starts_with nat_eq text (codes "HTTP/") in
    let front : Bool = name && is_ascii_digit major && (slice_index text 6 == 46) in
    let all = and_parts (front && is_ascii_digit minor) (not (major == 49 && nat_lt minor 50)) is in
    let last = and_parts front (is_ascii_digit minor) all.0 in
    let dot = and_parts (name && is_ascii_digit major) (slice_index text 6 == 46) last.0 in
    let first = and_parts name (is_ascii_digit major) dot.0 in
    eqb-true (length text) 8 (and_parts (length text == 8) (starts_with nat_eq text (codes "HTTP/")) first.0).0

form : (text : List ℕ) → is_unsupported_version text ≡ true → (major : ℕ) × (minor : ℕ) × (major ≤ 9) × (minor ≤ 9)
    × (text ≡ codes "HTTP/" ++ (48 + major) ∷ 46 ∷ (48 + minor) ∷ [])
form [] is = absurd (let e : true ≡ false = sym is in cc)
form (a ∷ []) is = absurd (let e : true ≡ false = sym is in cc)
form (a ∷ b ∷ []) is = absurd (let e : true ≡ false = sym is in cc)
form (a ∷ b ∷ c ∷ []) is = absurd (let e : true ≡ false = sym is in cc)
form (a ∷ b ∷ c ∷ d ∷ []) is = absurd (let e : true ≡ false = sym is in cc)
form (a ∷ b ∷ c ∷ d ∷ e ∷ []) is = absurd (let e : true ≡ false = sym is in cc)
form (a ∷ b ∷ c ∷ d ∷ e ∷ f ∷ []) is = absurd (let e : true ≡ false = sym is in cc)
form (a ∷ b ∷ c ∷ d ∷ e ∷ f ∷ g ∷ []) is = absurd (let e : true ≡ false = sym is in cc)
form (a ∷ b ∷ c ∷ d ∷ e ∷ f ∷ g ∷ h ∷ []) is =
    let p = parts a b c d e f g h is in
    let major = digit f p.1 in
    let minor = digit h p.3 in (
      f - 48,
      h - 48,
      major.0,
      minor.0,
      ap (λ (l : List ℕ). l ++ f ∷ g ∷ h ∷ []) p.0 ∙ (let u = major.1 in let v = minor.1 in let w = p.2 in cc),
    )
form (a ∷ b ∷ c ∷ d ∷ e ∷ f ∷ g ∷ h ∷ i ∷ rest) is =
    absurd (let long = eight (a ∷ b ∷ c ∷ d ∷ e ∷ f ∷ g ∷ h ∷ i ∷ rest) is in omega (arith, long))

pub returns-clause-form : goal.returns-clause-form
returns-clause-form c = form

is_digit : (n : ℕ) → n ≤ 9 → is_ascii_digit (48 + n) ≡ true
is_digit n small = and_from (leb 48 (48 + n)) (leb (48 + n) 57) (le-leb 48 (48 + n) (omega arith)) (le-leb (48 + n) 57 (omega (arith, small)))

pub returns-clause-others : goal.returns-clause-others
returns-clause-others c major minor small less other =
    let known : Bool = 48 + major == 49 && nat_lt (48 + minor) 50 in
    let no : known ≡ false
    = false_from_ne_true known (
    λ is. let both = and_parts (48 + major == 49) (nat_lt (48 + minor) 50) is in
    let one = eqb-true (48 + major) 49 both.0 in
    let few = ltb-true (48 + minor) 50 both.1 in
    other (omega (arith, one), omega (arith, few))
    ) in
    ap (λ (t : Bool). ((t && true) && is_ascii_digit (48 + minor)) && not known) (is_digit major small)
    ∙ (ap (λ (t : Bool). t && not known) (is_digit minor less) ∙ ap not no)

pub returns-clause-known : goal.returns-clause-known
returns-clause-known c zero small = refl
returns-clause-known c (suc zero) small = refl
returns-clause-known c (suc (suc minor)) small = absurd (omega (arith, small))
