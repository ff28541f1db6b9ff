-- Lines that are found by their LF are the lines of a text.
use Rattle.std.proofs.Common.{◌≡◌, ℕ, zero, suc, ◌+◌, ◌≤◌, ◌==◌, Bool, true, false, cond, List, [], ◌∷◌, length, take, drop, Option, Some, None, add-one, length-drop, ◌-◌, refl, sym, ap, ◌∙◌, arith}
use Rattle.std.proofs.lemmas.Bool.{false_from_ne_true}
use Rattle.std.specs.Option.{option_map}
use Rattle.memchr.specs.Find.{IsFirstByte, is_byte}
use Rattle.hx_fields.specs.Names.{split_at_first_byte}
use Rattle.proxy_log.specs.TextLines.{whole_lines, lines_with_byte_in_front}

pub cut_found : (byte k : ℕ) (text : List ℕ) → IsFirstByte (is_byte byte) text (Some k) → split_at_first_byte byte text ≡ Some (take k text, drop (suc k) text)
cut_found byte k [] found = absurd (omega (arith, found.0.high))
cut_found byte zero (b ∷ bs) found = rw found.1 refl
cut_found byte (suc k) (b ∷ bs) found =
    let other : (b == byte) ≡ false = false_from_ne_true (b == byte) (found.0.before 0 (omega arith) (omega arith)) in
    let later : split_at_first_byte byte bs ≡ Some (take k bs, drop (suc k) bs) = cut_found byte k bs (
      record {
        low = omega arith;
        high = omega (arith, found.0.high);
        before = λ j low high. found.0.before (suc j) (omega arith) (omega arith);
      },
      found.1,
    ) in
    rw (other, later) refl

pub cut_none : (byte : ℕ) (text : List ℕ) → IsFirstByte (is_byte byte) text None → split_at_first_byte byte text ≡ None
cut_none byte [] none = refl
cut_none byte (b ∷ bs) none =
    let other : (b == byte) ≡ false = false_from_ne_true (b == byte) (none 0 (omega arith) (omega arith)) in
    let later : split_at_first_byte byte bs ≡ None = cut_none byte bs (λ j low high. none (suc j) (omega arith) (omega arith)) in
    rw (other, later) refl

-- the lines that a cut of the first one leaves
abbrev pub lines_cut : Option (List ℕ × List ℕ) → List (List ℕ × List ℕ)
lines_cut None = []
lines_cut (Some p) = p ∷ whole_lines p.1

pub lines_are_cut : (text : List ℕ) → whole_lines text ≡ lines_cut (split_at_first_byte 10 text)
lines_are_cut [] = refl
lines_are_cut (b ∷ bs) = by_test (b == 10) (lines_are_cut bs)
  where
    in_front : (r : Option (List ℕ × List ℕ)) → lines_with_byte_in_front b (lines_cut r) ≡ lines_cut (option_map (λ p. (b ∷ p.0, p.1)) r)
    in_front None = refl
    in_front (Some p) = refl

    by_test : (t : Bool) → whole_lines bs ≡ lines_cut (split_at_first_byte 10 bs) → cond t (([], bs) ∷ whole_lines bs) (lines_with_byte_in_front b (whole_lines bs)) ≡ lines_cut (cond t (Some ([], bs)) (option_map (λ p. (b ∷ p.0, p.1)) (split_at_first_byte 10 bs)))
    by_test true later = refl
    by_test false later = ap (lines_with_byte_in_front b) later ∙ in_front (split_at_first_byte 10 bs)

-- a text whose first line was cut
pub lines_at : (text : List ℕ) (p : List ℕ × List ℕ) → Some p ≡ split_at_first_byte 10 text → whole_lines text ≡ p ∷ whole_lines p.1
lines_at text p is = lines_are_cut text ∙ ap lines_cut (sym is)

pub no_lines : (text : List ℕ) → None ≡ split_at_first_byte 10 text → whole_lines text ≡ []
no_lines text is = lines_are_cut text ∙ ap lines_cut (sym is)

pub take_all : (n : ℕ) (xs : List ℕ) → length xs ≤ n → take n xs ≡ xs
take_all zero [] within = refl
take_all zero (x ∷ xs) within = absurd (omega arith)
take_all (suc n) [] within = refl
take_all (suc n) (x ∷ xs) within = ap (λ ys. x ∷ ys) (take_all n xs (omega arith))

-- what stands behind a place
pub behind_place : (k : ℕ) (xs : List ℕ) → take (length xs - (k + 1)) (drop (k + 1) xs) ≡ drop (suc k) xs
behind_place k xs = take_all (length xs - (k + 1)) (drop (k + 1) xs) (omega (arith, length-drop (k + 1) xs)) ∙ ap (λ j. drop j xs) (add-one k)
