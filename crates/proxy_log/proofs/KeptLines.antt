-- What is kept of a head, line by line.
use Rattle.std.proofs.Common.{◌≡◌, ℕ, ◌==◌, not, Bool, true, false, cond, List, [], ◌∷◌, ◌++◌, Option, Some, None, subst, refl, sym, ap, ◌∙◌}
use Rattle.std.proofs.lemmas.Bool.{eqb-true, false≢true}
use Rattle.std.proofs.lemmas.List.{append_assoc, append-nil}
use Rattle.std.proofs.lemmas.List.Folds.{list_all-append}
use Rattle.std.specs.Option.{option_map}
use Rattle.hx_fields.specs.Names.{split_at_first_byte}
use Rattle.hx_framing.specs.HeadLines.{is_empty_line}
use Rattle.hx_framing.specs.Version.{without_trailing_cr}
use Rattle.proxy_log.specs.Asked.{first_line, first_nonempty_line}
use Rattle.proxy_log.specs.KeptLine.{RequestLineOfHeadIsKept, has_no_lf}
use Rattle.proxy_log.specs.TextLines.{whole_lines}
use Rattle.proxy_log.specs.declared.kept_line.RequestLine.{RequestLine}
use Rattle.proxy_log.proofs.HeadLines.{first_line_is}

-- of what was kept, and a piece, this is kept, and this is left
pub record GoesOn (old piece text rest : List ℕ) : Type 0 where
  pub same : (more : List ℕ) → first_line (text ++ (rest ++ more)) ≡ first_line (old ++ (piece ++ more))
  pub unended : has_no_lf text ≡ true

-- ---- cuts

abbrev CutOf : List ℕ → Option (List ℕ × List ℕ) → Type 0
CutOf rest None = has_no_lf rest ≡ true
CutOf rest (Some p) = (rest ≡ p.0 ++ (10 ∷ p.1)) × (has_no_lf p.0 ≡ true)

cut_of : (rest : List ℕ) → CutOf rest (split_at_first_byte 10 rest)
cut_of [] = refl
cut_of (b ∷ bs) = by_test (b == 10) refl (cut_of bs)
  where
    longer : (b == 10) ≡ false → (r : Option (List ℕ × List ℕ)) → CutOf bs r → CutOf (b ∷ bs) (option_map (λ q. (b ∷ q.0, q.1)) r)
    longer other None none = rw (other, none) refl
    longer other (Some q) cut = (ap (λ (z : List ℕ). b ∷ z) cut.0, rw (other, cut.1) refl)

    by_test : (t : Bool) → (b == 10) ≡ t → CutOf bs (split_at_first_byte 10 bs) → CutOf (b ∷ bs) (cond t (Some ([], bs)) (option_map (λ q. (b ∷ q.0, q.1)) (split_at_first_byte 10 bs)))
    by_test true is later = (ap (λ (z : ℕ). z ∷ bs) (eqb-true b 10 is), refl)
    by_test false is later = longer is (split_at_first_byte 10 bs) later

cut_is : (rest : List ℕ) (p : List ℕ × List ℕ) → Some p ≡ split_at_first_byte 10 rest → CutOf rest (Some p)
cut_is rest p cut = subst (λ (r : Option (List ℕ × List ℕ)). CutOf rest r) (sym cut) (cut_of rest)

no_cut : (rest : List ℕ) → None ≡ split_at_first_byte 10 rest → has_no_lf rest ≡ true
no_cut rest cut = subst (λ (r : Option (List ℕ × List ℕ)). CutOf rest r) (sym cut) (cut_of rest)

-- ---- steps

both_unended : (a b : List ℕ) → has_no_lf a ≡ true → has_no_lf b ≡ true → has_no_lf (a ++ b) ≡ true
both_unended a b first second = list_all-append (λ c. not (c == 10)) a b ∙ rw first second

-- the line that ends in the piece
ends_here : (old piece text rest line behind : List ℕ) → GoesOn old piece text rest → Some (line, behind) ≡ split_at_first_byte 10 rest → (more : List ℕ)
    → first_line (old ++ (piece ++ more)) ≡ first_nonempty_line ((text ++ line, behind ++ more) ∷ whole_lines (behind ++ more))
ends_here old piece text rest line behind on cut more =
    let found = cut_is rest (line, behind) cut in
    sym (on.same more) ∙ ap (λ (z : List ℕ). first_line (text ++ (z ++ more))) found.0
    ∙ ap (λ (z : List ℕ). first_line (text ++ z)) (append_assoc line (10 ∷ behind) more)
    ∙ ap first_line (sym (append_assoc text line (10 ∷ (behind ++ more))))
    ∙ ap first_nonempty_line (first_line_is (text ++ line) (behind ++ more) (both_unended text line on.unended found.1))

pub line_unended : (old piece text rest line behind : List ℕ) → GoesOn old piece text rest → Some (line, behind) ≡ split_at_first_byte 10 rest → has_no_lf (text ++ line) ≡ true
line_unended old piece text rest line behind on cut = both_unended text line on.unended (cut_is rest (line, behind) cut).1

pub passed_over : (old piece text rest line behind : List ℕ) → GoesOn old piece text rest → Some (line, behind) ≡ split_at_first_byte 10 rest → is_empty_line (text ++ line) ≡ true
    → GoesOn old piece [] behind
passed_over old piece text rest line behind on cut empty = record {
  same = λ more.
      let here : first_nonempty_line ((text ++ line, behind ++ more) ∷ whole_lines (behind ++ more)) ≡ first_line (behind ++ more) = rw empty refl in
      sym (ends_here old piece text rest line behind on cut more ∙ here);
  unended = refl;
}

-- a line that isn't empty, and its LF
closed : (line : List ℕ) → has_no_lf line ≡ true → is_empty_line line ≡ false → (more : List ℕ) → first_line ((line ++ 10 ∷ []) ++ more) ≡ Some (without_trailing_cr line)
closed line unended other more =
    let here : first_nonempty_line ((line, more) ∷ whole_lines more) ≡ Some (without_trailing_cr line) = rw other refl in
    ap first_line (append_assoc line (10 ∷ []) more) ∙ ap first_nonempty_line (first_line_is line more unended) ∙ here

pub found_whole : (head old piece text rest line behind : List ℕ) (before after : RequestLine) → before.text.items ≡ old → RequestLineOfHeadIsKept head before → GoesOn old piece text rest
    → Some (line, behind) ≡ split_at_first_byte 10 rest → is_empty_line (text ++ line) ≡ false → after.is_over ≡ true → after.text.items ≡ (text ++ line) ++ 10 ∷ []
    → RequestLineOfHeadIsKept (head ++ piece) after
found_whole head old piece text rest line behind before after was kept on cut other over is = record {
  same = λ more.
      let here : first_nonempty_line ((text ++ line, behind ++ more) ∷ whole_lines (behind ++ more)) ≡ Some (without_trailing_cr (text ++ line)) = rw other refl in
      ap first_line (append_assoc head piece more) ∙ kept.same (piece ++ more) ∙ ap (λ (z : List ℕ). first_line (z ++ (piece ++ more))) was
      ∙ ends_here old piece text rest line behind on cut more ∙ here ∙ sym (ap (λ (z : List ℕ). first_line (z ++ more)) is ∙ shut more);
  unended = λ now. absurd (false≢true (sym now ∙ over));
  over = λ now more. ap (λ (z : List ℕ). first_line (z ++ more)) is ∙ shut more ∙ sym (ap first_line (sym (append-nil after.text.items)) ∙ ap (λ (z : List ℕ). first_line (z ++ [])) is ∙ shut []);
}
  where
    shut : (more : List ℕ) → first_line (((text ++ line) ++ 10 ∷ []) ++ more) ≡ Some (without_trailing_cr (text ++ line))
    shut = closed (text ++ line) (line_unended old piece text rest line behind on cut) other

pub goes_on : (head old piece text rest : List ℕ) (before after : RequestLine) → before.text.items ≡ old → RequestLineOfHeadIsKept head before → GoesOn old piece text rest
    → None ≡ split_at_first_byte 10 rest → after.is_over ≡ false → after.text.items ≡ text ++ rest → RequestLineOfHeadIsKept (head ++ piece) after
goes_on head old piece text rest before after was kept on none under is = record {
  same = λ more.
      ap first_line (append_assoc head piece more) ∙ kept.same (piece ++ more) ∙ ap (λ (z : List ℕ). first_line (z ++ (piece ++ more))) was
      ∙ sym (on.same more) ∙ ap first_line (sym (append_assoc text rest more)) ∙ sym (ap (λ (z : List ℕ). first_line (z ++ more)) is);
  unended = λ now. ap has_no_lf is ∙ both_unended text rest on.unended (no_cut rest none);
  over = λ now. absurd (false≢true (sym under ∙ now));
}
