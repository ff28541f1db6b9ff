-- What goes on without a cut, byte by byte, and the piece that ends.
use Rattle.std.proofs.Common.{◌≡◌, ℕ, ◌+◌, ◌<◌, ◌≤◌, true, false, List, [], ◌∷◌, ◌++◌, length, get_or, drop, sym, subst, refl, ap, ◌∙◌, arith, append-nil}
use Rattle.std.specs.Prelude.{slice_range}
use Rattle.std.proofs.lemmas.Grind.{common_steps}
use Rattle.std.proofs.lemmas.List.{drop_all}
use Rattle.hx_fields.specs.Names.{pieces, is_separating_comma, quote_state_after, ValueRunsUncutTo, all_in_front, members_of_value, member_of_piece}
use Rattle.hx_fields.specs.Names.{QuoteState, Outside, Quoted, Escaped}
use Rattle.hx_fields.proofs.Pieces.{all_in_front-nil, front_ends, front_grows, kept, next_place-cuts}

pub runs_to_itself : (value : List ℕ) (i : ℕ) → ValueRunsUncutTo value i i Outside
runs_to_itself value i =
    let none : slice_range value i i ≡ [] = grind (arith, common_steps) in
    sym (ap (λ front. all_in_front front (pieces Outside (drop i value))) none ∙ all_in_front-nil Outside (drop i value))

module _ (value : List ℕ) (start i : ℕ) (place : QuoteState) (within : start ≤ i) (at : i < length value) where
  pub runs_on : is_separating_comma place (get_or value i 0) ≡ false → ValueRunsUncutTo value start i place → ValueRunsUncutTo value start (i + 1) (quote_state_after place (get_or value i 0))
  runs_on comma h = h ∙ front_grows value start i place within at comma

  pub behind_cut : is_separating_comma place (get_or value i 0) ≡ true → ValueRunsUncutTo value start i place
      → kept (pieces Outside (drop start value)) ≡ kept (slice_range value start i ∷ []) ++ kept (pieces Outside (drop (i + 1) value))
  behind_cut comma h =
      let b = get_or value i 0 in
      let p : List ℕ = slice_range value start i in
      let rest : kept (all_in_front (slice_range value (i + 1) (i + 1)) (pieces (quote_state_after place b) (drop (i + 1) value))) ≡ kept (pieces Outside (drop (i + 1) value)) =
      ap (λ state. kept (all_in_front (slice_range value (i + 1) (i + 1)) (pieces state (drop (i + 1) value)))) (next_place-cuts place b comma)
      ∙ ap kept (sym (runs_to_itself value (i + 1))) in
      ap kept h ∙ front_ends value start i place within at comma ∙ ap (λ ms. kept (p ∷ []) ++ ms) rest

-- nothing stands behind the end, so no place there differs
pub at_end : (value : List ℕ) (start i : ℕ) (place other : QuoteState) → length value ≤ i → ValueRunsUncutTo value start i place → ValueRunsUncutTo value start i other
at_end value start i place other over h =
    let none : drop i value ≡ [] = drop_all i value over in
    h ∙ ap (λ bs. all_in_front (slice_range value start i) (pieces place bs)) none
    ∙ sym (ap (λ bs. all_in_front (slice_range value start i) (pieces other bs)) none)

pub nothing_behind : (value : List ℕ) (i : ℕ) → length value ≤ i → members_of_value (drop i value) ≡ []
nothing_behind value i over = ap members_of_value (drop_all i value over)

-- the last piece
pub behind_last : (value : List ℕ) (start i : ℕ) → length value ≤ i → ValueRunsUncutTo value start i Outside
    → members_of_value (drop start value) ≡ member_of_piece (slice_range value start i) ++ members_of_value (drop (i + 1) value)
behind_last value start i over h =
    let p : List ℕ = slice_range value start i in
    ap kept h
    ∙ ap (λ bs. kept (all_in_front p (pieces Outside bs))) (drop_all i value over)
    ∙ ap (λ q. kept (q ∷ [])) (append-nil p)
    ∙ sym (append-nil (kept (p ∷ [])))
    ∙ ap (λ ms. kept (p ∷ []) ++ ms) (sym (nothing_behind value (i + 1) (omega arith)))

-- in quotes, by what the byte is
closes : (b : ℕ) → b ≡ 34 → quote_state_after Quoted b ≡ Outside
closes b h = rw h refl

takes_the_next : (b : ℕ) → b ≡ 92 → quote_state_after Quoted b ≡ Escaped
takes_the_next b h = rw h refl

goes_on : (b : ℕ) → (b ≡ 34 → ⊥) → (b ≡ 92 → ⊥) → quote_state_after Quoted b ≡ Quoted
goes_on b quote backslash = grind (arith, common_steps)

opens : (b : ℕ) → b ≡ 34 → quote_state_after Outside b ≡ Quoted
opens b h = rw h refl

stays : (b : ℕ) → (b ≡ 34 → ⊥) → quote_state_after Outside b ≡ Outside
stays b h = grind (arith, common_steps)

cuts_not : (b : ℕ) → (b ≡ 44 → ⊥) → is_separating_comma Outside b ≡ false
cuts_not b h = grind (arith, common_steps)

module _ (value : List ℕ) (start i : ℕ) (within : start ≤ i) (at : i < length value) where
  pub quote_closes : get_or value i 0 ≡ 34 → ValueRunsUncutTo value start i Quoted → ValueRunsUncutTo value start (i + 1) Outside
  quote_closes b h = subst (ValueRunsUncutTo value start (i + 1)) (closes (get_or value i 0) b) (runs_on value start i Quoted within at refl h)

  pub quoted_byte : (get_or value i 0 ≡ 34 → ⊥) → (get_or value i 0 ≡ 92 → ⊥) → ValueRunsUncutTo value start i Quoted → ValueRunsUncutTo value start (i + 1) Quoted
  quoted_byte b c h = subst (ValueRunsUncutTo value start (i + 1)) (goes_on (get_or value i 0) b c) (runs_on value start i Quoted within at refl h)

  pub quoted_pair : i + 1 < length value → get_or value i 0 ≡ 92 → ValueRunsUncutTo value start i Quoted → ValueRunsUncutTo value start (i + 2) Quoted
  quoted_pair more b h =
      let one : ValueRunsUncutTo value start (i + 1) Escaped = subst (ValueRunsUncutTo value start (i + 1)) (takes_the_next (get_or value i 0) b) (runs_on value start i Quoted within at refl h) in
      let two : ValueRunsUncutTo value start (i + 1 + 1) Quoted = runs_on value start (i + 1) Escaped (omega arith) more refl one in
      subst (λ (n : ℕ). ValueRunsUncutTo value start n Quoted) (omega arith) two

  pub quoted_last : length value ≤ i + 1 → ValueRunsUncutTo value start i Quoted → ValueRunsUncutTo value start (i + 1) Quoted
  quoted_last last h = at_end value start (i + 1) (quote_state_after Quoted (get_or value i 0)) Quoted last (runs_on value start i Quoted within at refl h)

  pub quote_opens : get_or value i 0 ≡ 34 → ValueRunsUncutTo value start i Outside → ValueRunsUncutTo value start (i + 1) Quoted
  quote_opens b h =
      subst (ValueRunsUncutTo value start (i + 1)) (opens (get_or value i 0) b)
      (runs_on value start i Outside within at (rw b refl) h)

  pub plain_byte : (get_or value i 0 ≡ 44 → ⊥) → (get_or value i 0 ≡ 34 → ⊥) → ValueRunsUncutTo value start i Outside → ValueRunsUncutTo value start (i + 1) Outside
  plain_byte comma quote h =
      subst (ValueRunsUncutTo value start (i + 1)) (stays (get_or value i 0) quote)
      (runs_on value start i Outside within at (cuts_not (get_or value i 0) comma) h)

  pub behind_comma : get_or value i 0 ≡ 44 → ValueRunsUncutTo value start i Outside
      → members_of_value (drop start value) ≡ member_of_piece (slice_range value start i) ++ members_of_value (drop (i + 1) value)
  behind_comma b h = behind_cut value start i Outside within at (rw b refl) h
