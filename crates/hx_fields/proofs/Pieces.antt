-- Laws of the pieces between commas.
use Rattle.std.proofs.Common.{◌≡◌, ℕ, suc, ◌+◌, ◌-◌, ◌<◌, ◌≤◌, Bool, true, false, List, [], ◌∷◌, ◌++◌, length, get_or, drop, take, refl, sym, ◌∙◌, ap, cond, arith, append_assoc, add-one, append-nil, ◌||◌, inl, inr}
use Rattle.std.specs.Prelude.{slice_range, filter, map, ◌==◌}
use Rattle.std.proofs.Math.Seq.{drop-cons, take-suc}
use Rattle.std.proofs.lemmas.List.{get_or-drop, length-drop}
use Rattle.std.proofs.lemmas.Grind.{common_steps}
use Rattle.std.proofs.lemmas.Bool.{cases_Bool}
use Rattle.std.specs.List.{prefix_len, suffix_len}
pub use Rattle.hx_fields.specs.Names.{all_in_front}
use Rattle.hx_fields.specs.Names.{pieces, byte_before_first_piece, is_separating_comma, quote_state_after, trimmed, is_nonempty, is_blank, members_of_value}
use Rattle.hx_fields.specs.Names.{QuoteState, Outside, Quoted, Escaped}

-- the members among some pieces
abbrev pub kept : List (List ℕ) → List (List ℕ)
kept ps = filter is_nonempty (map trimmed ps)

-- a byte in front is one more byte of the front
pub all_in_front-in_front : (cur : List ℕ) (b : ℕ) (ps : List (List ℕ)) → all_in_front cur (byte_before_first_piece b ps) ≡ all_in_front (cur ++ b ∷ []) ps
all_in_front-in_front cur b [] = refl
all_in_front-in_front cur b (p ∷ ps) = ap (λ q. q ∷ ps) (sym (append_assoc cur (b ∷ []) p))

-- nothing in front changes nothing
pub all_in_front-nil : (place : QuoteState) (text : List ℕ) → all_in_front [] (pieces place text) ≡ pieces place text
all_in_front-nil place [] = refl
all_in_front-nil place (b ∷ bs) =
    let P : List (List ℕ) → Type 0 = λ ps. all_in_front [] (byte_before_first_piece b ps) ≡ byte_before_first_piece b ps in
    let front : P (pieces (quote_state_after place b) bs) = front_of b (pieces (quote_state_after place b) bs) in
    elim (is_separating_comma place b) as (λ t. all_in_front [] (cond t ([] ∷ pieces Outside bs) (byte_before_first_piece b (pieces (quote_state_after place b) bs)))
    ≡ cond t ([] ∷ pieces Outside bs) (byte_before_first_piece b (pieces (quote_state_after place b) bs))) [ true ↦ refl | false ↦ front ]
  where
    front_of : (b : ℕ) (ps : List (List ℕ)) → all_in_front [] (byte_before_first_piece b ps) ≡ byte_before_first_piece b ps
    front_of b [] = refl
    front_of b (p ∷ ps) = refl

-- filtering goes element by element
pub filter-cons : {X : Type 0} (p : X → Bool) (x : X) (xs : List X) → filter p (x ∷ xs) ≡ filter p (x ∷ []) ++ filter p xs
filter-cons p x xs = elim (p x) as (λ t. cond t (x ∷ filter p xs) (filter p xs) ≡ cond t (x ∷ []) [] ++ filter p xs) [ true ↦ refl | false ↦ refl ]

-- a byte that cuts stands outside quotes, and so does the next
pub next_place-cuts : (place : QuoteState) (b : ℕ) → is_separating_comma place b ≡ true → quote_state_after place b ≡ Outside
next_place-cuts Outside b h = grind (arith, common_steps)
next_place-cuts Quoted b h = cc
next_place-cuts Escaped b h = cc

-- the pieces at a byte that doesn't cut, and at one that does
pub pieces-goes_on : (place : QuoteState) (b : ℕ) (bs : List ℕ) → is_separating_comma place b ≡ false → pieces place (b ∷ bs) ≡ byte_before_first_piece b (pieces (quote_state_after place b) bs)
pieces-goes_on place b bs h = rw h refl

pub pieces-cut : (place : QuoteState) (b : ℕ) (bs : List ℕ) → is_separating_comma place b ≡ true → pieces place (b ∷ bs) ≡ [] ∷ pieces Outside bs
pieces-cut place b bs h = rw h refl

-- a part with one more byte
pub range_grows : (v : List ℕ) (s i : ℕ) → s ≤ i → i < length v → slice_range v s (i + 1) ≡ slice_range v s i ++ get_or v i 0 ∷ []
range_grows v s i within at =
    let e : i + 1 - s ≡ suc (i - s) = omega arith in
    let place : s + (i - s) ≡ i = omega arith in
    let inside : i - s < length (drop s v) = simp length-drop (omega arith) in
    rw e (take-suc (drop s v) (i - s) 0 inside ∙ ap (λ x. slice_range v s i ++ x ∷ []) (get_or-drop s v (i - s) 0 ∙ ap (λ k. get_or v k 0) place))

module _ (value : List ℕ) (start i : ℕ) (place : QuoteState) (within : start ≤ i) (at : i < length value) where
  -- the next byte joins the front
  pub front_grows : is_separating_comma place (get_or value i 0) ≡ false
      → all_in_front (slice_range value start i) (pieces place (drop i value))
      ≡ all_in_front (slice_range value start (i + 1)) (pieces (quote_state_after place (get_or value i 0)) (drop (i + 1) value))
  front_grows h =
      let b : ℕ = get_or value i 0 in
      let cur : List ℕ = slice_range value start i in
      let e : drop i value ≡ b ∷ drop (i + 1) value = rw add-one (drop-cons value i 0 at) in
      let longer : cur ++ b ∷ [] ≡ slice_range value start (i + 1) = sym (range_grows value start i within at) in
      ap (λ t. all_in_front cur (pieces place t)) e
      ∙ ap (λ ps. all_in_front cur ps) (pieces-goes_on place b (drop (i + 1) value) h)
      ∙ all_in_front-in_front cur b (pieces (quote_state_after place b) (drop (i + 1) value))
      ∙ ap (λ q. all_in_front q (pieces (quote_state_after place b) (drop (i + 1) value))) longer

  -- the front is a piece
  pub front_ends : is_separating_comma place (get_or value i 0) ≡ true
      → kept (all_in_front (slice_range value start i) (pieces place (drop i value)))
      ≡ kept (slice_range value start i ∷ []) ++ kept (all_in_front (slice_range value (i + 1) (i + 1)) (pieces (quote_state_after place (get_or value i 0)) (drop (i + 1) value)))
  front_ends h =
      let b : ℕ = get_or value i 0 in
      let cur : List ℕ = slice_range value start i in
      let rest : List (List ℕ) = pieces Outside (drop (i + 1) value) in
      let e : drop i value ≡ b ∷ drop (i + 1) value = rw add-one (drop-cons value i 0 at) in
      let none : slice_range value (i + 1) (i + 1) ≡ [] = grind (arith, common_steps) in
      let after : all_in_front (slice_range value (i + 1) (i + 1)) (pieces (quote_state_after place b) (drop (i + 1) value)) ≡ rest
      = rw (none, next_place-cuts place b h) (all_in_front-nil Outside (drop (i + 1) value)) in
      ap (λ t. kept (all_in_front cur (pieces place t))) e
      ∙ ap (λ ps. kept (all_in_front cur ps)) (pieces-cut place b (drop (i + 1) value) h)
      ∙ ap (λ q. kept (q ∷ rest)) (append-nil cur)
      ∙ filter-cons is_nonempty (trimmed cur) (map trimmed rest)
      ∙ ap (λ ps. kept (cur ∷ []) ++ kept ps) (sym after)

-- a comma or a blank in front of the first member changes no member
comma_in_front : (bs : List ℕ) → members_of_value (44 ∷ bs) ≡ members_of_value bs
comma_in_front bs = refl

blank_is_trimmed : (b : ℕ) (p : List ℕ) → is_blank b ≡ true → trimmed (b ∷ p) ≡ trimmed p
blank_is_trimmed b p h =
    ap (λ t. take (length t - suffix_len is_blank t) t)
    (ap (λ c. drop (cond c (1 + prefix_len is_blank p) 0) (b ∷ p)) h ∙ ap (λ k. drop k (b ∷ p)) (one_more (prefix_len is_blank p)))
  where
    one_more : (n : ℕ) → 1 + n ≡ suc n
    one_more n = omega arith

in_front_of_a_piece : (b : ℕ) (ps : List (List ℕ)) → is_blank b ≡ true → kept (byte_before_first_piece b ps) ≡ kept ps
in_front_of_a_piece b [] h = rw (blank_is_trimmed b [] h) refl
in_front_of_a_piece b (p ∷ ps) h = ap (λ t. filter is_nonempty (t ∷ map trimmed ps)) (blank_is_trimmed b p h)

is_no_comma : (b : ℕ) → is_blank b ≡ true → is_separating_comma Outside b ≡ false
is_no_comma b h = grind (arith, common_steps)

is_no_quote : (b : ℕ) → is_blank b ≡ true → quote_state_after Outside b ≡ Outside
is_no_quote b h = grind (arith, common_steps)

blank_in_front : (b : ℕ) (bs : List ℕ) → is_blank b ≡ true → members_of_value (b ∷ bs) ≡ members_of_value bs
blank_in_front b bs h =
    ap kept (pieces-goes_on Outside b bs (is_no_comma b h))
    ∙ ap (λ place. kept (byte_before_first_piece b (pieces place bs))) (is_no_quote b h)
    ∙ in_front_of_a_piece b (pieces Outside bs) h

pub separator_in_front : (b : ℕ) (bs : List ℕ) → (is_blank b || b == 44) ≡ true → members_of_value (b ∷ bs) ≡ members_of_value bs
separator_in_front b bs h = elim (cases_Bool (is_blank b)) [
  | inl t ↦ blank_in_front b bs t
  | inr f ↦ ap (λ c. members_of_value (c ∷ bs)) (is_comma b (sym (ap (λ s. s || b == 44) f) ∙ h))
]
  where
    is_comma : (b : ℕ) → (b == 44) ≡ true → b ≡ 44
    is_comma b e = grind (arith, common_steps)

pub separator_at : (value : List ℕ) (i : ℕ) → i < length value → (is_blank (get_or value i 0) || get_or value i 0 == 44) ≡ true →
    members_of_value (drop (i + 1) value) ≡ members_of_value (drop i value)
separator_at value i at h =
    let b : ℕ = get_or value i 0 in
    let e : drop i value ≡ b ∷ drop (i + 1) value = rw add-one (drop-cons value i 0 at) in
    sym (ap members_of_value e ∙ separator_in_front b (drop (i + 1) value) h)
