-- Sixteen places at which no empty line begins, from the empty mask of two loads.
use Rattle.std.proofs.Common.{◌≡◌, ℕ, zero, suc, ◌+◌, ◌-◌, ◌%◌, ◌^◌, ◌<◌, ◌≤◌, eqb, Bool, true, false, not, ◌&&◌, ◌||◌, cond, List, [], ◌∷◌, map, length, get_or, drop, get_or-drop, bit_and, bit_or, refl, sym, ap, ap₂, ◌∙◌, subst, arith}
use Rattle.std.proofs.lemmas.Bool.{not-true, eqb-true}
use Rattle.std.proofs.lemmas.List.{length-map}
use Rattle.std.proofs.Math.ListN.{get_or-map}
use Rattle.std.proofs.lemmas.List.Sums.{prefix_len_passes}
use Rattle.std.proofs.lemmas.Simd.{mask_l-mod, length-chunk, get_or-chunk, get_or-zip2, leading_from_mask_l, length-zip2}
use lib.Lanes.{chunk, zip2, mask_l, top}
use Rattle.hx_framing.specs.HeadEnd.{head_end_size_at_front, head_end_from}
use Rattle.hx_framing.proofs.PlaceSteps.{empty_more}

-- so many places at once
pub quiet_more : (n at : ℕ) (bytes : List ℕ) → at + n ≤ length bytes → ((k : ℕ) → at ≤ k → k < at + n → head_end_size_at_front (drop k bytes) ≡ 0)
    → head_end_from (at + n) (drop (at + n) bytes) ≡ head_end_from at (drop at bytes)
quiet_more zero at bytes within quiet =
    let same : at + 0 ≡ at = omega arith in
    ap (λ m. head_end_from m (drop m bytes)) same
quiet_more (suc n) at bytes within quiet =
    let same : at + suc n ≡ at + 1 + n = omega arith in
    let more = quiet_more n (at + 1) bytes (omega arith) (λ k from to. quiet k (omega arith) (omega arith)) in
    ap (λ m. head_end_from m (drop m bytes)) same ∙ (more ∙ empty_more at bytes (omega arith) (quiet at (omega arith) (omega arith)))

zip2-map : (h : ℕ → ℕ → ℕ) (f g : ℕ → ℕ) (xs : List ℕ) → zip2 h (map f xs) (map g xs) ≡ map (λ x. h (f x) (g x)) xs
zip2-map h f g [] = refl
zip2-map h f g (x ∷ xs) = ap (λ r. h (f x) (g x) ∷ r) (zip2-map h f g xs)

-- an operation on two vectors that were computed lane by lane from v
pub joined : (h : ℕ → ℕ → ℕ) (f g : ℕ → ℕ) (v : List ℕ) {a b : List ℕ} → a ≡ map f v → b ≡ map g v → zip2 h a b ≡ map (λ x. h (f x) (g x)) v
joined h f g v p q = ap₂ (zip2 h) p q ∙ zip2-map h f g v

-- LF, and in the other load LF or CR
abbrev pub is_end : ℕ → ℕ
is_end a = cond (eqb a 10) 255 0

abbrev pub is_begin : ℕ → ℕ
is_begin b = bit_or (cond (eqb b 10) 255 0) (cond (eqb b 13) 255 0)

lane : (x y z : Bool) → top 7 (bit_and (cond x 255 0) (bit_or (cond y 255 0) (cond z 255 0))) ≡ false → (x && (y || z)) ≡ false
lane true true true h = h
lane true true false h = h
lane true false true h = h
lane true false false h = refl
lane false y z h = refl

abbrev size : Bool → Bool → Bool → Bool → ℕ
size x y z u = cond (x && y) 2 (cond (x && z && u) 3 0)

none_here : (x y z u : Bool) → (x && (y || z)) ≡ false → size x y z u ≡ 0
none_here false y z u h = refl
none_here true true z u h = cc
none_here true false true u h = cc
none_here true false false u h = refl

pub quiet_block : (bytes : List ℕ) (at : ℕ) → at + 17 ≤ length bytes → (z : List ℕ) → z ≡ zip2 bit_and (map is_end (chunk at 16 bytes)) (map is_begin (chunk (at + 1) 16 bytes))
    → eqb (mask_l (map (top 7) z) % 2 ^ 64) 0 ≡ true → (k : ℕ) → at ≤ k → k < at + 16 → head_end_size_at_front (drop k bytes) ≡ 0
quiet_block bytes at room z lanes none k from to =
    let v = chunk at 16 bytes in
    let w = chunk (at + 1) 16 bytes in
    let long_v = length-map v is_end ∙ length-chunk at 16 bytes (omega arith) in
    let long_w = length-map w is_begin ∙ length-chunk (at + 1) 16 bytes (omega arith) in
    let long : length z ≡ 16 = ap length lanes ∙ (length-zip2 bit_and (map is_end v) (map is_begin w) (long_v ∙ sym long_w) ∙ long_v) in
    let mask = mask_l-mod (map (top 7) z) 64 (omega (arith, length-map z (top 7), long)) in
    let whole = leading_from_mask_l (top 7) z (sym mask ∙ eqb-true _ 0 none) in
    let j = k - at in
    let inside : j < 16 = omega arith in
    let clear : top 7 (get_or z j 0) ≡ false = not-true _ (prefix_len_passes (λ x. not (top 7 x)) z j 0 (omega (arith, whole, long))) in
    let x = get_or (drop k bytes) 0 0 in
    let y = get_or (drop k bytes) 1 0 in
    let here : at + j ≡ k + 0 = omega arith in
    let next : at + 1 + j ≡ k + 1 = omega arith in
    let first : get_or v j 0 ≡ x = get_or-chunk at 16 bytes j 0 inside ∙ (ap (λ m. get_or bytes m 0) here ∙ sym (get_or-drop k bytes 0 0)) in
    let second : get_or w j 0 ≡ y = get_or-chunk (at + 1) 16 bytes j 0 inside ∙ (ap (λ m. get_or bytes m 0) next ∙ sym (get_or-drop k bytes 1 0)) in
    let both : get_or z j 0 ≡ bit_and (is_end x) (is_begin y) =
    ap (λ l. get_or l j 0) lanes ∙ (get_or-zip2 bit_and (map is_end v) (map is_begin w) j 0 0 0 (omega (arith, long_v)) (omega (arith, long_w))
    ∙ ap₂ bit_and (get_or-map is_end v j 0 ∙ ap is_end first) (get_or-map is_begin w j 0 ∙ ap is_begin second)) in
    none_here (eqb x 10) (eqb y 10) (eqb y 13) (eqb (get_or (drop k bytes) 2 0) 10) (lane (eqb x 10) (eqb y 10) (eqb y 13) (subst (λ n. top 7 n ≡ false) both clear))
