-- What the room that lines leave means.
use Rattle.std.proofs.Common.{◌≡◌, ℕ, ◌+◌, ◌-◌, ◌<◌, ◌&&◌, Bool, true, false, cond, Some, None, List, ◌∷◌, ◌++◌, length, length-append, nat_le, slice_index_or, take, refl, sym, ap, ◌∙◌, arith}
use Rattle.std.specs.Prelude.{codes}
use Rattle.std.proofs.lemmas.List.Folds.{length-flat_map-take}
use Rattle.std.proofs.lemmas.Bool.{and_from, and_parts, leb-true, le-leb}
use Rattle.std.proofs.lemmas.Bool.Decides.{nat_tests}
use Rattle.hx_fields.specs.Line.{Field}
use Rattle.hx_fields.specs.Examples.{line}
use Rattle.hx_framing.specs.Text.{field_line_text, field_lines_text}
use Rattle.hx_validate.specs.Room.{LeftRoomHoldsAddedLines, FittingLinesLeaveRoom, HeadRoomIsExactToTheByte, head_leaves_room}

whole_length : (front lines behind : List ℕ) → length (front ++ lines ++ behind) ≡ length front + length lines + length behind
whole_length front lines behind =
    let outer = length-append (front ++ lines) behind in
    let inner = length-append front lines in
    omega (arith, outer, inner)

pub leaves_room_for_all : LeftRoomHoldsAddedLines
leaves_room_for_all fields beside front behind h few short =
    let parts = and_parts (nat_le (length fields + 4) 100) (nat_le (length (field_lines_text fields) + 256) 32768) h in
    let lines = leb-true (length fields + 4) 100 parts.0 in
    let bytes = leb-true (length (field_lines_text fields) + 256) 32768 parts.1 in
    let count = length-append fields beside in
    let whole = whole_length front (field_lines_text fields) behind in
    (omega (arith, lines, count, few), omega (arith, bytes, whole, short))

pub leaves_room_for_no_more : FittingLinesLeaveRoom
leaves_room_for_no_more fields beside front behind four rest few short =
    let count = length-append fields beside in
    let whole = whole_length front (field_lines_text fields) behind in
    and_from _ _ (le-leb (length fields + 4) 100 (omega (arith, few, count, four))) (le-leb (length (field_lines_text fields) + 256) 32768 (omega (arith, short, whole, rest)))

line_length : (value : List ℕ) (fields : List Field) (n : ℕ) → length (field_lines_text (line (codes "X") value ∷ fields)) ≡ n → n ≡ length value + length (field_lines_text fields) + 5
line_length value fields n whole = let parts = simp length-append at whole in omega (arith, parts)

same_test : (a b : ℕ) → a ≡ b + 5 → nat_le (a + 256) 32768 ≡ nat_le b 32507
same_test a b is = by_test (nat_le b 32507) refl
  where
    by_test : (t : Bool) → nat_le b 32507 ≡ t → nat_le (a + 256) 32768 ≡ t
    by_test true low = let few = leb-true b 32507 low in le-leb (a + 256) 32768 (omega (arith, is, few))
    by_test false high = grind (arith, nat_tests, is, high)

pub leaves_room_to_the_byte : HeadRoomIsExactToTheByte
leaves_room_to_the_byte value fields few =
    let lines = length (field_lines_text (line (codes "X") value ∷ fields)) in
    ap (λ (t : Bool). t && nat_le (lines + 256) 32768) (le-leb (length (line (codes "X") value ∷ fields) + 4) 100 (omega (arith, few)))
    ∙ same_test lines (length value + length (field_lines_text fields)) (line_length value fields lines refl)

-- where a line has more bytes than the lines before it leave of 32,512, no room is left
pub no_room : (lines : List Field) (at room : ℕ) (item : Field) → item ≡ slice_index_or lines at item → at < length lines
    → room + length (field_lines_text (take at lines)) ≡ 32512 → cond (nat_le (length (field_line_text item)) room) (Some (room - length (field_line_text item))) None ≡ None → head_leaves_room lines ≡ false
no_room lines at room item is inside sum none =
    let some = length-flat_map-take field_line_text lines at item inside in
    let one : length (field_line_text (slice_index_or lines at item)) ≡ length (field_line_text item) = ap (λ (f : Field). length (field_line_text f)) (sym is) in
    let over = above (length (field_line_text item)) room none in
    ap (λ (t : Bool). nat_le (length lines + 4) 100 && t) (past (length (field_lines_text lines)) (omega (arith, some, one, over, sum))) ∙ and_false (nat_le (length lines + 4) 100)
  where
    above : (n room : ℕ) → cond (nat_le n room) (Some (room - n)) None ≡ None → room < n
    above n room none = by_test (nat_le n room) refl none
      where
        by_test : (t : Bool) → nat_le n room ≡ t → cond t (Some (room - n)) None ≡ None → room < n
        by_test true low k = absurd cc
        by_test false high k = grind (arith, nat_tests, high)

    past : (n : ℕ) → 32512 < n → nat_le (n + 256) 32768 ≡ false
    past n high = grind (arith, nat_tests, high)

    and_false : (t : Bool) → (t && false) ≡ false
    and_false true = refl
    and_false false = refl
