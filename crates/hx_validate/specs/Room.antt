-- Whether the head of a stored response leaves room for what stands beside its lines where it is
-- sent, so that the whole is within the limits of a head (RFC 9110, section 5.4, which sets none,
-- and lets each recipient have its own).
--
-- head_leaves_room: it does     LeftRoomHoldsAddedLines, FittingLinesLeaveRoom: and what that means
use Rattle.std.specs.Prelude.{◌≡◌, ℕ, ◌+◌, ◌≤◌, nat_le, ◌&&◌, Bool, true, List, ◌∷◌, ◌++◌, length, codes}
use Rattle.hx_fields.specs.Line.{Field}
use Rattle.hx_fields.specs.Examples.{line}
use Rattle.hx_framing.specs.HeadEnd.{most_field_lines, most_head_bytes}
use Rattle.hx_framing.specs.Text.{field_lines_text}

-- Age, Cache-Status, Content-Length and Connection stand beside them
abbrev pub most_field_lines_added : ℕ
most_field_lines_added = 4

-- the status line, these four and the empty line are at most 231 bytes, with some to spare
abbrev pub most_bytes_added_to_sent_head : ℕ
most_bytes_added_to_sent_head = 256

-- own: a freshened response is kept only where it leaves so much
abbrev pub head_leaves_room : List Field → Bool
head_leaves_room fields =
    nat_le (length fields + most_field_lines_added) most_field_lines
    && nat_le (length (field_lines_text fields) + most_bytes_added_to_sent_head) most_head_bytes

-- ---- the statements

-- whatever lines and bytes stand beside them, in front or behind: where these are so few, the whole
-- is within the limits
abbrev pub LeftRoomHoldsAddedLines : Type 0
LeftRoomHoldsAddedLines = (fields beside : List Field) (front behind : List ℕ) → head_leaves_room fields ≡ true
    → length beside ≤ most_field_lines_added → length front + length behind ≤ most_bytes_added_to_sent_head
    → (length (fields ++ beside) ≤ most_field_lines)
    × (length (front ++ field_lines_text fields ++ behind) ≤ most_head_bytes)

-- where so many do stand beside them and the whole is within the limits, room was left
abbrev pub FittingLinesLeaveRoom : Type 0
FittingLinesLeaveRoom = (fields beside : List Field) (front behind : List ℕ) → length beside ≡ most_field_lines_added
    → length front + length behind ≡ most_bytes_added_to_sent_head → length (fields ++ beside) ≤ most_field_lines
    → length (front ++ field_lines_text fields ++ behind) ≤ most_head_bytes → head_leaves_room fields ≡ true

-- a line `X: VALUE` before at most 95 others: with 32,507 bytes of its value and these lines there
-- is room, with one more there is none
abbrev pub HeadRoomIsExactToTheByte : Type 0
HeadRoomIsExactToTheByte = (value : List ℕ) (fields : List Field) → length fields ≤ 95
    → head_leaves_room (line (codes "X") value ∷ fields) ≡ nat_le (length value + length (field_lines_text fields)) 32507
