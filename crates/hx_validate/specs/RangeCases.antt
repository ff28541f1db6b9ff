-- What the worked cases of ranges speak of.
use Rattle.std.specs.Prelude.{ℕ, List, [], ◌∷◌, codes}
use Rattle.hx_fields.specs.Line.{Field}
use Rattle.hx_fields.specs.Examples.{line}
use Rattle.hx_store.specs.Stored.{Stored}
use Rattle.hx_validate.specs.Cases.{asked_get_with, many_lines, stored_with_fields}
use Rattle.hx_validate.specs.Ranges.{answer_to_range_if_any, range_answer, byte_range_of_value}
use Rattle.hx_validate.specs.Ranges.{response_as_range_or_whole}
use Rattle.hx_validate.specs.declared.ranges.RangeAnswer.{RangeAnswer}

-- what of a content of so many bytes answers a Range
abbrev pub answer_to_range_text : ℕ → List ℕ → RangeAnswer
answer_to_range_text total value = answer_to_range_if_any total (byte_range_of_value value)

abbrev pub range_line : List ℕ → Field
range_line value = line (codes "Range") value

abbrev pub if_range_line : List ℕ → Field
if_range_line value = line (codes "If-Range") value

-- what of the two bytes of a response of these lines answers a request for the second, beside others of its own
abbrev pub answer_with : List Field → List Field → RangeAnswer
answer_with beside stored = range_answer (asked_get_with (range_line (codes "bytes=1-1") ∷ beside)) (stored_with_fields stored)

-- ten bytes without lines, and a part of them
abbrev pub stored_of_ten_bytes : Stored
stored_of_ten_bytes = record (stored_with_fields []) { content = codes "0123456789" }

abbrev pub stored_part_of_ten_bytes : List ℕ → List ℕ → Stored
stored_part_of_ten_bytes text content =
    record stored_of_ten_bytes { status = 206; fields = line (codes "Content-Range") text ∷ []; content = content }

-- the status of a part of what has so many lines
abbrev pub range_status_for_line_count : ℕ → ℕ
range_status_for_line_count n = (response_as_range_or_whole (asked_get_with (range_line (codes "bytes=1-1")
    ∷ [])) (stored_with_fields (many_lines n))).status
