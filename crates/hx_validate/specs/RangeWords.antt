-- What the definitions of ranges say, in the standard's words (RFC 9110, sections 13.1.5, 14.1.2, 14.2 and 14.4).
--
-- PartIsWithinTheContent, PartHasExactlyTheBytesAskedFor: the part that is sent     UnsatisfiableRangeAsksForNoByte:
-- the range that has none
-- RangeOfAnotherMethodIsIgnored, OnlyA200HasParts, WithoutOneByteRangeTheWholeIsSent, FailedIfRangeSendsTheWhole: what
-- is
-- sent whole
use Rattle.std.specs.Prelude.{◌≡◌, ℕ, ◌+◌, ◌<◌, ◌≤◌, false, codes, None}
use Rattle.hx_hop.specs.declared.request_view.Asked.{Asked}
use Rattle.hx_store.specs.Stored.{Stored}
use Rattle.hx_validate.specs.Ranges.{answer_to_range, if_range_holds, range_asked, response_as_range_or_whole}
use Rattle.hx_validate.specs.declared.ranges.ByteRange.{ByteRange}
use Rattle.hx_validate.specs.declared.ranges.ByteRange.TheVariants.{FromTo, From, Last}
use Rattle.hx_validate.specs.declared.ranges.RangeAnswer.TheVariants.{Part, Unsatisfiable}

-- a range that is read isn't invalid: its last byte isn't in front of its first
abbrev pub RangeIsInOrder : ByteRange → Type 0
RangeIsInOrder (FromTo first last) = first ≤ last
RangeIsInOrder (From first) = Unit {0}
RangeIsInOrder (Last most) = Unit {0}

-- a part has a byte at least, and none that isn't there
abbrev pub PartIsWithinTheContent : Type 0
PartIsWithinTheContent = (total : ℕ) (range : ByteRange) (first last : ℕ) → answer_to_range total range
    ≡ Part first last
    → RangeIsInOrder range → (first ≤ last) × (last < total)

-- the byte of this index is asked for: it is at or behind the first and not behind the last, or one of so many at the
-- end
abbrev pub ByteIsAskedForByRange : ℕ → ByteRange → ℕ → Type 0
ByteIsAskedForByRange total (FromTo first last) at = (first ≤ at) × (at ≤ last)
ByteIsAskedForByRange total (From first) at = first ≤ at
ByteIsAskedForByRange total (Last most) at = total ≤ at + most

-- of what is there the part is just what is asked for
abbrev pub PartHasExactlyTheBytesAskedFor : Type 0
PartHasExactlyTheBytesAskedFor = (total : ℕ) (range : ByteRange) (first last at : ℕ) → answer_to_range total range
    ≡ Part first last
    → at < total → ((first ≤ at) × (at ≤ last) → ByteIsAskedForByRange total range at)
    × (ByteIsAskedForByRange total range at → (first ≤ at) × (at ≤ last))

-- where the range can't be satisfied nothing that is there is asked for
abbrev pub UnsatisfiableRangeAsksForNoByte : Type 0
UnsatisfiableRangeAsksForNoByte = (total : ℕ) (range : ByteRange) (at : ℕ) → answer_to_range total range ≡ Unsatisfiable
    → at < total → ByteIsAskedForByRange total range at → ⊥

-- "A server MUST ignore a Range header field received with a request method that is unrecognized or for which range
-- handling is not defined"
abbrev pub RangeOfAnotherMethodIsIgnored : Type 0
RangeOfAnotherMethodIsIgnored = (asked : Asked) (e : Stored) → (asked.method ≡ codes "GET" → ⊥)
    → response_as_range_or_whole asked e ≡ e

-- only what would be sent as a 200 has parts
abbrev pub OnlyA200HasParts : Type 0
OnlyA200HasParts = (asked : Asked) (e : Stored) → (e.status ≡ 200 → ⊥) → response_as_range_or_whole asked e ≡ e

-- a request that asks for no one range of bytes is sent the whole: without Range, with two lines of it, with another
-- unit, with several ranges, or with one that is malformed
abbrev pub WithoutOneByteRangeTheWholeIsSent : Type 0
WithoutOneByteRangeTheWholeIsSent = (asked : Asked) (e : Stored) → range_asked asked.fields ≡ None
    → response_as_range_or_whole asked e ≡ e

-- "if the condition is false, the recipient SHOULD ignore the Range header field"
abbrev pub FailedIfRangeSendsTheWhole : Type 0
FailedIfRangeSendsTheWhole = (asked : Asked) (e : Stored) → if_range_holds asked.fields e.times.date e.fields ≡ false
    → response_as_range_or_whole asked e ≡ e
