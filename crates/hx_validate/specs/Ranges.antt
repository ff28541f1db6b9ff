-- Which part of a response, stored or just come, answers a request for a range (RFC 9110, sections 13.1.5, 14.1, 14.2,
-- 14.4 and 15.5.17).
--
-- range_of_text, range_asked: the range that a text and a request ask for
-- if_range_holds: what If-Range asks for is the response
-- answer_to_range: what of a content of a length answers a range
-- range_answer_of, range_answer: what of a response, and of a stored one, answers a request
-- PartLiesWithinTotal: a part is of what is there
-- fields_of_206, fields_of_416: the lines of both answers           response_as_range_or_whole: the response in their
-- form
-- fields_of_416_to_answer: those of a 416 in place of an answer of the origin
use Rattle.std.specs.Prelude.{ℕ, ◌+◌, ◌-◌, ◌==◌, ◌≤◌, ◌<◌, nat_le, nat_lt, min, if◌then◌else◌, cond, Bool, true}
use Rattle.std.specs.Prelude.{false, not}
use Rattle.std.specs.Prelude.{◌&&◌, ◌||◌, List, [], ◌∷◌, ◌++◌, length, take, drop, filter, slice_range, bytes_eq}
use Rattle.std.specs.Prelude.{codes, decimal, option_map, option_and_then, Option, Some, None}
use Rattle.std.specs.List.{list_all}
use Rattle.std.specs.Char.{is_ascii_digit}
use Rattle.std.specs.Str.Parse.{digits_value}
use Rattle.hx_fields.specs.Line.{Field}
use Rattle.hx_fields.specs.Examples.{line}
use Rattle.hx_fields.specs.FieldLines.{has_field, is_named, only_value, values_of, without_named}
use Rattle.hx_fields.specs.Names.{split_at_first_byte, is_nonempty, is_same_name}
use Rattle.hx_age.specs.Dates.{moment_of_single_date}
use Rattle.hx_hop.specs.declared.request_view.Asked.{Asked}
use Rattle.hx_store.specs.Stored.{Stored}
use Rattle.hx_validate.specs.EntityTags.{strong_eq}
use Rattle.hx_validate.specs.Room.{head_leaves_room}
use Rattle.hx_validate.specs.Validators.{date_validator, etag_validator}
use Rattle.hx_validate.specs.declared.ranges.ByteRange.{ByteRange}
use Rattle.hx_validate.specs.declared.ranges.ByteRange.TheVariants.{FromTo, From, Last}
use Rattle.hx_validate.specs.declared.ranges.RangeAnswer.{RangeAnswer}
use Rattle.hx_validate.specs.declared.ranges.RangeAnswer.TheVariants.{Whole, Part, Unsatisfiable}

-- ---- what is asked for

-- "Recipients .. must anticipate potentially large decimal numerals"
-- own: a larger number counts as 2^64 - 1, beyond every content
abbrev pub counted : ℕ → ℕ
counted n = min n 18446744073709551615

-- first-pos = 1*DIGIT, last-pos = 1*DIGIT, suffix-length = 1*DIGIT (RFC 9110, section 14.1.1)
abbrev pub range_number_of_digits : List ℕ → Option ℕ
range_number_of_digits digits =
    if is_nonempty digits && list_all is_ascii_digit digits then Some (counted (digits_value 10 digits)) else None

-- "An int-range is invalid if the last-pos value is present and less than first-pos" (RFC 9110, section 14.1.1)
abbrev pub byte_range_of_positions : Option ℕ → Option ℕ → Option ByteRange
byte_range_of_positions (Some first) (Some last) = if nat_le first last then Some (FromTo first last) else None
byte_range_of_positions (Some first) None = None
byte_range_of_positions None last = None

-- int-range = first-pos "-" [ last-pos ], suffix-range = "-" suffix-length (RFC 9110, section 14.1.1)
abbrev pub byte_range_of_texts : List ℕ → List ℕ → Option ByteRange
byte_range_of_texts first last =
    if not (is_nonempty first) then option_map Last (range_number_of_digits last)
    else if not (is_nonempty last) then option_map From (range_number_of_digits first)
    else byte_range_of_positions (range_number_of_digits first) (range_number_of_digits last)

abbrev pub byte_range_of_texts_if_split : Option (List ℕ × List ℕ) → Option ByteRange
byte_range_of_texts_if_split None = None
byte_range_of_texts_if_split (Some (first, last)) = byte_range_of_texts first last

-- the one range of bytes that a value asks for: ranges-specifier = range-unit "=" range-set, whose unit is "bytes",
-- without case (RFC 9110, sections 14.1 and 14.1.2)
-- own: several ranges, and any other unit, ask for the whole, as each server may answer (section 14.2)
abbrev pub byte_range_of_value : List ℕ → Option ByteRange
byte_range_of_value value =
    if is_same_name (take 6 value)
    (codes "bytes=") then byte_range_of_texts_if_split (split_at_first_byte 45 (drop 6 value)) else None

abbrev pub range_asked : List Field → Option ByteRange
range_asked fields = option_and_then byte_range_of_value (only_value fields (codes "Range"))

-- ---- whether it is wanted of the response

-- the value is the entity tag, and neither is weak (RFC 9110, section 8.8.3.2)
abbrev pub if_range_equals_tag : List ℕ → Option (List ℕ) → Bool
if_range_equals_tag value None = false
if_range_equals_tag value (Some held) = strong_eq value held

-- "If the HTTP-date validator provided exactly matches the Last-Modified field value"
abbrev pub if_range_equals_last_modified : List ℕ → Option (List ℕ) → Bool
if_range_equals_last_modified value None = false
if_range_equals_last_modified value (Some held) = bytes_eq value held

-- a date is a strong validator where the response was made later (RFC 9110, section 8.8.2.2)
-- own: by a minute, so that no clocks need agree
abbrev pub is_dated_a_minute_later : ℕ → Option ℕ → Bool
is_dated_a_minute_later date None = false
is_dated_a_minute_later date (Some changed) = nat_le 60 (date - changed)

-- of a response of a Date and of lines
abbrev pub last_modified_is_strong : ℕ → List Field → Bool
last_modified_is_strong date fields = is_dated_a_minute_later date (moment_of_single_date (values_of fields (codes "Last-Modified")))

-- If-Range = entity-tag / HTTP-date (RFC 9110, section 13.1.5)
abbrev pub if_range_names_current_validator : Option (List ℕ) → ℕ → List Field → Bool
if_range_names_current_validator None date fields = false
if_range_names_current_validator (Some value) date fields =
    if_range_equals_tag value (etag_validator fields)
    || (last_modified_is_strong date fields && if_range_equals_last_modified value (date_validator fields))

-- without If-Range nothing is asked
abbrev pub if_range_holds : List Field → ℕ → List Field → Bool
if_range_holds request date fields =
    not (has_field request (codes "If-Range"))
    || if_range_names_current_validator (only_value request (codes "If-Range")) date fields

-- ---- what answers it

-- what of a content of so many bytes answers a range: "If the last-pos value is absent, or if the value is greater than
-- or equal to the current length .. the byte range is interpreted as the remainder of the representation", "If the
-- selected representation is shorter than the specified suffix-length, the entire representation is used"; it is
-- satisfiable by a first-pos below the length, or by a suffix-length that isn't 0 (RFC 9110, section 14.1.2)
-- own: no part of no byte can be told (section 14.4), so an empty content is sent whole
abbrev pub answer_to_range : ℕ → ByteRange → RangeAnswer
answer_to_range total (FromTo first last) =
    if nat_lt first total then Part first (min last (total - 1)) else Unsatisfiable
answer_to_range total (From first) = if nat_lt first total then Part first (total - 1) else Unsatisfiable
answer_to_range total (Last most) =
    if most == 0 then Unsatisfiable else if total == 0 then Whole else Part (total - most) (total - 1)

abbrev pub answer_to_range_if_any : ℕ → Option ByteRange → RangeAnswer
answer_to_range_if_any total None = Whole
answer_to_range_if_any total (Some range) = answer_to_range total range

-- a part is of what is there: of so many bytes it has one at least
abbrev pub PartLiesWithinTotal : RangeAnswer → ℕ → Type 0
PartLiesWithinTotal Whole total = Unit {0}
PartLiesWithinTotal (Part first last) total = (first ≤ last) × (last < total)
PartLiesWithinTotal Unsatisfiable total = Unit {0}

-- "A server MUST ignore a Range header field received with a request method that is unrecognized or for which range
-- handling is not defined. For this specification, GET is the only method for which range handling is defined"; and
-- only a response that would be a 200 has parts (RFC 9110, section 14.2)
abbrev pub range_is_answered : Asked → ℕ → ℕ → List Field → Bool
range_is_answered asked status date fields =
    bytes_eq asked.method (codes "GET") && ((status == 200) && if_range_holds asked.fields date fields)

-- of a response of a status, a Date, lines and a content of so many bytes
abbrev pub range_answer_of : Asked → ℕ → ℕ → List Field → ℕ → RangeAnswer
range_answer_of asked status date fields total =
    if range_is_answered asked status date fields then answer_to_range_if_any total
    (range_asked asked.fields) else Whole

abbrev pub range_answer : Asked → Stored → RangeAnswer
range_answer asked e = range_answer_of asked e.status e.times.date e.fields (length e.content)

-- ---- its form

-- Content-Range = range-unit SP ( range-resp / unsatisfied-range ) (RFC 9110, section 14.4)
abbrev pub part_text : ℕ → ℕ → ℕ → List ℕ
part_text first last total = codes "bytes " ++ decimal first ++ codes "-" ++ decimal last ++ codes "/" ++ decimal total

abbrev pub unsatisfied_text : ℕ → List ℕ
unsatisfied_text total = codes "bytes */" ++ decimal total

-- the lines of a 206: those of the 200, and which part it is (RFC 9110, section 15.3.7)
abbrev pub fields_of_206 : List Field → ℕ → ℕ → ℕ → List Field
fields_of_206 fields first last total =
    without_named fields (codes "Content-Range") ++ line (codes "Content-Range") (part_text first last total) ∷ []

-- the lines of a 416: nothing lets it be stored (RFC 9110, section 15.5.17)
abbrev pub is_field_of_416 : Field → Bool
is_field_of_416 field = is_named (codes "Date") field || is_named (codes "ETag") field || is_named (codes "Vary") field

abbrev pub fields_of_416 : List Field → ℕ → List Field
fields_of_416 fields total =
    filter is_field_of_416 fields ++ line (codes "Content-Range") (unsatisfied_text total) ∷ []

-- own: that to the one who asked has the answer's Age and its cookies too, since no other response brings them ("What a
-- 304 in place of an answer carries")
abbrev pub is_field_of_416_to_answer : Field → Bool
is_field_of_416_to_answer field =
    is_field_of_416 field || (is_named (codes "Age") field || is_named (codes "Set-Cookie") field)

abbrev pub fields_of_416_to_answer : List Field → ℕ → List Field
fields_of_416_to_answer fields total =
    filter is_field_of_416_to_answer fields ++ line (codes "Content-Range") (unsatisfied_text total) ∷ []

abbrev pub response_206_of_part : Stored → ℕ → ℕ → Stored
response_206_of_part e first last = record e {
  status = 206;
  fields = fields_of_206 e.fields first last (length e.content);
  content = slice_range e.content first (last + 1);
}

abbrev pub response_416_of : Stored → Stored
response_416_of e = record e { status = 416; fields = fields_of_416 e.fields (length e.content); content = [] }

-- own: where its head leaves no room for the line more the whole is sent, as each server may
abbrev pub form_if_head_leaves_room : Stored → Stored → Stored
form_if_head_leaves_room e form = cond (head_leaves_room form.fields) form e

abbrev pub response_as_range_answer : RangeAnswer → Stored → Stored
response_as_range_answer Whole e = e
response_as_range_answer (Part first last) e = form_if_head_leaves_room e (response_206_of_part e first last)
response_as_range_answer Unsatisfiable e = form_if_head_leaves_room e (response_416_of e)

-- the response as it answers a request, for a range or not
abbrev pub response_as_range_or_whole : Asked → Stored → Stored
response_as_range_or_whole asked e = response_as_range_answer (range_answer asked e) e
