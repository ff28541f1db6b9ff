-- How long the content behind a head is, by its fields (RFC 9112, section 6, and RFC 9110, section 10.1.1).
-- A head's faults are tested in the order of their numbers.
--
-- has_both_length_fields, has_bad_length_fields, has_coding_of_unknown_end, has_coding_other_than_chunked,
-- is_too_large,
-- expects_other_than_100_continue: what is
-- at fault
-- framing_of_faultless_fields: what faultless length fields say
-- framing_by_length_fields, request_framing_of, framing_of_response: how a head is judged
-- announced_length_in_answer_to_head, without_length_fields: what a message keeps of its length fields
-- framing_without_codings, framing_of_codings: the judgement in steps
use Rattle.std.specs.Prelude.{ℕ, ◌-◌, ◌^◌, ◌&&◌, ◌||◌, Bool, true, false, cond, not, List, [], length, Option, Some}
use Rattle.std.specs.Prelude.{None, is_some, Result, Ok, Err, nat_lt, nat_le, ◌==◌, codes, count_by, slice_index_or}
use Rattle.std.specs.List.{list_all}
use Rattle.hx_fields.specs.Line.{Field}
use Rattle.hx_fields.specs.Names.{is_same_name}
use Rattle.hx_fields.specs.FieldLines.{has_field, combined_of, members_of, without_named}
use Rattle.hx_framing.specs.declared.frame_fault.FrameFault.{FrameFault}
use Rattle.hx_framing.specs.declared.frame_fault.FrameFault.TheVariants as fault
use Rattle.hx_framing.specs.declared.lengths.framing.Framing.{Framing}
use Rattle.hx_framing.specs.declared.lengths.framing.Framing.TheVariants as framing
use Rattle.hx_framing.specs.declared.lengths.framing.RequestFraming.{RequestFraming}
use Rattle.hx_framing.specs.declared.heads.request_head.Head.{Head}
use Rattle.hx_framing.specs.declared.heads.status_head.StatusHead.{StatusHead}
use Rattle.hx_framing.specs.ContentLength.{content_length_name, announced_length, announced_length_up_to_or_fault}
use Rattle.hx_framing.specs.ContentLength.{announced_length_within}

abbrev pub transfer_encoding_name : List ℕ
transfer_encoding_name = codes "transfer-encoding"

abbrev pub expect_name : List ℕ
expect_name = codes "expect"

-- the transfer codings, in the order in which they were applied (RFC 9112, section 6.1)
abbrev pub codings : List Field → List (List ℕ)
codings fields = members_of fields transfer_encoding_name

-- transfer codings compare without ASCII case (RFC 9112, section 7)
abbrev pub is_chunked : List ℕ → Bool
is_chunked coding = is_same_name coding (codes "chunked")

-- the last coding is chunked, and no other is
abbrev pub only_last_coding_is_chunked : List (List ℕ) → Bool
only_last_coding_is_chunked names
    = is_chunked (slice_index_or names (length names - 1) []) && (count_by is_chunked names == 1)

-- chunked is the only coding
abbrev pub is_only_chunked : List (List ℕ) → Bool
is_only_chunked names = length names == 1 && list_all is_chunked names

-- own: where both fields stand the message is refused, and Transfer-Encoding doesn't override (RFC 9112, section 6.3)
abbrev pub has_both_length_fields : List Field → Bool
has_both_length_fields fields = has_field fields transfer_encoding_name && has_field fields content_length_name

-- HTTP/1.0 knows no transfer coding, or Content-Length tells no length (RFC 9112, sections 6.1 and 6.3)
abbrev pub has_bad_length_fields : ℕ → List Field → Bool
has_bad_length_fields minor fields =
    (has_field fields transfer_encoding_name && (minor == 0)) || (has_field fields content_length_name && not
    (is_some (announced_length fields)))

-- the end of a request's content can't be told from its codings, as where there is none (RFC 9112, section 6.3)
-- own: or chunked stands twice
abbrev pub has_coding_of_unknown_end : List Field → Bool
has_coding_of_unknown_end fields =
    has_field fields transfer_encoding_name && not (only_last_coding_is_chunked (codings fields))

-- own: no coding but chunked is read
abbrev pub has_coding_other_than_chunked : List Field → Bool
has_coding_other_than_chunked fields = has_field fields transfer_encoding_name && not (is_only_chunked (codings fields))

abbrev pub exceeds : ℕ → Option ℕ → Bool
exceeds most None = false
exceeds most (Some n) = nat_lt most n

-- own: a content of more than max_body bytes is refused
abbrev pub is_too_large : ℕ → List Field → Bool
is_too_large max_body fields = exceeds max_body (announced_length fields)

abbrev pub announced_framing_or : Framing → Option ℕ → Framing
announced_framing_or neither None = neither
announced_framing_or neither (Some n) = framing.Announced n

-- what faultless length fields say, or what holds where neither stands
abbrev pub framing_of_faultless_fields : Framing → List Field → Framing
framing_of_faultless_fields neither fields =
    cond (has_field fields transfer_encoding_name) framing.Chunked (announced_framing_or neither
    (announced_length fields))

-- what is expected of a server
-- own: in HTTP/1.0 Expect is ignored, not only 100-continue (RFC 9110, section 10.1.1)
abbrev pub expectation_of_head : Head → Option (List ℕ)
expectation_of_head head = cond (head.minor == 1) (combined_of head.fields expect_name) None

abbrev pub is_100_continue : List ℕ → Bool
is_100_continue value = is_same_name value (codes "100-continue")

abbrev pub expects_other_than_100_continue : Option (List ℕ) → Bool
expects_other_than_100_continue None = false
expects_other_than_100_continue (Some value) = not (is_100_continue value)

abbrev pub expects_continue : Option (List ℕ) → Bool
expects_continue None = false
expects_continue (Some value) = is_100_continue value

abbrev pub framing_has_content : Framing → Bool
framing_has_content framing.Nothing = false
framing_has_content (framing.Announced n) = nat_lt 0 n
framing_has_content framing.Chunked = true
framing_has_content framing.UntilClose = true

-- how the length fields of a head are judged
-- neither: what holds where neither stands; endless: the end of the content can't be told from the codings
abbrev pub framing_by_length_fields : ℕ → ℕ → Framing → Bool → List Field → Result Framing FrameFault
framing_by_length_fields max_body minor neither endless fields =
    cond (has_both_length_fields fields) (Err fault.BothLengths)
    (cond (has_bad_length_fields minor fields || endless) (Err fault.Length)
    (cond (has_coding_other_than_chunked fields) (Err fault.Coding)
    (cond (is_too_large max_body fields) (Err fault.TooLarge)
    (Ok (framing_of_faultless_fields neither fields)))))

-- a request without either field has no content (RFC 9112, section 6.3)
abbrev pub framing_by_request_fields : ℕ → Head → Result Framing FrameFault
framing_by_request_fields max_body head =
    framing_by_length_fields max_body head.minor framing.Nothing (has_coding_of_unknown_end head.fields) head.fields

-- a client that expects a continue waits for it only where it has content to send
abbrev pub framing_with_expectation : Option (List ℕ) → Result Framing FrameFault → Result RequestFraming FrameFault
framing_with_expectation expected (Err f) = Err f
framing_with_expectation expected (Ok shown) =
    cond (expects_other_than_100_continue expected) (Err fault.Expect)
    (Ok (record { framing = shown; wants_continue = expects_continue expected && framing_has_content shown }))

-- how the content of a request is judged by its head
abbrev pub request_framing_of : ℕ → Head → Result RequestFraming FrameFault
request_framing_of max_body head = framing_with_expectation (expectation_of_head head)
    (framing_by_request_fields max_body head)

-- an interim response (RFC 9110, section 15.2)
-- own: 101 switches protocols and is refused
abbrev pub is_interim : ℕ → Bool
is_interim status = nat_le 100 status && nat_lt status 200 && not (status == 101)

-- a response that has no content, whatever its length fields say (RFC 9112, section 6.3)
abbrev pub response_has_no_content : Bool → ℕ → Bool
response_has_no_content to_head status = to_head || is_interim status || status == 204 || status == 304

-- a status that is taken (RFC 9110, section 15)
abbrev pub is_accepted_status : ℕ → Bool
is_accepted_status status = nat_le 100 status && nat_lt status 600 && not (status == 101)

-- the content of a response without either field runs until the connection closes (RFC 9112, section 6.3)
abbrev pub framing_of_final_response : ℕ → StatusHead → Result Framing FrameFault
framing_of_final_response max_body head =
    framing_by_length_fields max_body head.minor framing.UntilClose false head.fields

-- a status that isn't taken is the last fault
abbrev pub framing_if_accepted_status : ℕ → Result Framing FrameFault → Result Framing FrameFault
framing_if_accepted_status status (Err f) = Err f
framing_if_accepted_status status (Ok shown) = cond (is_accepted_status status) (Ok shown) (Err fault.Status)

-- how the content of a response is judged by its head; to_head: it answers a HEAD
-- own: no length field is judged where there is no content or protocols are switched
abbrev pub framing_of_response : ℕ → Bool → StatusHead → Result Framing FrameFault
framing_of_response max_body to_head head =
    framing_if_accepted_status head.status
    (cond (head.status == 101 || response_has_no_content to_head head.status) (Ok framing.Nothing)
    (framing_of_final_response max_body head))

-- the length that an answer to HEAD announces for the content that it doesn't have (RFC 9110, section 8.6)
-- own: below 2^64, and not beside Transfer-Encoding
abbrev pub announced_length_in_answer_to_head : Bool → StatusHead → Option ℕ
announced_length_in_answer_to_head to_head head =
    cond (to_head && not (has_field head.fields transfer_encoding_name))
    (announced_length_within (2 ^ 64 - 1) (announced_length head.fields)) None

-- the lines that are no length fields
abbrev pub without_length_fields : List Field → List Field
without_length_fields fields = without_named (without_named fields content_length_name) transfer_encoding_name

-- ---- the same judgement in steps: first what needs no codings

abbrev pub announced_framing : Result ℕ FrameFault → Result Framing FrameFault
announced_framing (Ok n) = Ok (framing.Announced n)
announced_framing (Err f) = Err f

-- what Content-Length alone says, or what holds without it
abbrev pub framing_by_content_length : ℕ → Framing → List Field → Result Framing FrameFault
framing_by_content_length max_body neither fields =
    cond (has_field fields content_length_name)
    (announced_framing (announced_length_up_to_or_fault max_body (announced_length fields)))
    (Ok neither)

-- what is judged of the length fields without their codings, if that is enough
abbrev pub framing_without_codings : ℕ → ℕ → Framing → List Field → Option (Result Framing FrameFault)
framing_without_codings max_body minor neither fields =
    cond (has_both_length_fields fields) (Some (Err fault.BothLengths))
    (cond (not (has_field fields transfer_encoding_name)) (Some (framing_by_content_length max_body neither fields))
    (cond (minor == 0) (Some (Err fault.Length)) None))

-- what codings say where they count; must_end: they have to tell the end of the content
abbrev pub framing_of_codings : Bool → List (List ℕ) → Result Framing FrameFault
framing_of_codings must_end names =
    cond (must_end && not (only_last_coding_is_chunked names)) (Err fault.Length)
    (cond (is_only_chunked names) (Ok framing.Chunked) (Err fault.Coding))
