-- Which faults stand at the end of a head (RFC 9112, section 6, and RFC 9110, sections 10.1.1 and
-- 15), one equation a fault.
-- own: of several the one of the least number is answered
use Rattle.std.specs.Prelude.{◌≡◌, ℕ, ◌≤◌, ◌&&◌, ◌||◌, ◌==◌, Bool, true, false, not}
use Rattle.hx_framing.specs.declared.frame_fault.FrameFault.{FrameFault}
use Rattle.hx_framing.specs.declared.frame_fault.FrameFault.TheVariants.{Head, Version, BothLengths, Length, Coding}
use Rattle.hx_framing.specs.declared.frame_fault.FrameFault.TheVariants.{Chunk}
use Rattle.hx_framing.specs.declared.frame_fault.FrameFault.TheVariants.{TooLarge, Expect, Truncated, Status}
use Rattle.hx_framing.specs.declared.heads.request_head.Head.{Head as RequestHead}
use Rattle.hx_framing.specs.declared.heads.status_head.StatusHead.{StatusHead}
use Rattle.hx_framing.specs.Fault.{frame_fault_number}
use Rattle.hx_framing.specs.Lengths.{has_both_length_fields, has_bad_length_fields, has_coding_of_unknown_end}
use Rattle.hx_framing.specs.Lengths.{has_coding_other_than_chunked}
use Rattle.hx_framing.specs.Lengths.{is_too_large}
use Rattle.hx_framing.specs.Lengths.{expects_other_than_100_continue, expectation_of_head, response_has_no_content}
use Rattle.hx_framing.specs.Lengths.{is_accepted_status}

-- at the end of a request's head
abbrev pub fault_applies_to_request_head : ℕ → RequestHead → FrameFault → Bool
fault_applies_to_request_head max_body head Head = false
fault_applies_to_request_head max_body head Version = false
fault_applies_to_request_head max_body head BothLengths = has_both_length_fields head.fields
fault_applies_to_request_head max_body head Length =
    has_bad_length_fields head.minor head.fields || has_coding_of_unknown_end head.fields
fault_applies_to_request_head max_body head Coding = has_coding_other_than_chunked head.fields
fault_applies_to_request_head max_body head Chunk = false
fault_applies_to_request_head max_body head TooLarge = is_too_large max_body head.fields
fault_applies_to_request_head max_body head Expect = expects_other_than_100_continue (expectation_of_head head)
fault_applies_to_request_head max_body head Truncated = false
fault_applies_to_request_head max_body head Status = false

-- the length fields of a response are judged
abbrev pub response_heeds_length_fields : Bool → StatusHead → Bool
response_heeds_length_fields to_head head = not (head.status == 101 || response_has_no_content to_head head.status)

-- at the end of a response's head
abbrev pub fault_applies_to_response_head : ℕ → Bool → StatusHead → FrameFault → Bool
fault_applies_to_response_head max_body to_head head Head = false
fault_applies_to_response_head max_body to_head head Version = false
fault_applies_to_response_head max_body to_head head BothLengths = response_heeds_length_fields to_head head
    && has_both_length_fields head.fields
fault_applies_to_response_head max_body to_head head Length = response_heeds_length_fields to_head head
    && has_bad_length_fields head.minor head.fields
fault_applies_to_response_head max_body to_head head Coding = response_heeds_length_fields to_head head
    && has_coding_other_than_chunked head.fields
fault_applies_to_response_head max_body to_head head Chunk = false
fault_applies_to_response_head max_body to_head head TooLarge = response_heeds_length_fields to_head head
    && is_too_large max_body head.fields
fault_applies_to_response_head max_body to_head head Expect = false
fault_applies_to_response_head max_body to_head head Truncated = false
fault_applies_to_response_head max_body to_head head Status = not (is_accepted_status head.status)

-- the fault stands, and no other that stands has a less number
pub record IsLeastFault (applies : FrameFault → Bool) (fault : FrameFault) : Type 0 where
  pub this : applies fault ≡ true
  pub least : (other : FrameFault) → applies other ≡ true → frame_fault_number fault ≤ frame_fault_number other
