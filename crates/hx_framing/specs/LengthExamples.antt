-- Heads with these field lines, for worked examples of length fields.
use Rattle.std.specs.Prelude.{ℕ, List, codes, true, false, Result, Ok}
use Rattle.hx_fields.specs.Line.{Field}
use Rattle.hx_fields.specs.Examples.{line}
use Rattle.hx_framing.specs.declared.frame_fault.FrameFault.{FrameFault}
use Rattle.hx_framing.specs.declared.lengths.framing.Framing.{Framing}
use Rattle.hx_framing.specs.declared.lengths.framing.Framing.TheVariants as framing
use Rattle.hx_framing.specs.declared.lengths.framing.RequestFraming.{RequestFraming}
use Rattle.hx_framing.specs.declared.heads.request_head.Head.{Head}
use Rattle.hx_framing.specs.declared.heads.status_head.StatusHead.{StatusHead}
use Rattle.hx_framing.specs.Lengths.{request_framing_of, framing_of_response}

abbrev pub length_line : List ℕ → Field
length_line value = line (codes "Content-Length") value

abbrev pub coding_line : List ℕ → Field
coding_line value = line (codes "Transfer-Encoding") value

abbrev pub expect_line : List ℕ → Field
expect_line value = line (codes "Expect") value

-- a request of HTTP/1.minor
abbrev pub request_head : ℕ → List Field → Head
request_head minor fields = record { method = codes "PUT"; target = codes "/a"; minor = minor; fields = fields }

-- a response of HTTP/1.minor
abbrev pub response_head : ℕ → ℕ → List Field → StatusHead
response_head status minor fields = record { status = status; minor = minor; fields = fields }

-- judged with at most 1000 bytes of content
abbrev pub request_framing_of_put : ℕ → List Field → Result RequestFraming FrameFault
request_framing_of_put minor fields = request_framing_of 1000 (request_head minor fields)

abbrev pub framing_of_response_with : ℕ → ℕ → List Field → Result Framing FrameFault
framing_of_response_with status minor fields = framing_of_response 1000 false (response_head status minor fields)

abbrev pub framing_of_answer_to_head : ℕ → List Field → Result Framing FrameFault
framing_of_answer_to_head status fields = framing_of_response 1000 true (response_head status 1 fields)

-- a content that waits for no continue
abbrev pub framing_that_wants_no_continue : Framing → Result RequestFraming FrameFault
framing_that_wants_no_continue shown = Ok (record { framing = shown; wants_continue = false })

abbrev pub framing_of_length : ℕ → Result RequestFraming FrameFault
framing_of_length n = framing_that_wants_no_continue (framing.Announced n)

-- a content that waits for a continue
abbrev pub framing_with_continue : Framing → Result RequestFraming FrameFault
framing_with_continue shown = Ok (record { framing = shown; wants_continue = true })
