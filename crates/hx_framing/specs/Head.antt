-- Which bytes are the head of a request, and what it gives (RFC 9112, sections 2 to 5).
use Rattle.std.specs.Prelude.{◌≡◌, ℕ, ◌≤◌, if◌then◌else◌, List, [], map, length, take, Result, Ok, Err}
use Rattle.httparse.specs.Grammar.{RequestHead, ReadsRequest, field_value}
use Rattle.httparse.specs.Grammar as grammar
use Rattle.httparse.specs.Spans.{span_bytes}
use Rattle.httparse.specs.declared.spans.HeaderSpan.{HeaderSpan}
use Rattle.httparse.specs.declared.spans.RequestSpans.{RequestSpans}
use Rattle.hx_fields.specs.Line.{Field}
use Rattle.hx_framing.specs.declared.heads.request_head.Head.{Head}
use Rattle.hx_framing.specs.declared.frame_fault.FrameFault.{FrameFault}
use Rattle.hx_framing.specs.declared.frame_fault.FrameFault.TheVariants as fault
use Rattle.hx_framing.specs.HeadEnd.{most_field_lines}
use Rattle.hx_framing.specs.Version.{start_line, without_trailing_cr, ends_with_unsupported_version}

-- a line's name, and its value without the white space around it
abbrev pub field_of_parsed_line : grammar.Field → Field
field_of_parsed_line f = record { name = f.name; value = field_value f }

-- what a head of the grammar gives
abbrev pub head_of_parsed_request : RequestHead → Head
head_of_parsed_request h = record {
  method = h.method;
  target = h.target;
  minor = h.minor;
  fields = map field_of_parsed_line h.fields;
}

-- the line that a header's spans cover
abbrev pub field_at_span : List ℕ → HeaderSpan → Field
field_at_span bytes h = record { name = span_bytes bytes h.name; value = span_bytes bytes h.value }

-- the head that the spans cover
abbrev pub head_at_spans : List ℕ → List HeaderSpan → RequestSpans → Head
head_at_spans bytes spans r = record {
  method = span_bytes bytes r.method;
  target = span_bytes bytes r.path;
  minor = r.version;
  fields = map (field_at_span bytes) (take r.headers spans);
}

-- just these bytes are the head h, with the empty lines in front
abbrev pub IsHeadOfRequest : List ℕ → RequestHead → Type 0
IsHeadOfRequest bytes h = ReadsRequest bytes h [] × (length h.fields ≤ most_field_lines)

-- the fault of bytes that are no head: Version takes the place of Head where the request line ends with another version
-- own: whatever else is wrong with the head
abbrev pub fault_of_bad_request_head : List ℕ → FrameFault
fault_of_bad_request_head bytes
    = if ends_with_unsupported_version (without_trailing_cr (start_line bytes)) then fault.Version else fault.Head

-- how the bytes of a whole head are judged
abbrev pub RequestHeadIsJudged : List ℕ → Result Head FrameFault → Type 0
RequestHeadIsJudged bytes (Ok head) = (h : RequestHead) × IsHeadOfRequest bytes h × (head ≡ head_of_parsed_request h)
RequestHeadIsJudged bytes (Err f) =
    ((h : RequestHead) → ¬ (IsHeadOfRequest bytes h)) × (f ≡ fault_of_bad_request_head bytes)
