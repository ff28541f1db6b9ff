-- Which bytes are the head of a response, and what it gives (RFC 9112, sections 2, 4 and 5).
use Rattle.std.specs.Prelude.{◌≡◌, ℕ, ◌≤◌, true, false, if◌then◌else◌, List, [], map, length, take, Result, Ok, Err}
use Rattle.httparse.specs.Grammar.{ResponseHead, ReadsResponse, status_code}
use Rattle.httparse.specs.declared.spans.HeaderSpan.{HeaderSpan}
use Rattle.httparse.specs.declared.spans.ResponseSpans.{ResponseSpans}
use Rattle.hx_framing.specs.declared.heads.status_head.StatusHead.{StatusHead}
use Rattle.hx_framing.specs.declared.heads.status_head.Judged.{Judged}
use Rattle.hx_framing.specs.declared.heads.status_head.Judged.TheVariants as judged
use Rattle.hx_framing.specs.declared.frame_fault.FrameFault.{FrameFault}
use Rattle.hx_framing.specs.declared.frame_fault.FrameFault.TheVariants as fault
use Rattle.hx_framing.specs.HeadEnd.{most_field_lines}
use Rattle.hx_framing.specs.Version.{start_line, begins_with_unsupported_version}
use Rattle.hx_framing.specs.Head.{field_of_parsed_line, field_at_span}
use Rattle.hx_framing.specs.Lengths.{is_interim}

-- what a head of the grammar gives; its reason phrase is dropped
abbrev pub status_head_of : ResponseHead → StatusHead
status_head_of h = record { status = status_code h; minor = h.minor; fields = map field_of_parsed_line h.fields }

-- the head that the spans cover
abbrev pub status_head_at : List ℕ → List HeaderSpan → ResponseSpans → StatusHead
status_head_at bytes spans r =
    record { status = r.code; minor = r.version; fields = map (field_at_span bytes) (take r.headers spans) }

-- just these bytes are the head h, with the empty lines in front
abbrev pub IsWholeResponseHead : List ℕ → ResponseHead → Type 0
IsWholeResponseHead bytes h = ReadsResponse bytes h [] × (length h.fields ≤ most_field_lines)

-- the fault of bytes that are no head: Version takes the place of Head where the status line begins
-- with another version
-- own: whatever else is wrong with the head
abbrev pub status_head_fault : List ℕ → FrameFault
status_head_fault bytes = if begins_with_unsupported_version (start_line bytes) then fault.Version else fault.Head

-- how the bytes of a whole head are judged
abbrev pub ResponseHeadIsJudged : List ℕ → Result StatusHead FrameFault → Type 0
ResponseHeadIsJudged bytes (Ok head) = (h : ResponseHead) × IsWholeResponseHead bytes h × (head ≡ status_head_of h)
ResponseHeadIsJudged bytes (Err f) =
    ((h : ResponseHead) → ¬ (IsWholeResponseHead bytes h)) × (f ≡ status_head_fault bytes)

-- the same, where the head of an interim response is only told (RFC 9110, section 15.2)
abbrev pub ResponseHeadIsJudgedAs : List ℕ → Judged → Type 0
ResponseHeadIsJudgedAs bytes judged.Interim = (head : StatusHead) × ResponseHeadIsJudged bytes (Ok head) ×
    (is_interim head.status ≡ true)
ResponseHeadIsJudgedAs bytes (judged.Final head) = ResponseHeadIsJudged bytes (Ok head) ×
    (is_interim head.status ≡ false)
ResponseHeadIsJudgedAs bytes (judged.Faulty f) = ResponseHeadIsJudged bytes (Err f)
