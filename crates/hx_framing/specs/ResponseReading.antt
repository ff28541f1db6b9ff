-- What stands at the front of a response stream (RFC 9112, sections 4 and 6).
--
-- FinalResponseReadsAs: what the bytes behind the interim responses read as
-- SkipsInterimResponses: interim responses in front
-- ReadsAs: both
use Rattle.std.specs.Prelude.{◌≡◌, ℕ, Bool, true, false, cond, List, [], ◌∷◌, Option, Some, None, Result, Ok, Err}
use Rattle.std.specs.Prelude.{length, take, drop, nat_lt, ⊤}
use Rattle.hx_framing.specs.declared.heads.status_head.StatusHead.{StatusHead}
use Rattle.hx_framing.specs.declared.messages.Response.{Response}
use Rattle.hx_framing.specs.declared.lengths.framing.Framing.{Framing}
use Rattle.hx_framing.specs.declared.frame_fault.FrameFault.{FrameFault}
use Rattle.hx_framing.specs.declared.frame_fault.FrameFault.TheVariants as fault
use Rattle.hx_framing.specs.HeadEnd.{head_length, most_head_bytes}
use Rattle.hx_framing.specs.StatusHead.{ResponseHeadIsJudged}
use Rattle.hx_framing.specs.Lengths.{framing_of_response, is_interim, announced_length_in_answer_to_head}
use Rattle.hx_framing.specs.Lengths.{without_length_fields}
use Rattle.hx_framing.specs.Contents.{content_by_framing}
use Rattle.hx_framing.specs.Reading.{StreamReadResult, Faulty, truncated_or_incomplete, reading_of_content}

-- the bytes of a content; no content has none
abbrev pub content_bytes_of : Option (List ℕ) → List ℕ
content_bytes_of None = []
content_bytes_of (Some bytes) = bytes

-- a head with its content, without its length fields
abbrev pub response_of_head : Bool → StatusHead → Option (List ℕ) → Response
response_of_head to_head head content = record {
  status = head.status;
  fields = without_length_fields head.fields;
  content = content_bytes_of content;
  announced = announced_length_in_answer_to_head to_head head;
}

-- behind a head that tells its content
abbrev pub response_reading_by_framing : ℕ → Bool → Bool → StatusHead → List ℕ → Result Framing FrameFault
    → StreamReadResult Response
response_reading_by_framing max_body to_head ended head bytes (Err f) = Faulty f
response_reading_by_framing max_body to_head ended head bytes (Ok framing) =
    reading_of_content ended (response_of_head to_head head) (content_by_framing max_body framing ended bytes)

-- behind a judged head
abbrev pub reading_behind_response_head : ℕ → Bool → Bool → List ℕ → Result StatusHead FrameFault
    → StreamReadResult Response
reading_behind_response_head max_body to_head ended bytes (Err f) = Faulty f
reading_behind_response_head max_body to_head ended bytes (Ok head) =
    response_reading_by_framing max_body to_head ended head bytes (framing_of_response max_body to_head head)

-- no head ends within the limit
abbrev pub reading_without_response_head : Bool → List ℕ → StreamReadResult Response
reading_without_response_head ended bytes
    = cond (nat_lt most_head_bytes (length bytes)) (Faulty fault.Head) (truncated_or_incomplete ended)

-- a head of a final response, or none at all
abbrev pub IsFinalHeadOrNone : Result StatusHead FrameFault → Type 0
IsFinalHeadOrNone (Ok head) = is_interim head.status ≡ false
IsFinalHeadOrNone (Err f) = ⊤

abbrev pub FinalResponseReadsByHeadLength : ℕ → Bool → Bool → List ℕ → Option ℕ → StreamReadResult Response → Type 0
FinalResponseReadsByHeadLength max_body to_head ended bytes None reading =
    reading ≡ reading_without_response_head ended bytes
FinalResponseReadsByHeadLength max_body to_head ended bytes (Some n) reading =
    (judged : Result StatusHead FrameFault) × ResponseHeadIsJudged (take n bytes) judged × IsFinalHeadOrNone judged
    × (reading ≡ reading_behind_response_head max_body to_head ended (drop n bytes) judged)

-- what bytes read as that begin with no interim response
-- to_head: it answers a HEAD; ended: the stream ends behind these bytes
abbrev pub FinalResponseReadsAs : ℕ → Bool → Bool → List ℕ → StreamReadResult Response → Type 0
FinalResponseReadsAs max_body to_head ended bytes reading =
    FinalResponseReadsByHeadLength max_body to_head ended bytes (head_length (take most_head_bytes bytes)) reading

-- the first n bytes are the head of an interim response (RFC 9110, section 15.2)
pub record IsInterimHead (bytes : List ℕ) (n : ℕ) : Type 0 where
  pub place : head_length (take most_head_bytes bytes) ≡ Some n
  pub head : StatusHead
  pub judged : ResponseHeadIsJudged (take n bytes) (Ok head)
  pub interim : is_interim head.status ≡ true

-- interim responses of these sizes, and then the rest
-- own: they are read and dropped
abbrev pub SkipsInterimResponses : List ℕ → List ℕ → List ℕ → Type 0
SkipsInterimResponses bytes [] rest = bytes ≡ rest
SkipsInterimResponses bytes (n ∷ sizes) rest = IsInterimHead bytes n × SkipsInterimResponses (drop n bytes) sizes rest

abbrev pub ReadsAs : ℕ → Bool → Bool → List ℕ → StreamReadResult Response → Type 0
ReadsAs max_body to_head ended bytes reading =
    (sizes : List ℕ) × (rest : List ℕ)
    × SkipsInterimResponses bytes sizes rest × FinalResponseReadsAs max_body to_head ended rest reading
