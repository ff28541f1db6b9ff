-- What is found at the front of a response stream, and how its content goes on.
use Rattle.std.specs.Prelude.{◌≡◌, ℕ, ◌+◌, ◌<◌, ◌≤◌, Bool, false, cond, List, length, take, drop, Some, None, Ok}
use Rattle.std.specs.Prelude.{Err}
use Rattle.hx_framing.specs.declared.heads.status_head.StatusHead.{StatusHead}
use Rattle.hx_framing.specs.declared.messages.Response.{Response}
use Rattle.hx_framing.specs.declared.contents.content.Content.{Content}
use Rattle.hx_framing.specs.declared.readers.progress.MessageProgress.{MessageProgress}
use Rattle.hx_framing.specs.declared.readers.progress.MessageProgress.TheVariants as head_progress
use Rattle.hx_framing.specs.declared.readers.response_reading.FinalHead.{FinalHead}
use Rattle.hx_framing.specs.declared.readers.response_reading.FinalHead.TheVariants as final_head
use Rattle.hx_framing.specs.HeadEnd.{head_length, most_head_bytes, IsUnfinishedHead}
use Rattle.hx_framing.specs.StatusHead.{ResponseHeadIsJudged}
use Rattle.hx_framing.specs.Lengths.{is_interim}
use Rattle.hx_framing.specs.Contents.{IsRestOfUnfinishedContent}
use Rattle.hx_framing.specs.ContentReading.{IsIndexBehindSomeBytes, MessageReadsByResumedContent}
use Rattle.hx_framing.specs.Reading.{Incomplete, Spelled, Faulty}
use Rattle.hx_framing.specs.ResponseReading.{response_of_head, SkipsInterimResponses, ReadsAs}

-- whatever comes, the bytes read as this head with what the unread ones make of its content
abbrev pub ResponseReadsByResumedContent : ℕ → Bool → StatusHead → Content → List ℕ → List ℕ → Type 0
ResponseReadsByResumedContent max_body to_head head content bytes unread = MessageReadsByResumedContent {M = Response}
    (λ ended. ReadsAs max_body to_head ended) (response_of_head to_head head) (λ ended. ended) content bytes unread

-- what stands behind the interim responses in front; a head ends behind some bytes and within them
abbrev pub FinalHeadSearchEndsWith : List ℕ → FinalHead → Type 0
FinalHeadSearchEndsWith bytes (final_head.Incomplete at) =
    (at ≤ length bytes) × ((sizes : List ℕ) × SkipsInterimResponses bytes sizes (drop at bytes))
    × (head_length (take most_head_bytes (drop at bytes)) ≡ None)
FinalHeadSearchEndsWith bytes (final_head.Faulty f) =
    (0 < length bytes) × ((sizes : List ℕ) × (rest : List ℕ) × (n : ℕ) × SkipsInterimResponses bytes sizes rest
    × (head_length (take most_head_bytes rest) ≡ Some n) × ResponseHeadIsJudged (take n rest) (Err f))
FinalHeadSearchEndsWith bytes (final_head.Complete head at) =
    IsIndexBehindSomeBytes bytes at × ((sizes : List ℕ) × (rest : List ℕ) × (n : ℕ)
    × SkipsInterimResponses bytes sizes rest
    × (head_length (take most_head_bytes rest) ≡ Some n) × ResponseHeadIsJudged (take n rest) (Ok head)
    × (is_interim head.status ≡ false)
    × (drop n rest ≡ drop at bytes))

-- it is what the bytes read as; a response stream never ends without a message or a fault
abbrev pub IsProgressOfBytes : ℕ → Bool → Bool → List ℕ → MessageProgress StatusHead Response → Type 0
IsProgressOfBytes max_body to_head ended bytes (head_progress.Incomplete n) =
    (n ≤ length bytes) × ReadsAs max_body to_head ended bytes Incomplete
    × ((sizes : List ℕ) × SkipsInterimResponses bytes sizes (drop n bytes))
    × IsUnfinishedHead (drop n bytes)
IsProgressOfBytes max_body to_head ended bytes (head_progress.NeedsContinue head content n) = ⊥
IsProgressOfBytes max_body to_head ended bytes (head_progress.InContent head content n) =
    IsIndexBehindSomeBytes bytes n × ReadsAs max_body to_head ended bytes Incomplete
    × ResponseReadsByResumedContent max_body to_head head content bytes (drop n bytes)
    × IsRestOfUnfinishedContent content (drop n bytes)
IsProgressOfBytes max_body to_head ended bytes (head_progress.Message m n) =
    IsIndexBehindSomeBytes bytes n × ReadsAs max_body to_head ended bytes (Spelled m (drop n bytes))
IsProgressOfBytes max_body to_head ended bytes (head_progress.Faulty f) =
    (1 ≤ length bytes + cond ended 1 0) × ReadsAs max_body to_head ended bytes (Faulty f)
IsProgressOfBytes max_body to_head ended bytes head_progress.Ended = ⊥

-- the head of a final response stands behind the interim ones, so that what is due is told behind it
abbrev pub FinalHeadFollowsInterimResponses : List ℕ → Type 0
FinalHeadFollowsInterimResponses bytes = (head : StatusHead) × (at : ℕ)
    × FinalHeadSearchEndsWith bytes (final_head.Complete head at)
