-- What is found at the front of a request stream, and how its content goes on.
use Rattle.std.specs.Prelude.{◌≡◌, ℕ, Bool, true, false, List, take, drop, Some, Ok}
use Rattle.hx_framing.specs.declared.heads.request_head.Head.{Head}
use Rattle.hx_framing.specs.declared.messages.Request.{Request}
use Rattle.hx_framing.specs.declared.contents.content.Content.{Content}
use Rattle.hx_framing.specs.declared.readers.progress.MessageProgress.{MessageProgress}
use Rattle.hx_framing.specs.declared.readers.progress.MessageProgress.TheVariants as head_progress
use Rattle.hx_framing.specs.Contents.{IsRestOfUnfinishedContent}
use Rattle.hx_framing.specs.ContentReading.{IsIndexBehindSomeBytes, MessageReadsByResumedContent}
use Rattle.hx_framing.specs.HeadEnd.{head_length, most_head_bytes, IsUnfinishedHead}
use Rattle.hx_framing.specs.Head.{RequestHeadIsJudged}
use Rattle.hx_framing.specs.Reading.{Incomplete, Continue, Over, Spelled, Faulty}
use Rattle.hx_framing.specs.RequestReading.{request_of_head, ReadsAs}

-- whatever comes, the bytes read as this head with what the unread ones make of its content
abbrev pub RequestReadsByResumedContent : ℕ → Bool → Head → Content → List ℕ → List ℕ → Type 0
RequestReadsByResumedContent max_body continue_sent head content bytes unread = MessageReadsByResumedContent
    {M = Request}
    (λ ended. ReadsAs max_body ended continue_sent) (request_of_head head) (λ ended. false) content bytes unread

-- it is what the bytes read as, before a continue was given
abbrev pub IsProgressOfBytes : ℕ → Bool → List ℕ → MessageProgress Head Request → Type 0
IsProgressOfBytes max_body ended bytes (head_progress.Incomplete n) =
    (n ≡ 0) × ReadsAs max_body ended false bytes Incomplete × IsUnfinishedHead bytes
IsProgressOfBytes max_body ended bytes (head_progress.NeedsContinue head content n) =
    IsIndexBehindSomeBytes bytes n × ReadsAs max_body ended false bytes Continue
    × RequestReadsByResumedContent max_body true head content bytes (drop n bytes)
IsProgressOfBytes max_body ended bytes (head_progress.InContent head content n) =
    IsIndexBehindSomeBytes bytes n × ReadsAs max_body ended false bytes Incomplete
    × RequestReadsByResumedContent max_body false head content bytes (drop n bytes)
    × IsRestOfUnfinishedContent content (drop n bytes)
IsProgressOfBytes max_body ended bytes (head_progress.Message m n) =
    IsIndexBehindSomeBytes bytes n × ReadsAs max_body ended false bytes (Spelled m (drop n bytes))
IsProgressOfBytes max_body ended bytes (head_progress.Faulty f) = ReadsAs max_body ended false bytes (Faulty f)
IsProgressOfBytes max_body ended bytes head_progress.Ended = ReadsAs max_body ended false bytes Over

-- a head stands at the front of the bytes, so that what is due is told behind it
abbrev pub BytesBeginWithRequestHead : List ℕ → Type 0
BytesBeginWithRequestHead bytes =
    (n : ℕ) × (head : Head) × (head_length (take most_head_bytes bytes) ≡ Some n) × RequestHeadIsJudged (take n bytes)
    (Ok head)
