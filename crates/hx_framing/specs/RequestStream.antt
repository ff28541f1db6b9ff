-- A stream of requests: its messages, and what a reader answers of it (RFC 9112, sections 2 to 7 and 9.3).
use Rattle.std.specs.Prelude.{◌≡◌, ℕ, true, false, List, [], ◌∷◌}
use Rattle.hx_framing.specs.declared.messages.Request.{Request}
use Rattle.hx_framing.specs.declared.messages.Next.{Next}
use Rattle.hx_framing.specs.Reading.{StreamReadResult, Spelled}
use Rattle.hx_framing.specs.RequestReading.{ReadsAs}
use Rattle.hx_framing.specs.Progress.{Progress, next_answer_of_reading, out_of_memory_may_replace}

-- the bytes begin with this request; what follows is rest
abbrev pub BytesBeginWithRequest : ℕ → List ℕ → Request → List ℕ → Type 0
BytesBeginWithRequest max_body bytes message rest = ReadsAs max_body false true bytes (Spelled message rest)

-- the stream spells these requests, and then comes rest
abbrev pub StreamSpells : ℕ → List ℕ → List Request → List ℕ → Type 0
StreamSpells max_body stream [] rest = rest ≡ stream
StreamSpells max_body stream (message ∷ messages) rest =
    (middle : List ℕ) × BytesBeginWithRequest max_body stream message middle
    × StreamSpells max_body middle messages rest

-- the answer is the one that the stream has behind the requests given
pub record Answers (p : Progress Request) (answer : Next Request) : Type 0 where
  pub rest : List ℕ
  pub reading : StreamReadResult Request
  pub spells : StreamSpells p.max_body p.stream p.given rest
  pub reads : ReadsAs p.max_body p.ended p.continue_sent rest reading
  pub answer_is : answer ≡ next_answer_of_reading reading

-- out of memory may stand in place of the answer
abbrev pub OutOfMemoryIsAllowed : Progress Request → Type 0
OutOfMemoryIsAllowed p = (answer : Next Request) → Answers p answer → out_of_memory_may_replace answer ≡ true
