-- A stream of one response: what a reader answers of it (RFC 9112, sections 4, 6 and 9.3).
use Rattle.std.specs.Prelude.{◌≡◌, ℕ, Bool, true, List, [], ◌∷◌}
use Rattle.hx_framing.specs.declared.messages.Response.{Response}
use Rattle.hx_framing.specs.declared.messages.Next.{Next}
use Rattle.hx_framing.specs.declared.messages.Next.TheVariants.{End}
use Rattle.hx_framing.specs.Reading.{StreamReadResult, Spelled}
use Rattle.hx_framing.specs.ResponseReading.{ReadsAs}
use Rattle.hx_framing.specs.Progress.{Progress, next_answer_of_reading, out_of_memory_may_replace}

-- the bytes, of which no more come where ended holds, begin with this response; what follows is rest
abbrev pub SpellsResponse : ℕ → Bool → Bool → List ℕ → Response → List ℕ → Type 0
SpellsResponse max_body to_head ended bytes message rest = ReadsAs max_body to_head ended bytes (Spelled message rest)

-- none was given, or the one that the stream spells
abbrev pub StreamSpellsGivenResponse : Progress Response → List Response → Type 0
StreamSpellsGivenResponse p [] = Unit {0}
StreamSpellsGivenResponse p (message ∷ []) = (rest : List ℕ)
    × SpellsResponse p.max_body p.to_head p.ended p.stream message rest
StreamSpellsGivenResponse p (message ∷ other ∷ more) = ⊥

-- before the message what the stream reads as, and then the end, whatever follows
abbrev pub IsReadAnswerThenEnd : Progress Response → List Response → Next Response → Type 0
IsReadAnswerThenEnd p [] answer =
    (reading : StreamReadResult Response)
    × ReadsAs p.max_body p.to_head p.ended p.stream reading × (answer ≡ next_answer_of_reading reading)
IsReadAnswerThenEnd p (message ∷ more) answer = answer ≡ End

pub record Answers (p : Progress Response) (answer : Next Response) : Type 0 where
  pub spells : StreamSpellsGivenResponse p p.given
  pub by : IsReadAnswerThenEnd p p.given answer

-- out of memory may stand in place of the answer
abbrev pub OutOfMemoryIsAllowed : Progress Response → Type 0
OutOfMemoryIsAllowed p = (answer : Next Response) → Answers p answer → out_of_memory_may_replace answer ≡ true
