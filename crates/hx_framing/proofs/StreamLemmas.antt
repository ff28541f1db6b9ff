-- What streams of requests and of responses have in common.
use Rattle.std.proofs.Common.{◌≡◌, ℕ, List, refl}
use Rattle.hx_framing.specs.declared.frame_fault.FrameFault.{FrameFault}
use Rattle.hx_framing.specs.Progress.{next_answer_of_reading, ReaderAnswerNeedsAction}
use Rattle.hx_framing.specs.Reading.{StreamReadResult, Incomplete, Continue, Over, Spelled, Faulty, ReadingIsSettled, reading_with_more_bytes}

pub same_fault : {M : Type 0} (f g : FrameFault) → ◌≡◌ {A = StreamReadResult M} (Faulty f) (Faulty g) → f ≡ g
same_fault f g e = cc

-- more bytes behind a reading change no answer
pub next_extended : {M : Type 0} (r : StreamReadResult M) (w : List ℕ) → next_answer_of_reading (reading_with_more_bytes r w) ≡ next_answer_of_reading r
next_extended Incomplete w = refl
next_extended Continue w = refl
next_extended Over w = refl
next_extended (Spelled m rest) w = refl
next_extended (Faulty f) w = refl

-- what is due is settled, but for the end
pub due_settled : {M : Type 0} (r : StreamReadResult M) → ReaderAnswerNeedsAction (next_answer_of_reading r) → (◌≡◌ {A = StreamReadResult M} r Over → ⊥) → ReadingIsSettled r
due_settled Incomplete due goes_on = due
due_settled Continue due goes_on = tt
due_settled Over due goes_on = absurd (goes_on refl)
due_settled (Spelled m rest) due goes_on = tt
due_settled (Faulty f) due goes_on = tt
