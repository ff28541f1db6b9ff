-- What stands at the front of the bytes of a stream that no message has taken.
use Rattle.std.specs.Prelude.{ℕ, ◌++◌, Bool, cond, List, Option}
use Rattle.hx_framing.specs.declared.frame_fault.FrameFault.{FrameFault}
use Rattle.hx_framing.specs.declared.frame_fault.FrameFault.TheVariants as fault
use Rattle.hx_framing.specs.Body.{ContentParseResult, Short, Bad, Whole}

-- nothing is due yet, a continue, the end, a message and what follows it, or a fault
pub data StreamReadResult (M : Type 0) : Type 0 where
  Incomplete Continue Over : StreamReadResult M
  Spelled : M → List ℕ → StreamReadResult M
  Faulty : FrameFault → StreamReadResult M

-- where the stream ends here, a message is cut off (RFC 9112, section 8)
abbrev pub truncated_or_incomplete : {M : Type 0} → Bool → StreamReadResult M
truncated_or_incomplete ended = cond ended (Faulty fault.Truncated) Incomplete

-- behind a head whose message with a content is make
abbrev pub reading_of_content : {M : Type 0} → Bool → (Option (List ℕ) → M) → ContentParseResult → StreamReadResult M
reading_of_content ended make Short = truncated_or_incomplete ended
reading_of_content ended make (Bad f) = Faulty f
reading_of_content ended make (Whole content rest) = Spelled (make content) rest

-- something is due, whatever follows
abbrev pub ReadingIsSettled : {M : Type 0} → StreamReadResult M → Type 0
ReadingIsSettled Incomplete = ⊥
ReadingIsSettled Continue = Unit {0}
ReadingIsSettled Over = ⊥
ReadingIsSettled (Spelled m rest) = Unit {0}
ReadingIsSettled (Faulty f) = Unit {0}

-- the same with more bytes behind it
abbrev pub reading_with_more_bytes : {M : Type 0} → StreamReadResult M → List ℕ → StreamReadResult M
reading_with_more_bytes Incomplete w = Incomplete
reading_with_more_bytes Continue w = Continue
reading_with_more_bytes Over w = Over
reading_with_more_bytes (Spelled m rest) w = Spelled m (rest ++ w)
reading_with_more_bytes (Faulty f) w = Faulty f
