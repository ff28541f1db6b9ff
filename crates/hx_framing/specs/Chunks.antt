-- Content in chunks, a byte at a time (RFC 9112, section 7.1): where a fault is judged, and what the content is.
-- Which bytes spell which content is said without a state in ChunkGrammar.
--
-- decoded_chunked_content: the content at the front of the bytes
-- chunks_decoded_from_state: the same, from a state on
-- chunk_step: what a byte does
-- decoder_after_bytes: the state behind the bytes
use Rattle.std.specs.Prelude.{ℕ, ◌+◌, ◌-◌, cond, List, [], ◌∷◌, ◌++◌, length, ◌==◌, nat_lt, Option, Some, None, Result}
use Rattle.std.specs.Prelude.{Ok, Err}
use Rattle.hx_framing.specs.declared.frame_fault.FrameFault.{FrameFault}
use Rattle.hx_framing.specs.declared.frame_fault.FrameFault.TheVariants as fault
use Rattle.hx_framing.specs.declared.contents.chunk_tokens.ChunkPhase.{ChunkPhase}
use Rattle.hx_framing.specs.declared.contents.chunk_tokens.ChunkPhase.TheVariants as phase
use Rattle.hx_framing.specs.Body.{ContentParseResult, Short, Bad, Whole}
use Rattle.hx_framing.specs.ChunkDecoder.{ChunkDecoder}
use Rattle.hx_framing.specs.SizeLine.{chunk_size_of_line, ends_in_cr, most_chunk_size_line_bytes}

-- own: longer trailers are refused, the empty line at their end counted
abbrev pub most_trailer_bytes : ℕ
most_trailer_bytes = 32768

-- goes on, ends with the content, or fails
pub data ChunkStep : Type 0 where
  Go : ChunkDecoder → ChunkStep
  Stop : List ℕ → ChunkStep
  Fail : FrameFault → ChunkStep

abbrev pub decoder_with_phase_and_line : ChunkDecoder → ChunkPhase → List ℕ → ChunkDecoder
decoder_with_phase_and_line s phase line = record s { phase = phase; line = line }

-- behind a size line: a size of 0 is that of the last chunk
abbrev pub step_after_size_line : ChunkDecoder → Result ℕ FrameFault → ChunkStep
step_after_size_line s (Err f) = Fail f
step_after_size_line s (Ok n) =
    cond (n == 0)
    (Go (decoder_with_phase_and_line s phase.Trailers []))
    (Go (record s { phase = phase.Data; line = []; need = n; left = s.left - n }))

-- a size line is judged at its LF, or at the first byte past the longest
abbrev pub step_in_size_line : ChunkDecoder → ℕ → ChunkStep
step_in_size_line s b =
    cond (b == 10)
    (step_after_size_line s (chunk_size_of_line s.line s.left))
    (cond (nat_lt (length s.line) most_chunk_size_line_bytes) (Go
    (decoder_with_phase_and_line s phase.Size (s.line ++ b ∷ [])))
    (Fail fault.Chunk))

abbrev pub step_in_data : ChunkDecoder → ℕ → ChunkStep
step_in_data s b =
    Go (record s {
      phase = cond (nat_lt 1 s.need) phase.Data phase.DataEnd;
      need = s.need - 1;
      content = s.content ++ b ∷ [];
    })

-- the CR behind data, and then the LF
abbrev pub step_in_data_end : ChunkDecoder → ℕ → ChunkStep
step_in_data_end s b =
    cond (length s.line == 0)
    (cond (b == 13) (Go (decoder_with_phase_and_line s phase.DataEnd (b ∷ []))) (Fail fault.Chunk))
    (cond (b == 10) (Go (decoder_with_phase_and_line s phase.Size [])) (Fail fault.Chunk))

-- the LF of a trailer line, or of the empty line behind the trailers (RFC 9112, section 7.1.2)
-- own: what a trailer line holds before its CRLF isn't judged
abbrev pub step_after_trailer_line : ChunkDecoder → ChunkStep
step_after_trailer_line s =
    cond (ends_in_cr s.line)
    (cond (length s.line == 1) (Stop s.content) (Go (record s { line = []; used = s.used + length s.line + 1 })))
    (Fail fault.Chunk)

abbrev pub step_in_trailers : ChunkDecoder → ℕ → ChunkStep
step_in_trailers s b =
    cond (nat_lt (s.used + length s.line) most_trailer_bytes)
    (cond (b == 10) (step_after_trailer_line s) (Go (decoder_with_phase_and_line s phase.Trailers (s.line ++ b ∷ []))))
    (Fail fault.Chunk)

abbrev pub step_in_phase : ChunkPhase → ChunkDecoder → ℕ → ChunkStep
step_in_phase phase.Size s b = step_in_size_line s b
step_in_phase phase.Data s b = step_in_data s b
step_in_phase phase.DataEnd s b = step_in_data_end s b
step_in_phase phase.Trailers s b = step_in_trailers s b

abbrev pub chunk_step : ChunkDecoder → ℕ → ChunkStep
chunk_step s b = step_in_phase s.phase s b

-- what comes of a step, where run says what comes of the state behind it
abbrev pub content_after_step : ChunkStep → (ChunkDecoder → ContentParseResult) → List ℕ → ContentParseResult
content_after_step (Go s) run rest = run s
content_after_step (Stop content) run rest = Whole (Some content) rest
content_after_step (Fail f) run rest = Bad f

-- the bytes, one after another
abbrev pub chunks_decoded_from_state : List ℕ → ChunkDecoder → ContentParseResult
chunks_decoded_from_state [] s = Short
chunks_decoded_from_state (b ∷ bytes) s = content_after_step (chunk_step s b) (chunks_decoded_from_state bytes) bytes

-- what comes of a step, where run says which state comes of the state behind it
abbrev pub decoder_after_step : ChunkStep → (ChunkDecoder → Option ChunkDecoder) → Option ChunkDecoder
decoder_after_step (Go s) run = run s
decoder_after_step (Stop content) run = None
decoder_after_step (Fail f) run = None

-- the state behind the bytes, where they neither end the content nor are at fault
abbrev pub decoder_after_bytes : List ℕ → ChunkDecoder → Option ChunkDecoder
decoder_after_bytes [] s = Some s
decoder_after_bytes (b ∷ bytes) s = decoder_after_step (chunk_step s b) (decoder_after_bytes bytes)

-- before the first size line
abbrev pub decoder_at_start : ℕ → ChunkDecoder
decoder_at_start max_body = record { phase = phase.Size; need = 0; left = max_body; used = 0; content = []; line = [] }

-- content in chunks of at most max_body bytes
abbrev pub decoded_chunked_content : ℕ → List ℕ → ContentParseResult
decoded_chunked_content max_body bytes = chunks_decoded_from_state bytes (decoder_at_start max_body)
