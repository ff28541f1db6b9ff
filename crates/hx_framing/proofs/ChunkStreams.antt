-- Bytes of chunks one after another: what is decided stays so, and what a state leads to doesn't depend on how the bytes are cut.
use Rattle.std.proofs.Common.{◌≡◌, ℕ, ◌+◌, ◌-◌, ◌≤◌, Bool, true, false, cond, List, [], ◌∷◌, ◌++◌, length, ◌==◌, nat_lt, refl, sym, ap, ◌∙◌, subst, arith, Some, Result, Ok, Err, length-append}
use Rattle.std.proofs.lemmas.List.{append-nil}
use Rattle.std.proofs.lemmas.Bool.{ltb-true}
use Rattle.hx_framing.specs.declared.frame_fault.FrameFault.{FrameFault}
use Rattle.hx_framing.specs.declared.frame_fault.FrameFault.TheVariants as fault
use Rattle.hx_framing.specs.declared.contents.chunk_tokens.ChunkPhase.{ChunkPhase}
use Rattle.hx_framing.specs.declared.contents.chunk_tokens.ChunkPhase.TheVariants as phase
use Rattle.hx_framing.specs.Body.{Short, ContentIsWholeOrFaulty, content_result_with_more_bytes}
use Rattle.hx_framing.specs.ChunkDecoder.{ChunkDecoder}
use Rattle.hx_framing.specs.SizeLine.{most_chunk_size_line_bytes, chunk_size_of_line, ends_in_cr}
use Rattle.hx_framing.specs.Chunks.{most_trailer_bytes, ChunkStep, Go, Stop, Fail, chunk_step, step_in_phase, step_after_size_line, decoder_with_phase_and_line, step_after_trailer_line, content_after_step, chunks_decoded_from_state, decoder_after_step, decoder_after_bytes}

pub chunks_append : (bytes more : List ℕ) (s : ChunkDecoder) → ContentIsWholeOrFaulty (chunks_decoded_from_state bytes s)
    → chunks_decoded_from_state (bytes ++ more) s ≡ content_result_with_more_bytes (chunks_decoded_from_state bytes s) more
chunks_append [] more s decided = absurd decided
chunks_append (b ∷ bytes) more s decided = by_step (λ s. chunks_append bytes more s) (chunk_step s b) decided
  where
    by_step : ((s : ChunkDecoder) → ContentIsWholeOrFaulty (chunks_decoded_from_state bytes s) → chunks_decoded_from_state (bytes ++ more) s ≡ content_result_with_more_bytes (chunks_decoded_from_state bytes s) more)
        → (t : ChunkStep) → ContentIsWholeOrFaulty (content_after_step t (chunks_decoded_from_state bytes) bytes)
        → content_after_step t (chunks_decoded_from_state (bytes ++ more)) (bytes ++ more) ≡ content_result_with_more_bytes (content_after_step t (chunks_decoded_from_state bytes) bytes) more
    by_step later (Go s) decided = later s decided
    by_step later (Stop content) decided = refl
    by_step later (Fail f) decided = refl

-- ---- states on the way

pub chunks_behind : (front rest : List ℕ) (s t : ChunkDecoder) → decoder_after_bytes front s ≡ Some t → chunks_decoded_from_state (front ++ rest) s ≡ chunks_decoded_from_state rest t
chunks_behind [] rest s t leads = let same : s ≡ t = cc in ap (chunks_decoded_from_state rest) same
chunks_behind (b ∷ front) rest s t leads = by_step (λ s. chunks_behind front rest s t) (chunk_step s b) leads
  where
    by_step : ((s : ChunkDecoder) → decoder_after_bytes front s ≡ Some t → chunks_decoded_from_state (front ++ rest) s ≡ chunks_decoded_from_state rest t)
        → (u : ChunkStep) → decoder_after_step u (decoder_after_bytes front) ≡ Some t → content_after_step u (chunks_decoded_from_state (front ++ rest)) (front ++ rest) ≡ chunks_decoded_from_state rest t
    by_step later (Go s) leads = later s leads
    by_step later (Stop content) leads = absurd cc
    by_step later (Fail f) leads = absurd cc

pub state_behind : (front rest : List ℕ) (s t : ChunkDecoder) → decoder_after_bytes front s ≡ Some t → decoder_after_bytes (front ++ rest) s ≡ decoder_after_bytes rest t
state_behind [] rest s t leads = let same : s ≡ t = cc in ap (decoder_after_bytes rest) same
state_behind (b ∷ front) rest s t leads = by_step (λ s. state_behind front rest s t) (chunk_step s b) leads
  where
    by_step : ((s : ChunkDecoder) → decoder_after_bytes front s ≡ Some t → decoder_after_bytes (front ++ rest) s ≡ decoder_after_bytes rest t)
        → (u : ChunkStep) → decoder_after_step u (decoder_after_bytes front) ≡ Some t → decoder_after_step u (decoder_after_bytes (front ++ rest)) ≡ decoder_after_bytes rest t
    by_step later (Go s) leads = later s leads
    by_step later (Stop content) leads = absurd cc
    by_step later (Fail f) leads = absurd cc

-- a state isn't an end
pub state_waits : (bytes : List ℕ) (s t : ChunkDecoder) → decoder_after_bytes bytes s ≡ Some t → chunks_decoded_from_state bytes s ≡ Short
state_waits bytes s t leads = ap (λ l. chunks_decoded_from_state l s) (sym (append-nil bytes)) ∙ chunks_behind bytes [] s t leads

-- ---- a line is bounded

-- the line of a state
abbrev StepKeepsLineWithinLimit : ChunkStep → Type 0
StepKeepsLineWithinLimit (Go s) = length s.line ≤ most_trailer_bytes
StepKeepsLineWithinLimit (Stop content) = Unit {0}
StepKeepsLineWithinLimit (Fail f) = Unit {0}

step_within : (s : ChunkDecoder) (b : ℕ) → length s.line ≤ most_trailer_bytes → StepKeepsLineWithinLimit (chunk_step s b)
step_within s b within = by_phase s.phase
  where
    by_size : (r : Result ℕ FrameFault) → StepKeepsLineWithinLimit (step_after_size_line s r)
    by_size (Err f) = tt
    by_size (Ok n) = by_zero (n == 0)
      where
        by_zero : (t : Bool) → StepKeepsLineWithinLimit (cond t (Go (decoder_with_phase_and_line s phase.Trailers [])) (Go (record s { phase = phase.Data; line = []; need = n; left = s.left - n })))
        by_zero true = omega arith
        by_zero false = omega arith

    by_length : (t : Bool) → nat_lt (length s.line) most_chunk_size_line_bytes ≡ t
        → StepKeepsLineWithinLimit (cond t (Go (decoder_with_phase_and_line s phase.Size (s.line ++ b ∷ []))) (Fail fault.Chunk))
    by_length true p = omega (arith, ltb-true (length s.line) most_chunk_size_line_bytes p, length-append s.line (b ∷ []))
    by_length false p = tt

    by_feed : (t : Bool) → StepKeepsLineWithinLimit (cond t (step_after_size_line s (chunk_size_of_line s.line s.left)) (cond (nat_lt (length s.line) most_chunk_size_line_bytes) (Go (decoder_with_phase_and_line s phase.Size (s.line ++ b ∷ []))) (Fail fault.Chunk)))
    by_feed true = by_size (chunk_size_of_line s.line s.left)
    by_feed false = by_length (nat_lt (length s.line) most_chunk_size_line_bytes) refl

    by_end : (t c l : Bool)
        → StepKeepsLineWithinLimit (cond t (cond c (Go (decoder_with_phase_and_line s phase.DataEnd (b ∷ []))) (Fail fault.Chunk)) (cond l (Go (decoder_with_phase_and_line s phase.Size [])) (Fail fault.Chunk)))
    by_end true true l = omega arith
    by_end true false l = tt
    by_end false c true = omega arith
    by_end false c false = tt

    by_line : (c l : Bool) → StepKeepsLineWithinLimit (cond c (cond l (Stop s.content) (Go (record s { line = []; used = s.used + length s.line + 1 }))) (Fail fault.Chunk))
    by_line true true = tt
    by_line true false = omega arith
    by_line false l = tt

    by_room : (r : Bool) → nat_lt (s.used + length s.line) most_trailer_bytes ≡ r → (t : Bool)
        → StepKeepsLineWithinLimit (cond r (cond t (step_after_trailer_line s) (Go (decoder_with_phase_and_line s phase.Trailers (s.line ++ b ∷ [])))) (Fail fault.Chunk))
    by_room true p true = by_line (ends_in_cr s.line) (length s.line == 1)
    by_room true p false = omega (arith, ltb-true (s.used + length s.line) most_trailer_bytes p, length-append s.line (b ∷ []))
    by_room false p t = tt

    by_phase : (p : ChunkPhase) → StepKeepsLineWithinLimit (step_in_phase p s b)
    by_phase phase.Size = by_feed (b == 10)
    by_phase phase.Data = within
    by_phase phase.DataEnd = by_end (length s.line == 0) (b == 13) (b == 10)
    by_phase phase.Trailers = by_room (nat_lt (s.used + length s.line) most_trailer_bytes) refl (b == 10)

pub line_within : (bytes : List ℕ) (s t : ChunkDecoder) → length s.line ≤ most_trailer_bytes → decoder_after_bytes bytes s ≡ Some t → length t.line ≤ most_trailer_bytes
line_within [] s t within leads = let same : s ≡ t = cc in subst (λ (u : ChunkDecoder). length u.line ≤ most_trailer_bytes) same within
line_within (b ∷ bytes) s t within leads = by_step (λ s. line_within bytes s t) (chunk_step s b) (step_within s b within) leads
  where
    by_step : ((s : ChunkDecoder) → length s.line ≤ most_trailer_bytes → decoder_after_bytes bytes s ≡ Some t → length t.line ≤ most_trailer_bytes)
        → (u : ChunkStep) → StepKeepsLineWithinLimit u → decoder_after_step u (decoder_after_bytes bytes) ≡ Some t → length t.line ≤ most_trailer_bytes
    by_step later (Go s) within leads = later s within leads
    by_step later (Stop content) within leads = absurd cc
    by_step later (Fail f) within leads = absurd cc
