-- Tokens of chunks one after another, as the decoder takes them.
use Rattle.std.proofs.Common.{◌≡◌, ℕ, ◌+◌, ◌≤◌, List, ◌++◌, length, drop, take, sym, ap, ◌∙◌, subst, arith, Some, length-drop, append_assoc}
use Rattle.std.proofs.Math.Seq.{take-add}
use Rattle.std.proofs.lemmas.List.{take-append-drop, drop-drop}
use Rattle.hx_framing.specs.declared.frame_fault.FrameFault.{FrameFault}
use Rattle.hx_framing.specs.declared.contents.chunk_tokens.ChunkState.{ChunkState}
use Rattle.hx_framing.specs.declared.contents.chunk_tokens.ChunkToken.TheVariants as token
use Rattle.hx_framing.specs.declared.contents.chunk_tokens.ChunkProgress.TheVariants as chunk_progress
use Rattle.hx_framing.specs.Body.{Whole}
use Rattle.hx_framing.specs.ChunkDecoder.{ChunkDecoder, chunk_decoder_with_empty_line}
use Rattle.hx_framing.specs.Chunks.{chunks_decoded_from_state, decoder_after_bytes}
use Rattle.hx_framing.specs.Decoding.{ChunksAreDecoded}
use Rattle.hx_framing.specs.ChunkTokens.{ChunkTokenIsTaken}
use Rattle.hx_framing.proofs.ChunkStreams.{chunks_behind, state_behind, state_waits}

-- the bytes behind those that lead to a state
led : (bytes more : List ℕ) (n : ℕ) (s t : ChunkDecoder) → decoder_after_bytes (take n bytes) s ≡ Some t
    → chunks_decoded_from_state (bytes ++ more) s ≡ chunks_decoded_from_state (drop n bytes ++ more) t
led bytes more n s t leads =
    ap (λ l. chunks_decoded_from_state (l ++ more) s) (sym (take-append-drop n bytes))
    ∙ ap (λ l. chunks_decoded_from_state l s) (append_assoc (take n bytes) (drop n bytes) more)
    ∙ chunks_behind (take n bytes) (drop n bytes ++ more) s t leads

-- a token more
pub leads_on : (bytes : List ℕ) (taken n : ℕ) (s t u : ChunkDecoder) → decoder_after_bytes (take taken bytes) s ≡ Some t → decoder_after_bytes (take n (drop taken bytes)) t ≡ Some u
    → decoder_after_bytes (take (taken + n) bytes) s ≡ Some u
leads_on bytes taken n s t u leads on =
    ap (λ l. decoder_after_bytes l s) (take-add taken n bytes)
    ∙ state_behind (take taken bytes) (take n (drop taken bytes)) s t leads
    ∙ on

-- no token more
pub decodes_more : (old : ChunkDecoder) (place : ChunkState) (was content bytes : List ℕ) (taken : ℕ)
    → taken ≤ length bytes → decoder_after_bytes (take taken bytes) old ≡ Some (chunk_decoder_with_empty_line place was) → ChunkTokenIsTaken place was (drop taken bytes) content token.Incomplete
    → ChunksAreDecoded old bytes (chunk_decoder_with_empty_line place content) (chunk_progress.Incomplete taken)
decodes_more old place was content bytes taken inside leads takes =
    let t = chunk_decoder_with_empty_line place was in
    let rest = drop taken bytes in
    subst (λ (l : List ℕ). ChunksAreDecoded old bytes (chunk_decoder_with_empty_line place l) (chunk_progress.Incomplete taken)) (sym takes.0) (
      inside,
      λ more. led bytes more taken old t leads,
      state_waits rest t (record t { line = rest }) takes.1.leads,
      ap (λ l. decoder_after_bytes l old) (sym (take-append-drop taken bytes)) ∙ state_behind (take taken bytes) rest old t leads ∙ takes.1.leads,
      takes.1,
    )

-- the last token
pub decodes_whole : (old : ChunkDecoder) (place : ChunkState) (was content bytes : List ℕ) (taken n : ℕ)
    → taken ≤ length bytes → decoder_after_bytes (take taken bytes) old ≡ Some (chunk_decoder_with_empty_line place was) → ChunkTokenIsTaken place was (drop taken bytes) content (token.Last n)
    → ChunksAreDecoded old bytes (chunk_decoder_with_empty_line place content) (chunk_progress.Whole (taken + n))
decodes_whole old place was content bytes taken n inside leads takes =
    let t = chunk_decoder_with_empty_line place was in (
      omega (arith, takes.0, length-drop taken bytes),
      omega (arith, takes.1),
      λ more. led bytes more taken old t leads ∙ takes.2 more ∙ ap (λ l. Whole (Some content) (l ++ more)) (drop-drop n taken bytes),
    )

-- a fault
pub decodes_fault : (old : ChunkDecoder) (place new : ChunkState) (was content bytes : List ℕ) (taken : ℕ) (f : FrameFault)
    → decoder_after_bytes (take taken bytes) old ≡ Some (chunk_decoder_with_empty_line place was) → ChunkTokenIsTaken place was (drop taken bytes) content (token.Faulty f)
    → ChunksAreDecoded old bytes (chunk_decoder_with_empty_line new content) (chunk_progress.Faulty f)
decodes_fault old place new was content bytes taken f leads takes = λ more. led bytes more taken old (chunk_decoder_with_empty_line place was) leads ∙ takes more
