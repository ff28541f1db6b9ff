-- What it means to take a token of content in chunks: the bytes of the token lead from a state to the next.
use Rattle.std.specs.Prelude.{◌≡◌, ◌≤◌, ◌<◌, ℕ, true, List, ◌++◌, Some, length, take, drop, slice_index}
use Rattle.hx_framing.specs.declared.contents.chunk_tokens.ChunkState.{ChunkState}
use Rattle.hx_framing.specs.declared.contents.chunk_tokens.ChunkToken.{ChunkToken}
use Rattle.hx_framing.specs.declared.contents.chunk_tokens.ChunkToken.TheVariants as token
use Rattle.hx_framing.specs.Body.{Bad, Whole}
use Rattle.hx_framing.specs.ChunkGrammar.{has_no_lf}
use Rattle.hx_framing.specs.ChunkDecoder.{ChunkDecoder, DataPhaseNeedsBytes, chunk_decoder_with_empty_line}
use Rattle.hx_framing.specs.Chunks.{most_trailer_bytes, chunks_decoded_from_state, decoder_after_bytes}

-- the first LF stands at this index, below the limit
pub record IsIndexOfFirstLineFeed (bytes : List ℕ) (limit at : ℕ) : Type 0 where
  pub below : at < limit
  pub inside : at < length bytes
  pub first : has_no_lf (take at bytes) ≡ true
  pub here : slice_index bytes at ≡ 10

-- all the bytes belong to a line, or to the CRLF behind data, that was begun and isn't whole
pub record IsUnfinishedLine (s : ChunkDecoder) (bytes : List ℕ) : Type 0 where
  pub leads : decoder_after_bytes bytes s ≡ Some (record s { line = bytes })
  pub one_line : has_no_lf bytes ≡ true
  pub bounded : length bytes ≤ most_trailer_bytes

-- in a state, with the content old; new is the content behind the token
abbrev pub ChunkTokenIsTaken : ChunkState → List ℕ → List ℕ → List ℕ → ChunkToken → Type 0
ChunkTokenIsTaken place old bytes new token.Incomplete =
    (new ≡ old) × IsUnfinishedLine (chunk_decoder_with_empty_line place old) bytes
ChunkTokenIsTaken place old bytes new (token.Whole n next) =
    (n ≤ length bytes)
    × (0 < n)
    × DataPhaseNeedsBytes next.phase next.need
    × (decoder_after_bytes (take n bytes) (chunk_decoder_with_empty_line place old)
    ≡ Some (chunk_decoder_with_empty_line next new))
ChunkTokenIsTaken place old bytes new (token.Last n) =
    (n ≤ length bytes)
    × (0 < n)
    × ((more : List ℕ) → chunks_decoded_from_state (bytes ++ more) (chunk_decoder_with_empty_line place old)
    ≡ Whole (Some new)
    (drop n bytes ++ more))
ChunkTokenIsTaken place old bytes new (token.Faulty f) =
    (more : List ℕ) → chunks_decoded_from_state (bytes ++ more) (chunk_decoder_with_empty_line place old) ≡ Bad f

-- how many bytes were taken
abbrev pub bytes_taken_by_chunk_token : ChunkToken → ℕ
bytes_taken_by_chunk_token token.Incomplete = 0
bytes_taken_by_chunk_token (token.Whole n next) = n
bytes_taken_by_chunk_token (token.Last n) = n
bytes_taken_by_chunk_token (token.Faulty f) = 0
