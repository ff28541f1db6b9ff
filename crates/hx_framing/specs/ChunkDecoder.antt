-- How far content in chunks has come (RFC 9112, section 7.1).
use Rattle.std.specs.Prelude.{◌≡◌, ◌<◌, ℕ, List, []}
use Rattle.hx_framing.specs.declared.contents.chunk_tokens.ChunkPhase.{ChunkPhase}
use Rattle.hx_framing.specs.declared.contents.chunk_tokens.ChunkPhase.TheVariants as phase
use Rattle.hx_framing.specs.declared.contents.chunk_tokens.ChunkState.{ChunkState}

-- need: bytes of data still to come of this chunk; left: bytes of content that later chunks may have;
-- used: bytes of the whole trailer lines; content: the data so far; line: the bytes of the line so
-- far, or the CR behind data
pub record ChunkDecoder : Type 0 where
  pub phase : ChunkPhase
  pub need : ℕ
  pub left : ℕ
  pub used : ℕ
  pub content : List ℕ
  pub line : List ℕ

-- in the data of a chunk, some of it is still to come
abbrev pub DataPhaseNeedsBytes : ChunkPhase → ℕ → Type 0
DataPhaseNeedsBytes at need = at ≡ phase.Data → 0 < need

-- with no line begun
abbrev pub chunk_decoder_with_empty_line : ChunkState → List ℕ → ChunkDecoder
chunk_decoder_with_empty_line place content = record {
  phase = place.phase;
  need = place.need;
  left = place.left;
  used = place.used;
  content = content;
  line = [];
}
