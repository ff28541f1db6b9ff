-- Where content in chunks deviates from its grammar (RFC 9112, section 7.1), and by which fault, without a state.
-- own: each line is judged at its LF, or where it is too long, and the CRLF behind data byte by byte
--
-- ChunkDeviation: what may be wrong behind whole chunks
-- BytesStartWithChunkDeviation: that it is
-- DeviatesFromChunks: the bytes deviate
use Rattle.std.specs.Prelude.{◌≡◌, ℕ, ◌+◌, ◌<◌, ◌≤◌, ◌&&◌, ◌==◌, Bool, true, false, not, List, [], ◌∷◌, ◌++◌, length}
use Rattle.std.specs.List.{AllByRecursion}
use Rattle.hx_framing.specs.declared.frame_fault.FrameFault.{FrameFault}
use Rattle.hx_framing.specs.declared.frame_fault.FrameFault.TheVariants as fault
use Rattle.hx_framing.specs.SizeLine.{is_chunk_size_text, most_chunk_size_line_bytes}
use Rattle.hx_framing.specs.Chunks.{most_trailer_bytes}
use Rattle.hx_framing.specs.ChunkGrammar.{has_no_lf, ChunkSizeLineSpellsSize, Chunk, IsChunk, chunks_text}
use Rattle.hx_framing.specs.ChunkGrammar.{data_of_chunks}
use Rattle.hx_framing.specs.ChunkGrammar.{IsTrailerLine}

-- what begins so can't become CRLF
abbrev pub cannot_become_crlf : List ℕ → Bool
cannot_become_crlf [] = false
cannot_become_crlf (b ∷ []) = not (b == 13)
cannot_become_crlf (b ∷ c ∷ bytes) = not (b == 13 && (c == 10))

-- chunk-size [ chunk-ext ] and CR: a size line up to its LF
pub record IsSizeLineWithCr (line : List ℕ) : Type 0 where
  pub text : List ℕ
  pub ends : line ≡ text ++ 13 ∷ []
  pub form : is_chunk_size_text text ≡ true

-- the line ends by CRLF
pub record LineEndsInCr (line : List ℕ) : Type 0 where
  pub text : List ℕ
  pub ends : line ≡ text ++ 13 ∷ []

-- trailer lines, and what follows them
abbrev pub trailer_lines_text_with_rest : List (List ℕ) → List ℕ → List ℕ
trailer_lines_text_with_rest [] rest = rest
trailer_lines_text_with_rest (line ∷ lines) rest = line ++ 13 ∷ 10 ∷ trailer_lines_text_with_rest lines rest

abbrev pub trailer_lines_length : List (List ℕ) → ℕ
trailer_lines_length [] = 0
trailer_lines_length (line ∷ lines) = length line + 2 + trailer_lines_length lines

-- NoSize: a line where a size line has to stand    NoEnd: more bytes than a size line may have, and no LF
-- Large: a chunk that brings the sum above the limit    BadEnd: no CRLF behind data
-- BadTrailer: a trailer line, or the empty line, that ends by LF alone
-- LongTrailers: more bytes than trailers may have, and no end
pub data ChunkDeviation : Type 0 where
  NoSize NoEnd Large BadEnd BadTrailer LongTrailers : ChunkDeviation

-- the first bytes of a trailer section: whole lines, and a begun one
pub record IsBegunTrailerSection (bytes : List ℕ) (lines : List (List ℕ)) (line rest : List ℕ) : Type 0 where
  pub last : List ℕ
  pub size : ChunkSizeLineSpellsSize last 0
  pub each : AllByRecursion IsTrailerLine lines
  pub one_line : has_no_lf line ≡ true
  pub parts : bytes ≡ last ++ 13 ∷ 10 ∷ trailer_lines_text_with_rest lines (line ++ rest)

-- sum: how much content stands in front; the bytes that follow deviate so
abbrev pub BytesStartWithChunkDeviation : ℕ → ℕ → List ℕ → ChunkDeviation → FrameFault → Type 0
BytesStartWithChunkDeviation max_body sum bytes NoSize f =
    (f ≡ fault.Chunk)
    × ((line : List ℕ) × (rest : List ℕ) × (bytes ≡ line ++ 10 ∷ rest) × (has_no_lf line ≡ true)
    × ¬ (IsSizeLineWithCr line))
BytesStartWithChunkDeviation max_body sum bytes NoEnd f =
    (f ≡ fault.Chunk) × ((line : List ℕ) × (rest : List ℕ) × (bytes ≡ line ++ rest) × (has_no_lf line ≡ true)
    × (most_chunk_size_line_bytes < length line))
BytesStartWithChunkDeviation max_body sum bytes Large f =
    (f ≡ fault.TooLarge) × ((size : List ℕ) × (n : ℕ) × (rest : List ℕ) × (bytes ≡ size ++ 13 ∷ 10 ∷ rest)
    × ChunkSizeLineSpellsSize size n × (max_body < sum + n))
BytesStartWithChunkDeviation max_body sum bytes BadEnd f =
    (f ≡ fault.Chunk)
    × ((chunk : Chunk) × (rest : List ℕ) × (bytes ≡ chunk.size ++ 13 ∷ 10 ∷ (chunk.bytes ++ rest)) × IsChunk chunk
    × (sum + length chunk.bytes ≤ max_body) × (cannot_become_crlf rest ≡ true))
BytesStartWithChunkDeviation max_body sum bytes BadTrailer f =
    (f ≡ fault.Chunk)
    × ((lines : List (List ℕ)) × (line : List ℕ) × (rest : List ℕ) × IsBegunTrailerSection bytes lines line (10 ∷ rest)
    × ¬ (LineEndsInCr line))
BytesStartWithChunkDeviation max_body sum bytes LongTrailers f =
    (f ≡ fault.Chunk) × ((lines : List (List ℕ)) × (line : List ℕ) × (b : ℕ) × (rest : List ℕ)
    × IsBegunTrailerSection bytes lines line (b ∷ rest)
    × (most_trailer_bytes ≤ trailer_lines_length lines + length line))

-- behind whole chunks, within the limit, the bytes deviate
pub record DeviatesFromChunks (max_body : ℕ) (bytes : List ℕ) (f : FrameFault) : Type 0 where
  pub chunks : List Chunk
  pub tail : List ℕ
  pub parts : bytes ≡ chunks_text chunks tail
  pub whole : AllByRecursion IsChunk chunks
  pub fits : length (data_of_chunks chunks) ≤ max_body
  pub kind : ChunkDeviation
  pub breaks : BytesStartWithChunkDeviation max_body (length (data_of_chunks chunks)) tail kind f
