-- Which bytes spell content in chunks (RFC 9112, section 7.1), as trees and what they print.
--
-- chunked_body_text_with_rest: chunked-body = *chunk last-chunk trailer-section CRLF
-- data_of_chunks: the data of the chunks in order
use Rattle.std.specs.Prelude.{◌≡◌, ℕ, ◌+◌, ◌<◌, ◌≤◌, Bool, true, not, List, [], ◌∷◌, ◌++◌, length, ◌==◌}
use Rattle.std.specs.List.{list_all, AllByRecursion}
use Rattle.hx_framing.specs.SizeLine.{is_chunk_size_text, chunk_size_of}
use Rattle.hx_framing.specs.Chunks.{most_trailer_bytes}

-- no line ends within
abbrev pub has_no_lf : List ℕ → Bool
has_no_lf text = list_all (λ b. not (b == 10)) text

-- chunk-size [ chunk-ext ] that spells this size
pub record ChunkSizeLineSpellsSize (text : List ℕ) (number : ℕ) : Type 0 where
  pub form : is_chunk_size_text text ≡ true
  pub size : number ≡ chunk_size_of text
  pub one_line : has_no_lf text ≡ true

-- chunk = chunk-size [ chunk-ext ] CRLF chunk-data CRLF: the text of its size line, and its data
pub record Chunk : Type 0 where
  pub size : List ℕ
  pub bytes : List ℕ

pub record IsChunk (chunk : Chunk) : Type 0 where
  pub size : ChunkSizeLineSpellsSize chunk.size (length chunk.bytes)
  pub some : 0 < length chunk.bytes

abbrev pub chunks_text : List Chunk → List ℕ → List ℕ
chunks_text [] rest = rest
chunks_text (chunk ∷ chunks) rest =
    chunk.size ++ 13 ∷ 10 ∷ (chunk.bytes ++ 13 ∷ 10 ∷ chunks_text chunks rest)

-- the data of the chunks, one after another
abbrev pub data_of_chunks : List Chunk → List ℕ
data_of_chunks [] = []
data_of_chunks (chunk ∷ chunks) = chunk.bytes ++ data_of_chunks chunks

-- own: a trailer line is any bytes but LF, at least one, and CRLF
pub record IsTrailerLine (trailer : List ℕ) : Type 0 where
  pub some : 0 < length trailer
  pub one_line : has_no_lf trailer ≡ true

-- the trailer section (RFC 9112, section 7.1.2), the empty line behind it, and what follows
abbrev pub trailer_section_text : List (List ℕ) → List ℕ → List ℕ
trailer_section_text [] rest = 13 ∷ 10 ∷ rest
trailer_section_text (trailer ∷ trailers) rest = trailer ++ 13 ∷ 10 ∷ trailer_section_text trailers rest

abbrev pub trailer_section_length : List (List ℕ) → ℕ
trailer_section_length [] = 2
trailer_section_length (trailer ∷ trailers) = length trailer + 2 + trailer_section_length trailers

-- chunks, the text of the last size line, and trailer lines
pub record ChunkedBody : Type 0 where
  pub chunks : List Chunk
  pub last : List ℕ
  pub trailers : List (List ℕ)

-- own: at most max_body bytes of content, and of trailers most_trailer_bytes
pub record IsChunkedBody (max_body : ℕ) (body : ChunkedBody) : Type 0 where
  pub chunks : AllByRecursion IsChunk body.chunks
  pub last : ChunkSizeLineSpellsSize body.last 0
  pub trailers : AllByRecursion IsTrailerLine body.trailers
  pub trailers_fit : trailer_section_length body.trailers ≤ most_trailer_bytes
  pub content_fits : length (data_of_chunks body.chunks) ≤ max_body

-- its bytes, and what follows
abbrev pub chunked_body_text_with_rest : ChunkedBody → List ℕ → List ℕ
chunked_body_text_with_rest body rest = chunks_text body.chunks
    (body.last ++ 13 ∷ 10 ∷ trailer_section_text body.trailers rest)
