-- What a decoder of chunks does with the bytes that it is given.
use Rattle.std.specs.Prelude.{◌≡◌, ◌≤◌, ◌<◌, ℕ, List, ◌++◌, Some, length, drop}
use Rattle.hx_framing.specs.declared.contents.chunk_tokens.ChunkProgress.{ChunkProgress}
use Rattle.hx_framing.specs.declared.contents.chunk_tokens.ChunkProgress.TheVariants as chunk_progress
use Rattle.hx_framing.specs.Body.{Short, Bad, Whole}
use Rattle.hx_framing.specs.ChunkDecoder.{ChunkDecoder}
use Rattle.hx_framing.specs.Chunks.{chunks_decoded_from_state, decoder_after_bytes}
use Rattle.hx_framing.specs.ChunkTokens.{IsUnfinishedLine}

-- from the state old: Incomplete: the bytes lead to the state new and then into a line, or the CRLF
-- behind data, that isn't whole: it is just what isn't taken; Whole: they end the content; Faulty:
-- they are at fault, whatever follows
abbrev pub ChunksAreDecoded : ChunkDecoder → List ℕ → ChunkDecoder → ChunkProgress → Type 0
ChunksAreDecoded old bytes new (chunk_progress.Incomplete n) =
    (n ≤ length bytes)
    × ((more : List ℕ) → chunks_decoded_from_state (bytes ++ more) old
    ≡ chunks_decoded_from_state (drop n bytes ++ more) new)
    × (chunks_decoded_from_state (drop n bytes) new ≡ Short)
    × (decoder_after_bytes bytes old ≡ Some (record new { line = drop n bytes }))
    × IsUnfinishedLine new (drop n bytes)
ChunksAreDecoded old bytes new (chunk_progress.Whole n) =
    (n ≤ length bytes)
    × (0 < n)
    × ((more : List ℕ) → chunks_decoded_from_state (bytes ++ more) old
    ≡ Whole (Some new.content) (drop n bytes ++ more))
ChunksAreDecoded old bytes new (chunk_progress.Faulty f) = (more : List ℕ)
    → chunks_decoded_from_state (bytes ++ more) old
    ≡ Bad f
