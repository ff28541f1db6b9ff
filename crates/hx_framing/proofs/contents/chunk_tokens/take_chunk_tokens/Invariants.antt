use Rattle.std.proofs.Common.{◌≡◌, ◌≤◌, ◌+◌, ◌-◌, Some, true, length, take, drop, vec_len, vec_capacity}
use Rattle.hx_framing.specs.ChunkGrammar.{has_no_lf}
use Rattle.hx_framing.specs.ChunkDecoder.{DataPhaseNeedsBytes, chunk_decoder_with_empty_line}
use Rattle.hx_framing.specs.Chunks.{decoder_after_bytes}
use Rattle.hx_framing.proofs.contents.chunk_tokens.take_chunk_tokens.Given as goal

abbrev pub invariant-loop-n : goal.invariant-loop-n
invariant-loop-n l = record {
  inside : l.taken ≤ length l.bytes;
  searched : l.searched ≤ length l.bytes - l.taken;
  none : has_no_lf (take l.searched (drop l.taken l.bytes)) ≡ true;
  need : DataPhaseNeedsBytes l.place.phase l.place.need;
  room : vec_len l.content + (length l.bytes - l.taken) ≤ vec_capacity l.content;
  leads : decoder_after_bytes (take l.taken l.bytes) (chunk_decoder_with_empty_line l.fn.place l.fn.content.items) ≡ Some (chunk_decoder_with_empty_line l.place l.content.items);
}

abbrev pub decreases-loop-n : goal.decreases-loop-n
decreases-loop-n l = length l.bytes - l.taken
