use Rattle.std.proofs.Common.{◌≡◌, true, take}
use Rattle.hx_framing.specs.ChunkGrammar.{has_no_lf}
use Rattle.hx_framing.proofs.contents.chunk_tokens.line_feed_within.Given as goal

abbrev pub invariant-loop-at : goal.invariant-loop-at
invariant-loop-at l = has_no_lf (take l.at l.bytes) ≡ true
