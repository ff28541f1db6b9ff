use Rattle.std.proofs.Common.{◌≡◌, drop}
use Rattle.hx_framing.specs.SizeLine.{begins_with_chunk_extension}
use Rattle.hx_framing.proofs.contents.size_line.begins_with_chunk_extension.Given as goal

abbrev pub invariant-loop-b : goal.invariant-loop-b
invariant-loop-b l = begins_with_chunk_extension (drop l.b-index l.text) ≡ begins_with_chunk_extension l.text
