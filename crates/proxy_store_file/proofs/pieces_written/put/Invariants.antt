use Rattle.std.proofs.Common.{◌≤◌, length, take}
use Rattle.std.specs.Io.KnownBytes.{Appends}
use Rattle.proxy_store_file.proofs.pieces_written.put.Given as goal

-- the writer took the bytes before this place
abbrev pub invariant-loop-turn : goal.invariant-loop-turn
invariant-loop-turn g l = record {
  within : l.at ≤ length l.bytes;
  taken : Appends (g.W.Write.contents l.fn.writer) (g.W.Write.contents l.writer) (take l.at l.bytes);
}
