use Rattle.std.proofs.Common.{◌+◌, ◌<◌, ◌≤◌, length}
use Rattle.hx_fields.specs.declared.limits.TheConstants.{START_OF_YEAR_10000}
use Rattle.proxy_replay.proofs.Playing.{SoFar}
use Rattle.proxy_replay.proofs.play.play.Given as goal

-- the items in front of the rest were played
abbrev pub invariant-items : goal.invariant-items
invariant-items g l = record {
  so_far : SoFar (g.O.StoreOpening.opens l.fn.opening) l.bytes l.rest l.now l.line l.engine (g.W.Write.contents l.fn.writer) (g.W.Write.contents l.writer);
  lines : l.line + length l.rest ≤ length l.bytes + 2;
  moments : l.now < START_OF_YEAR_10000;
}

abbrev pub decreases-items : goal.decreases-items
decreases-items g l = length l.rest
