use Rattle.std.proofs.Common.{◌≡◌, true, length}
use Rattle.proxy_log.specs.KeptLine.{has_no_lf}
use Rattle.proxy_log.proofs.KeptLines.{GoesOn}
use Rattle.proxy_log.proofs.kept_line.RequestLine.keep.Given as goal

abbrev pub invariant-loop-line : goal.invariant-loop-line
invariant-loop-line l = record {
  kept : has_no_lf l.initial.self.text.items ≡ true → GoesOn l.initial.self.text.items l.piece l.self.text.items l.rest;
  over : l.self.is_over ≡ l.initial.self.is_over;
}

abbrev pub decreases-loop-line : goal.decreases-loop-line
decreases-loop-line l = length l.rest
