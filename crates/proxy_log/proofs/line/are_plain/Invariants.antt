use Rattle.std.proofs.Common.{◌≡◌, ◌≤◌, ◌==◌, ◌&&◌, false, drop}
use Rattle.std.specs.List.{list_all}
use Rattle.proxy_log.specs.Line.{is_logged_unescaped}
use Rattle.proxy_log.proofs.line.are_plain.Given as goal

abbrev pub invariant-loop-b : goal.invariant-loop-b
invariant-loop-b l = record {
  all : ((l.escaped == 0) && list_all (is_logged_unescaped false) (drop l.b-index l.bytes)) ≡ list_all (is_logged_unescaped false) l.bytes;
  few : l.escaped ≤ l.b-index;
}
