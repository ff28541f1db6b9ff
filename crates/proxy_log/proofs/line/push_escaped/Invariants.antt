use Rattle.std.proofs.Common.{◌≡◌, ◌≤◌, ◌++◌, drop, take, length, vec_capacity}
use Rattle.proxy_log.specs.Line.{logged_text}
use Rattle.proxy_log.proofs.line.push_escaped.Given as goal

abbrev pub invariant-loop-b : goal.invariant-loop-b
invariant-loop-b l = record {
  shown : l.text.items ++ logged_text l.blanks (drop l.b-index l.bytes) ≡ l.initial.text.items ++ logged_text l.blanks l.bytes;
  capacity : vec_capacity l.initial.text ≤ vec_capacity l.text;
  front : take (length l.initial.text.items) l.text.items ≡ l.initial.text.items;
}
