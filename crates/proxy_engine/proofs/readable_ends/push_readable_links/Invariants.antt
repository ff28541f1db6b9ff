use Rattle.std.proofs.Common.{◌≡◌, ◌+◌, ◌≤◌, ◌^◌, ◌++◌, map}
use Rattle.proxy_engine.specs.Held.{flagged_places, link_may_send}
use Rattle.proxy_engine.specs.Reading.{link_end_at}
use Rattle.proxy_engine.proofs.readable_ends.push_readable_links.Given as goal

abbrev pub invariant-loop-j : goal.invariant-loop-j
invariant-loop-j l = l.first + l.count ≤ 2 ^ 64 → l.list.items ++ map (link_end_at l.first) (flagged_places link_may_send l.count l.j-iterator) ≡ l.initial.list.items ++ map (link_end_at l.first) (flagged_places link_may_send l.count l.ends.entries)
