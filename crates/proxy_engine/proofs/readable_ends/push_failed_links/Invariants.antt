use Rattle.std.proofs.Common.{◌≡◌, ◌+◌, ◌≤◌, ◌^◌, ◌++◌, map}
use Rattle.std.specs.Ordering.{nat_cmp}
use Rattle.std.specs.BTreeMap.{get}
use Rattle.proxy_engine.specs.Held.{open_link_has_failed}
use Rattle.proxy_engine.specs.Reading.{link_end_at}
use Rattle.proxy_engine.proofs.Failures.{bound, found_below}
use Rattle.proxy_engine.proofs.readable_ends.push_failed_links.Given as goal

abbrev pub invariant-loop-place : goal.invariant-loop-place
invariant-loop-place l = l.first + l.count ≤ 2 ^ 64 → l.list.items ≡ l.initial.list.items ++ map (link_end_at l.first) (found_below open_link_has_failed (get nat_cmp l.ends) (bound l.places l.place-index))
