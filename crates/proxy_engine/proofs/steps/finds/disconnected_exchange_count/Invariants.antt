use Rattle.std.proofs.Common.{◌≡◌, ◌≤◌, length}
use Rattle.proxy_engine.specs.Marked.{is_gone_with_exchange, end_if_open_at}
use Rattle.proxy_engine.proofs.Failures.{bound, found_below}
use Rattle.proxy_engine.proofs.steps.finds.disconnected_exchange_count.Given as goal

abbrev pub invariant-loop-place : goal.invariant-loop-place
invariant-loop-place l = (l.count ≤ l.place-index) × (l.count ≡ length (found_below is_gone_with_exchange (end_if_open_at l.ends.items) (bound l.places l.place-index)))
