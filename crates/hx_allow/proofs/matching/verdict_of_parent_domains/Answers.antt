use Rattle.std.proofs.Common.{◌≤◌, ◌+◌, ◌-◌, length, ◌∙◌, arith}
use Rattle.hx_allow.proofs.HostIndices.{skipped, looked_at_dot, passed_byte}
use Rattle.hx_allow.proofs.matching.verdict_of_parent_domains.Goals as goal
use Rattle.hx_allow.proofs.matching.verdict_of_parent_domains.Goals.{then-host-place-eq46, else-host-place-eq46}

pub loop-place-init : goal.loop-place-init
loop-place-init c =
    let le : c.saturating_sub-skipped.result ≤ length c.args.host.now - (c.args.index.now.longest + 1) = omega (arith, c.longest.ensures, c.saturating_sub.ensures, c.saturating_sub-skipped.ensures) in
    skipped c.args.lines.now c.args.index.now.below c.args.index.now.longest c.args.host.now c.saturating_sub-skipped.result c.args.method.now c.args.path.now c.args.found c.requires le

pub loop-place-preserved : goal.loop-place-preserved
loop-place-preserved c = elim c.if-host-place-eq46.branch [
  | then-host-place-eq46 w ↦ looked_at_dot c.args.lines.now c.args.index.now.below c.args.host.now c.loop-place.place c.args.method.now c.args.path.now w.lines_for_hosts_below-numbers.result.now c.loop-place.found c.if-host-place-eq46.found c.args.found
      c.loop-place-test.true w.if-host-place-eq46.true w.lines_for_hosts_below-numbers.ensures (w.found-is ∙ w.verdict_by_line_numbers-found.ensures) c.loop-place.invariant
  | else-host-place-eq46 w ↦ passed_byte c.args.lines.now c.args.index.now.below c.args.host.now c.loop-place.place c.args.method.now c.args.path.now c.loop-place.found c.if-host-place-eq46.found c.args.found
      c.loop-place-test.true w.if-host-place-eq46.false w.found-is c.loop-place.invariant
]
