use Rattle.hx_allow.proofs.LineHosts.{found_at_dot, passed_dot, passed_other, nowhere}
use Rattle.hx_allow.proofs.line_hosts.is_below_host.Goals as goal
use Rattle.hx_allow.proofs.line_hosts.is_below_host.Goals.{else-byte-eq46-via-then-byte-eq46+else-eq, else-byte-eq46-via-else-byte-eq46}

pub returns-then-eq : goal.returns-then-eq
returns-then-eq c = found_at_dot c.args.host.now c.args.asked.now c.loop-place.place c.eq.result c.loop-place-test.true c.if-byte-eq46.true c.eq.ensures c.if-eq.true c.loop-place.invariant

pub loop-place-preserved : goal.loop-place-preserved
loop-place-preserved c = elim c.else-byte-eq46.branch [
  | else-byte-eq46-via-then-byte-eq46+else-eq w ↦ passed_dot c.args.host.now c.args.asked.now c.loop-place.place w.eq.result c.loop-place-test.true w.if-byte-eq46.true w.eq.ensures w.if-eq.false c.loop-place.invariant
  | else-byte-eq46-via-else-byte-eq46 w ↦ passed_other c.args.host.now c.args.asked.now c.loop-place.place c.loop-place-test.true w.if-byte-eq46.false c.loop-place.invariant
]

pub returns : goal.returns
returns c = nowhere c.args.host.now c.args.asked.now c.loop-place.place c.loop-place-test.false c.loop-place.invariant
