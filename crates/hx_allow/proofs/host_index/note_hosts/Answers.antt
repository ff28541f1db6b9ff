use Rattle.hx_allow.specs.Index.{line_numbers_for_host, line_host_is_exactly, is_wildcard_of, is_for_every_host}
use Rattle.hx_allow.proofs.HostIndices.{one_more_host}
use Rattle.hx_allow.proofs.host_index.note_hosts.Goals as goal

pub loop-host-preserved : goal.loop-host-preserved
loop-host-preserved c = record {
  named = λ host. one_more_host (line_host_is_exactly host) c.args.hosts.now c.loop-host.host-index c.args.number c.host-item.result (line_numbers_for_host c.args.index.now.named host) (line_numbers_for_host c.loop-host.index.named host) (line_numbers_for_host c.note.new.self.named host) c.loop-host-test.true c.host-item.is (c.in_ok-note.ensures.0 host) (c.loop-host.invariant.named host);
  below = λ host. one_more_host (is_wildcard_of host) c.args.hosts.now c.loop-host.host-index c.args.number c.host-item.result (line_numbers_for_host c.args.index.now.below host) (line_numbers_for_host c.loop-host.index.below host) (line_numbers_for_host c.note.new.self.below host) c.loop-host-test.true c.host-item.is (c.in_ok-note.ensures.1 host) (c.loop-host.invariant.below host);
  every = one_more_host is_for_every_host c.args.hosts.now c.loop-host.host-index c.args.number c.host-item.result c.args.index.now.every.items c.loop-host.index.every.items c.note.new.self.every.items c.loop-host-test.true c.host-item.is c.in_ok-note.ensures.2 c.loop-host.invariant.every;
  short = λ short. c.in_ok-note.ensures.3 (c.loop-host.invariant.short short);
}
