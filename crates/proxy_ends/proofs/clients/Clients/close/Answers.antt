use Rattle.std.proofs.Common.{◌≡◌, ◌<◌, length, [], sym, ap, subst, ◌∙◌, arith}
use Rattle.std.specs.Global.{Box}
use Rattle.slab.specs.Slab.{Slab}
use Rattle.proxy_ends.specs.Closing.{IsInLeavingQueueIfUnsent}
use Rattle.proxy_streams.specs.Peers.{UnsentBytes}
use Rattle.proxy_ends.specs.Streams.{client_at_number}
use Rattle.proxy_ends.specs.declared.clients.client.Client.{Client}
use Rattle.proxy_pacing.specs.declared.stream_queues.ClosedStreamQueue.TheVariants.{Leaving}
use Rattle.proxy_ends.proofs.Closings.{closes_leaving}
use Rattle.proxy_ends.proofs.clients.Clients.close.Goals as goal
use Rattle.proxy_ends.proofs.clients.Clients.close.Goals.{then-has_unsent, else-has_unsent}

pub returns-clause-leaves : goal.returns-clause-leaves
returns-clause-leaves g c =
    let client = c.in-Some-get_mut.client.now in
    let unsent_of : Client g.row.S.Denot → UnsentBytes = λ k. k.peer.unsent in
    let same : c.drop_bytes_not_handed_in.new.self.peer.unsent ≡ client.value.peer.unsent
    = ap unsent_of c.drop_bytes_not_handed_in.ensures ∙ ap unsent_of c.deref_mut-3.ensures.value ∙ ap unsent_of c.deref_mut-2.ensures.value ∙ ap unsent_of c.deref_mut.ensures.value in
    let leaving : 0 < length client.value.peer.unsent.bytes → c.if-has_unsent.queue ≡ Leaving = λ some.
    elim c.if-has_unsent.branch [
      | then-has_unsent w ↦ w.queue-is
      | else-has_unsent w ↦
          let none : length c.deref.result.now.peer.unsent.bytes ≡ 0 = ap length (c.has_unsent.ensures.empty w.if-has_unsent.false) in
          let there = ap (λ (k : Client g.row.S.Denot). length k.peer.unsent.bytes) c.deref.ensures in
          let held = ap (λ (u : UnsentBytes). length u.bytes) same in
          absurd (omega (arith, none, there, held, some))
    ] in
    subst (λ (s : Slab (Box (Client g.row.S.Denot))). IsInLeavingQueueIfUnsent (client_at_number c.args.self.now.open s c.args.n) (client_at_number c.args.self.now.open c.end.new.self.streams c.args.n))
    c.remove_number.ensures.streams (
    closes_leaving c.args.self.now.open c.args.n c.in-Some.key c.remove_number.new.self.streams client (record client { value = c.drop_bytes_not_handed_in.new.self }) c.if-has_unsent.queue
    c.join_queue.new.self.streams c.end.new.self.streams (sym c.remove_number.ensures.key ∙ c.in-Some.is) (sym c.in-Some-get_mut.ensures.value) same leaving
    c.join_queue.ensures.stands c.end.ensures.takes_first)
