use Rattle.std.proofs.Common.{ap, ◌∙◌}
use Rattle.hx_framing.specs.Queue.{ByteQueue}
use Rattle.hx_framing.proofs.ReaderLemmas.{looked, looked_in_vain}
use Rattle.hx_framing.proofs.readers.message_reader.MessageReader.look.Goals as goal

pub returns-clause-found : goal.returns-clause-found
returns-clause-found g c =
    looked g.H.MessageHead.kind c.self.invariant _ c.read_next_head.result c.self.view_is (c.as_slice.ensures ∙ ap (λ (q : ByteQueue). q.items) c.head_length-head_length.ensures.same) c.requires c.read_next_head.ensures.found

pub returns-clause-memory_last : goal.returns-clause-memory_last
returns-clause-memory_last g c =
    looked_in_vain g.H.MessageHead.kind c.self.invariant _ c.read_next_head.result c.self.view_is (c.as_slice.ensures ∙ ap (λ (q : ByteQueue). q.items) c.head_length-head_length.ensures.same) c.requires c.read_next_head.ensures.memory_last
