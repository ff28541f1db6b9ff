use Rattle.std.proofs.Common.{refl}
use Rattle.proxy_streams.proofs.Streaming.{not_written}
use Rattle.proxy_streams.proofs.peer.Peer.write.Goals as goal

pub returns-then-self-clause-written : goal.returns-then-self-clause-written
returns-then-self-clause-written g c =
    not_written g.S.Stream.Passed c.args.bytes.now c.args.self.now c.args.self.now g.met.S.Stream.none refl c.if-self.true
