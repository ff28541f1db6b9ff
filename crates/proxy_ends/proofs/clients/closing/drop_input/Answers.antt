use Rattle.std.proofs.Common.{◌≡◌, Ok, length, ap, ◌∙◌}
use Rattle.proxy_reads.specs.declared.received.Received.TheVariants as received
use Rattle.proxy_ends.specs.declared.clients.closing.StillToWait.TheVariants.{Yes, No}
use Rattle.proxy_ends.proofs.Dropping.{wait_of, read_behind, same_but_peer}
use Rattle.proxy_ends.proofs.clients.closing.drop_input.Goals as goal

pub returns-in-Ok-Nothing-clause-dropped : goal.returns-in-Ok-Nothing-clause-dropped
returns-in-Ok-Nothing-clause-dropped g c =
    let is : c.read_piece_behind_kept_input.result ≡ Ok received.Nothing = cc in
    read_behind g.S.Stream.Passed g.met.S.Stream.none g.met.S.Stream.joined _ c.args.client.now.peer c.loop-piece.client c.read_piece_behind_kept_input.new.self c.read_piece_behind_kept_input.result c.read_piece_behind_kept_input.new.buf Yes
    c.loop-piece.invariant.0 c.read_piece_behind_kept_input.ensures.takes_first c.read_piece_behind_kept_input.ensures.read.read c.read_piece_behind_kept_input.ensures.read.failed (ap wait_of is)

pub returns-in-Ok-End-clause-dropped : goal.returns-in-Ok-End-clause-dropped
returns-in-Ok-End-clause-dropped g c =
    let is : c.read_piece_behind_kept_input.result ≡ Ok received.End = cc in
    read_behind g.S.Stream.Passed g.met.S.Stream.none g.met.S.Stream.joined _ c.args.client.now.peer c.loop-piece.client c.read_piece_behind_kept_input.new.self c.read_piece_behind_kept_input.result c.read_piece_behind_kept_input.new.buf No
    c.loop-piece.invariant.0 c.read_piece_behind_kept_input.ensures.takes_first c.read_piece_behind_kept_input.ensures.read.read c.read_piece_behind_kept_input.ensures.read.failed (ap wait_of is)

pub returns-in-Err-clause-dropped : goal.returns-in-Err-clause-dropped
returns-in-Err-clause-dropped g c =
    read_behind g.S.Stream.Passed g.met.S.Stream.none g.met.S.Stream.joined _ c.args.client.now.peer c.loop-piece.client c.read_piece_behind_kept_input.new.self c.read_piece_behind_kept_input.result c.read_piece_behind_kept_input.new.buf No
    c.loop-piece.invariant.0 c.read_piece_behind_kept_input.ensures.takes_first c.read_piece_behind_kept_input.ensures.read.read c.read_piece_behind_kept_input.ensures.read.failed (ap wait_of c.in-Err.is)

pub loop-piece-preserved : goal.loop-piece-preserved
loop-piece-preserved g c =
    let is : c.read_piece_behind_kept_input.result ≡ Ok (received.Bytes c.in-Ok-Bytes.field-0-0) = cc in (
      read_behind g.S.Stream.Passed g.met.S.Stream.none g.met.S.Stream.joined _ c.args.client.now.peer c.loop-piece.client c.read_piece_behind_kept_input.new.self c.read_piece_behind_kept_input.result c.read_piece_behind_kept_input.new.buf Yes
          c.loop-piece.invariant.0 c.read_piece_behind_kept_input.ensures.takes_first c.read_piece_behind_kept_input.ensures.read.read c.read_piece_behind_kept_input.ensures.read.failed (ap wait_of is),
      same_but_peer c.args.client.now c.loop-piece.client c.read_piece_behind_kept_input.new.self c.loop-piece.invariant.1 c.read_piece_behind_kept_input.ensures.read.peer,
      c.read_piece_behind_kept_input.ensures.read.unsent ∙ c.loop-piece.invariant.2,
    )
