use Rattle.std.proofs.Common.{arith}
use Rattle.std.proofs.KnownBytes.{Consumes-trans}
use Rattle.std.proofs.lemmas.Result.{err_from_is_err_and}
use Rattle.proxy_replay.proofs.Known.{partly_read}
use Rattle.proxy_replay.proofs.bytes.read_script_bytes.Goals as goal

pub returns-in_err-extend_from_slice-in-Ok-clause-err : goal.returns-in_err-extend_from_slice-in-Ok-clause-err
returns-in_err-extend_from_slice-in-Ok-clause-err g c =
    let p = err_from_is_err_and c.from_residual.result c.from_residual.ensures.1 in
    rw p.1 (_, Consumes-trans _ _ _ _ _ c.loop-turn.invariant.given c.in-Ok.ensures.bytes.0)

pub returns-in_err-extend_from_slice-in-Ok-2-clause-err : goal.returns-in_err-extend_from_slice-in-Ok-2-clause-err
returns-in_err-extend_from_slice-in-Ok-2-clause-err g c =
    let p = err_from_is_err_and c.from_residual-in_err-extend_from_slice-in-Ok-2.result c.from_residual-in_err-extend_from_slice-in-Ok-2.ensures.1 in
    rw p.1 (_, Consumes-trans _ _ _ _ _ c.loop-turn.invariant.given c.in-Ok-2.ensures.bytes.0)

pub returns-in-Ok-2-clause-ok : goal.returns-in-Ok-2-clause-ok
returns-in-Ok-2-clause-ok g c =
    partly_read 16777216 _ _ _ c.loop-turn.bytes.items c.read.new.buf _ _ c.in-Ok-2.field-0 c.loop-turn.invariant.given c.in-Ok-2.ensures.bytes.0 c.in_ok-extend_from_slice-in-Ok-2.ensures.items
    c.loop-turn.invariant.few (omega arith) (omega arith) c.in-Ok-2.ensures.bound.0
