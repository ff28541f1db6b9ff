use Rattle.std.proofs.Common.{◌≤◌, length, take, drop, ◌-◌, arith}
use Rattle.std.proofs.KnownBytes.{Appends-kept}
use Rattle.std.proofs.lemmas.List.{take_rest, length-drop}
use Rattle.proxy_store_file.proofs.Written.{more_written}
use Rattle.proxy_store_file.proofs.pieces_written.put.Goals as goal
use Rattle.proxy_store_file.proofs.pieces_written.put.Goals.{in-Ok, in-Err}

pub loop-turn-preserved : goal.loop-turn-preserved
loop-turn-preserved g c =
    let bytes = c.args.bytes.now in
    elim c.match-write.branch [
      | in-Ok w ↦
          let bound : w.in-Ok.n ≤ length (take (length bytes - c.loop-turn.at) (drop c.loop-turn.at bytes)) = w.in-Ok.ensures.bound in
          let less : w.in-Ok.n ≤ length bytes - c.loop-turn.at = rw (take_rest bytes c.loop-turn.at, length-drop c.loop-turn.at bytes) at bound in
          record {
            within = omega (arith, less, w.at-is, c.loop-turn.invariant.within);
            taken = more_written _ _ _ bytes c.loop-turn.at w.in-Ok.n c.match-write.at w.at-is c.loop-turn.invariant.taken w.in-Ok.ensures.bytes;
          }
      | in-Err w ↦ record {
        within = omega (arith, w.at-is, c.loop-turn.invariant.within);
        taken = rw w.at-is (Appends-kept _ _ _ _ c.loop-turn.invariant.taken w.in-Err.ensures.bytes);
      }
    ]
