use Rattle.std.proofs.Common.{◌≡◌, ◌+◌, sym, subst, arith, rules, ◌∙◌, get_or}
use Rattle.proxy_engine.specs.declared.work.End.TheVariants.{Listener}
use Rattle.proxy_turn.proofs.Hearing.{SoFar, so_far_none, so_far_more, so_far_later, read_partly, read_at}
use Rattle.proxy_turn.proofs.turns.read_all.Goals as goal

pub loop-end-init : goal.loop-end-init
loop-end-init g c = record { done = λ s represents there. so_far_none s c.args.engine.now _ _ represents (g.met.K.Sockets.none _); few = omega arith; piece = c.requires }

pub returns-in-Err-clause-reads : goal.returns-in-Err-clause-reads
returns-in-Err-clause-reads g c = λ s represents there.
    let es = c.args.ends.now in
    let i = c.loop-end.end-index in
    let done = c.loop-end.invariant.done s represents there in
    let at = read_at Listener es i c.loop-end-test.true in
    read_partly s es i c.loop-end.engine c.read_from_end.new.engine _ _ _ _ _ _ c.loop-end.faults c.in-Err.fault done
    (c.in-Err.ensures.err done.some.last done.some.represents
    (so_far_later c.ended_connections_and_links_stay_ended.ensures.takes s es i (get_or es i Listener) c.loop-end.engine _ _ _ c.loop-end.faults at c.loop-end-test.true there done))
    (λ x y p q. g.met.K.Sockets.joined _ _ _ x y p q)

pub loop-end-preserved : goal.loop-end-preserved
loop-end-preserved g c =
    let few = c.loop-end.invariant.few in
    let one = c.in-Ok.ensures.few in
    let within = c.loop-end-test.true in
    let sum : c.saturating_add-faults.result ≡ c.loop-end.faults + c.in-Ok.more = search rules in
    record {
      done = λ s represents there.
          let es = c.args.ends.now in
          let i = c.loop-end.end-index in
          let done = c.loop-end.invariant.done s represents there in
          let at = read_at Listener es i within in
          subst (SoFar s _ c.read_from_end.new.engine _ _ _) (sym sum)
          (so_far_more s es i (get_or es i Listener) c.loop-end.engine c.read_from_end.new.engine _ _ _ _ _ _ c.loop-end.faults c.in-Ok.more at within done
          (c.in-Ok.ensures.ok done.some.last done.some.represents
          (so_far_later c.ended_connections_and_links_stay_ended.ensures.takes s es i (get_or es i Listener) c.loop-end.engine _ _ _ c.loop-end.faults at within there done))
          (λ x y p q. g.met.K.Sockets.joined _ _ _ x y p q));
      few = omega (arith, few, one, sum);
      piece = c.in-Ok.ensures.length ∙ c.loop-end.invariant.piece;
    }
