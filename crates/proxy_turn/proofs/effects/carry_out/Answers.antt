use Rattle.std.proofs.Common.{◌≡◌, ◌<◌, ◌+◌, length, sym, subst, arith, rules}
use Rattle.proxy_turn.specs.Parts.{EffectsWereHandled}
use Rattle.proxy_turn.proofs.Counting.{on_err}
use Rattle.proxy_turn.proofs.Carrying.{named_later, carried_more}
use Rattle.proxy_turn.proofs.effects.carry_out.Goals as goal

pub returns-in_err-more-clause-never : goal.returns-in_err-more-clause-never
returns-in_err-more-clause-never g c =
    let n : c.loop-effect.effect-index < length c.args.effects.now = omega arith in
    on_err c.from_residual.result (λ fits s represents there.
    let done = c.loop-effect.invariant.done s represents there in
    let room = c.loop-effect.invariant.room fits in
    c.in_err-more.ensures.never (omega (arith, room, n)) done.last done.represents
    (named_later c.ended_connections_and_links_stay_ended.ensures.takes s _ c.args.effects.now c.loop-effect.effect-index c.effect-item.result c.loop-effect.engine _ _ _ _ c.loop-effect.faults c.effect-item.is n there done))

pub loop-effect-preserved : goal.loop-effect-preserved
loop-effect-preserved g c =
    let n : c.loop-effect.effect-index < length c.args.effects.now = omega arith in
    let few = c.loop-effect.invariant.few in
    let one = c.in_ok-more.ensures.few in
    let sum : c.saturating_add-faults.result ≡ c.loop-effect.faults + c.in_ok-more.more = search rules in
    record {
      done = λ s represents there.
          let done = c.loop-effect.invariant.done s represents there in
          let here = named_later c.ended_connections_and_links_stay_ended.ensures.takes s _ c.args.effects.now c.loop-effect.effect-index c.effect-item.result c.loop-effect.engine _ _ _ _ c.loop-effect.faults c.effect-item.is n there done in
          subst (EffectsWereHandled s _ _ c.carry_out_effect.new.engine _ _ _ _) (sym sum)
          (carried_more s _ c.args.effects.now c.loop-effect.effect-index c.effect-item.result c.loop-effect.engine c.carry_out_effect.new.engine _ _ _ _ _ _ _ _ c.loop-effect.faults c.in_ok-more.more c.effect-item.is n done
          (c.in_ok-more.ensures.ok done.last done.represents here)
          (λ x y p q. g.met.K.Sockets.joined _ _ _ x y p q));
      room = λ fits. let room = c.loop-effect.invariant.room fits in let kept = c.carry_out_effect.ensures.room in let longer = c.carry_out_effect.ensures.one in omega (arith, room, kept, longer);
      few = omega (arith, few, one, sum);
    }
