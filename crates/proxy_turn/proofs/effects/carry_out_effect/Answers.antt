use Rattle.std.proofs.Common.{List, sym, ap, ◌∙◌}
use Rattle.proxy_engine.specs.declared.work.End.{End}
use Rattle.proxy_turn.specs.Turn.{end_has_failed}
use Rattle.proxy_turn.proofs.Carrying.{carried_lost}
use Rattle.proxy_turn.proofs.Counting.{raises_failed}
use Rattle.proxy_turn.proofs.effects.carry_out_effect.Goals as goal

pub returns-in-Ok-clause-ok : goal.returns-in-Ok-clause-ok
returns-in-Ok-clause-ok g c = λ s represents there.
    let here = ap (λ (xs : List End). end_has_failed xs c.end_of_effect-end.result) (sym c.deref.ensures.value) ∙ (sym c.end_has_failed.ensures ∙ c.if-end_has_failed.false) in
    carried_lost s c.args.failed.now.items c.args.effect.now _ _ _ _ _ c.in-Err.kind c.end_of_effect-end.result _ c.end_of_effect-end.ensures here c.in-Err.ensures.kinds c.happening_of_lost_end.ensures (c.in_ok-take.ensures.ok s represents) c.in-Ok.ensures.items c.in-Err.ensures.did
    (raises_failed _ _ _ _ _ _ 1 c.call.ensures.accepts c.call.ensures.reads c.in-Err.ensures.failures)
