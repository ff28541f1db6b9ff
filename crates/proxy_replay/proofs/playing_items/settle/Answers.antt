use Rattle.std.proofs.Common.{List, sym, subst}
use Rattle.proxy_script.specs.declared.effect_list.Effect.{Effect}
use Rattle.proxy_replay.specs.Steps.{EngineDidDueActs}
use Rattle.proxy_replay.proofs.Stepping.{worked_more, settled_by}
use Rattle.proxy_replay.proofs.playing_items.settle.Goals as goal

pub returns-in-Ok-Idle-clause-ok : goal.returns-in-Ok-Idle-clause-ok
returns-in-Ok-Idle-clause-ok g c = λ s represents.
    let before = c.acts.invariant s represents in
    settled_by s c.args.now c.acts.done.items c.acts.engine c.work.new.self c.in-Ok-Idle.field-0 before c.in-Ok-Idle.field-0-is (c.in-Ok-Idle.ensures.ok before.last before.represents)

pub acts-preserved : goal.acts-preserved
acts-preserved g c = λ s represents.
    let before = c.acts.invariant s represents in
    subst (λ (es : List Effect). EngineDidDueActs s c.args.now es c.work.new.self) (sym c.in-Ok.ensures)
    (worked_more s c.args.now c.acts.done.items c.acts.engine c.work.new.self c.in-Ok-Did.field-0 c.in-Ok-Did.effects before c.in-Ok-Did.field-0-is (c.in-Ok-Did.ensures.ok before.last before.represents))
