use Rattle.std.proofs.Common.{subst}
use Rattle.proxy_engine.specs.Due.{Abandons, Finishes, Wakes, Serves}
use Rattle.proxy_engine.specs.DueActs.{IsFirstDueActFound}
use Rattle.proxy_engine.specs.declared.steps.acts.DueAct.{DueAct}
use Rattle.proxy_engine.specs.declared.work.EngineFault.TheVariants.{OutOfMemory}
use Rattle.proxy_engine.proofs.Exhausting.{err_at, end_found, number_left, served_unseen}
use Rattle.proxy_engine.proofs.engine.Engine.work.Goals as goal

pub returns-in-Ok-abandon-clause-ok : goal.returns-in-Ok-abandon-clause-ok
returns-in-Ok-abandon-clause-ok g c =
    let found = subst (λ (a : DueAct). IsFirstDueActFound c.args.self.now c.first_due_act.new.self a) c.in-Abandon.is c.in-Ok.ensures.found in
    λ s h. (Abandons c.in-Abandon.place c.in-Abandon.link, found.first s h, c.in-Ok-abandon.ensures.ok s c.args.now (c.first_due_act.ensures.represents s h))

pub returns-in-Ok-finish-clause-ok : goal.returns-in-Ok-finish-clause-ok
returns-in-Ok-finish-clause-ok g c =
    let found = subst (λ (a : DueAct). IsFirstDueActFound c.args.self.now c.first_due_act.new.self a) c.in-Finish.is c.in-Ok.ensures.found in
    λ s h. (Finishes c.in-Finish.place found.due, found.first s h, c.in-Ok-finish.ensures.ok s found.due found.shown (c.first_due_act.ensures.represents s h))

pub returns-in-Err-finish-clause-exhausted : goal.returns-in-Err-finish-clause-exhausted
returns-in-Err-finish-clause-exhausted g c =
    let found = subst (λ (a : DueAct). IsFirstDueActFound c.args.self.now c.first_due_act.new.self a) c.in-Finish.is c.in-Ok.ensures.found in
    λ memory s h. end_found c.first_due_act.new.self c.finish.new.self s c.in-Finish.place found.due c.in-Err-finish.fault (c.first_due_act.ensures.represents s h) (c.in-Err-finish.ensures.exhausted found.due found.shown) memory (found.first s h)

pub returns-in-Ok-wake-clause-ok : goal.returns-in-Ok-wake-clause-ok
returns-in-Ok-wake-clause-ok g c =
    let found = subst (λ (a : DueAct). IsFirstDueActFound c.args.self.now c.first_due_act.new.self a) c.in-Wake.is c.in-Ok.ensures.found in
    λ s h. (Wakes c.in-Wake.place, found.first s h, c.in-Ok-wake.ensures.ok s (c.first_due_act.ensures.represents s h))

pub returns-in-Err-wake-clause-exhausted : goal.returns-in-Err-wake-clause-exhausted
returns-in-Err-wake-clause-exhausted g c = λ memory s h.
    number_left c.first_due_act.new.self c.wake.new.self s (c.first_due_act.ensures.represents s h) (c.in-Err-wake.ensures.exhausted (err_at c.in-Err-wake.fault OutOfMemory memory))

pub returns-in-Ok-serve-clause-ok : goal.returns-in-Ok-serve-clause-ok
returns-in-Ok-serve-clause-ok g c =
    let found = subst (λ (a : DueAct). IsFirstDueActFound c.args.self.now c.first_due_act.new.self a) c.in-Serve.is c.in-Ok.ensures.found in
    λ s h. (Serves c.in-Serve.place found.due, found.first s h, c.in-Ok-serve.ensures.ok s found.due found.shown (c.first_due_act.ensures.represents s h))

pub returns-in-Err-serve-clause-exhausted : goal.returns-in-Err-serve-clause-exhausted
returns-in-Err-serve-clause-exhausted g c =
    let found = subst (λ (a : DueAct). IsFirstDueActFound c.args.self.now c.first_due_act.new.self a) c.in-Serve.is c.in-Ok.ensures.found in
    λ memory s h. let first = found.first s h in served_unseen c.serve.new.self s first.0 first.1 first.2
