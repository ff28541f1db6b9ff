use Rattle.std.proofs.Common.{sym, subst}
use Rattle.proxy_replay.specs.Steps.{EngineBeginningFails}
use Rattle.proxy_replay.proofs.Fronts.{store_refused}
use Rattle.proxy_replay.proofs.play.begin.Goals as goal

pub returns-in-Err-open-clause-fault : goal.returns-in-Err-open-clause-fault
returns-in-Err-open-clause-fault g c = subst (EngineBeginningFails (g.O.StoreOpening.opens c.args.opening.now) c.args.config) (sym c.replay_fault_of_store_fault.ensures)
    (store_refused (g.O.StoreOpening.opens c.args.opening.now) c.args.config c.in-Err-open.fault c.in-Err-open.ensures.refused)
