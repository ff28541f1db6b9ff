use Rattle.proxy_engine.specs.Happenings.{model_of_happening}
use Rattle.proxy_engine.specs.EngineModel.{model_after_happening}
use Rattle.proxy_replay.proofs.Stepping.{unsettled, untaken}
use Rattle.proxy_replay.proofs.playing_items.write.Goals as goal

pub returns-in-Err-settle-clause-fault : goal.returns-in-Err-settle-clause-fault
returns-in-Err-settle-clause-fault g c = λ s represents.
    let took = c.in-Ok.ensures.ok s represents in
    rw c.replay_fault_of_engine_fault-in-Err-settle.ensures
    (unsettled s c.args.now (model_of_happening c.args.happening) c.in-Err-settle.fault _ took.free (c.in-Err-settle.ensures.fault (model_after_happening s (model_of_happening c.args.happening)) took.represents))

pub returns-in-Err-clause-fault : goal.returns-in-Err-clause-fault
returns-in-Err-clause-fault g c = λ s represents.
    rw c.replay_fault_of_engine_fault.ensures
    (untaken s c.args.now (model_of_happening c.args.happening) c.in-Err.fault _ (c.in-Err.ensures.fault s represents))
