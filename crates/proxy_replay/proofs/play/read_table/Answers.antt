use Rattle.std.proofs.Common.{[], true, refl, sym, subst}
use Rattle.proxy_replay.specs.Replay.{NoItemIsReadAtFront}
use Rattle.proxy_replay.specs.Steps.{TableIsNotRead}
use Rattle.proxy_replay.proofs.Fronts.{opens_by, refused_by, other_by, wrong_by, cut_by}
use Rattle.proxy_replay.proofs.play.read_table.Goals as goal

pub returns-in-Ok-clause-ok : goal.returns-in-Ok-clause-ok
returns-in-Ok-clause-ok c = opens_by c.args.bytes.now c.in-Found.rest.now c.in-Some.table.now _ _ c.in-Found.ensures c.in-Some.ensures (c.in-Ok.ensures.table (λ e. cc))

pub returns-in-Err-clause-fault : goal.returns-in-Err-clause-fault
returns-in-Err-clause-fault c = subst (TableIsNotRead c.args.bytes.now c.args.ended) (sym c.replay_fault_of_table_fault.ensures)
    (refused_by c.args.bytes.now c.in-Found.rest.now c.in-Some.table.now c.args.ended _ c.in-Err.fault c.in-Found.ensures c.in-Some.ensures c.in-Err.ensures.table)

pub returns-in-None-clause-fault : goal.returns-in-None-clause-fault
returns-in-None-clause-fault c = absurd (other_by c.args.bytes.now c.in-Found.rest.now _ c.in-Found.ensures c.in-None.ensures)

pub returns-in-Wrong-clause-fault : goal.returns-in-Wrong-clause-fault
returns-in-Wrong-clause-fault c = (wrong_by _ c.args.ended c.args.bytes.now (sym c.in-Wrong.ensures), refl)

pub returns-in-Cut-clause-fault : goal.returns-in-Cut-clause-fault
returns-in-Cut-clause-fault c =
    (subst (λ ended. NoItemIsReadAtFront true ended c.args.bytes.now) (sym c.if-ended.true) (cut_by true c.args.bytes.now (sym c.in-Cut.ensures) (λ none. refl)), refl)
