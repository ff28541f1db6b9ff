use Rattle.proxy_replay.proofs.Playing.{replayed_by, refused_by}
use Rattle.proxy_replay.proofs.memory.replayed.Goals as goal

pub returns-in-Ok-clause-ok : goal.returns-in-Ok-clause-ok
returns-in-Ok-clause-ok c = replayed_by c.args.script.now c.replay.new.reader.now _ c.replay.new.writer.items c.new-text.ensures.items c.in-Ok.ensures

pub returns-in-Err-clause-fault : goal.returns-in-Err-clause-fault
returns-in-Err-clause-fault c = refused_by c.args.script.now c.replay.new.reader.now _ c.replay.new.writer.items c.in-Err.fault c.in-Err.ensures
