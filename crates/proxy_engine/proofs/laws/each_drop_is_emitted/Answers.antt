use Rattle.proxy_engine.proofs.Dropping.{acts_emit_drops, takes_drop_none}
use Rattle.proxy_engine.proofs.laws.each_drop_is_emitted.Goals as goal

pub returns : goal.returns
returns c = record { acts = acts_emit_drops; takes = takes_drop_none }
