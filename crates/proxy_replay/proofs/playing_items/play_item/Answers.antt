use Rattle.proxy_replay.proofs.Stepping.{nothing_done}
use Rattle.proxy_replay.proofs.playing_items.play_item.Goals as goal

pub returns-in-None-clause-ok : goal.returns-in-None-clause-ok
returns-in-None-clause-ok g c = λ s represents. nothing_done s c.args.now c.args.engine.now _ _ c.in-None.ensures represents
