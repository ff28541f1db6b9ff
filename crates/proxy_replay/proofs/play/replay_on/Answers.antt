use Rattle.proxy_replay.proofs.Playing.{ends_unread}
use Rattle.proxy_replay.proofs.play.replay_on.Goals as goal

pub returns-in-Err : goal.returns-in-Err
returns-in-Err g c = ends_unread (g.O.StoreOpening.opens c.args.opening.now) _ _ _ c.in-Err.ensures.err.0 c.in-Err.ensures.err.1
