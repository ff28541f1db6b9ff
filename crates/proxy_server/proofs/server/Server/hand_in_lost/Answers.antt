use Rattle.std.proofs.Common.{refl, sym, subst, ◌∙◌}
use Rattle.proxy_server.specs.Losses.{ServerTakesEndLosses}
use Rattle.proxy_server.proofs.Losing.{on_from, none_on}
use Rattle.proxy_server.proofs.server.Server.hand_in_lost.Goals as goal
use Rattle.proxy_server.proofs.server.Server.hand_in_lost.Goals.{in-Some, in_default}

pub loop-init : goal.loop-init
loop-init g c = none_on c.args.self.now _ refl

pub loop-preserved : goal.loop-preserved
loop-preserved g c =
    elim c.match-take_lost_end.branch [
      | in-Some w ↦
          subst (ServerTakesEndLosses c.args.self.now) (sym w.self-is)
          (on_from c.a_turn_is_served_after_end_losses.ensures.joined c.args.self.now c.loop.self _ w.disconnect.new.self c.self-in-loop.view_is c.loop.invariant w.disconnect.ensures.on)
      | in_default w ↦ subst (ServerTakesEndLosses c.args.self.now) (sym (w.self-is ∙ c.self-in-loop.view_is)) c.loop.invariant
    ]
