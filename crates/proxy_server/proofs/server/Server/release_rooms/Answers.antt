use Rattle.std.proofs.Common.{refl, sym, subst}
use Rattle.proxy_server.specs.Losses.{ServerTakesEndLosses}
use Rattle.proxy_server.proofs.Losing.{on_from, none_on}
use Rattle.proxy_server.proofs.server.Server.release_rooms.Goals as goal

pub loop-init : goal.loop-init
loop-init g c = none_on c.args.self.now _ refl

pub loop-preserved : goal.loop-preserved
loop-preserved g c =
    subst (ServerTakesEndLosses c.args.self.now) (sym c.has_waited_seconds_for_another.ensures)
    (on_from c.a_turn_is_served_after_end_losses.ensures.joined c.args.self.now c.loop.self _ c.release_room.new.self c.self-in-loop.view_is c.loop.invariant c.release_room.ensures)

pub returns-in_default : goal.returns-in_default
returns-in_default g c = subst (ServerTakesEndLosses c.args.self.now) (sym c.self-in-loop.view_is) c.loop.invariant
