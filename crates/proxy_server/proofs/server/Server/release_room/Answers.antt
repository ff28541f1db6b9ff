use Rattle.std.proofs.Common.{refl}
use Rattle.proxy_server.proofs.Losing.{roomier, engine_roomier, from_view, none_on}
use Rattle.proxy_server.proofs.server.Server.release_room.Goals as goal

pub invariant_of-self : goal.invariant_of-self
invariant_of-self g c =
    let losses = c.a_turn_is_served_after_end_losses.ensures in
    let same = engine_roomier c.self.inside.engine c.release_room.new.self c.release_room.ensures.represents in
    (c.a_reachable_engine_stays_reachable.ensures.executed c.self.inside.engine c.release_room.new.self (losses.on c.self.inside.engine c.release_room.new.self same) c.self.invariant.0, c.self.invariant.1)

pub returns-in-Client : goal.returns-in-Client
returns-in-Client g c = from_view _ _ _ c.self.view_is (roomier _ c.release_room.new.self c.release_room.ensures.represents)

pub returns-in_default : goal.returns-in_default
returns-in_default g c = none_on c.args.self.now c.args.self.now refl
