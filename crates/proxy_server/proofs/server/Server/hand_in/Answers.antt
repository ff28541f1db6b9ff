use Rattle.proxy_server.proofs.Losing.{more_on}
use Rattle.proxy_server.proofs.server.Server.hand_in.Goals as goal

pub returns : goal.returns
returns g c =
    let joined = c.a_turn_is_served_after_end_losses.ensures.joined in
    let lost = more_on joined c.args.self.now c.release_rooms.new.self c.hand_in_lost.new.self c.release_rooms.ensures c.hand_in_lost.ensures in
    let overdue = more_on joined c.args.self.now c.hand_in_lost.new.self c.hand_in_found.new.self lost c.hand_in_found.ensures in
    let departed = more_on joined c.args.self.now c.hand_in_found.new.self c.hand_in_found-2.new.self overdue c.hand_in_found-2.ensures in
    let gave = more_on joined c.args.self.now c.hand_in_found-2.new.self c.hand_in_found-3.new.self departed c.hand_in_found-3.ensures in
    let retired = more_on joined c.args.self.now c.hand_in_found-3.new.self c.hand_in_found-4.new.self gave c.hand_in_found-4.ensures in
    more_on joined c.args.self.now c.hand_in_found-4.new.self c.hand_in_found-5.new.self retired c.hand_in_found-5.ensures
