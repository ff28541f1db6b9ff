use Rattle.proxy_turn.proofs.OneAccept.{one_turn, not_begun}
use Rattle.proxy_turn.proofs.turns.turn_with_buffer.Goals as goal

pub returns-in_default-clause-turns : goal.returns-in_default-clause-turns
returns-in_default-clause-turns g c = λ s represents h. not_begun c.args.now s c.args.engine.now _ _ represents (g.met.K.Sockets.none _)

pub returns-clause-turns : goal.returns-clause-turns
returns-clause-turns g c = λ s represents h.
    one_turn c.readable_ends_may_send.ensures.each c.readable_ends_may_send.ensures.accept c.args.now s c.in-Ok.ends.items c.turn_over_given_ends.new.engine c.turn_over_given_ends.new.ends.items _ _ _ c.turn_over_given_ends.result (c.in-Ok.ensures s represents) (c.turn_over_given_ends.ensures.turns s represents h)
