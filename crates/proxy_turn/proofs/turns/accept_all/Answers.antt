use Rattle.std.proofs.Common.{◌≡◌, refl, sym, arith, rules, Ok, true, false}
use Rattle.proxy_turn.proofs.Accepting.{so_far_none, full, came_more, ends_with_none, ends_by_fault}
use Rattle.proxy_turn.proofs.turns.accept_all.Goals as goal

pub loop-accepted-init : goal.loop-accepted-init
loop-accepted-init g c = λ s represents. so_far_none c.args.bounds.most_open s c.args.ends.now.items c.args.engine.now _ _ represents (g.met.K.Sockets.none _)

pub returns-in-Ok-false : goal.returns-in-Ok-false
returns-in-Ok-false g c = λ s represents.
    let done = c.loop-accepted.invariant s represents in
    let within = c.loop-accepted-test.true in
    let one = c.accept.ensures done.mid done.represents in
    let is : c.accept.result ≡ Ok false = search rules in
    ends_with_none c.args.bounds s c.args.ends.now.items c.loop-accepted.engine c.loop-accepted.ends.items _ _ _ c.loop-accepted.accepted done c.accept.new.engine c.accept.new.ends.items _ _ c.accept.result one _
    (λ x y p q. g.met.K.Sockets.joined _ _ _ x y p q) is c.loop-accepted.accepted refl within

pub returns-in-Err : goal.returns-in-Err
returns-in-Err g c = λ s represents.
    let done = c.loop-accepted.invariant s represents in
    let within = c.loop-accepted-test.true in
    let one = c.accept.ensures done.mid done.represents in
    ends_by_fault c.args.bounds s c.args.ends.now.items c.loop-accepted.engine c.loop-accepted.ends.items _ _ _ c.loop-accepted.accepted done c.accept.new.engine c.accept.new.ends.items _ _ c.accept.result one _
    (λ x y p q. g.met.K.Sockets.joined _ _ _ x y p q) c.in-Err.fault c.in-Err.is within

pub loop-accepted-preserved : goal.loop-accepted-preserved
loop-accepted-preserved g c = λ s represents.
    let done = c.loop-accepted.invariant s represents in
    let one = c.accept.ensures done.mid done.represents in
    let is : c.accept.result ≡ Ok true = search rules in
    came_more c.args.bounds s c.args.ends.now.items c.loop-accepted.engine c.loop-accepted.ends.items _ _ _ c.loop-accepted.accepted done c.accept.new.engine c.accept.new.ends.items _ _ c.accept.result one _
    (λ x y p q. g.met.K.Sockets.joined _ _ _ x y p q) is

pub returns : goal.returns
returns g c = λ s represents.
    let done = c.loop-accepted.invariant s represents in
    let over = c.loop-accepted-test.false in
    let number : c.loop-accepted.accepted ≡ c.args.bounds.most_accepts = omega arith in
    full c.args.bounds s c.args.ends.now.items c.loop-accepted.engine c.loop-accepted.ends.items _ _ _ c.loop-accepted.accepted done c.args.bounds.most_accepts number (sym number)
