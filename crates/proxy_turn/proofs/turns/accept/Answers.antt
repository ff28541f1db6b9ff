use Rattle.std.proofs.Common.{◌≡◌, inr, [], ◌∷◌, refl, sym, ◌∙◌, subst, rules, Bool, true, false, Result, Ok, Err}
use Rattle.std.proofs.lemmas.List.{append-nil}
use Rattle.proxy_turn.specs.Calls as call
use Rattle.proxy_turn.specs.Calls.{accept_outcome_of}
use Rattle.proxy_turn.specs.Counts.{CountRisesBy, failed}
use Rattle.proxy_turn.specs.OverParts.{OneAcceptMatchesResult}
use Rattle.proxy_turn.specs.declared.report.TurnFault.TheVariants.{NoMemory}
use Rattle.proxy_turn.specs.declared.sockets.SocketCallFailed.{SocketCallFailed}
use Rattle.proxy_turn.proofs.Counting.{raises_asked}
use Rattle.proxy_turn.proofs.Listening.{number_is, accept_free, accept_found, does_ask, not_asked, asked_once}
use Rattle.proxy_turn.proofs.turns.accept.Goals as goal

pub returns-in_err-reserve : goal.returns-in_err-reserve
returns-in_err-reserve g c = λ s represents.
    let later = c.reserve-2.ensures.represents s represents in
    let is : c.from_residual.result ≡ Err NoMemory = search rules in
    not_asked c.args.most_open s c.args.ends.now.items c.reserve-2.new.self c.reserve.new.self.items _ _ c.from_residual.result later c.reserve.ensures.items (g.met.K.Sockets.none _)
    (subst (OneAcceptMatchesResult c.args.most_open s []) (sym is) refl)

pub returns-in-Ok-false : goal.returns-in-Ok-false
returns-in-Ok-false g c = λ s represents.
    let later = c.reserve-2.ensures.represents s represents in
    let number = number_is s c.number_of_next_connection.result c.in-Some.n (c.number_of_next_connection.ensures s represents) c.in-Some.is in
    let tested : c.has_fewer_connections.result ≡ true = search rules in
    let asks = does_ask c.args.most_open s c.number_of_next_connection.result c.in-Some.n (c.number_of_next_connection.ensures s represents) c.in-Some.is (sym (c.has_fewer_connections.ensures s represents) ∙ tested) in
    let came : c.accept.result ≡ Ok false = search rules in
    asked_once c.args.most_open s c.args.ends.now.items c.reserve-2.new.self c.reserve.new.self.items _ _ _ (Ok false) call.NoneCame c.in-Some.n s number.1 asks refl later (c.reserve.ensures.items ∙ sym (append-nil c.args.ends.now.items))
    (subst (λ (r : Result Bool SocketCallFailed). g.K.Sockets.Did c.args.sockets.now (call.Accept c.in-Some.n (accept_outcome_of r) ∷ []) c.accept.new.self) came c.accept.ensures.did)
    (raises_asked _ _ _ _ _ _ 0 c.accept.ensures.accepts c.accept.ensures.reads (subst (λ (r : Result Bool SocketCallFailed). CountRisesBy (g.K.Sockets.failures c.args.sockets.now) (g.K.Sockets.failures c.accept.new.self) (failed r)) came c.accept.ensures.failures))
    (inr refl)

pub returns-in_err-take-in-Ok-true : goal.returns-in_err-take-in-Ok-true
returns-in_err-take-in-Ok-true g c = λ s represents.
    let later = c.reserve-2.ensures.represents s represents in
    let number = number_is s c.number_of_next_connection.result c.in-Some.n (c.number_of_next_connection.ensures s represents) c.in-Some.is in
    absurd (c.in_err-take-in-Ok-true.ensures.never s later (accept_free s c.in-Some.n number.1) (accept_found c.reserve-2.new.self s c.in-Some.n later c.in_ok-reserve.ensures.ok number.0))
