use Rattle.proxy_figures.proofs.LinePlaces.{known_line, denying_line}
use Rattle.proxy_figures.proofs.line_origins.place_of.Goals as goal

pub returns-in_ok-place-in-Some : goal.returns-in_ok-place-in-Some
returns-in_ok-place-in-Some c =
    rw c.in-Some.is (λ lines places are.
    known_line lines places c.in-Some.address c.in_ok-place-in-Some.field-0 c.args.origins.now c.place.new.self c.in_ok-place-in-Some.ensures.placed are)

pub returns-in-None : goal.returns-in-None
returns-in-None c = rw c.in-None.is (λ lines places are. denying_line lines places c.args.origins.now are)
