use Rattle.std.proofs.Common.{refl, inr, arith}
use Rattle.proxy_figures.proofs.OriginLemmas.{counted-push}
use Rattle.proxy_figures.proofs.origins.Origins.place.Goals as goal

pub invariant_of-self-2 : goal.invariant_of-self-2
invariant_of-self-2 c = rw c.in_ok-push.ensures.items (counted-push _ _ _ _ c.args.address c.in_ok-origin.origin c.self.invariant (rw (← c.as_slice.ensures.value) c.in_default.ensures.unknown) c.in_ok-origin.ensures
    (rw (← c.is_crowded.ensures) (omega (arith, c.crowded_after-crowded.ensures))))

pub returns-clause-placed : goal.returns-clause-placed
returns-clause-placed c = rw (← c.self.view_is, c.in_ok-push.ensures.items) (inr (rw (← c.as_slice.ensures.value) c.in_default.ensures.unknown, omega (arith, c.self.inside.items.ok.0, c.len-place.ensures), (c.in_ok-origin.origin, c.in_ok-origin.ensures, refl)))
