use Rattle.std.proofs.Common.{rules}
use Rattle.proxy_figures.specs.Origins.{origin_with_link_ended}
use Rattle.proxy_figures.proofs.OriginLemmas.{counted-set, changed_at, ended-address}
use Rattle.proxy_figures.proofs.origins.Origins.end.Goals as goal

pub invariant_of-self : goal.invariant_of-self
invariant_of-self c = counted-set _ _ _ _ (search rules) c.in-Some.ensures.value _ _ _ c.self.invariant (rw c.end.ensures (ended-address _ _ _))
    (rw (← c.is_crowded-was_crowded.ensures, ← c.is_crowded.ensures) c.crowded_after-self-inside.ensures)

pub returns-in-Some-clause-at : goal.returns-in-Some-clause-at
returns-in-Some-clause-at c admitted = rw (← c.self.view_is) (changed_at _ _ _ _ (search rules) c.in-Some.ensures.value (origin_with_link_ended _ _) c.end.ensures)
