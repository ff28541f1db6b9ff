use Rattle.std.proofs.Common.{◌≡◌, take, min}
use Rattle.std.specs.Prelude.{sum_by}
use Rattle.proxy_figures.specs.declared.origins.Origin.{Origin}
use Rattle.proxy_figures.proofs.origins.Origins.refused_beyond_bound.Given as goal

abbrev pub invariant-loop-origin : goal.invariant-loop-origin
invariant-loop-origin l = l.count ≡ min (sum_by (λ (o : Origin). o.refused_beyond_bound) (take l.origin-index l.origin-items)) 18446744073709551615
