use Rattle.proxy_figures.specs.Origins.{is_crowded}
use Rattle.proxy_figures.proofs.OriginLemmas.{any_from_count}
use Rattle.proxy_figures.proofs.origins.Origins.some_origin_is_crowded.Goals as goal

pub returns : goal.returns
returns c = rw (← c.self.view_is, c.self.invariant.counted) (any_from_count (is_crowded c.self.inside.most) c.self.inside.items.items)
