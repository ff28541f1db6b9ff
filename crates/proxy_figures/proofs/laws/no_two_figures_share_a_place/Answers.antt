use Rattle.proxy_figures.proofs.Places.{replies_differ}
use Rattle.proxy_figures.proofs.laws.no_two_figures_share_a_place.Goals as goal

pub returns-clause-replies : goal.returns-clause-replies
returns-clause-replies c = replies_differ
