use Rattle.hx_reuse.proofs.LineLemmas.{stated_stays, others_stay, errors_stay}
use Rattle.hx_reuse.proofs.laws.operators_lifetime_never_replaces_a_stated_one.Goals as goal

pub returns : goal.returns
returns c = record { stated = stated_stays; other_status = others_stay; errors = errors_stay }
