use Rattle.hx_reuse.proofs.MeaningLemmas.{is_held, is_found}
use Rattle.hx_reuse.proofs.laws.a_hit_is_held.Goals as goal

pub returns : goal.returns
returns c = record { held = is_held; found = is_found }
