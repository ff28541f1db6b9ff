use Rattle.hx_reuse.proofs.LineLemmas.{within_the_most, beyond_the_most, never_longer}
use Rattle.hx_reuse.proofs.laws.a_stated_lifetime_is_capped_by_the_line.Goals as goal

pub returns : goal.returns
returns c = record { within = within_the_most; beyond = beyond_the_most; never_longer = never_longer }
