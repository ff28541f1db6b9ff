use Rattle.hx_reuse.proofs.WhileRevalidatingLemmas.{never_without_a_limit, stated_stays}
use Rattle.hx_reuse.proofs.laws.the_operators_stale_while_revalidate_counts.Goals as goal

pub returns : goal.returns
returns c = record { without = never_without_a_limit; stated = stated_stays }
