use Rattle.hx_reuse.proofs.LineLemmas.{given_counts, given_to_errors_counts}
use Rattle.hx_reuse.proofs.laws.operators_lifetime_counts_as_stated.Goals as goal

pub returns : goal.returns
returns c = record { others = given_counts; errors = given_to_errors_counts }
