use Rattle.hx_reuse.proofs.PromiseLemmas.{same_values}
use Rattle.hx_reuse.proofs.laws.no_other_variant_is_sent.Goals as goal

pub returns : goal.returns
returns c = same_values
