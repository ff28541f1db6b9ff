use Rattle.hx_reuse.proofs.OnErrorLemmas.{least_on_error, named_on_error}
use Rattle.hx_reuse.proofs.laws.the_least_error_rule_is_named.Goals as goal

pub returns : goal.returns
returns c = record { least = least_on_error; every = named_on_error }
