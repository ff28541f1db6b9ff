use Rattle.hx_reuse.proofs.MeaningLemmas.{names_the_least, forwards}
use Rattle.hx_reuse.proofs.laws.forward_names_the_least_rule.Goals as goal

pub returns : goal.returns
returns c = record { least = names_the_least; every = forwards }
