use Rattle.proxy_core.proofs.OneOutcome.{no_other_trace_has_it}
use Rattle.proxy_core.proofs.laws.no_other_trace_has_the_headline.Goals as goal

pub returns : goal.returns
returns c = no_other_trace_has_it
