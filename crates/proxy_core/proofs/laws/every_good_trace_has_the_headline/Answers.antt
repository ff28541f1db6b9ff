use Rattle.proxy_core.proofs.Headlines.{every_good_trace_has_it}
use Rattle.proxy_core.proofs.laws.every_good_trace_has_the_headline.Goals as goal

pub returns : goal.returns
returns c = every_good_trace_has_it
