use Rattle.proxy_core.proofs.Counting.{leaves_no_choice}
use Rattle.proxy_core.proofs.laws.events_determine_the_good_trace.Goals as goal

pub returns : goal.returns
returns c = leaves_no_choice
