use Rattle.proxy_core.proofs.Counting.{next_counted, stored_has_the_next}
use Rattle.proxy_core.proofs.laws.serials_are_counted.Goals as goal

pub returns : goal.returns
returns c = record { next = next_counted; stored = stored_has_the_next }
