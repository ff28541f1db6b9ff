use Rattle.proxy_core.proofs.Uncached.{stores_nothing_over_it, sends_nothing_over_it, goes_forward_over_it}
use Rattle.proxy_core.proofs.laws.a_line_without_cache_touches_no_stored_response.Goals as goal

pub returns : goal.returns
returns c = record { stores = stores_nothing_over_it; sends = sends_nothing_over_it; forwards = goes_forward_over_it }
