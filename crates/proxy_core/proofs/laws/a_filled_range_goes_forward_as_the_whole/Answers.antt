use Rattle.proxy_core.proofs.FilledRanges.{forwards_no_range, goes_as_the_whole, leads_as_the_whole}
use Rattle.proxy_core.proofs.laws.a_filled_range_goes_forward_as_the_whole.Goals as goal

pub returns : goal.returns
returns c = record { whole = goes_as_the_whole; no_range = forwards_no_range; leads = leads_as_the_whole }
