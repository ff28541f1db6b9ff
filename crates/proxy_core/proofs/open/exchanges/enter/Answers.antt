use Rattle.proxy_core.proofs.open.exchanges.enter.Goals as goal

pub returns-in-Err-clause-no_empty_waiter_sets : goal.returns-in-Err-clause-no_empty_waiter_sets
returns-in-Err-clause-no_empty_waiter_sets c o = c.remove_arrival.ensures.trim (c.enter.ensures.trim o)
