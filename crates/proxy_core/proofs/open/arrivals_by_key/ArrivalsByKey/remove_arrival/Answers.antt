use Rattle.proxy_core.proofs.open.arrivals_by_key.ArrivalsByKey.remove_arrival.Goals as goal

pub returns-then-is_get_at_origin-clause-trim : goal.returns-then-is_get_at_origin-clause-trim
returns-then-is_get_at_origin-clause-trim c o = (c.remove.ensures.trim o.0, o.1)

pub returns-else-is_get_at_origin-clause-trim : goal.returns-else-is_get_at_origin-clause-trim
returns-else-is_get_at_origin-clause-trim c o = (o.0, c.remove-else-is_get_at_origin.ensures.trim o.1)
