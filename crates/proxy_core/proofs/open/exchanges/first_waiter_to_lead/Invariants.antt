use Rattle.proxy_core.proofs.FirstOf.{FirstIsLeft}
use Rattle.proxy_core.proofs.AskedArrivals.{leads_on_for}
use Rattle.proxy_core.proofs.open.exchanges.first_waiter_to_lead.Given as goal

-- those that may lead on are still to come
abbrev pub invariant-loop-arrival : goal.invariant-loop-arrival
invariant-loop-arrival l = FirstIsLeft (leads_on_for l.config l.id) l.arrival-iterator l.by_arrival.entries
