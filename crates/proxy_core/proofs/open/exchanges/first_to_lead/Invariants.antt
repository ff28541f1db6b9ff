use Rattle.proxy_core.proofs.AskedArrivals.{LeadersLeft}
use Rattle.proxy_core.proofs.open.exchanges.first_to_lead.Given as goal

-- those that lead are still to come
abbrev pub invariant-loop-arrival : goal.invariant-loop-arrival
invariant-loop-arrival l = LeadersLeft l.policy l.awaited l.asked l.arrival-iterator l.by_arrival.entries
