use Rattle.std.proofs.Common.{sym, subst, ◌∙◌}
use Rattle.proxy_core.proofs.AskedArrivals.{LeadersLeft, leaders, none_leads, not_open, not_leading, it_leads}
use Rattle.proxy_core.proofs.open.exchanges.first_to_lead.Goals as goal

pub loop-arrival-init : goal.loop-arrival-init
loop-arrival-init c =
    let es = c.args.by_arrival.now.entries in
    let gives = c.into_iter-arrival-iterator.ensures.into_iter_gives in
    subst (λ ns. LeadersLeft c.args.policy c.args.awaited c.args.asked.now ns es) (sym gives.0) (leaders c.args.policy c.args.awaited c.args.asked.now c.args.arrivals.now.keys es gives.4 c.requires)

pub returns-then-is_leader_for_request : goal.returns-then-is_leader_for_request
returns-then-is_leader_for_request c =
    let es = c.args.by_arrival.now.entries in
    it_leads c.args.policy c.args.awaited c.args.asked.now c.in-Some.arrival.now c.in-Some-get.x.now c.next.new.self es c.len-open.ensures.ordered c.in-Some-get.ensures.value
    (sym c.is_leader_for_request.ensures ∙ c.if-is_leader_for_request.true) (subst (λ ns. LeadersLeft c.args.policy c.args.awaited c.args.asked.now ns es) c.in-Some.ensures.steps c.loop-arrival.invariant)

pub loop-arrival-preserved-else-is_leader_for_request : goal.loop-arrival-preserved-else-is_leader_for_request
loop-arrival-preserved-else-is_leader_for_request c =
    let es = c.args.by_arrival.now.entries in
    not_leading c.args.policy c.args.awaited c.args.asked.now c.in-Some.arrival.now c.in-Some-get.x.now c.next.new.self es c.len-open.ensures.ordered c.in-Some-get.ensures.value
    (sym c.is_leader_for_request.ensures ∙ c.if-is_leader_for_request.false) (subst (λ ns. LeadersLeft c.args.policy c.args.awaited c.args.asked.now ns es) c.in-Some.ensures.steps c.loop-arrival.invariant)

pub loop-arrival-preserved : goal.loop-arrival-preserved
loop-arrival-preserved c =
    let es = c.args.by_arrival.now.entries in
    not_open c.args.policy c.args.awaited c.args.asked.now c.in-Some.arrival.now c.next.new.self es c.in_default.ensures.value
    (subst (λ ns. LeadersLeft c.args.policy c.args.awaited c.args.asked.now ns es) c.in-Some.ensures.steps c.loop-arrival.invariant)

pub returns : goal.returns
returns c =
    let es = c.args.by_arrival.now.entries in
    sym (none_leads c.args.policy c.args.awaited c.args.asked.now es (subst (λ ns. LeadersLeft c.args.policy c.args.awaited c.args.asked.now ns es) c.in-None.ensures.steps.0 c.loop-arrival.invariant))
