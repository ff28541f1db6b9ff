use Rattle.std.proofs.Common.{Some, sym, subst, ap, ◌∙◌}
use Rattle.std.specs.Prelude.{option_map}
use Rattle.std.specs.Map.{values_of}
use Rattle.proxy_core.specs.declared.open.as_next_leader.NextLeader.{NextLeader}
use Rattle.proxy_core.specs.LeadingOn.{as_next_leader}
use Rattle.proxy_core.proofs.FirstOf.{FirstIsLeft, it_is_first, none_left, not_there, not_passing}
use Rattle.proxy_core.proofs.AskedArrivals.{leads_on_for, next_leaders, first_to_lead_on_is}
use Rattle.proxy_core.proofs.open.exchanges.first_waiter_to_lead.Goals as goal

pub loop-arrival-init : goal.loop-arrival-init
loop-arrival-init c =
    let es = c.args.by_arrival.now.entries in
    let gives = c.into_iter-arrival-iterator.ensures.into_iter_gives in
    subst (λ ns. FirstIsLeft (leads_on_for c.args.config.now c.args.id) ns es) (sym gives.0) (next_leaders c.args.config.now c.args.id c.args.waiting.now.keys es gives.4 c.requires)

pub returns-then-may_become_next_leader-clause-next : goal.returns-then-may_become_next_leader-clause-next
returns-then-may_become_next_leader-clause-next c =
    let es = c.args.by_arrival.now.entries in
    let which = leads_on_for c.args.config.now c.args.id in
    ap (λ (n : NextLeader). Some n) c.of.ensures
    ∙ (ap (option_map as_next_leader) (it_is_first which c.in-Some.arrival.now c.in-Some-get.x.now c.next.new.self es c.len-open.ensures.ordered c.in-Some-get.ensures.value
    (sym c.may_become_next_leader.ensures ∙ c.if-may_become_next_leader.true) (subst (λ ns. FirstIsLeft which ns es) c.in-Some.ensures.steps c.loop-arrival.invariant))
    ∙ sym (first_to_lead_on_is c.args.config.now c.args.id (values_of es)))

pub loop-arrival-preserved-else-may_become_next_leader : goal.loop-arrival-preserved-else-may_become_next_leader
loop-arrival-preserved-else-may_become_next_leader c =
    let es = c.args.by_arrival.now.entries in
    let which = leads_on_for c.args.config.now c.args.id in
    not_passing which c.in-Some.arrival.now c.in-Some-get.x.now c.next.new.self es c.len-open.ensures.ordered c.in-Some-get.ensures.value
    (sym c.may_become_next_leader.ensures ∙ c.if-may_become_next_leader.false) (subst (λ ns. FirstIsLeft which ns es) c.in-Some.ensures.steps c.loop-arrival.invariant)

pub loop-arrival-preserved : goal.loop-arrival-preserved
loop-arrival-preserved c =
    let es = c.args.by_arrival.now.entries in
    let which = leads_on_for c.args.config.now c.args.id in
    not_there which c.in-Some.arrival.now c.next.new.self es c.in_default.ensures.value (subst (λ ns. FirstIsLeft which ns es) c.in-Some.ensures.steps c.loop-arrival.invariant)

pub returns-clause-next : goal.returns-clause-next
returns-clause-next c =
    let es = c.args.by_arrival.now.entries in
    let which = leads_on_for c.args.config.now c.args.id in
    ap (option_map as_next_leader) (sym (none_left which es (subst (λ ns. FirstIsLeft which ns es) c.in-None.ensures.steps.0 c.loop-arrival.invariant)))
    ∙ sym (first_to_lead_on_is c.args.config.now c.args.id (values_of es))
