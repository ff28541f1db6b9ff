use Rattle.std.proofs.Common.{◌≡◌, ◌+◌, ℕ, List, Option, None, is_some, length, sum_by, ap, sym, subst, ◌∙◌, ◌++◌, get_or, arith}
use Rattle.std.specs.Option.{option_map}
use Rattle.proxy_script.specs.declared.effect_list.Effect.{Effect}
use Rattle.proxy_core.specs.State.{State as CoreState}
use Rattle.proxy_engine.specs.Questions.{question_of_request}
use Rattle.proxy_engine.specs.Acts.{effects_of_outcome, outcome_with_origin_address, model_after_outcome}
use Rattle.proxy_engine.specs.Due.{Wakes}
use Rattle.proxy_engine.specs.State.{EngineRepresents, EngineDoesAct, engine_state_of_parts, work_left_of_link, work_left_of_waiting}
use Rattle.proxy_engine.specs.Pairing.{ConnectionsLinksAndExchangesMatch, activity_of_connection, activities_of_connections, owners_of_links}
use Rattle.proxy_engine.specs.declared.endpoints.ends.Link.{Link}
use Rattle.proxy_engine.proofs.Ending.{woken_remains, one_more}
use Rattle.proxy_engine.proofs.Pairs.{ready_waits, within_waiting, waits_here, doing_at, paired_woken, wake_refused}
use Rattle.proxy_engine.proofs.Stepping.{woken_done}
use Rattle.proxy_engine.proofs.engine.Engine.wake_at.Goals as goal

pub number_at-id-requires : goal.number_at-id-requires
number_at-id-requires g c =
    let cs = c.self.inside.ends.connections.items in
    let waits = ready_waits (activities_of_connections cs) (owners_of_links c.self.inside.ends.links.items) c.self.inside.core.exchanges c.args.i (rw (← c.self.view_is) at c.requires.ready) c.self.invariant in
    within_waiting cs c.args.i waits

pub core_fault_as_alloc_error-requires : goal.core_fault_as_alloc_error-requires
core_fault_as_alloc_error-requires g c = wake_refused c.self.inside.core.exchanges c.args.now (c.args.i + 1) c.in-Err.fault (rw (← c.self.view_is) at c.requires.ready) c.requires.early (rw c.number_at-id.ensures at c.in-Err.ensures.err)

pub mark_exchange_ended_at-requires : goal.mark_exchange_ended_at-requires
mark_exchange_ended_at-requires g c =
    let cs = c.self.inside.ends.connections.items in
    waits_here cs c.args.i (rw (← c.self.view_is) at c.requires.here)
    (ready_waits (activities_of_connections cs) (owners_of_links c.self.inside.ends.links.items) c.self.inside.core.exchanges c.args.i (rw (← c.self.view_is) at c.requires.ready) c.self.invariant)

pub returns-clause-less : goal.returns-clause-less
returns-clause-less g c = rw (← c.self.view_is) (
    let cs = c.self.inside.ends.connections.items in
    let core = c.self.inside.core in
    let ready = (rw (← c.self.view_is) at c.requires.ready) in
    let waits = ready_waits (activities_of_connections cs) (owners_of_links c.self.inside.ends.links.items) core.exchanges c.args.i ready c.self.invariant in
    let weight : work_left_of_waiting (activity_of_connection (get_or cs c.args.i None)) ≡ 2 = ap work_left_of_waiting (sym (doing_at cs c.args.i (within_waiting cs c.args.i waits)) ∙ waits) in
    let few = one_more c.in-Ok.step.outcome (c.args.i + 1) core.exchanges c.wake.new.self.exchanges (woken_remains core c.wake.new.self c.args.now (c.args.i + 1) c.in-Ok.step.outcome (ap is_some ready.is_open) (rw c.number_at-id.ensures at c.in-Ok.ensures.ok)) in
    omega (arith, weight, few, ap (sum_by work_left_of_link) c.reserve_place.ensures.items, c.mark_exchange_ended_at.ensures.load, c.carry_out.ensures.load)
    )

pub returns-clause-ok : goal.returns-clause-ok
returns-clause-ok g c = rw (← c.self.view_is) (
    λ s h.
    let ks = c.reserve_place.new.self.items in
    let same = c.reserve_place.ensures.items in
    let core = c.self.inside.core in
    let table = c.config-config.result.now in
    let table_is : table ≡ core.table = c.config-config.ensures ∙ ap (λ (k : CoreState). k.table) (rw c.number_at-id.ensures at c.in-Ok.ensures.ok).leaves in
    let here = subst (λ (ls : List (Option Link)). EngineRepresents (engine_state_of_parts c.self.inside.ends.connections.items ls core c.self.inside.ends.first_link) s) (sym same) h in
    subst (λ (n : ℕ). EngineDoesAct s c.args.now (Wakes c.args.i) c.carry_out.new.effects.items (engine_state_of_parts c.carry_out.new.self.connections.items c.carry_out.new.self.links.items c.wake.new.self n)) (sym c.carry_out.ensures.first)
    (woken_done s c.mark_exchange_ended_at.new.connections.items c.carry_out.new.self.connections.items ks c.carry_out.new.self.links.items core c.wake.new.self c.self.inside.ends.first_link c.args.now c.args.i c.in-Ok.step.outcome
    table c.exchange_asks_head-to_head.result (option_map question_of_request c.in-Ok.step.asked) c.carry_out.new.effects.items (rw c.number_at-id.ensures at c.in-Ok.ensures.ok) (omega (arith, (rw (← c.self.view_is) at c.requires.left), ap length same))
    table_is (rw c.number_at-id.ensures at c.exchange_asks_head-to_head.ensures)
    (ap (option_map question_of_request) (rw c.number_at-id.ensures at c.in-Ok.ensures.asked))
    (c.carry_out.ensures.effects ∙ ap (λ (b : List Effect). b ++ effects_of_outcome c.args.i (c.self.inside.ends.first_link + length ks) (option_map question_of_request c.in-Ok.step.asked) (outcome_with_origin_address table c.in-Ok.step.outcome)) c.in_ok-effects.ensures.items)
    (λ t k most represents. subst (λ (n : ℕ). EngineRepresents (engine_state_of_parts c.carry_out.new.self.connections.items c.carry_out.new.self.links.items k n) (model_after_outcome c.args.i c.exchange_asks_head-to_head.result (outcome_with_origin_address table c.in-Ok.step.outcome) t)) c.carry_out.ensures.first (c.carry_out.ensures.represents t k most represents))
    (c.mark_exchange_ended_at.ensures.represents s ks core c.self.inside.ends.first_link here))
    )

pub invariant_of-self-2 : goal.invariant_of-self-2
invariant_of-self-2 g c =
    let cs = c.self.inside.ends.connections.items in
    let core = c.self.inside.core in
    let ready = (rw (← c.self.view_is) at c.requires.ready) in
    let there = ap is_some ready.is_open in
    let paired = subst (λ (ls : List (Option Link)). ConnectionsLinksAndExchangesMatch (activities_of_connections cs) (owners_of_links ls) core.exchanges) (sym c.reserve_place.ensures.items) c.self.invariant in
    paired_woken cs c.mark_exchange_ended_at.new.connections.items c.carry_out.new.self.connections.items c.reserve_place.new.self.items c.carry_out.new.self.links.items core.exchanges c.wake.new.self.exchanges c.args.i c.in-Ok.step.outcome
    (ready_waits (activities_of_connections cs) (owners_of_links c.self.inside.ends.links.items) core.exchanges c.args.i ready c.self.invariant) c.mark_exchange_ended_at.ensures.activities c.carry_out.ensures.activities c.carry_out.ensures.owners there
    (woken_remains core c.wake.new.self c.args.now (c.args.i + 1) c.in-Ok.step.outcome there (rw c.number_at-id.ensures at c.in-Ok.ensures.ok)) paired
