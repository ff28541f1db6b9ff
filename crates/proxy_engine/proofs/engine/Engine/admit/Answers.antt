use Rattle.std.proofs.Common.{◌≡◌, ℕ, Bool, sum_by, ◌+◌, ◌∙◌, ◌++◌, List, Option, length, sym, ap, subst, arith, Some}
use Rattle.proxy_script.specs.declared.effect_list.Effect.{Effect}
use Rattle.hx_framing.specs.declared.messages.Next.TheVariants.{Message}
use Rattle.hx_hop.specs.declared.request_view.Asked.{Asked}
use Rattle.proxy_core.specs.Replies.{is_head}
use Rattle.proxy_core.specs.declared.event.Event.TheVariants.{Arrive}
use Rattle.proxy_core.specs.State.{State as CoreState, StepIsAccepted}
use Rattle.proxy_core.specs.declared.open.exchange.Exchange.{Exchange}
use Rattle.proxy_engine.specs.Admitted.{asked_closing_if_retired}
use Rattle.proxy_engine.specs.Questions.{question_of_request}
use Rattle.proxy_engine.specs.EngineModel.{connection_at}
use Rattle.proxy_engine.specs.Acts.{effects_of_outcome, outcome_with_origin_address, model_after_outcome}
use Rattle.proxy_engine.specs.State.{EngineRepresents, EngineDoesAct, engine_state_of_parts, work_left_of_due_request, work_left_of_link}
use Rattle.proxy_engine.specs.Due.{Serves}
use Rattle.proxy_engine.specs.Pairing.{ConnectionsLinksAndExchangesMatch, activities_of_connections, owners_of_links}
use Rattle.proxy_engine.specs.declared.endpoints.ends.Link.{Link}
use Rattle.proxy_engine.proofs.Keeping.{inside}
use Rattle.proxy_engine.proofs.Changes.{free_there, action_free, retired_in_model}
use Rattle.proxy_engine.proofs.Pairs.{not_open, paired_arrived, arrival_refused}
use Rattle.proxy_engine.proofs.Ending.{two_more}
use Rattle.proxy_engine.proofs.Stepping.{arrived_done}
use Rattle.proxy_engine.proofs.engine.Engine.admit.Goals as goal

pub number_at-id-requires : goal.number_at-id-requires
number_at-id-requires g c = inside c.self.inside.ends.connections.items c.args.i (free_there _ (action_free _ (rw (← c.self.view_is) at c.requires.due)))

pub returns-clause-less : goal.returns-clause-less
returns-clause-less g c = rw (← c.self.view_is) (
    λ r due.
    let one = ap work_left_of_due_request due in
    omega (arith, one, two_more c.in-Ok.outcome, ap (sum_by work_left_of_link) c.reserve_place.ensures.items, c.use_due_answer_at.ensures.load, c.carry_out.ensures.load)
    )

pub returns-clause-ok : goal.returns-clause-ok
returns-clause-ok g c = rw (← c.self.view_is) (
    λ s r came due h.
    let sent = came.0 in
    let cs = c.self.inside.ends.connections.items in
    let there = free_there _ (action_free _ (rw (← c.self.view_is) at c.requires.due)) in
    let retired = retired_in_model cs c.self.inside.ends.links.items c.self.inside.core c.self.inside.ends.first_link s c.args.i (inside cs c.args.i there) there h in
    let asked : c.args.asked ≡ asked_closing_if_retired (connection_at s c.args.i).retired sent = came.2 ∙ ap (λ (b : Bool). asked_closing_if_retired b sent) retired in
    let ks = c.reserve_place.new.self.items in
    let same = c.reserve_place.ensures.items in
    let core = c.self.inside.core in
    let table = c.config-config.result.now in
    let table_is : table ≡ core.table = c.config-config.ensures ∙ ap (λ (k : CoreState). k.table) (rw c.number_at-id.ensures at c.in-Ok.ensures.ok).leaves in
    let here = subst (λ (ls : List (Option Link)). EngineRepresents (engine_state_of_parts c.self.inside.ends.connections.items ls core c.self.inside.ends.first_link) s) (sym same) h in
    subst (λ (n : ℕ). EngineDoesAct s c.args.now (Serves c.args.i (Message r)) c.carry_out.new.effects.items (engine_state_of_parts c.carry_out.new.self.connections.items c.carry_out.new.self.links.items c.arrive.new.self n)) (sym c.carry_out.ensures.first)
    (arrived_done s c.use_due_answer_at.new.connections.items c.carry_out.new.self.connections.items ks c.carry_out.new.self.links.items core c.arrive.new.self c.self.inside.ends.first_link c.args.now c.args.i r sent c.in-Ok.outcome
    table c.is_head-to_head.result (Some (question_of_request c.args.asked)) c.carry_out.new.effects.items came.1
    (subst (λ (a : Asked). StepIsAccepted core (Arrive c.args.now (c.args.i + 1) a) c.in-Ok.outcome c.arrive.new.self) asked (rw c.number_at-id.ensures at c.in-Ok.ensures.ok)) (omega (arith, (rw (← c.self.view_is) at c.requires.left), ap length same))
    table_is (c.is_head-to_head.ensures ∙ ap is_head asked)
    (ap (λ (a : Asked). Some (question_of_request a)) asked)
    (c.carry_out.ensures.effects ∙ ap (λ (b : List Effect). b ++ effects_of_outcome c.args.i (c.self.inside.ends.first_link + length ks) (Some (question_of_request c.args.asked)) (outcome_with_origin_address table c.in-Ok.outcome)) c.in_ok-effects.ensures.items)
    (λ t k most represents. subst (λ (n : ℕ). EngineRepresents (engine_state_of_parts c.carry_out.new.self.connections.items c.carry_out.new.self.links.items k n) (model_after_outcome c.args.i c.is_head-to_head.result (outcome_with_origin_address table c.in-Ok.outcome) t)) c.carry_out.ensures.first (c.carry_out.ensures.represents t k most represents))
    (c.use_due_answer_at.ensures.represents s (Message r) ks core c.self.inside.ends.first_link due here))
    )

pub core_fault_as_alloc_error-requires : goal.core_fault_as_alloc_error-requires
core_fault_as_alloc_error-requires g c = let exchanges = c.self.inside.core.exchanges in
    let free = not_open c.self.inside.ends.connections.items c.self.inside.ends.links.items exchanges c.args.i (action_free _ (rw (← c.self.view_is) at c.requires.due)) c.self.invariant in
    arrival_refused exchanges c.args.now (c.args.i + 1) c.args.asked c.in-Err.fault free.1 c.requires.early (rw c.number_at-id.ensures at c.in-Err.ensures.err)

pub invariant_of-self-2 : goal.invariant_of-self-2
invariant_of-self-2 g c = let cs = c.self.inside.ends.connections.items in
    let i = c.args.i in
    let core = c.self.inside.core in
    let idle = action_free _ (rw (← c.self.view_is) at c.requires.due) in
    let free = not_open cs c.self.inside.ends.links.items core.exchanges i idle c.self.invariant in
    subst (λ (xs : List Exchange). ConnectionsLinksAndExchangesMatch (activities_of_connections c.carry_out.new.self.connections.items) (owners_of_links c.carry_out.new.self.links.items) xs) (sym (ap (λ (k : CoreState). k.exchanges) (rw c.number_at-id.ensures at c.in-Ok.ensures.ok).leaves))
    (paired_arrived core.table cs c.use_due_answer_at.new.connections.items c.carry_out.new.self.connections.items c.reserve_place.new.self.items c.carry_out.new.self.links.items core.entries core.exchanges c.args.now i c.args.asked c.in-Ok.outcome
    (inside cs i (free_there _ idle)) c.use_due_answer_at.ensures.activities free.0 c.carry_out.ensures.activities c.carry_out.ensures.owners
    (subst (λ (ls : List (Option Link)). ConnectionsLinksAndExchangesMatch (activities_of_connections cs) (owners_of_links ls) core.exchanges) (sym c.reserve_place.ensures.items) c.self.invariant))
