use Rattle.std.proofs.Common.{◌≡◌, sym, subst, ap, ◌∙◌, true}
use Rattle.hx_allow.specs.TableLines.{Table}
use Rattle.proxy_engine.specs.Happenings.{model_of_happening}
use Rattle.proxy_engine.specs.EngineModel.{happening_adds_connection_or_bytes}
use Rattle.proxy_engine.specs.State.{State, EngineRepresents, EngineTakesHappening, IsFaultOfTakingHappening, engine_state_of_parts}
use Rattle.proxy_script.specs.declared.happening.Happening.{Happening}
use Rattle.proxy_engine.specs.Pairing.{owners_of_links}
use Rattle.proxy_engine.proofs.Pairs.{paired_accepted}
use Rattle.proxy_engine.proofs.Taking.{on_ok}
use Rattle.proxy_engine.specs.Marked.{EndList}
use Rattle.proxy_engine.specs.declared.endpoints.ends.Connection.{Connection}
use Rattle.proxy_engine.proofs.Acting.{on_err, stays_err}
use Rattle.proxy_engine.proofs.Readable.{found_in}
use Rattle.proxy_engine.proofs.engine.Engine.take.Goals as goal

pub returns-in-Accept-clause-ok : goal.returns-in-Accept-clause-ok
returns-in-Accept-clause-ok g c = on_ok c.accept.result _ _
    (λ k s h. subst (λ (x : Happening). EngineTakesHappening s (model_of_happening x) (engine_state_of_parts c.accept.new.connections.items c.self.inside.ends.links.items c.self.inside.core c.self.inside.ends.first_link)) (sym c.in-Accept.is) (k s c.self.inside.ends.links.items c.self.inside.core c.self.inside.ends.first_link (sym (c.max_body-max_body.ensures ∙ ap (λ (t : Table). t.max_body) c.config.ensures)) (subst (λ (e : State). EngineRepresents e s) (sym c.self.view_is) h)))
    c.accept.ensures.ok

pub returns-in-Client-clause-ok : goal.returns-in-Client-clause-ok
returns-in-Client-clause-ok g c = on_ok c.take_client_bytes.result _ _
    (λ k s h. subst (λ (x : Happening). EngineTakesHappening s (model_of_happening x) (engine_state_of_parts c.take_client_bytes.new.connections.items c.self-in-Client.inside.ends.links.items c.self-in-Client.inside.core c.self-in-Client.inside.ends.first_link)) (sym c.in-Client.is) (k s c.self-in-Client.inside.ends.links.items c.self-in-Client.inside.core c.self-in-Client.inside.ends.first_link (subst (λ (e : State). EngineRepresents e s) (sym c.self-in-Client.view_is) h)))
    c.take_client_bytes.ensures.ok

pub returns-in-End-clause-ok : goal.returns-in-End-clause-ok
returns-in-End-clause-ok g c = on_ok c.note_end_of_client_input.result _ _
    (λ k s h. subst (λ (x : Happening). EngineTakesHappening s (model_of_happening x) (engine_state_of_parts c.note_end_of_client_input.new.connections.items c.self-in-End.inside.ends.links.items c.self-in-End.inside.core c.self-in-End.inside.ends.first_link)) (sym c.in-End.is) (k s c.self-in-End.inside.ends.links.items c.self-in-End.inside.core c.self-in-End.inside.ends.first_link (subst (λ (e : State). EngineRepresents e s) (sym c.self-in-End.view_is) h)))
    c.note_end_of_client_input.ensures.ok

pub returns-in-Gone-clause-ok : goal.returns-in-Gone-clause-ok
returns-in-Gone-clause-ok g c = on_ok c.note_client_left.result _ _
    (λ k s h. subst (λ (x : Happening). EngineTakesHappening s (model_of_happening x) (engine_state_of_parts c.note_client_left.new.connections.items c.self-in-Gone.inside.ends.links.items c.self-in-Gone.inside.core c.self-in-Gone.inside.ends.first_link)) (sym c.in-Gone.is) (k s c.self-in-Gone.inside.ends.links.items c.self-in-Gone.inside.core c.self-in-Gone.inside.ends.first_link (subst (λ (e : State). EngineRepresents e s) (sym c.self-in-Gone.view_is) h)))
    c.note_client_left.ensures.ok

pub returns-in-Retire-clause-ok : goal.returns-in-Retire-clause-ok
returns-in-Retire-clause-ok g c = on_ok c.retire_client.result _ _
    (λ k s h. subst (λ (x : Happening). EngineTakesHappening s (model_of_happening x) (engine_state_of_parts c.retire_client.new.connections.items c.self-in-Retire.inside.ends.links.items c.self-in-Retire.inside.core c.self-in-Retire.inside.ends.first_link)) (sym c.in-Retire.is) (k s c.self-in-Retire.inside.ends.links.items c.self-in-Retire.inside.core c.self-in-Retire.inside.ends.first_link (subst (λ (e : State). EngineRepresents e s) (sym c.self-in-Retire.view_is) h)))
    c.retire_client.ensures.ok

pub returns-in-Overdue-clause-ok : goal.returns-in-Overdue-clause-ok
returns-in-Overdue-clause-ok g c = on_ok c.overdue.result _ _
    (λ k s h. subst (λ (x : Happening). EngineTakesHappening s (model_of_happening x) c.overdue.new.self) (sym c.in-Overdue.is) (k s h))
    c.overdue.ensures.ok

pub returns-in-Link-clause-ok : goal.returns-in-Link-clause-ok
returns-in-Link-clause-ok g c = on_ok c.take_link_bytes.result _ _
    (λ k s h. subst (λ (x : Happening). EngineTakesHappening s (model_of_happening x) (engine_state_of_parts c.self-in-Link.inside.ends.connections.items c.take_link_bytes.new.links.items c.self-in-Link.inside.core c.self-in-Link.inside.ends.first_link)) (sym c.in-Link.is) (k s c.self-in-Link.inside.ends.connections.items c.self-in-Link.inside.core (subst (λ (e : State). EngineRepresents e s) (sym c.self-in-Link.view_is) h)))
    c.take_link_bytes.ensures.ok

pub returns-in-Shut-clause-ok : goal.returns-in-Shut-clause-ok
returns-in-Shut-clause-ok g c = on_ok c.note_end_of_link_input.result _ _
    (λ k s h. subst (λ (x : Happening). EngineTakesHappening s (model_of_happening x) (engine_state_of_parts c.self-in-Shut.inside.ends.connections.items c.note_end_of_link_input.new.links.items c.self-in-Shut.inside.core c.self-in-Shut.inside.ends.first_link)) (sym c.in-Shut.is) (k s c.self-in-Shut.inside.ends.connections.items c.self-in-Shut.inside.core (subst (λ (e : State). EngineRepresents e s) (sym c.self-in-Shut.view_is) h)))
    c.note_end_of_link_input.ensures.ok

pub returns-in-Fail-clause-ok : goal.returns-in-Fail-clause-ok
returns-in-Fail-clause-ok g c = on_ok c.note_link_failure.result _ _
    (λ k s h. subst (λ (x : Happening). EngineTakesHappening s (model_of_happening x) (engine_state_of_parts c.self-in-Fail.inside.ends.connections.items c.note_link_failure.new.links.items c.self-in-Fail.inside.core c.self-in-Fail.inside.ends.first_link)) (sym c.in-Fail.is) (k s c.self-in-Fail.inside.ends.connections.items c.self-in-Fail.inside.core (subst (λ (e : State). EngineRepresents e s) (sym c.self-in-Fail.view_is) h)))
    c.note_link_failure.ensures.ok

pub returns-in-Client-clause-kept : goal.returns-in-Client-clause-kept
returns-in-Client-clause-kept g c = λ e s h. subst (λ (x : Happening). happening_adds_connection_or_bytes s (model_of_happening x) ≡ true) (sym c.in-Client.is) (c.take_client_bytes.ensures.kept e s c.self-in-Client.inside.ends.links.items c.self-in-Client.inside.core c.self-in-Client.inside.ends.first_link (subst (λ (e : State). EngineRepresents e s) (sym c.self-in-Client.view_is) h))

pub returns-in-Link-clause-kept : goal.returns-in-Link-clause-kept
returns-in-Link-clause-kept g c = λ e s h. subst (λ (x : Happening). happening_adds_connection_or_bytes s (model_of_happening x) ≡ true) (sym c.in-Link.is) (c.take_link_bytes.ensures.kept e s c.self-in-Link.inside.ends.connections.items c.self-in-Link.inside.core (subst (λ (e : State). EngineRepresents e s) (sym c.self-in-Link.view_is) h))

pub invariant_of-self : goal.invariant_of-self
invariant_of-self g c = paired_accepted c.accept.result c.self.inside.ends.connections.items c.accept.new.connections.items (owners_of_links c.self.inside.ends.links.items) c.self.inside.core.exchanges c.accept.ensures.activities (stays_err c.accept.result _ _ (λ same. ap (λ (v : EndList Connection). v.items) same) c.accept.ensures.err) c.self.invariant

pub returns-in-Client-clause-fault : goal.returns-in-Client-clause-fault
returns-in-Client-clause-fault g c = on_err c.take_client_bytes.result _ _
    (λ e k s h. subst (λ (x : Happening). IsFaultOfTakingHappening s (model_of_happening x) e) (sym c.in-Client.is) (k s c.self-in-Client.inside.ends.links.items c.self-in-Client.inside.core c.self-in-Client.inside.ends.first_link (subst (λ (e : State). EngineRepresents e s) (sym c.self-in-Client.view_is) h)))
    c.take_client_bytes.ensures.fault

pub returns-in-Overdue-clause-fault : goal.returns-in-Overdue-clause-fault
returns-in-Overdue-clause-fault g c = on_err c.overdue.result _ _
    (λ e k s h. subst (λ (x : Happening). IsFaultOfTakingHappening s (model_of_happening x) e) (sym c.in-Overdue.is) (k s h))
    c.overdue.ensures.fault

pub returns-in-Link-clause-fault : goal.returns-in-Link-clause-fault
returns-in-Link-clause-fault g c = on_err c.take_link_bytes.result _ _
    (λ e k s h. subst (λ (x : Happening). IsFaultOfTakingHappening s (model_of_happening x) e) (sym c.in-Link.is) (k s c.self-in-Link.inside.ends.connections.items c.self-in-Link.inside.core (subst (λ (e : State). EngineRepresents e s) (sym c.self-in-Link.view_is) h)))
    c.take_link_bytes.ensures.fault

pub returns-in-Accept-clause-reserved : goal.returns-in-Accept-clause-reserved
returns-in-Accept-clause-reserved g c = λ found. c.accept.ensures.reserved (found_in _ _ _ _ c.in-Accept.is c.self.view_is found)

pub returns-in-Client-clause-reserved : goal.returns-in-Client-clause-reserved
returns-in-Client-clause-reserved g c = λ found. c.take_client_bytes.ensures.reserved (found_in _ _ _ _ c.in-Client.is c.self-in-Client.view_is found)

pub returns-in-Link-clause-reserved : goal.returns-in-Link-clause-reserved
returns-in-Link-clause-reserved g c = λ found. c.take_link_bytes.ensures.reserved (found_in _ _ _ _ c.in-Link.is c.self-in-Link.view_is found)
