use Rattle.std.proofs.Common.{sym, ap, ◌∙◌, subst, arith, sum_by}
use Rattle.proxy_engine.specs.Pairing.{activity_of_connection, activities_of_connections}
use Rattle.proxy_engine.specs.EngineModel.{no_connection}
use Rattle.proxy_engine.specs.Due.{IsDueOnConnection}
use Rattle.proxy_engine.specs.State.{ListsAreRelated, ConnectionRepresents, due_request_at, work_left_of_connection}
use Rattle.proxy_engine.specs.Marked.{EndList, LookingAheadKeepsConnection, connection_may_be_due}
use Rattle.proxy_engine.specs.declared.endpoints.ends.Connection.{Connection}
use Rattle.proxy_engine.proofs.Losing.{lost_looked}
use Rattle.proxy_engine.proofs.Searching.{both_alike, map_alike, sum_alike}
use Rattle.proxy_engine.proofs.Marking.{unwanted, unwanted_over}
use Rattle.proxy_engine.proofs.Finding.{due_found}
use Rattle.proxy_engine.proofs.Acting.{on_ok}
use Rattle.proxy_engine.proofs.endpoints.connections.Connections.find_due.Goals as goal

pub invariant_of-self : goal.invariant_of-self
invariant_of-self c = lost_looked LookingAheadKeepsConnection c.self.inside.ends c.find.new.self c.self.inside.lost (λ x y r. r) c.self.invariant c.find.ensures.alike c.find.ensures.length c.find.ensures.room

pub returns-clause-represents : goal.returns-clause-represents
returns-clause-represents c = λ ss both.
    both_alike LookingAheadKeepsConnection ConnectionRepresents (λ x y r. r.represents) c.self.inside.ends.items c.find.new.self.items c.find.ensures.length c.find.ensures.alike ss (subst (λ (v : EndList Connection). ListsAreRelated ConnectionRepresents v.items ss) (sym c.self.view_is) both)

pub returns-clause-found : goal.returns-clause-found
returns-clause-found c = on_ok c.find.result _ _ (λ r h. due_found ConnectionRepresents IsDueOnConnection connection_may_be_due no_connection due_request_at c.find.new.self.items unwanted unwanted_over r h) c.find.ensures.found

pub returns-clause-activities : goal.returns-clause-activities
returns-clause-activities c =
    map_alike LookingAheadKeepsConnection activity_of_connection (λ x y r. r.activity) c.self.inside.ends.items c.find.new.self.items c.find.ensures.length c.find.ensures.alike ∙ ap (λ (v : EndList Connection). activities_of_connections v.items) c.self.view_is

pub returns-clause-load : goal.returns-clause-load
returns-clause-load c =
    let less = sum_alike LookingAheadKeepsConnection work_left_of_connection (λ x y r. r.load) c.self.inside.ends.items c.find.new.self.items c.find.ensures.length c.find.ensures.alike in
    omega (arith, less, ap (λ (v : EndList Connection). sum_by work_left_of_connection v.items) c.self.view_is)
