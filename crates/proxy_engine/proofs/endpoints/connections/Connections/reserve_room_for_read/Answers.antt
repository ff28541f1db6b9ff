use Rattle.std.proofs.Common.{sym, ap, ◌∙◌, subst}
use Rattle.proxy_engine.specs.Pairing.{activity_of_connection, activities_of_connections}
use Rattle.proxy_engine.specs.State.{ListsAreRelated, ConnectionRepresents}
use Rattle.proxy_engine.specs.Marked.{EndList, LookingAheadKeepsConnection, DiffersOnlyInSpareRoom, connection_may_be_due}
use Rattle.proxy_engine.specs.declared.endpoints.ends.Connection.{Connection}
use Rattle.proxy_engine.proofs.Losing.{lost_looked}
use Rattle.proxy_engine.proofs.Searching.{both_alike, map_alike}
use Rattle.proxy_engine.proofs.endpoints.connections.Connections.reserve_room_for_read.Goals as goal

pub invariant_of-self : goal.invariant_of-self
invariant_of-self c = lost_looked (DiffersOnlyInSpareRoom LookingAheadKeepsConnection connection_may_be_due) c.self.inside.ends c.reserve_bytes.new.self c.self.inside.lost (λ x y r. r.alike) c.self.invariant c.reserve_bytes.ensures.grows c.reserve_bytes.ensures.length c.reserve_bytes.ensures.room

pub returns-clause-represents : goal.returns-clause-represents
returns-clause-represents c = λ ss both.
    both_alike (DiffersOnlyInSpareRoom LookingAheadKeepsConnection connection_may_be_due) ConnectionRepresents (λ x y r. r.alike.represents) c.self.inside.ends.items c.reserve_bytes.new.self.items c.reserve_bytes.ensures.length c.reserve_bytes.ensures.grows ss
    (subst (λ (v : EndList Connection). ListsAreRelated ConnectionRepresents v.items ss) (sym c.self.view_is) both)

pub returns-clause-activities : goal.returns-clause-activities
returns-clause-activities c =
    map_alike (DiffersOnlyInSpareRoom LookingAheadKeepsConnection connection_may_be_due) activity_of_connection (λ x y r. r.alike.activity) c.self.inside.ends.items c.reserve_bytes.new.self.items c.reserve_bytes.ensures.length c.reserve_bytes.ensures.grows ∙ ap (λ (v : EndList Connection). activities_of_connections v.items) c.self.view_is
