use Rattle.std.proofs.Common.{ap, Some}
use Rattle.proxy_engine.specs.Pairing.{owner_of_open_link}
use Rattle.proxy_engine.specs.State.{LinkRepresents}
use Rattle.proxy_engine.specs.Marked.{LinkAfterLookahead, DiffersOnlyInSpareRoom, link_may_be_due}
use Rattle.proxy_engine.proofs.Searching.{both_alike, map_alike}
use Rattle.proxy_engine.proofs.endpoints.links.MarkedEnds+Link.reserve_room_for_read.Goals as goal

pub returns-clause-represents : goal.returns-clause-represents
returns-clause-represents c =
    both_alike (DiffersOnlyInSpareRoom LinkAfterLookahead link_may_be_due) LinkRepresents (λ x y r. r.alike.represents) c.args.self.now.items c.reserve_bytes.new.self.items c.reserve_bytes.ensures.length c.reserve_bytes.ensures.grows

pub returns-clause-owners : goal.returns-clause-owners
returns-clause-owners c =
    map_alike (DiffersOnlyInSpareRoom LinkAfterLookahead link_may_be_due) owner_of_open_link (λ x y r. ap Some r.alike.connection) c.args.self.now.items c.reserve_bytes.new.self.items c.reserve_bytes.ensures.length c.reserve_bytes.ensures.grows
