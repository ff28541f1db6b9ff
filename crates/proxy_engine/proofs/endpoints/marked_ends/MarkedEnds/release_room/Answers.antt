use Rattle.std.proofs.Common.{◌∙◌, refl, sym, ap, subst, arith, length}
use Rattle.std.specs.Ordering.{nat_cmp}
use Rattle.std.specs.BTreeMap.{get}
use Rattle.proxy_engine.specs.ReadyList.{entries_below}
use Rattle.proxy_engine.specs.Room.{SpareRoomIsReleased}
use Rattle.proxy_engine.specs.Marked.{EndList, end_if_open_at, DiffersOnlyInSpareRoom, ContentsOfPlacesAreRelated}
use Rattle.proxy_engine.proofs.Keeping.{listed_at, listed_length}
use Rattle.proxy_engine.proofs.Marking.{marked_alike, alike_some, alike_refl, none_alike}
use Rattle.proxy_engine.proofs.Finding.{alike_listed}
use Rattle.proxy_engine.proofs.Readable.{beyond}
use Rattle.proxy_engine.proofs.endpoints.marked_ends.MarkedEnds.release_room.Goals as goal

pub invariant_of-self : goal.invariant_of-self
invariant_of-self g c =
    let differs = DiffersOnlyInSpareRoom g.E.Endpoint.LooksLike g.E.Endpoint.may_show in
    let m = get nat_cmp c.self.inside.ends in
    let k = get nat_cmp c.release_room_of_end_at.new.ends in
    let size = c.release_room_of_end_at.ensures.size in (
      marked_alike g.E.Endpoint.may_show differs m k _ _ c.self.inside.marked (λ x y r f. sym r.shows ∙ f) c.self.invariant.0 c.release_room_of_end_at.ensures.alike (omega (arith, size)),
      c.self.invariant.1,
      (λ spare. (alike_some differs m k c.release_room_of_end_at.ensures.alike c.self.inside.count (c.self.invariant.2 spare).0, (c.self.invariant.2 spare).1)),
      none_alike m k c.self.inside.count c.self.invariant.3 differs c.release_room_of_end_at.ensures.alike,
    )

pub returns-then-key-self-clause-given : goal.returns-then-key-self-clause-given
returns-then-key-self-clause-given g c =
    let len = ap (λ (v : EndList g.row.E.Denot). length v.items) c.self.view_is in
    rw (← c.key-key.ensures) (subst (SpareRoomIsReleased g.E.Endpoint.unread g.E.Endpoint.spare) (sym (beyond c.args.self.now.items c.key-key.result (omega (arith, len, listed_length c.self.inside.ends c.self.inside.count, c.if-key-self.true)))) tt)

pub returns-then-key-self-clause-alike : goal.returns-then-key-self-clause-alike
returns-then-key-self-clause-alike g c = alike_refl (DiffersOnlyInSpareRoom g.E.Endpoint.LooksLike g.E.Endpoint.may_show) (λ x. record { alike = g.met.E.Endpoint.looks_like_itself x; shows = refl }) _

pub returns-clause-given : goal.returns-clause-given
returns-clause-given g c = rw (← c.key-key.ensures) (
    subst (SpareRoomIsReleased g.E.Endpoint.unread g.E.Endpoint.spare) (sym (listed_at c.release_room_of_end_at.new.ends c.self.inside.count c.key-key.result _ c.if-key-self.false)) c.release_room_of_end_at.ensures.given)

pub returns-clause-alike : goal.returns-clause-alike
returns-clause-alike g c =
    let differs = DiffersOnlyInSpareRoom g.E.Endpoint.LooksLike g.E.Endpoint.may_show in
    subst (λ (v : EndList g.row.E.Denot). ContentsOfPlacesAreRelated differs (end_if_open_at v.items) (end_if_open_at (entries_below c.release_room_of_end_at.new.ends c.self.inside.count))) c.self.view_is
    (alike_listed differs c.self.inside.ends c.release_room_of_end_at.new.ends c.self.inside.count c.release_room_of_end_at.ensures.alike)

pub returns-clause-length : goal.returns-clause-length
returns-clause-length g c =
    listed_length c.release_room_of_end_at.new.ends c.self.inside.count ∙ (sym (listed_length c.self.inside.ends c.self.inside.count) ∙ ap (λ (v : EndList g.row.E.Denot). length v.items) c.self.view_is)
