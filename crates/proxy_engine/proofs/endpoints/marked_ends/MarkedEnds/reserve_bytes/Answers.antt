use Rattle.std.proofs.Common.{◌∙◌, refl, sym, ap, subst, arith, length}
use Rattle.std.specs.Ordering.{nat_cmp}
use Rattle.std.specs.BTreeMap.{get}
use Rattle.proxy_engine.specs.ReadyList.{entries_below}
use Rattle.proxy_engine.specs.Room.{HasRoomForBytes, most_bytes_of_read}
use Rattle.proxy_engine.specs.Marked.{EndList, end_if_open_at, DiffersOnlyInSpareRoom, ContentsOfPlacesAreRelated}
use Rattle.proxy_engine.proofs.Keeping.{listed_at, listed_same, listed_length}
use Rattle.proxy_engine.proofs.Marking.{marked_alike, alike_some, alike_refl, same_list, none_alike}
use Rattle.proxy_engine.proofs.Finding.{alike_listed}
use Rattle.proxy_engine.proofs.Readable.{beyond, by_place}
use Rattle.proxy_engine.proofs.Acting.{does_ok, stays_err}
use Rattle.proxy_engine.proofs.endpoints.marked_ends.MarkedEnds.reserve_bytes.Goals as goal

pub invariant_of-self : goal.invariant_of-self
invariant_of-self g c =
    let grows = DiffersOnlyInSpareRoom g.E.Endpoint.LooksLike g.E.Endpoint.may_show in
    let m = get nat_cmp c.self.inside.ends in
    let k = get nat_cmp c.reserve_piece_at.new.ends in
    let size = c.reserve_piece_at.ensures.size in (
      marked_alike g.E.Endpoint.may_show grows m k _ _ c.self.inside.marked (λ x y r f. sym r.shows ∙ f) c.self.invariant.0 c.reserve_piece_at.ensures.grows (omega (arith, size)),
      c.self.invariant.1,
      (λ spare. (alike_some grows m k c.reserve_piece_at.ensures.grows c.self.inside.count (c.self.invariant.2 spare).0, (c.self.invariant.2 spare).1)),
      none_alike m k c.self.inside.count c.self.invariant.3 grows c.reserve_piece_at.ensures.grows,
    )

pub returns-then-key-self-clause-ok : goal.returns-then-key-self-clause-ok
returns-then-key-self-clause-ok g c =
    let len = ap (λ (v : EndList g.row.E.Denot). length v.items) c.self.view_is in
    rw (← c.key-key.ensures) (subst (λ o. HasRoomForBytes g.E.Endpoint.spare o most_bytes_of_read) (sym (beyond c.args.self.now.items c.key-key.result (omega (arith, len, listed_length c.self.inside.ends c.self.inside.count, c.if-key-self.true)))) tt)

pub returns-then-key-self-clause-grows : goal.returns-then-key-self-clause-grows
returns-then-key-self-clause-grows g c = alike_refl (DiffersOnlyInSpareRoom g.E.Endpoint.LooksLike g.E.Endpoint.may_show) (λ x. record { alike = g.met.E.Endpoint.looks_like_itself x; shows = refl }) _

pub returns-clause-ok : goal.returns-clause-ok
returns-clause-ok g c = rw (← c.key-key.ensures) (
    does_ok c.reserve_piece_at.result _ _
    (λ roomy. subst (λ o. HasRoomForBytes g.E.Endpoint.spare o most_bytes_of_read) (sym (listed_at c.reserve_piece_at.new.ends c.self.inside.count c.key-key.result _ c.if-key-self.false)) roomy)
    c.reserve_piece_at.ensures.ok)

pub returns-clause-grows : goal.returns-clause-grows
returns-clause-grows g c =
    let grows = DiffersOnlyInSpareRoom g.E.Endpoint.LooksLike g.E.Endpoint.may_show in
    subst (λ (v : EndList g.row.E.Denot). ContentsOfPlacesAreRelated grows (end_if_open_at v.items) (end_if_open_at (entries_below c.reserve_piece_at.new.ends c.self.inside.count))) c.self.view_is
    (alike_listed grows c.self.inside.ends c.reserve_piece_at.new.ends c.self.inside.count c.reserve_piece_at.ensures.grows)

pub returns-clause-length : goal.returns-clause-length
returns-clause-length g c =
    listed_length c.reserve_piece_at.new.ends c.self.inside.count ∙ (sym (listed_length c.self.inside.ends c.self.inside.count) ∙ ap (λ (v : EndList g.row.E.Denot). length v.items) c.self.view_is)

pub returns-clause-err : goal.returns-clause-err
returns-clause-err g c =
    let m = c.self.inside.ends in
    let k = c.reserve_piece_at.new.ends in
    stays_err c.reserve_piece_at.result _ _
    (λ same. same_list _ _ _ _ (listed_same m k c.self.inside.count (λ q l. by_place m k c.key-key.result same c.reserve_piece_at.ensures.others q)) refl ∙ c.self.view_is)
    c.reserve_piece_at.ensures.err
