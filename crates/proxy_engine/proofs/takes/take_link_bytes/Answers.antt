use Rattle.std.proofs.Common.{◌≡◌, true, false, ℕ, length, get_or, Option, Some, None, sym, ap, subst, ◌∙◌}
use Rattle.proxy_engine.specs.Pairing.{owner_of_open_link}
use Rattle.proxy_engine.specs.Room.{LinkReaderHasRoomFor}
use Rattle.proxy_engine.specs.EngineModel.{link_after_bytes}
use Rattle.proxy_engine.specs.State.{LinkRepresents}
use Rattle.proxy_engine.specs.declared.endpoints.ends.Link.{Link}
use Rattle.proxy_engine.proofs.Searching.{map_kept}
use Rattle.proxy_engine.proofs.Taking.{link_free, link_refused, link_full, link_taken, link_over, link_keeps, heard_over}
use Rattle.proxy_engine.proofs.takes.take_link_bytes.Goals as goal

pub returns-in_default-clause-fault : goal.returns-in_default-clause-fault
returns-in_default-clause-fault c = λ s connections core h. link_refused connections c.args.links.now.items core c.args.first s c.args.l c.in_default.ensures h

pub returns-in_default-at_mut-clause-ok : goal.returns-in_default-at_mut-clause-ok
returns-in_default-at_mut-clause-ok c = λ s connections core h. record {
  free = link_free connections c.args.links.now.items core c.args.first s c.args.l true c.in-Some.ensures.0 h;
  represents = link_over (link_after_bytes c.args.bytes.now) connections c.args.links.now.items core c.args.first s c.args.l c.in-Some.j c.in-Some.ensures.1 c.in-Some.ensures.2 c.in_default-at_mut.ensures.value (λ k q. heard_over c.args.bytes.now k q) h;
}

pub returns-in-Ok-clause-ok : goal.returns-in-Ok-clause-ok
returns-in-Ok-clause-ok c = λ s connections core h. record {
  free = link_free connections c.args.links.now.items core c.args.first s c.args.l true c.in-Some.ensures.0 h;
  represents = link_taken (link_after_bytes c.args.bytes.now) connections c.args.links.now.items core c.args.first s c.args.l c.in-Some.j (Some c.feed_link.new.link) c.in-Some.ensures.1 c.in-Some.ensures.2
      (λ k q. c.in-Ok.ensures.represents k (subst (λ (o : Option Link). LinkRepresents o k) (sym c.in-Some-at_mut.ensures.value) q)) h;
}

pub returns-in-Err-clause-fault : goal.returns-in-Err-clause-fault
returns-in-Err-clause-fault c = λ s connections core h. link_full connections c.args.links.now.items core c.args.first s c.args.l c.in-Some.ensures.0 h

pub returns-in-Ok-clause-owners : goal.returns-in-Ok-clause-owners
returns-in-Ok-clause-owners c = map_kept owner_of_open_link c.args.links.now.items c.in-Some.j None (Some c.feed_link.new.link) (ap Some c.feed_link.ensures.connection ∙ ap owner_of_open_link c.in-Some-at_mut.ensures.value)

pub returns-in-Err-clause-kept : goal.returns-in-Err-clause-kept
returns-in-Err-clause-kept c = λ e s connections core h. link_keeps connections c.args.links.now.items core c.args.first s c.args.l c.in-Some.j c.in-Some-at_mut.link.now c.in-Some.ensures.1 c.in-Some.ensures.2 c.in-Some-at_mut.ensures.value c.in-Err.ensures.kept h

pub returns-in-Err-clause-reserved : goal.returns-in-Err-clause-reserved
returns-in-Err-clause-reserved c = λ roomy.
    let here = subst (λ (o : Option Link). LinkReaderHasRoomFor o (length c.args.bytes.now)) (ap (λ (j : ℕ). get_or c.args.links.now.items j None) (sym c.in-Some.ensures.1) ∙ sym c.in-Some-at_mut.ensures.value) roomy in
    let none : false ≡ true = c.in-Err.ensures.reserved here in
    absurd cc
