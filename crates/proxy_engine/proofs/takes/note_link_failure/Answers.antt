use Rattle.std.proofs.Common.{true, Option, Some, None, sym, ap, subst, ◌∙◌}
use Rattle.proxy_engine.specs.Pairing.{owner_of_open_link}
use Rattle.proxy_engine.specs.EngineModel.{link_after_its_failure}
use Rattle.proxy_engine.specs.State.{LinkRepresents}
use Rattle.proxy_engine.specs.declared.endpoints.ends.Link.{Link}
use Rattle.proxy_engine.proofs.Searching.{map_kept}
use Rattle.proxy_engine.proofs.Taking.{link_free, link_refused, link_taken, link_over, failed_over}
use Rattle.proxy_engine.proofs.takes.note_link_failure.Goals as goal

pub returns-in_default-clause-fault : goal.returns-in_default-clause-fault
returns-in_default-clause-fault c = λ s connections core h. link_refused connections c.args.links.now.items core c.args.first s c.args.l c.in_default.ensures h

pub returns-in_default-at_mut-clause-ok : goal.returns-in_default-at_mut-clause-ok
returns-in_default-at_mut-clause-ok c = λ s connections core h. record {
  free = link_free connections c.args.links.now.items core c.args.first s c.args.l true c.in-Some.ensures.0 h;
  represents = link_over (link_after_its_failure c.args.kind) connections c.args.links.now.items core c.args.first s c.args.l c.in-Some.j c.in-Some.ensures.1 c.in-Some.ensures.2 c.in_default-at_mut.ensures.value (failed_over c.args.kind) h;
}

pub returns-in-Some-at_mut-clause-ok : goal.returns-in-Some-at_mut-clause-ok
returns-in-Some-at_mut-clause-ok c = λ s connections core h. record {
  free = link_free connections c.args.links.now.items core c.args.first s c.args.l true c.in-Some.ensures.0 h;
  represents = link_taken (link_after_its_failure c.args.kind) connections c.args.links.now.items core c.args.first s c.args.l c.in-Some.j (Some c.fail_link.new.link) c.in-Some.ensures.1 c.in-Some.ensures.2
      (λ k q. c.fail_link.ensures.represents k (subst (λ (o : Option Link). LinkRepresents o k) (sym c.in-Some-at_mut.ensures.value) q)) h;
}

pub returns-in-Some-at_mut-clause-owners : goal.returns-in-Some-at_mut-clause-owners
returns-in-Some-at_mut-clause-owners c = map_kept owner_of_open_link c.args.links.now.items c.in-Some.j None (Some c.fail_link.new.link) (ap Some c.fail_link.ensures.connection ∙ ap owner_of_open_link c.in-Some-at_mut.ensures.value)
