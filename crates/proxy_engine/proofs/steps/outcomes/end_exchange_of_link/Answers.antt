use Rattle.std.proofs.Common.{List, Option, None, length, refl, sym, ap, subst, ◌∙◌, arith, sum_by}
use Rattle.std.proofs.lemmas.List.{map-set}
use Rattle.std.proofs.Math.ListN.{length-set}
use Rattle.proxy_engine.specs.EngineModel.{with_changed_link}
use Rattle.proxy_engine.specs.Acts.{link_model_dropped}
use Rattle.proxy_engine.specs.State.{EngineRepresents, engine_state_of_parts, work_left_of_link}
use Rattle.proxy_engine.specs.Pairing.{owner_of_open_link, owners_of_links}
use Rattle.proxy_engine.specs.declared.endpoints.ends.Link.{Link}
use Rattle.proxy_engine.proofs.Keeping.{inside}
use Rattle.proxy_engine.proofs.Searching.{sum_changed}
use Rattle.proxy_engine.proofs.Changes.{changed_link}
use Rattle.proxy_engine.proofs.steps.outcomes.end_exchange_of_link.Goals as goal

pub returns-clause-represents : goal.returns-clause-represents
returns-clause-represents c = λ s core first h.
    let cs = c.args.connections.now.items in
    let ks = c.args.links.now.items in
    let j = c.args.j in
    c.mark_exchange_ended_at.ensures.represents (with_changed_link s j link_model_dropped) c.release.new.self.items core first
    (subst (λ (ls : List (Option Link)). EngineRepresents (engine_state_of_parts cs ls core first) (with_changed_link s j link_model_dropped)) (sym c.release.ensures.items)
    (changed_link link_model_dropped cs ks core first s j None (inside ks j c.requires.link) (λ k q. refl) h))

pub returns-clause-owners : goal.returns-clause-owners
returns-clause-owners c = ap owners_of_links c.release.ensures.items ∙ map-set owner_of_open_link c.args.links.now.items c.args.j None

pub returns-clause-load : goal.returns-clause-load
returns-clause-load c =
    let ks = c.args.links.now.items in
    let sum = sum_changed work_left_of_link ks c.args.j None None (inside ks c.args.j c.requires.link) in
    omega (arith, sum, ap (sum_by work_left_of_link) c.release.ensures.items, c.mark_exchange_ended_at.ensures.load)

pub returns-clause-links : goal.returns-clause-links
returns-clause-links c = ap length c.release.ensures.items ∙ length-set c.args.links.now.items c.args.j None
