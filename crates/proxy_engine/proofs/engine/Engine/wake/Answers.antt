use Rattle.std.proofs.Common.{length, ◌≡◌, ◌+◌, ◌^◌, sym, ◌∙◌, arith}
use Rattle.std.proofs.lemmas.Bool.{leb-true}
use Rattle.proxy_engine.specs.Due.{Wakes}
use Rattle.proxy_engine.specs.State.{LinkRepresents}
use Rattle.proxy_engine.proofs.Parts.{both_length}
use Rattle.proxy_engine.proofs.engine.Engine.wake.Goals as goal

pub returns-then-has_no_link_number_left-clause-fault : goal.returns-then-has_no_link_number_left-clause-fault
returns-then-has_no_link_number_left-clause-fault g c = rw (← c.self.view_is) (
    λ s due h.
    let links = both_length LinkRepresents c.self.inside.ends.links.items s.links h.links in
    let first_is : c.self.inside.ends.first_link ≡ s.first = h.first in
    let many = leb-true (2 ^ 64) (c.self.inside.ends.first_link + length c.self.inside.ends.links.items) (sym c.has_no_link_number_left.ensures ∙ c.if-has_no_link_number_left.true) in
    (Wakes c.args.i, due, tt, omega (arith, many, links))
    )
