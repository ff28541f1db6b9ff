use Rattle.std.proofs.Common.{length, ◌≡◌, ◌+◌, ◌^◌, sym, ◌∙◌, arith}
use Rattle.std.proofs.lemmas.Bool.{leb-true}
use Rattle.hx_framing.specs.declared.messages.Next.TheVariants.{Message}
use Rattle.proxy_engine.specs.Due.{Serves}
use Rattle.proxy_engine.specs.State.{LinkRepresents}
use Rattle.proxy_engine.proofs.Parts.{both_length}
use Rattle.proxy_engine.proofs.engine.Engine.arrive.Goals as goal

pub returns-then-has_no_link_number_left-clause-fault : goal.returns-then-has_no_link_number_left-clause-fault
returns-then-has_no_link_number_left-clause-fault g c = rw (← c.self.view_is) (
    λ s r asked due h.
    let links = both_length LinkRepresents c.self.inside.ends.links.items s.links h.links in
    let first_is : c.self.inside.ends.first_link ≡ s.first = h.first in
    let many = leb-true (2 ^ 64) (c.self.inside.ends.first_link + length c.self.inside.ends.links.items) (sym c.has_no_link_number_left.ensures ∙ c.if-has_no_link_number_left.true) in
    (Serves c.args.i (Message r), due, (asked.0, asked.1), omega (arith, many, links))
    )
