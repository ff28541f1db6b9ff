use Rattle.std.proofs.Common.{None, ◌≡◌, ◌+◌, ◌≤◌, ◌^◌, ◌∙◌, ◌∷◌, [], ℕ, length, ap, arith}
use Rattle.proxy_core.specs.State.{State as CoreState}
use Rattle.proxy_script.specs.declared.effect_list.Effect.TheVariants.{Drop}
use Rattle.proxy_engine.specs.State.{LinkRepresents}
use Rattle.proxy_engine.proofs.Parts.{both_length}
use Rattle.proxy_engine.proofs.Acting.{emitted_one}
use Rattle.proxy_engine.proofs.Pairs.{within_links, link_there, paired_lost}
use Rattle.proxy_engine.proofs.Stepping.{abandoned_done}
use Rattle.proxy_engine.proofs.engine.Engine.abandon_link.Goals as goal

pub free_link_of_gone_client-requires-clause-link : goal.free_link_of_gone_client-requires-clause-link
free_link_of_gone_client-requires-clause-link g c = link_there c.self.inside.ends.connections.items c.self.inside.ends.links.items c.self.inside.core.exchanges c.args.i c.args.l (rw (← c.self.view_is) at c.requires.linked) c.self.invariant

pub returns-clause-ok : goal.returns-clause-ok
returns-clause-ok g c = rw (← c.self.view_is) (
    λ s now h.
    let links = both_length LinkRepresents c.self.inside.ends.links.items s.links h.links in
    let first_is : c.self.inside.ends.first_link ≡ s.first = h.first in
    let numbers : s.first + length s.links ≤ 2 ^ 64 = h.numbers in
    let within = within_links c.self.inside.ends.connections.items c.self.inside.ends.links.items c.self.inside.core.exchanges c.args.i c.args.l (rw (← c.self.view_is) at c.requires.linked) c.self.invariant in
    let number : c.number_at.result ≡ c.self.inside.ends.first_link + c.args.l = c.number_at.ensures (omega (arith, links, within)) in
    abandoned_done s c.free_link_of_gone_client.new.connections.items c.free_link_of_gone_client.new.links.items c.self.inside.core c.abandon.new.self c.self.inside.ends.first_link now c.args.i c.args.l c.in-Ok.field-0 c.put.new.effects.items (rw c.number_at-id.ensures at c.in-Ok.ensures.ok)
    (emitted_one c.in_ok-effects.effects.items c.put.new.effects.items _ c.put.ensures.items c.in_ok-effects.ensures.items ∙ ap (λ (n : ℕ). Drop n ∷ []) number) first_is h.core
    (c.free_link_of_gone_client.ensures.represents s c.self.inside.core c.self.inside.ends.first_link h)
    )

pub invariant_of-self-2 : goal.invariant_of-self-2
invariant_of-self-2 g c = paired_lost c.self.inside.ends.connections.items c.free_link_of_gone_client.new.connections.items c.self.inside.ends.links.items c.free_link_of_gone_client.new.links.items c.self.inside.core.exchanges c.abandon.new.self.exchanges c.args.i c.args.l (rw (← c.self.view_is) at c.requires.linked) c.free_link_of_gone_client.ensures.activities c.free_link_of_gone_client.ensures.owners
    c.self.inside.core.table (ap (λ (k : CoreState). k.exchanges) (rw c.number_at-id.ensures at c.in-Ok.ensures.ok).leaves) c.self.invariant
