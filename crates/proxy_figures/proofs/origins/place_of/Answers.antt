use Rattle.std.proofs.Common.{Some, ap, ◌∙◌, arith}
use Rattle.std.proofs.lemmas.List.{length-map}
use Rattle.proxy_figures.specs.declared.origins.Origin.{Origin}
use Rattle.proxy_figures.proofs.OriginLemmas.{same_address, other_address, address_at, other_so_far}
use Rattle.proxy_figures.proofs.origins.place_of.Goals as goal

pub loop-place-preserved : goal.loop-place-preserved
loop-place-preserved c = other_so_far c.args.origins.now c.loop-place.place c.index-origins-place.result c.args.address c.loop-place-test.true c.index-origins-place.is
    (other_address _ _ _ c.eq.ensures c.if-eq.false) c.loop-place.invariant

pub returns-then-eq-clause-known : goal.returns-then-eq-clause-known
returns-then-eq-clause-known c = address_at c.args.origins.now c.loop-place.place c.index-origins-place.result c.loop-place-test.true c.index-origins-place.is
    ∙ ap Some (same_address _ _ _ c.eq.ensures c.if-eq.true)

pub returns-clause-unknown : goal.returns-clause-unknown
returns-clause-unknown c = λ k d within. c.loop-place.invariant k d (omega (arith, length-map c.args.origins.now (λ (o : Origin). o.address)))
