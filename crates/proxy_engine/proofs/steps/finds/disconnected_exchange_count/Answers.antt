use Rattle.std.proofs.Common.{◌≡◌, ◌+◌, ℕ, List, length, Option, Contains, refl, sym, ap, ◌∙◌, subst, arith, get_or}
use Rattle.proxy_engine.specs.Held.{open_end_has_flag}
use Rattle.proxy_engine.specs.Marked.{is_gone_with_exchange, end_if_open_at}
use Rattle.proxy_engine.specs.Reading.{places_with_flag}
use Rattle.proxy_engine.specs.ReadyList.{PlacesAscend}
use Rattle.proxy_engine.specs.declared.endpoints.ends.Connection.{Connection}
use Rattle.proxy_engine.proofs.Keeping.{inside}
use Rattle.proxy_engine.proofs.Failures.{bound, found_below, found_next, found_all, counted_more, counted_same, listed_back}
use Rattle.proxy_engine.proofs.steps.finds.disconnected_exchange_count.Goals as goal
use Rattle.proxy_engine.proofs.steps.finds.disconnected_exchange_count.Goals.{then-is_lost, else-is_lost}

pub loop-place-preserved : goal.loop-place-preserved
loop-place-preserved c =
    let items = c.args.ends.now.items in
    let places = c.places-places.result.now in
    let seen = c.loop-place.place-index in
    let at = get_or places seen 0 in
    let rises = subst PlacesAscend (sym c.places-places.ensures) c.requires.marked.rises in
    let next =
    found_next is_gone_with_exchange (end_if_open_at items) places rises (λ j x e f. subst (λ (ps : List ℕ). Contains ps j) (sym c.places-places.ensures) (c.requires.marked.marked j x e f)) seen (seen + 1) refl c.loop-place-test.true in
    let flag = ap (λ (i : ℕ). open_end_has_flag is_gone_with_exchange (end_if_open_at items i)) (sym c.at.ensures) ∙ sym c.is_lost.ensures in
    elim c.if-is_lost.branch [
      | then-is_lost w ↦ (omega (arith, w.count-is, c.loop-place.invariant.0), w.count-is ∙ counted_more _ _ _ at c.loop-place.count c.loop-place.invariant.1 next (flag ∙ w.if-is_lost.true))
      | else-is_lost w ↦ (omega (arith, w.count-is, c.loop-place.invariant.0), w.count-is ∙ counted_same _ _ _ at c.loop-place.count c.loop-place.invariant.1 next (flag ∙ w.if-is_lost.false))
    ]

pub returns : goal.returns
returns c =
    let items = c.args.ends.now.items in
    let places = c.places-places.result.now in
    let all_seen : c.loop-place.place-index ≡ length places = omega (arith, c.loop-place-test.false, c.loop-place.auto.place-index-end) in
    let rises = subst PlacesAscend (sym c.places-places.ensures) c.requires.marked.rises in
    let all = found_all is_gone_with_exchange (end_if_open_at items) places rises (λ j x e f. subst (λ (ps : List ℕ). Contains ps j) (sym c.places-places.ensures) (c.requires.marked.marked j x e f)) (length items)
    (λ i there. inside items i (c.requires.marked.filled i (subst (λ (ps : List ℕ). Contains ps i) c.places-places.ensures there))) in
    c.loop-place.invariant.1
    ∙ ap length (ap (λ (k : ℕ). found_below is_gone_with_exchange (end_if_open_at items) (bound places k)) all_seen ∙ (sym all ∙ ap (λ (xs : List (Option Connection)). places_with_flag (open_end_has_flag is_gone_with_exchange) 0 xs) (listed_back items)))
