use Rattle.std.proofs.Common.{◌≡◌, ◌+◌, ◌<◌, ◌++◌, ◌∷◌, [], ℕ, List, length, map, get_or, refl, sym, ap, ◌∙◌, arith}
use Rattle.std.specs.Ordering.{nat_cmp}
use Rattle.std.specs.BTreeMap.{get}
use Rattle.proxy_engine.specs.Held.{open_link_has_failed}
use Rattle.proxy_engine.specs.Reading.{link_end_at}
use Rattle.proxy_engine.specs.declared.work.End.TheVariants as ends
use Rattle.proxy_engine.proofs.Rising.{at_any}
use Rattle.proxy_engine.proofs.Failures.{bound, found_below, found_next, found_all, emitted_more, emitted_same}
use Rattle.proxy_engine.proofs.readable_ends.push_failed_links.Goals as goal
use Rattle.proxy_engine.proofs.readable_ends.push_failed_links.Goals.{then-has_failed_at+in_ok-push, else-has_failed_at}

pub loop-place-preserved : goal.loop-place-preserved
loop-place-preserved c = λ fits.
    let ends_at = get nat_cmp c.args.ends.now in
    let places = c.args.places.now in
    let seen = c.loop-place.place-index in
    let p = get_or places seen 0 in
    let low : p < c.args.count = c.requires.below p (seen, c.loop-place-test.true, sym (at_any places seen p c.loop-place-test.true)) in
    let next = found_next open_link_has_failed ends_at places c.requires.rises c.requires.marked seen (seen + 1) refl c.loop-place-test.true in
    elim c.if-has_failed_at.branch [
      | then-has_failed_at+in_ok-push w ↦
          let number : w.link_number_of_place.result ≡ c.args.first + p = w.link_number_of_place.ensures (omega (arith, fits, low)) in
          rw w.list-is (w.in_ok-push.ensures.items
          ∙ (ap (λ (n : ℕ). c.loop-place.list.items ++ ends.Link n ∷ []) number
          ∙ emitted_more (link_end_at c.args.first) c.args.list.now.items c.loop-place.list.items _ _ _ p (c.loop-place.invariant fits) next (sym c.has_failed_at.ensures ∙ w.if-has_failed_at.true)))
      | else-has_failed_at w ↦
          rw w.list-is (emitted_same (link_end_at c.args.first) c.args.list.now.items c.loop-place.list.items _ _ _ p (c.loop-place.invariant fits) next (sym c.has_failed_at.ensures ∙ w.if-has_failed_at.false))
    ]

pub returns : goal.returns
returns c = λ fits.
    let ends_at = get nat_cmp c.args.ends.now in
    let places = c.args.places.now in
    let all_seen : c.loop-place.place-index ≡ length places = omega (arith, c.loop-place-test.false, c.loop-place.auto.place-index-end) in
    c.loop-place.invariant fits
    ∙ ap (λ (ns : List ℕ). c.args.list.now.items ++ map (link_end_at c.args.first) ns) (ap (λ (k : ℕ). found_below open_link_has_failed ends_at (bound places k)) all_seen ∙ sym (found_all open_link_has_failed ends_at places c.requires.rises c.requires.marked c.args.count c.requires.below))
