use Rattle.std.proofs.Common.{◌≡◌, ◌+◌, ◌<◌, ℕ, List, length, drop, get_or, nat_lt, ap, sym, subst, ◌∙◌, arith, Bor, Option, None, Some, is_some, IfSome}
use Rattle.std.specs.Option.{option_copied}
use Rattle.std.proofs.lemmas.Bool.{ltb-true}
use Rattle.std.proofs.lemmas.List.{get_or-drop, length-drop}
use Rattle.proxy_engine.specs.ReadyList.{ReadyPlaces, PlacesAscend, PlaceIsLeast}
use Rattle.proxy_engine.proofs.Rising.{at_any, first_is_least}
use Rattle.proxy_engine.proofs.endpoints.ready_list.ReadyList.least.Goals as goal

-- what stands behind those that are taken off
least_of : (xs : List ℕ) (n : ℕ) (r : Option (Bor ℕ)) (o : Option ℕ) → PlacesAscend (drop n xs) → (is_some r ≡ nat_lt n (length xs)) × IfSome r (λ x. x.now ≡ get_or xs n x.now) → o ≡ option_copied r → IfSome o (λ place. PlaceIsLeast (drop n xs) place)
least_of xs n r None rises seen copied = tt
least_of xs n None (Some p) rises seen copied = absurd (cc)
least_of xs n (Some x) (Some p) rises seen copied =
    let is : p ≡ x.now = let same : Some p ≡ Some x.now = copied in cc in
    let within : n < length xs = ltb-true n (length xs) (sym seen.0) in
    let same : n + 0 ≡ n = omega arith in
    let some : 0 < length (drop n xs) = omega (arith, within, length-drop n xs) in
    first_is_least (drop n xs) rises p some (at_any (drop n xs) 0 x.now some ∙ (get_or-drop n xs 0 x.now ∙ (ap (λ (k : ℕ). get_or xs k x.now) same ∙ (sym seen.1 ∙ sym is))))

pub returns-clause-some : goal.returns-clause-some
returns-clause-some c =
    let items = c.self.inside.items.items in
    let first = c.self.inside.first in
    let seen = subst (λ (xs : List ℕ). (is_some c.get.result ≡ nat_lt first (length xs)) × IfSome c.get.result (λ x. x.now ≡ get_or xs first x.now)) c.deref.ensures.value (c.get.ensures.lookup.0, c.get.ensures.lookup.1) in
    subst (λ (xs : List ℕ). IfSome c.copied.result (λ place. PlaceIsLeast xs place)) (ap (λ (k : ReadyPlaces). k.places) c.self.view_is) (least_of items first c.get.result c.copied.result c.self.invariant.1 seen c.copied.ensures)
