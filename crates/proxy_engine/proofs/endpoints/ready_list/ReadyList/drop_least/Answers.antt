use Rattle.std.proofs.Common.{◌≡◌, ◌+◌, ℕ, List, length, drop, arith, rules, ap, sym, subst, Contains, vec_len}
use Rattle.std.proofs.lemmas.List.{drop-drop}
use Rattle.proxy_engine.specs.ReadyList.{ReadyPlaces, PlacesAscend, PlaceIsLeast}
use Rattle.proxy_engine.proofs.Rising.{rises_drop, drop_others, drop_only}
use Rattle.proxy_engine.proofs.endpoints.ready_list.ReadyList.drop_least.Goals as goal

-- what is left behind the first
left : (c : goal.After-self-1) → drop 1 (drop c.self.inside.first c.self.inside.items.items) ≡ drop (c.self.inside.first + 1) c.self.inside.items.items
left c = drop-drop 1 c.self.inside.first c.self.inside.items.items

was : (c : goal.After-self-1) → drop c.self.inside.first c.self.inside.items.items ≡ c.args.self.now.places
was c = ap (λ (k : ReadyPlaces). k.places) c.self.view_is

rising : (c : goal.After-self-1) → PlacesAscend (drop (c.self.inside.first + 1) c.self.inside.items.items)
rising c = subst PlacesAscend (left c) (rises_drop 1 _ c.self.invariant.1)

pub invariant_of-self : goal.invariant_of-self
invariant_of-self c =
    let count : vec_len c.self.inside.items ≡ length c.self.inside.items.items = search rules in
    (omega (arith, count, c.if-len-self-gt1.true, c.len.ensures), rising c)

pub returns-then-len-self-gt1-clause-others : goal.returns-then-len-self-gt1-clause-others
returns-then-len-self-gt1-clause-others c = λ p q least other h.
    let old = drop c.self.inside.first c.self.inside.items.items in
    subst (λ (xs : List ℕ). Contains xs q) (left c)
    (drop_others old c.self.invariant.1 p q (subst (λ (xs : List ℕ). PlaceIsLeast xs p) (sym (was c)) least) other (subst (λ (xs : List ℕ). Contains xs q) (sym (was c)) h))

pub returns-then-len-self-gt1-clause-only : goal.returns-then-len-self-gt1-clause-only
returns-then-len-self-gt1-clause-only c = λ p q least h.
    let old = drop c.self.inside.first c.self.inside.items.items in
    let kept = drop_only old c.self.invariant.1 p q (subst (λ (xs : List ℕ). PlaceIsLeast xs p) (sym (was c)) least) (subst (λ (xs : List ℕ). Contains xs q) (sym (left c)) h) in
    (kept.0, subst (λ (xs : List ℕ). Contains xs q) (was c) kept.1)

pub returns-then-len-self-gt1-clause-rises : goal.returns-then-len-self-gt1-clause-rises
returns-then-len-self-gt1-clause-rises c = rising c
