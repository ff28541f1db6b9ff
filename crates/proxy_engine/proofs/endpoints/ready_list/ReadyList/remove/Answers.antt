use Rattle.std.proofs.Common.{◌≡◌, ◌+◌, ◌<◌, ℕ, List, length, drop, get_or, sym, ap, subst, ◌∙◌, arith, Contains}
use Rattle.std.specs.List.{remove}
use Rattle.std.proofs.lemmas.List.{length-drop}
use Rattle.std.proofs.lemmas.List.Edits.{length-remove}
use Rattle.proxy_engine.specs.ReadyList.{ReadyPlaces, PlacesAscend, IsInsertionIndexOfPlace, PlaceIsLeast}
use Rattle.proxy_engine.proofs.Rising.{not_there, rises_remove, remove_others, remove_only, drop-remove, first_is_least}
use Rattle.proxy_engine.proofs.endpoints.ready_list.ReadyList.remove.Goals as goal

-- ---- the least goes

first : (c : goal.After-drop_least) → PlaceIsLeast c.args.self.now.places c.args.place
first c =
    let was = ap (λ (k : ReadyPlaces). k.places) c.self.view_is in
    let start = c.in-Ok-eq0.ensures.there in
    let within = subst (λ (xs : List ℕ). c.in-Ok-eq0.field-0 < length xs) c.places.ensures start.0 in
    let here = subst (λ (xs : List ℕ). get_or xs c.in-Ok-eq0.field-0 0 ≡ c.args.place) c.places.ensures start.1 in
    first_is_least c.args.self.now.places (subst PlacesAscend was c.self.invariant.1) c.args.place (omega (arith, within)) (ap (λ (k : ℕ). get_or c.args.self.now.places k 0) (sym c.in-Ok-eq0.field-0-test) ∙ here)

pub returns-in-Ok-eq0-clause-others : goal.returns-in-Ok-eq0-clause-others
returns-in-Ok-eq0-clause-others c = λ q other h. c.drop_least.ensures.others c.args.place q (first c) other h

pub returns-in-Ok-eq0-clause-only : goal.returns-in-Ok-eq0-clause-only
returns-in-Ok-eq0-clause-only c = λ q h. c.drop_least.ensures.only c.args.place q (first c) h

-- ---- one behind it goes

abbrev old : goal.After-remove → List ℕ
old c = drop c.self.inside.first c.self.inside.items.items

was : (c : goal.After-remove) → old c ≡ c.args.self.now.places
was c = ap (λ (k : ReadyPlaces). k.places) c.self.view_is

within : (c : goal.After-remove) → c.in-Ok.at < length (old c)
within c = subst (λ (xs : List ℕ). c.in-Ok.at < length xs) (c.places.ensures ∙ sym (was c)) c.in-Ok.ensures.there.0

here : (c : goal.After-remove) → get_or (old c) c.in-Ok.at 0 ≡ c.args.place
here c = subst (λ (xs : List ℕ). get_or xs c.in-Ok.at 0 ≡ c.args.place) (c.places.ensures ∙ sym (was c)) c.in-Ok.ensures.there.1

left : (c : goal.After-remove) → drop c.self.inside.first c.remove.new.self.items ≡ remove (old c) c.in-Ok.at
left c = ap (drop c.self.inside.first) c.remove.ensures.items ∙ drop-remove c.self.inside.items.items c.self.inside.first c.in-Ok.at c.self.invariant.0 (within c)

rising : (c : goal.After-remove) → PlacesAscend (drop c.self.inside.first c.remove.new.self.items)
rising c = subst PlacesAscend (sym (left c)) (rises_remove (old c) c.in-Ok.at c.args.place c.self.invariant.1 (within c) (here c))

pub invariant_of-self : goal.invariant_of-self
invariant_of-self c =
    let all = c.self.inside.items.items in
    let at = c.self.inside.first + c.in-Ok.at in
    let inside : at < length all = omega (arith, within c, c.self.invariant.0, length-drop c.self.inside.first all) in
    let fewer : length c.remove.new.self.items + 1 ≡ length all = ap (λ (xs : List ℕ). length xs + 1) c.remove.ensures.items ∙ length-remove all at inside in
    (omega (arith, fewer, inside), rising c)

pub returns-in-Ok-clause-others : goal.returns-in-Ok-clause-others
returns-in-Ok-clause-others c = λ q other h.
    subst (λ (xs : List ℕ). Contains xs q) (sym (left c)) (remove_others (old c) c.in-Ok.at c.args.place c.self.invariant.1 (within c) (here c) q other (subst (λ (xs : List ℕ). Contains xs q) (sym (was c)) h))

pub returns-in-Ok-clause-only : goal.returns-in-Ok-clause-only
returns-in-Ok-clause-only c = λ q h.
    let kept = remove_only (old c) c.in-Ok.at c.args.place c.self.invariant.1 (within c) (here c) q (subst (λ (xs : List ℕ). Contains xs q) (left c) h) in
    (kept.0, subst (λ (xs : List ℕ). Contains xs q) (was c) kept.1)

pub returns-in-Ok-clause-rises : goal.returns-in-Ok-clause-rises
returns-in-Ok-clause-rises c = rising c

-- ---- it isn't there

pub returns-in-Err-clause-only : goal.returns-in-Err-clause-only
returns-in-Err-clause-only c = λ q h.
    let places = c.args.self.now.places in
    let was = ap (λ (k : ReadyPlaces). k.places) c.self.view_is in
    let behind = subst (λ (xs : List ℕ). IsInsertionIndexOfPlace xs c.args.place c.in-Err.field-0) c.places.ensures c.in-Err.ensures.behind in
    ((λ e. not_there places c.in-Err.field-0 c.args.place record { rises = subst PlacesAscend was c.self.invariant.1; behind = behind } (subst (λ (p : ℕ). Contains places p) e h)), h)
