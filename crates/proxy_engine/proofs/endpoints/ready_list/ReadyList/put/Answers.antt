use Rattle.std.proofs.Common.{◌≡◌, inl, inr, ◌+◌, ◌<◌, ◌≤◌, ℕ, List, length, drop, arith, rules, ap, sym, subst, ◌∙◌, insert, Contains}
use Rattle.std.specs.Prelude.{vec_len, vec_capacity}
use Rattle.std.proofs.lemmas.List.{length-drop}
use Rattle.std.proofs.lemmas.List.Edits.{length-insert}
use Rattle.proxy_engine.specs.ReadyList.{ReadyPlaces, PlacesAscend, IsInsertionIndexOfPlace}
use Rattle.proxy_engine.proofs.Rising.{IsNew, not_there, rises_insert, drop-insert, insert_there, insert_others, insert_only, with_room}
use Rattle.proxy_engine.proofs.endpoints.ready_list.ReadyList.put.Goals as goal

abbrev old : goal.After-insert → List ℕ
old c = drop c.self.inside.first c.self.inside.items.items

was : (c : goal.After-insert) → old c ≡ c.args.self.now.places
was c = ap (λ (k : ReadyPlaces). k.places) c.self.view_is

behind : (c : goal.After-insert) → IsInsertionIndexOfPlace (old c) c.args.place c.in-Err.count
behind c = subst (λ (xs : List ℕ). IsInsertionIndexOfPlace xs c.args.place c.in-Err.count) (c.places.ensures ∙ sym (was c)) c.in-Err.ensures.behind

new : (c : goal.After-insert) → IsNew (old c) c.in-Err.count c.args.place
new c = record { rises = c.self.invariant.1; behind = behind c }

room : (c : goal.After-insert) → vec_len c.reuse_front-self-inside.new.items < vec_capacity c.reuse_front-self-inside.new.items
room c =
    let count : vec_len c.self.inside.items ≡ length c.self.inside.items.items = search rules in
    elim c.requires [
      | inl there ↦ absurd (not_there _ _ _ (new c) (subst (λ (xs : List ℕ). Contains xs c.args.place) (sym (was c)) there))
      | inr few ↦ c.reuse_front-self-inside.ensures.some (omega (arith, few, count, ap (λ (k : ReadyPlaces). k.room) c.self.view_is, ap length (was c), length-drop c.self.inside.first c.self.inside.items.items))
    ]

inserted : (c : goal.After-insert) → c.insert.new.self.items ≡ insert c.reuse_front-self-inside.new.items.items (c.reuse_front-self-inside.result + c.in-Err.count) c.args.place
inserted c = with_room c.insert.result _ _ _ (c.insert.ensures.succeeds (room c)) c.insert.ensures.items

-- the front is still within
front : (c : goal.After-insert) → c.reuse_front-self-inside.result ≤ length c.reuse_front-self-inside.new.items.items
front c = let count : vec_len c.reuse_front-self-inside.new.items ≡ length c.reuse_front-self-inside.new.items.items = search rules in omega (arith, count, c.reuse_front-self-inside.ensures.first)

within : (c : goal.After-insert) → c.in-Err.count ≤ length (drop c.reuse_front-self-inside.result c.reuse_front-self-inside.new.items.items)
within c = subst (λ (xs : List ℕ). c.in-Err.count ≤ length xs) (sym c.reuse_front-self-inside.ensures.places) (behind c).within

placed : (c : goal.After-insert) → drop c.reuse_front-self-inside.result c.insert.new.self.items ≡ insert (old c) c.in-Err.count c.args.place
placed c =
    let kept = c.reuse_front-self-inside.new.items.items in
    ap (drop c.reuse_front-self-inside.result) (inserted c)
    ∙ (drop-insert kept c.reuse_front-self-inside.result c.in-Err.count (front c) c.args.place (within c) ∙ ap (λ (xs : List ℕ). insert xs c.in-Err.count c.args.place) c.reuse_front-self-inside.ensures.places)

rising : (c : goal.After-insert) → PlacesAscend (drop c.reuse_front-self-inside.result c.insert.new.self.items)
rising c = subst PlacesAscend (sym (placed c)) (rises_insert _ _ _ (new c))

pub invariant_of-self : goal.invariant_of-self
invariant_of-self c =
    let kept = c.reuse_front-self-inside.new.items.items in
    let at = c.reuse_front-self-inside.result + c.in-Err.count in
    let most : at ≤ length kept = omega (arith, within c, front c, length-drop c.reuse_front-self-inside.result kept) in
    let more : length c.insert.new.self.items ≡ length kept + 1 = ap length (inserted c) ∙ length-insert kept at c.args.place most in
    (omega (arith, more, front c), rising c)

pub returns-in-Err-clause-there : goal.returns-in-Err-clause-there
returns-in-Err-clause-there c = subst (λ (xs : List ℕ). Contains xs c.args.place) (sym (placed c)) (insert_there _ c.in-Err.count c.args.place)

pub returns-in-Err-clause-others : goal.returns-in-Err-clause-others
returns-in-Err-clause-others c = λ q h.
    subst (λ (xs : List ℕ). Contains xs q) (sym (placed c)) (insert_others _ c.in-Err.count c.args.place q (subst (λ (xs : List ℕ). Contains xs q) (sym (was c)) h))

pub returns-in-Err-clause-only : goal.returns-in-Err-clause-only
returns-in-Err-clause-only c = λ q other h.
    subst (λ (xs : List ℕ). Contains xs q) (was c) (insert_only _ c.in-Err.count c.args.place q other (subst (λ (xs : List ℕ). Contains xs q) (placed c) h))

pub returns-in-Err-clause-room : goal.returns-in-Err-clause-room
returns-in-Err-clause-room c = (c.insert.ensures.in_place (room c)).1.0 ∙ (c.reuse_front-self-inside.ensures.room ∙ ap (λ (k : ReadyPlaces). k.room) c.self.view_is)

pub returns-in-Err-clause-rises : goal.returns-in-Err-clause-rises
returns-in-Err-clause-rises c = rising c
