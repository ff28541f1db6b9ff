use Rattle.std.proofs.Common.{rules, ◌≡◌, ℕ, Bool, true, false, List, [], ◌∷◌, cond, sym, refl, subst, ◌∙◌}
use Rattle.std.specs.BTreeMap.{values}
use Rattle.std.specs.HashSet.{contains}
use Rattle.std.specs.Prelude.{nat_eq}
use Rattle.hx_vary.specs.Marks.{value_tag}
use Rattle.hx_vary.proofs.ValueLemmas.{PassesOn, all_passed, found_stands, one_passes}
use Rattle.hx_vary.proofs.request_values.tags_of_values.Goals as goal

pub loop-value-init : goal.loop-value-init
loop-value-init c =
    let is : c.into_iter-value-iterator.result ≡ values c.args.values.now = search rules in
    subst (λ left. PassesOn (λ v. contains nat_eq c.new-tags.result (value_tag c.args.seed v)) left (values c.args.values.now)) (sym is) (λ R above h. h)

pub loop-value-preserved : goal.loop-value-preserved
loop-value-preserved c =
    let tag = value_tag c.args.seed in
    let all = values c.args.values.now in
    let had : List ℕ → Bool = λ v. contains nat_eq c.loop-value.tags (tag v) in
    let has : List ℕ → Bool = λ v. contains nat_eq c.insert.new.self (tag v) in
    let v = c.in-Some.value.now in
    let next : c.loop-value.value-iterator ≡ v ∷ c.next.new.self = search rules in
    let it : has v ≡ true = search rules in
    let grows : (w : List ℕ) → had w ≡ true → has w ≡ true =
    λ w h. c.in_ok-insert.ensures.updates.0 (tag w)
    ∙ (elim (nat_eq c.value_tag.result (tag w)) as (λ b. cond b true (contains nat_eq c.loop-value.tags (tag w)) ≡ true) [ true ↦ refl | false ↦ h ]) in
    one_passes had has v c.next.new.self all grows it (subst (λ left. PassesOn had left all) next c.loop-value.invariant)

pub returns : goal.returns
returns c = λ name value is.
    let passes : List ℕ → Bool = λ v. contains nat_eq c.loop-value.tags (value_tag c.args.seed v) in
    let none : c.loop-value.value-iterator ≡ [] = search rules in
    found_stands name value c.args.values.now.entries passes
    (all_passed passes (values c.args.values.now) (subst (λ left. PassesOn passes left (values c.args.values.now)) none c.loop-value.invariant)) is
