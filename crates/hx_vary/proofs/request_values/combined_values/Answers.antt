use Rattle.std.proofs.Common.{rules, ◌≡◌, ℕ, ◌+◌, ◌++◌, List, [], ◌∷◌, None, Some, take, cond, ap, sym, subst, ◌∙◌}
use Rattle.std.specs.BTreeMap.{get, is_at}
use Rattle.std.proofs.lemmas.List.{take_all, take_more}
use Rattle.hx_fields.specs.Folded.{folded, folded_names_cmp}
use Rattle.hx_vary.specs.Combined.{value_combined_with_line}
use Rattle.hx_vary.proofs.ValueLemmas.{Gathered, one_line_more}
use Rattle.hx_vary.proofs.request_values.combined_values.Goals as goal

pub loop-line-preserved : goal.loop-line-preserved
loop-line-preserved c =
    let lines = c.args.lines.now in
    let done = take c.loop-line.line-index lines in
    let line = c.line-item.result in
    let old = c.loop-line.values in
    let without = c.remove.new.self in
    let new = c.insert.new.self in
    let next : take (c.loop-line.line-index + 1) lines ≡ done ++ line ∷ [] = search (rules, take_more) in
    let name : c.set.new.self ≡ folded line.name = search rules in
    let key : c.in_ok-of.field-0 ≡ folded line.name = search rules in
    let is : c.in_ok-value.value ≡ value_combined_with_line (get folded_names_cmp old (folded line.name)) line.value =
    c.in_ok-value.ensures ∙ ap (λ o. value_combined_with_line o line.value) (c.remove.ensures.value ∙ ap (get folded_names_cmp old) name) in
    let out : (q : List ℕ) → get folded_names_cmp without q ≡ cond (is_at (folded_names_cmp (folded line.name)) q) None (get folded_names_cmp old q) =
    subst (λ k. (q : List ℕ) → get folded_names_cmp without q ≡ cond (is_at (folded_names_cmp k) q) None (get folded_names_cmp old q)) name c.remove.ensures.updates.0 in
    let put : (q : List ℕ) → get folded_names_cmp new q ≡ cond (is_at (folded_names_cmp (folded line.name)) q) (Some c.in_ok-value.value) (get folded_names_cmp without q) =
    subst (λ k. (q : List ℕ) → get folded_names_cmp new q ≡ cond (is_at (folded_names_cmp k) q) (Some c.in_ok-value.value) (get folded_names_cmp without q)) key
    c.in_ok-insert.ensures.updates.0 in
    subst (λ z. Gathered z new) (sym next) (one_line_more done line c.in_ok-value.value old without new c.loop-line.invariant is out put)

pub returns : goal.returns
returns c =
    let all : take c.loop-line.line-index c.args.lines.now ≡ c.args.lines.now = search (rules, take_all) in
    λ name. (subst (λ z. Gathered z c.loop-line.values) all c.loop-line.invariant) (folded name)
