use Rattle.std.proofs.Common.{rules, ◌≡◌, ℕ, true, cond, List, Some, ap, subst, sym, ◌∙◌}
use Rattle.std.specs.BTreeMap.{get, is_at}
use Rattle.hx_fields.specs.Folded.{folded, folded_names_cmp}
use Rattle.hx_hop.specs.NamedLines.{is_present_and_unmarked}
use Rattle.hx_hop.proofs.NamedLemmas.{member_marks}
use Rattle.hx_hop.proofs.Passed.{marked_shows_no_more}
use Rattle.hx_hop.proofs.named_lines.mark_member.Goals as goal

pub returns-in_ok-insert-clause-marked : goal.returns-in_ok-insert-clause-marked
returns-in_ok-insert-clause-marked c =
    let member = c.args.member.now in
    let old = c.args.names.now in
    let new = c.insert.new.self in
    let name : c.set.new.self ≡ folded member = search rules in
    let un : is_present_and_unmarked (get folded_names_cmp old (folded member)) ≡ true =
    ap (λ z. is_present_and_unmarked (get folded_names_cmp old z)) (sym name) ∙ sym c.is_present_and_unmarked.ensures ∙ c.if-is_present_and_unmarked.true in
    let key : c.in_ok-of.field-0 ≡ folded member = search rules in
    let u : (q : List ℕ) → get folded_names_cmp new q ≡ cond (is_at (folded_names_cmp (folded member)) q) (Some true) (get folded_names_cmp old q) =
    subst (λ k. (q : List ℕ) → get folded_names_cmp new q ≡ cond (is_at (folded_names_cmp k) q) (Some true) (get folded_names_cmp old q)) key
    c.in_ok-insert.ensures.updates.0 in
    member_marks member old new un u

pub returns-in_ok-insert-clause-signs : goal.returns-in_ok-insert-clause-signs
returns-in_ok-insert-clause-signs c =
    let member = c.args.member.now in
    let old = c.args.names.now in
    let new = c.insert.new.self in
    let name : c.set.new.self ≡ folded member = search rules in
    let un : is_present_and_unmarked (get folded_names_cmp old (folded member)) ≡ true =
    ap (λ z. is_present_and_unmarked (get folded_names_cmp old z)) (sym name) ∙ sym c.is_present_and_unmarked.ensures ∙ c.if-is_present_and_unmarked.true in
    let key : c.in_ok-of.field-0 ≡ folded member = search rules in
    let u : (q : List ℕ) → get folded_names_cmp new q ≡ cond (is_at (folded_names_cmp (folded member)) q) (Some true) (get folded_names_cmp old q) =
    subst (λ k. (q : List ℕ) → get folded_names_cmp new q ≡ cond (is_at (folded_names_cmp k) q) (Some true) (get folded_names_cmp old q)) key
    c.in_ok-insert.ensures.updates.0 in
    marked_shows_no_more member old new c.remove.new.self u
    (c.remove.ensures (λ q. is_present_and_unmarked (get folded_names_cmp old q)) un c.requires)
