use Rattle.std.proofs.Common.{rules, ◌≡◌, ◌+◌, ◌++◌, ◌∷◌, ◌≤◌, length, drop, take, ap, sym, subst, ◌∙◌, true, false}
use Rattle.std.proofs.lemmas.List.{drop_more}
use Rattle.hx_fields.specs.FieldLines.{members_of}
use Rattle.hx_fields.specs.Names.{is_same_name, members_of_value}
use Rattle.hx_fields.proofs.FirstMembers.{at_most, past_named, past_other}
use Rattle.hx_fields.proofs.field_lines.Fields.members_up_to.Goals as goal
use Rattle.hx_fields.proofs.field_lines.Fields.members_up_to.Goals.{then-is_same_name+in_ok-push_members_up_to, else-is_same_name}

pub loop-line-preserved : goal.loop-line-preserved
loop-line-preserved c =
    let lines = c.deref-line-items.result.now in
    let name = c.args.name.now in
    let most = c.args.most in
    let line = c.line-item.result in
    let after = drop (c.loop-line.line-index + 1) lines in
    let next : drop c.loop-line.line-index lines ≡ line ∷ after =
    drop_more lines c.loop-line.line-index line c.loop-line-test.true ∙ ap (λ l. l ∷ after) (sym c.line-item.is) in
    let before = c.loop-line.found in
    let same : take most (before ++ members_of (line ∷ after) name) ≡ take most (members_of lines name) =
    ap (λ ls. take most (before ++ members_of ls name)) (sym next) ∙ c.loop-line.invariant.same_members in
    elim c.if-is_same_name.branch [
      | then-is_same_name+in_ok-push_members_up_to w ↦ (
          let is : is_same_name line.name name ≡ true = search rules in
          let pushed : c.if-is_same_name.found ≡ take most (before ++ members_of_value line.value) = search rules in
          record {
            within = subst (λ ms. length ms ≤ most) (sym pushed) (at_most most (before ++ members_of_value line.value));
            same_members = ap (λ ms. take most (ms ++ members_of after name)) pushed ∙ past_named most name line after before is ∙ same;
          }
          )
      | else-is_same_name w ↦ (
          let is : is_same_name line.name name ≡ false = search rules in
          let kept : c.if-is_same_name.found ≡ before = search rules in
          record {
            within = subst (λ ms. length ms ≤ most) (sym kept) c.loop-line.invariant.within;
            same_members = ap (λ ms. take most (ms ++ members_of after name)) kept ∙ past_other most name line after before is ∙ same;
          }
          )
    ]
