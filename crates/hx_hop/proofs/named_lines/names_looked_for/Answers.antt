use Rattle.std.proofs.Common.{rules, ◌≡◌, ℕ, ◌+◌, ◌++◌, false, cond, ◌||◌, List, [], ◌∷◌, Some, take, subst, sym}
use Rattle.std.specs.Prelude.{bytes_eq, is_none}
use Rattle.std.specs.BTreeMap.{get, is_at}
use Rattle.std.proofs.lemmas.List.{take_more}
use Rattle.hx_fields.specs.Folded.{folded, folded_names_cmp}
use Rattle.hx_hop.specs.NamedLines.{IsPrefilterOfNames, AllSoughtNamesAreUnmarked, is_line_name_or_close}
use Rattle.hx_hop.specs.declared.named_lines.NamePrefilter.{NamePrefilter}
use Rattle.hx_hop.proofs.NamedLemmas.{one_name_more}
use Rattle.hx_hop.proofs.Passed.{known_name_shows, new_name_shows}
use Rattle.hx_hop.proofs.named_lines.names_looked_for.Goals as goal
use Rattle.hx_hop.proofs.named_lines.names_looked_for.Goals.{then-is_none, else-is_none}

pub loop-line-preserved : goal.loop-line-preserved
loop-line-preserved c =
    let fields = c.args.fields.now in
    let done = take c.loop-line.line-index fields in
    let line = c.line-item.result in
    let old = c.loop-line.names in
    let new = c.insert-in-loop-line.new.self in
    let next : take (c.loop-line.line-index + 1) fields ≡ done ++ line ∷ [] = search (rules, take_more) in
    let key : c.in_ok-of-2.field-0 ≡ folded line.name = search rules in
    let u : (q : List ℕ) → get folded_names_cmp new q ≡ cond (is_at (folded_names_cmp (folded line.name)) q) (Some false) (get folded_names_cmp old q) =
    subst (λ k. (q : List ℕ) → get folded_names_cmp new q ≡ cond (is_at (folded_names_cmp k) q) (Some false) (get folded_names_cmp old q)) key
    c.in_ok-insert-2.ensures.updates.0 in
    let show : IsPrefilterOfNames (is_line_name_or_close (done ++ line ∷ [])) c.if-is_none.signs = elim c.if-is_none.branch [
      | then-is_none w ↦ (
          let name : c.name-name.result.now ≡ line.name = search rules in
          subst (λ (s : NamePrefilter). IsPrefilterOfNames (is_line_name_or_close (done ++ line ∷ [])) s) (sym w.signs-is)
          (new_name_shows done line w.add-then-is_none.new.self
          (subst (λ n. IsPrefilterOfNames (λ q. is_line_name_or_close done q || bytes_eq (folded n) q) w.add-then-is_none.new.self) name
          (w.add-then-is_none.ensures (is_line_name_or_close done) c.loop-line.invariant.signs)))
          )
      | else-is_none w ↦ (
          let known : is_none (get folded_names_cmp old (folded line.name)) ≡ false = search rules in
          subst (λ (s : NamePrefilter). IsPrefilterOfNames (is_line_name_or_close (done ++ line ∷ [])) s) (sym w.signs-is)
          (known_name_shows done line old c.loop-line.signs c.loop-line.invariant.names known c.loop-line.invariant.signs)
          )
    ] in
    record {
      names = subst (λ z. AllSoughtNamesAreUnmarked z new) (sym next) (one_name_more done line old new u c.loop-line.invariant.names);
      signs = subst (λ z. IsPrefilterOfNames (is_line_name_or_close z) c.if-is_none.signs) (sym next) show;
    }
