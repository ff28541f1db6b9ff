use Rattle.std.proofs.Common.{rules, ◌≡◌, ◌<◌, length, get_or, true, false, ◌+◌, List, ℕ, drop, subst, sym, codes}
use Rattle.hx_fields.specs.FieldLines.{members_of}
use Rattle.hx_fields.specs.Names.{is_same_name, members_of_value}
use Rattle.hx_hop.specs.NamedLines.{members_have_folded_name, connection_has_folded_option, NamesThatPassAreMarked, PrefilterPassesUnmarkedNames}
use Rattle.hx_hop.specs.declared.named_lines.NamePrefilter.{NamePrefilter}
use Rattle.hx_hop.proofs.NamedLemmas.{line_marks, members_here, no_members_here, Marked, MarksOn}
use Rattle.hx_hop.proofs.named_lines.mark_members.Goals as goal
use Rattle.hx_hop.proofs.named_lines.mark_members.Goals.{then-is_same_name+in_ok-mark_value, else-is_same_name}

pub loop-line-preserved : goal.loop-line-preserved
loop-line-preserved c =
    let fields = c.args.fields.now in
    let start = c.args.names.now in
    let old = c.loop-line.names in
    let new = c.if-is_same_name.names in
    let signs = c.if-is_same_name.signs in
    let i = c.loop-line.line-index in
    let line = c.line-item.result in
    let all = connection_has_folded_option fields in
    let rest : List (List ℕ) = members_of (drop (i + 1) fields) (codes "Connection") in
    let here : line ≡ get_or fields i line = search rules in
    let at : i < length fields = search rules in
    let marks : MarksOn (members_have_folded_name rest) new all start = elim c.if-is_same_name.branch [
      | then-is_same_name+in_ok-mark_value w ↦ (
          let named : is_same_name line.name (codes "Connection") ≡ true = search rules in
          let value : w.value.result.now ≡ line.value = search rules in
          let marked : NamesThatPassAreMarked (members_have_folded_name (members_of_value line.value)) old w.mark_value.new.names =
          subst (λ v. NamesThatPassAreMarked (members_have_folded_name (members_of_value v)) old w.mark_value.new.names) value w.in_ok-mark_value.ensures.marked in
          subst (λ (n : Marked). MarksOn (members_have_folded_name rest) n all start) (sym w.names-is)
          (line_marks (members_of_value line.value) rest all start old w.mark_value.new.names marked
          (subst (λ ms. MarksOn (members_have_folded_name ms) old all start) (members_here fields i line here at named) c.loop-line.invariant.marks))
          )
      | else-is_same_name w ↦ (
          let other : is_same_name line.name (codes "Connection") ≡ false = search rules in
          subst (λ (n : Marked). MarksOn (members_have_folded_name rest) n all start) (sym w.names-is)
          (subst (λ ms. MarksOn (members_have_folded_name ms) old all start) (no_members_here fields i line here at other) c.loop-line.invariant.marks)
          )
    ] in
    let show : PrefilterPassesUnmarkedNames signs new = elim c.if-is_same_name.branch [
      | then-is_same_name+in_ok-mark_value w ↦ (
          subst (λ (s : NamePrefilter). PrefilterPassesUnmarkedNames s new) (sym w.signs-is)
          (subst (λ (n : Marked). PrefilterPassesUnmarkedNames w.mark_value.new.signs n) (sym w.names-is) w.in_ok-mark_value.ensures.signs)
          )
      | else-is_same_name w ↦ (
          subst (λ (s : NamePrefilter). PrefilterPassesUnmarkedNames s new) (sym w.signs-is)
          (subst (λ (n : Marked). PrefilterPassesUnmarkedNames c.loop-line.signs n) (sym w.names-is) c.loop-line.invariant.show)
          )
    ] in
    record {
      marks = marks;
      show = show;
    }
