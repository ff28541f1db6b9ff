use Rattle.std.proofs.Common.{rules, ◌≡◌, ◌<◌, ◌+◌, ◌∷◌, false, true, get_or, length, drop, ap, sym, ◌∙◌}
use Rattle.std.specs.Prelude.{filter, slice_range, ◌||◌, ◌==◌}
use Rattle.hx_fields.specs.FirstBytes.{first_byte_is_one_of, members_with_first_byte_in}
use Rattle.hx_fields.specs.Names.{is_blank, is_nonempty, trimmed}
use Rattle.hx_fields.proofs.OtherPieces.{beginning_found, empty_passed, neither_of, other_passed}
use Rattle.hx_fields.proofs.Pieces.{separator_at}
use Rattle.hx_fields.proofs.cutting.next_member_with_first_byte_in.Goals as goal
use Rattle.hx_fields.proofs.cutting.next_member_with_first_byte_in.Goals.{then-has+else-not-is_empty, else-has}

pub loop-start-preserved-then-is_separator : goal.loop-start-preserved-then-is_separator
loop-start-preserved-then-is_separator c =
    ap (filter (first_byte_is_one_of c.args.firsts.now)) (separator_at c.args.value.now c.loop-start.start (search rules) (search rules)) ∙ c.loop-start.invariant

pub returns-then-not-is_empty-clause-members : goal.returns-then-not-is_empty-clause-members
returns-then-not-is_empty-clause-members c =
    let value = c.args.value.now in
    let start = c.loop-start.start in
    let end = c.piece_end-end.result in
    let member : c.trim_blanks-member.result.now ≡ trimmed (slice_range value start end) = c.trim_blanks-member.ensures.value in
    let blank : is_blank (get_or value start 0) ≡ false = neither_of (is_blank (get_or value start 0)) (get_or value start 0 == 44) (search rules) in
    let some : is_nonempty c.trim_blanks-member.result.now ≡ true = search rules in
    sym c.loop-start.invariant
    ∙ beginning_found c.args.firsts.now value start end (search rules) c.piece_end-end.ensures.members blank (search rules) (sym (ap is_nonempty member) ∙ some)
    ∙ ap (λ m. m ∷ members_with_first_byte_in c.args.firsts.now (drop (end + 1) value)) (sym member)
    ∙ ap (λ v. c.trim_blanks-member.result.now ∷ members_with_first_byte_in c.args.firsts.now v) (sym c.behind_piece.ensures)

pub loop-start-preserved : goal.loop-start-preserved
loop-start-preserved c =
    let firsts = c.args.firsts.now in
    let value = c.args.value.now in
    let start = c.loop-start.start in
    let end = c.piece_end-end.result in
    let at : start < length value = search rules in
    let blank : is_blank (get_or value start 0) ≡ false = neither_of (is_blank (get_or value start 0)) (get_or value start 0 == 44) (search rules) in
    elim c.if-has.branch [
      | then-has+else-not-is_empty w ↦ (
          let empty : is_nonempty w.trim_blanks-member.result.now ≡ false = search rules in
          empty_passed firsts value start end at c.piece_end-end.ensures.members (sym (ap is_nonempty w.trim_blanks-member.ensures.value) ∙ empty) ∙ c.loop-start.invariant
          )
      | else-has w ↦ other_passed firsts value start end at c.piece_end-end.ensures.members blank (search rules) ∙ c.loop-start.invariant
    ]
