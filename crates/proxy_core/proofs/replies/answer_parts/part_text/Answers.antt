use Rattle.std.proofs.Common.{ℕ, ◌+◌, List, ap, sym, ◌∙◌}
use Rattle.std.specs.Prelude.{slice_range}
use Rattle.proxy_core.specs.Abouts.{report_in_place_of_answer}
use Rattle.proxy_core.specs.Replies.{content_unless_head}
use Rattle.proxy_core.proofs.AnswerParts.{report_of_part_in_place, part_in_place}
use Rattle.proxy_core.proofs.replies.answer_parts.part_text.Goals as goal

pub returns-clause-text : goal.returns-clause-text
returns-clause-text c =
    let shown = c.args.shown in
    let answer = c.args.answer.now in
    c.in_ok-bytes.ensures
    ∙ part_in_place shown.policy c.args.name.now answer.exchange.now answer.response.now c.args.head.now answer.response_time shown.stored shown.rule c.requires.head _ _ c.in_ok-lines.ensures (sym c.head_leaves_room.ensures ∙ c.if-not-head_leaves_room.false) c.args.first c.args.last _ c.as_slice-content.ensures c.in_ok-own.ensures

pub returns-clause-about : goal.returns-clause-about
returns-clause-about c =
    let shown = c.args.shown in
    let answer = c.args.answer.now in
    let sent_is = c.content_unless_head-sent.ensures ∙ ap (λ b. content_unless_head b (slice_range c.as_slice-content.result.now c.args.first (c.args.last + 1))) c.is_head.ensures in
    c.report_in_place_of_answer-about.ensures
    ∙ ap (λ (sent : List ℕ). report_in_place_of_answer shown.policy answer.exchange.now answer.response.now answer.response_time shown.stored shown.rule 206 sent) sent_is
    ∙ report_of_part_in_place shown.policy c.args.name.now answer.exchange.now answer.response.now c.args.head.now answer.response_time shown.stored shown.rule c.requires.head _ _ c.in_ok-lines.ensures (sym c.head_leaves_room.ensures ∙ c.if-not-head_leaves_room.false) c.args.first c.args.last _ c.as_slice-content.ensures c.in_ok-own.ensures
