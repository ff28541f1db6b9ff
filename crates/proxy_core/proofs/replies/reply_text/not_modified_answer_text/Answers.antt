use Rattle.std.proofs.Common.{◌≡◌, List, [], None, subst, ap, ◌∙◌}
use Rattle.hx_fields.specs.Line.{Field}
use Rattle.hx_framing.specs.Text.{response_text}
use Rattle.hx_hop.specs.declared.response_view.Answered.{Answered}
use Rattle.proxy_core.specs.Replies.{fields_in_place_of_answer, fields_of_304_sent}
use Rattle.proxy_core.proofs.replies.reply_text.not_modified_answer_text.Goals as goal

pub returns-clause-text : goal.returns-clause-text
returns-clause-text c =
    let x = c.args.answer.now.exchange.now in
    let now = c.args.answer.now.response_time in
    let shown = c.args.shown in
    let is_text : List Field → Type 0 = λ lines. c.in_ok-bytes.bytes ≡ response_text 304 lines None x.asked.close [] in
    subst (λ (h : Answered). is_text (fields_of_304_sent shown.policy c.args.name.now x h.status h.fields now shown.stored shown.rule)) c.requires.head
    (subst is_text (c.in_ok-lines.ensures ∙ ap (fields_in_place_of_answer shown.policy c.args.name.now x c.args.head.now.status c.args.head.now.fields now shown.stored shown.rule) c.in_ok-own.ensures) c.in_ok-bytes.ensures)
