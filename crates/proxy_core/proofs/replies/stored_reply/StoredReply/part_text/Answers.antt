use Rattle.std.proofs.Common.{◌≡◌, ℕ, List, subst, sym, ◌∙◌, IfOk}
use Rattle.hx_store.specs.Stored.{Stored}
use Rattle.proxy_core.specs.Abouts.{report_of_stored_response_sent}
use Rattle.proxy_core.specs.Replies.{content_unless_head, is_head}
use Rattle.proxy_core.proofs.RangeReplies.{form_of_part_is, text_of_part_is}
use Rattle.proxy_core.proofs.replies.stored_reply.StoredReply.part_text.Goals as goal

pub returns-then-head_leaves_room-clause-text : goal.returns-then-head_leaves_room-clause-text
returns-then-head_leaves_room-clause-text c =
    let reply = c.args.self.now in
    subst (λ (t : List ℕ). IfOk c.text_of_part.result (λ sent. sent.bytes ≡ t))
    (text_of_part_is reply.name.now reply.entry.now reply.sent_at reply.info reply.asked.now c.args.first c.args.last _ c.in_ok-fields.ensures (sym c.head_leaves_room.ensures ∙ c.if-head_leaves_room.true)) c.text_of_part.ensures.text

pub returns-then-head_leaves_room-clause-about : goal.returns-then-head_leaves_room-clause-about
returns-then-head_leaves_room-clause-about c =
    let reply = c.args.self.now in
    subst (λ (f : Stored). IfOk c.text_of_part.result (λ sent. sent.about ≡ report_of_stored_response_sent f.status (content_unless_head (is_head reply.asked.now) f.content) reply.entry.now reply.sent_at reply.info))
    (form_of_part_is reply.entry.now c.args.first c.args.last _ c.in_ok-fields.ensures (sym c.head_leaves_room.ensures ∙ c.if-head_leaves_room.true)) c.text_of_part.ensures.about
