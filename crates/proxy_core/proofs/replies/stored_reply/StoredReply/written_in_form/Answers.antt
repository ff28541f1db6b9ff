use Rattle.std.proofs.Common.{◌≡◌, ℕ, List, IfOk, ap, subst, ◌∙◌}
use Rattle.std.specs.Prelude.{length, Some}
use Rattle.hx_fields.specs.Line.{Field}
use Rattle.hx_framing.specs.Text.{response_text}
use Rattle.proxy_core.specs.Abouts.{report_of_stored_response_sent}
use Rattle.proxy_core.specs.Replies.{content_unless_head, fields_of_sent_response, is_head}
use Rattle.proxy_core.proofs.replies.stored_reply.StoredReply.written_in_form.Goals as goal

pub returns-clause-text : goal.returns-clause-text
returns-clause-text c =
    let reply = c.args.self.now in
    let told : List Field → List ℕ → Type 0 = λ fields content. IfOk c.written.result (λ sent. sent.bytes
    ≡ response_text c.args.status (fields_of_sent_response reply.name.now c.args.status fields reply.entry.now reply.sent_at reply.info) (Some (length c.args.content.now)) reply.asked.now.close content) in
    let content_is = c.content_unless_head-content.ensures ∙ ap (λ b. content_unless_head b c.args.content.now) c.is_head.ensures in
    subst (λ (fields : List Field). told fields (content_unless_head (is_head reply.asked.now) c.args.content.now)) c.remove_cookies.ensures
    (subst (λ (content : List ℕ). told c.remove_cookies.new.fields content) content_is c.written.ensures.text)

pub returns-clause-about : goal.returns-clause-about
returns-clause-about c =
    let reply = c.args.self.now in
    let content_is = c.content_unless_head-content.ensures ∙ ap (λ b. content_unless_head b c.args.content.now) c.is_head.ensures in
    subst (λ (content : List ℕ). IfOk c.written.result (λ sent. sent.about
    ≡ report_of_stored_response_sent c.args.status content reply.entry.now reply.sent_at reply.info)) content_is c.written.ensures.about
