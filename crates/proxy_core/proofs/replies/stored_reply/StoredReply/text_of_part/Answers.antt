use Rattle.std.proofs.Common.{◌≡◌, ℕ, ◌+◌, List, IfOk, ap, subst, ◌∙◌}
use Rattle.std.specs.Prelude.{length, slice_range, Some}
use Rattle.hx_framing.specs.Text.{response_text}
use Rattle.hx_store.specs.Stored.{Stored}
use Rattle.proxy_core.specs.Abouts.{report_of_stored_response_sent}
use Rattle.proxy_core.specs.Replies.{content_unless_head, fields_of_sent_response, is_head}
use Rattle.proxy_core.specs.Validating.{without_set_cookie_if}
use Rattle.proxy_core.proofs.replies.stored_reply.StoredReply.text_of_part.Goals as goal

pub returns-clause-text : goal.returns-clause-text
returns-clause-text c =
    let reply = c.args.self.now in
    let whole_is = c.as_slice.ensures ∙ ap (λ (e : Stored). e.content) c.entry.view_is in
    subst (λ (content : List ℕ). IfOk c.written_in_form.result (λ sent. sent.bytes
    ≡ response_text 206 (fields_of_sent_response reply.name.now 206 (without_set_cookie_if reply.info.policy.removes_set_cookie c.args.fields) reply.entry.now reply.sent_at reply.info)
    (Some (length content)) reply.asked.now.close (content_unless_head (is_head reply.asked.now) content)))
    (ap (λ (bytes : List ℕ). slice_range bytes c.args.first (c.args.last + 1)) whole_is) c.written_in_form.ensures.text

pub returns-clause-about : goal.returns-clause-about
returns-clause-about c =
    let reply = c.args.self.now in
    let whole_is = c.as_slice.ensures ∙ ap (λ (e : Stored). e.content) c.entry.view_is in
    subst (λ (content : List ℕ). IfOk c.written_in_form.result (λ sent. sent.about
    ≡ report_of_stored_response_sent 206 (content_unless_head (is_head reply.asked.now) content) reply.entry.now reply.sent_at reply.info))
    (ap (λ (bytes : List ℕ). slice_range bytes c.args.first (c.args.last + 1)) whole_is) c.written_in_form.ensures.about
