use Rattle.std.proofs.Common.{◌≡◌, ◌++◌, ◌∷◌, [], List, ap, ◌∙◌}
use Rattle.std.specs.Prelude.{codes, decimal}
use Rattle.hx_fields.specs.Line.{Field}
use Rattle.hx_framing.specs.Text.{response_text}
use Rattle.hx_age.specs.Age.{age_of}
use Rattle.hx_store.specs.Stored.{Stored}
use Rattle.hx_status.specs.Member.{member_text}
use Rattle.proxy_core.specs.Replies.{line}
use Rattle.proxy_core.proofs.AddedLines.{lines_added}
use Rattle.proxy_core.proofs.replies.stored_reply.StoredReply.written_with.Goals as goal

pub returns-clause-text : goal.returns-clause-text
returns-clause-text c =
    let fields = c.args.fields.now in
    let reply = c.args.self.now in
    let age =
    c.as_bytes.ensures.value ∙ c.format.ensures.text ∙ ap decimal c.current_age-age.ensures
    ∙ ap (λ (e : Stored). decimal (age_of e.times reply.sent_at)) c.entry.view_is in
    let shown = c.as_slice.ensures ∙ c.in_ok-member.ensures ∙ ap (member_text reply.name.now) c.shown-shown.ensures in
    let same =
    lines_added fields (line (codes "Age") c.as_bytes.result.now) (line (codes "Cache-Status") c.as_slice.result.now)
    ∙ (λ i. (fields ++ line (codes "Age") (age i) ∷ []) ++ line (codes "Cache-Status") (shown i) ∷ []) in
    c.in_ok-bytes.ensures ∙ ap (λ (lines : List Field). response_text c.args.status lines c.args.length reply.asked.now.close c.args.content.now) same
