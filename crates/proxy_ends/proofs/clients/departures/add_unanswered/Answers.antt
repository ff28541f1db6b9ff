use Rattle.std.proofs.Common.{◌≡◌, Option, None, subst, sym, ap, ◌∙◌}
use Rattle.proxy_log.specs.Asked.{AskedWords, asked_words}
use Rattle.proxy_log.specs.Line.{log_line_text}
use Rattle.proxy_log.specs.PendingLines.{LineIsAddedOrLost}
use Rattle.proxy_log.specs.Replies.{unanswered_words}
use Rattle.proxy_log.specs.declared.logged_request.LoggedRequest.{LoggedRequest}
use Rattle.proxy_ends.specs.Departures.{words_of_open_or_read_request}
use Rattle.proxy_ends.proofs.clients.departures.add_unanswered.Goals as goal

pub returns-in-None : goal.returns-in-None
returns-in-None c =
    let lines = c.args.lines.now in
    let after = c.add_unanswered-in-None.new.self in
    let same : asked_words c.asked.result ≡ words_of_open_or_read_request c.args.request.now c.args.line.now
    = c.asked.ensures.text ∙ sym (ap (λ (request : Option LoggedRequest). words_of_open_or_read_request request c.args.line.now) c.in-None.is) in
    subst (λ (words : AskedWords). LineIsAddedOrLost (log_line_text (unanswered_words words c.args.cause.now c.args.seen.now)) lines after) same
    c.add_unanswered-in-None.ensures
