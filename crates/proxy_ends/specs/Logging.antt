-- What a log keeps of a client, and the line about a reply.
--
-- words_of_answered_or_read_request: what a reply answers
-- words_about_reply: what its line says, of a client at this address
-- logged_address: whose lines these are
-- LineAboutReplyIsAddedIfLogged: what becomes of the line about a reply
-- PieceIsKeptForTheLog, LogBeginsNextRequest: what is kept of a request line, until its request is answered
use Rattle.std.specs.Prelude.{◌≡◌, ◌⊎◌, ℕ, List, [], ◌++◌, Option, None, Some, option_map, string_bytes}
use Rattle.std.specs.Global.{Box}
use Rattle.hx_status.specs.Abouts.{reply_reason_text}
use Rattle.hx_status.specs.declared.question.MethodAndTarget.{MethodAndTarget}
use Rattle.proxy_log.specs.Asked.{AskedWords, asked_words_of_head, words_of_replied_question}
use Rattle.proxy_log.specs.KeptLine.{RequestLineOfHeadIsKept, RequestLineIsEmptyAndOver}
use Rattle.proxy_log.specs.Line.{LogLineWords, log_line_text}
use Rattle.proxy_log.specs.PendingLines.{LineIsAddedOrLost}
use Rattle.proxy_log.specs.declared.kept_line.RequestLine.{RequestLine}
use Rattle.proxy_log.specs.declared.pending_lines.Lines.{Lines}
use Rattle.proxy_ends.specs.declared.clients.client.LoggedClient.{LoggedClient}
use Rattle.proxy_ends.specs.declared.replies.Reply.{Reply}

-- what the reply says that it answers; else what the request line says, where that came whole and has no fault
abbrev pub words_of_answered_or_read_request : Option MethodAndTarget → RequestLine → AskedWords
words_of_answered_or_read_request None line = asked_words_of_head line.text.items
words_of_answered_or_read_request (Some question) line = words_of_replied_question question

-- its client's address, what was asked, what the reply is, and what was seen of it
abbrev pub words_about_reply : AskedWords → List ℕ → Reply → LogLineWords
words_about_reply asked address reply = record {
  moment = reply.moment;
  client = address;
  method = asked.method;
  target = asked.target;
  status = reply.replied.now.about.status;
  length = reply.replied.now.about.content_length;
  reason = reply_reason_text reply.replied.now.about.told;
  took = reply.took;
  origin = reply.origin.now;
}

abbrev pub logged_address : Option (Box LoggedClient) → Option (List ℕ)
logged_address logged = option_map (λ one. string_bytes one.value.address) logged

-- the line about a reply to a client of which a log is kept
abbrev pub log_line_of_reply : LoggedClient → Reply → List ℕ
log_line_of_reply logged reply = log_line_text
    (words_about_reply (words_of_answered_or_read_request reply.replied.now.question logged.line)
    (string_bytes logged.address) reply)

-- the line stands behind the others, or where there is no room it is lost, and counts as that
abbrev pub LineOfLoggedIsAddedOrLost : LoggedClient → Reply → Lines → Lines → Type 0
LineOfLoggedIsAddedOrLost logged reply old new = LineIsAddedOrLost (log_line_of_reply logged reply) old new

-- of a client of which a log is kept there is one; of any other none
abbrev pub LineAboutReplyIsAddedIfLogged : Option (Box LoggedClient) → Reply → Lines → Lines → Type 0
LineAboutReplyIsAddedIfLogged None reply old new = new ≡ old
LineAboutReplyIsAddedIfLogged (Some logged) reply old new = LineOfLoggedIsAddedOrLost logged.value reply old new

-- A piece came. If of a head this was kept, so it is with the piece behind it, or nothing is kept of it.
abbrev pub PieceIsKeptForTheLog : List ℕ → Option (Box LoggedClient) → Option (Box LoggedClient) → Type 0
PieceIsKeptForTheLog piece None new = new ≡ None
PieceIsKeptForTheLog piece (Some old) None = ⊥
PieceIsKeptForTheLog piece (Some old) (Some new) =
    (new.value.address ≡ old.value.address)
    × ((head : List ℕ) → RequestLineOfHeadIsKept head old.value.line
    → RequestLineOfHeadIsKept (head ++ piece) new.value.line ⊎ RequestLineIsEmptyAndOver new.value.line)

-- nothing of the next request has come
abbrev pub LogBeginsNextRequest : Option (Box LoggedClient) → Option (Box LoggedClient) → Type 0
LogBeginsNextRequest None new = new ≡ None
LogBeginsNextRequest (Some old) None = ⊥
LogBeginsNextRequest (Some old) (Some new) = (new.value.address ≡ old.value.address)
    × RequestLineOfHeadIsKept [] new.value.line
