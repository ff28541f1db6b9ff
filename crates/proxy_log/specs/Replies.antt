-- What a line says of a reply, and of a request that never had one.
--
-- reply_words: of a reply that answers what was asked, by what it is
-- unanswered_words: of a request that was never answered, for a cause
use Rattle.std.specs.Prelude.{ℕ, List}
use Rattle.hx_status.specs.Abouts.{reply_reason_text}
use Rattle.hx_status.specs.declared.about.StatusAndReason.{StatusAndReason}
use Rattle.proxy_log.specs.Asked.{AskedWords}
use Rattle.proxy_log.specs.Line.{LogLineWords, unanswered_reason}
use Rattle.proxy_log.specs.declared.seen.ReplyObservation.{ReplyObservation}

-- what the reply tells of itself stands there, whatever its bytes say
abbrev pub reply_words : AskedWords → StatusAndReason → ReplyObservation → LogLineWords
reply_words asked about seen = record {
  moment = seen.moment;
  client = seen.client.now;
  method = asked.method;
  target = asked.target;
  status = about.status;
  length = about.content_length;
  reason = reply_reason_text about.told;
  took = seen.took;
  origin = seen.origin.now;
}

-- no status, and no byte was sent
abbrev pub unanswered_words : AskedWords → List ℕ → ReplyObservation → LogLineWords
unanswered_words asked cause seen = record {
  moment = seen.moment;
  client = seen.client.now;
  method = asked.method;
  target = asked.target;
  status = 0;
  length = 0;
  reason = unanswered_reason cause;
  took = seen.took;
  origin = seen.origin.now;
}
