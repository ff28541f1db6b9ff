-- The text of a line of the log: nine words with single spaces between them, and an LF. Only the reason, which is the
-- last but two, has spaces of its own.
--
-- is_logged_unescaped, logged_byte, logged_text: bytes as they stand in a line, so that none of them breaks it
-- logged_word: a word, which is never empty
-- status_word: a status
-- LogLineWords, words_of_log_line: what a line says      logged_reason_text: its reason
-- log_line_text: the line
-- unanswered_reason: what stands in the place of the reason where a request was never answered
use Rattle.std.specs.Prelude.{ℕ, ◌+◌, ◌/◌, ◌%◌, ◌==◌, Bool, true, false, not, ◌&&◌, ◌||◌, nat_lt, if◌then◌else◌, List}
use Rattle.std.specs.Prelude.{[], ◌∷◌, ◌++◌, codes, decimal}
use Rattle.hx_status.specs.Abouts.{reply_reason_text}
use Rattle.hx_target.specs.declared.keys.Key.{Key}
use Rattle.proxy_log.specs.Asked.{port_suffix, target_text}
use Rattle.proxy_log.specs.Seconds.{seconds_text}
use Rattle.proxy_log.specs.declared.line.Line.{Line}
use Rattle.proxy_log.specs.declared.line.LoggedReason.{LoggedReason}
use Rattle.proxy_log.specs.declared.line.LoggedReason.TheVariants.{OfReply, OfUnanswered}

-- a byte that stands for itself: 21 to 7E (hex) but the backslash, and where blanks may stand the space
abbrev pub is_logged_unescaped : Bool → ℕ → Bool
is_logged_unescaped blanks b = (not (nat_lt b 0x21) && not (nat_lt 0x7E b) && not (b == 92)) || (blanks && (b == 32))

-- a digit of a number to the base 16, in upper case
abbrev pub hex_digit : ℕ → ℕ
hex_digit d = if nat_lt d 10 then 48 + d else 55 + d

-- a byte as it stands in a line: itself, or \xHH
abbrev pub logged_byte : Bool → ℕ → List ℕ
logged_byte blanks b =
    if is_logged_unescaped blanks b then b ∷ [] else 92 ∷ (120 ∷ (hex_digit (b / 16) ∷ (hex_digit (b % 16) ∷ [])))

abbrev pub logged_text : Bool → List ℕ → List ℕ
logged_text blanks [] = []
logged_text blanks (b ∷ bs) = logged_byte blanks b ++ logged_text blanks bs

-- a word: a dash in place of nothing
abbrev pub logged_word : List ℕ → List ℕ
logged_word [] = codes "-"
logged_word (b ∷ bs) = logged_text false (b ∷ bs)

-- What a line says: when a reply was written, whom it went to, what it answers, its status, the bytes of its content,
-- what it tells of itself, how long it took, and the origin that was asked. Moments and times are milliseconds.
pub record LogLineWords : Type 0 where
  pub moment : ℕ
  pub client : List ℕ
  pub method : List ℕ
  pub target : List ℕ
  pub status : ℕ
  pub length : ℕ
  pub reason : List ℕ
  pub took : ℕ
  pub origin : List ℕ

-- in the place of the reason where a request was never answered: `left`, and why
abbrev pub unanswered_reason : List ℕ → List ℕ
unanswered_reason cause = codes "left;cause=" ++ cause

-- what the reply tells of itself, or why there was none
abbrev pub logged_reason_text : LoggedReason → List ℕ
logged_reason_text (OfReply told) = reply_reason_text told.now
logged_reason_text (OfUnanswered cause) = unanswered_reason cause.now

abbrev pub words_of_log_line : Line → LogLineWords
words_of_log_line line = record {
  moment = line.moment;
  client = line.client.now;
  method = line.asked.method.now;
  target = target_text line.asked.target;
  status = line.status;
  length = line.length;
  reason = logged_reason_text line.reason;
  took = line.took;
  origin = line.origin.now;
}

-- a status; zeros where none was sent
abbrev pub status_word : ℕ → List ℕ
status_word status = if status == 0 then codes "000" else decimal status

-- the nine words
abbrev pub log_line_text : LogLineWords → List ℕ
log_line_text line =
    seconds_text line.moment ++ codes " " ++ logged_word line.client ++ codes " " ++ logged_word line.method ++ codes " "
    ++ logged_word line.target
    ++ codes " " ++ status_word line.status ++ codes " " ++ decimal line.length ++ codes " "
    ++ logged_text true line.reason ++ codes " "
    ++ seconds_text line.took ++ codes " " ++ logged_word line.origin ++ codes "\n"

-- a target URI as it stands in a line: its scheme and its port are no words of a client
unfoldable pub logged_uri : Key → List ℕ
logged_uri key = codes "http://" ++ logged_text false key.host ++ port_suffix key.port
    ++ logged_text false key.path_query ++ codes " "

-- the same in three parts: who asked for what, what it was told, and what that took
unfoldable pub log_line_front : LogLineWords → List ℕ
log_line_front line =
    seconds_text line.moment ++ codes " " ++ logged_word line.client ++ codes " " ++ logged_word line.method ++ codes " "
    ++ logged_word line.target ++ codes " "

unfoldable pub log_line_answer : LogLineWords → List ℕ
log_line_answer line =
    status_word line.status ++ codes " " ++ decimal line.length ++ codes " " ++ logged_text true line.reason ++ codes " "

unfoldable pub log_line_end : LogLineWords → List ℕ
log_line_end line = seconds_text line.took ++ codes " " ++ logged_word line.origin ++ codes "\n"
