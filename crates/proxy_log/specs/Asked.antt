-- What a client asked for, as a line of the log names it (RFC 9112, section 3; RFC 9110, section 7.1).
--
-- uri_text, target_text: the text of a target
-- method_and_target_of_head: method and target of the line with which a head begins that is no request
-- AskedWords, asked_words: what a line names
-- words_of_replied_question, asked_words_of_head: of what a reply answers, and of a head that was refused, or isn't
-- whole
use Rattle.std.specs.Prelude.{ℕ, ◌==◌, not, Bool, ◌&&◌, nat_eq, nat_lt, if◌then◌else◌, List, [], ◌∷◌, ◌++◌, length}
use Rattle.std.specs.Prelude.{slice_index, codes, decimal, Option, Some, None}
use Rattle.std.specs.Option.{option_and_then}
use Rattle.std.specs.List.{starts_with, list_all}
use Rattle.std.specs.Char.{is_ascii_digit}
use Rattle.hx_fields.specs.Names.{split_at_first_byte}
use Rattle.hx_fields.specs.Tokens.{is_token}
use Rattle.hx_framing.specs.HeadLines.{is_empty_line}
use Rattle.hx_framing.specs.Version.{without_trailing_cr}
use Rattle.hx_status.specs.declared.question.AskedTarget.{AskedTarget}
use Rattle.hx_status.specs.declared.question.AskedTarget.TheVariants as asked
use Rattle.hx_status.specs.declared.question.MethodAndTarget.{MethodAndTarget}
use Rattle.hx_target.specs.declared.keys.Key.{Key}
use Rattle.proxy_log.specs.TextLines.{whole_lines}
use Rattle.proxy_log.specs.declared.logged_request.LoggedRequest.{LoggedRequest}
use Rattle.proxy_log.specs.declared.logged_request.LoggedTarget.{LoggedTarget}
use Rattle.proxy_log.specs.declared.logged_request.LoggedTarget.TheVariants as logged

-- a port other than the default, behind a colon (RFC 9110, section 4.2.1)
abbrev pub port_suffix : ℕ → List ℕ
port_suffix port = if port == 80 then [] else codes ":" ++ decimal port

-- a target URI
abbrev pub uri_text : Key → List ℕ
uri_text key = codes "http://" ++ key.host ++ port_suffix key.port ++ key.path_query

-- the target URI, or where it is none the target as it came
abbrev pub target_text : LoggedTarget → List ℕ
target_text (logged.Uri key) = uri_text key.now
target_text (logged.AsItCame target) = target.now

-- the first line that isn't empty (RFC 9112, section 2.2); it has to be whole
abbrev pub first_nonempty_line : List (List ℕ × List ℕ) → Option (List ℕ)
first_nonempty_line [] = None
first_nonempty_line (l ∷ ls) = if is_empty_line l.0 then first_nonempty_line ls else Some (without_trailing_cr l.0)

abbrev pub first_line : List ℕ → Option (List ℕ)
first_line head = first_nonempty_line (whole_lines head)

-- HTTP-version = HTTP-name "/" DIGIT "." DIGIT (RFC 9112, section 2.3)
abbrev pub is_version : List ℕ → Bool
is_version text =
    length text == 8 && starts_with nat_eq text (codes "HTTP/") && is_ascii_digit (slice_index text 5)
    && (slice_index text 6 == 46) && is_ascii_digit (slice_index text 7)

-- no blank and no control
abbrev pub may_be_in_logged_target : ℕ → Bool
may_be_in_logged_target b = nat_lt 32 b && not (b == 127)

abbrev pub is_target : List ℕ → Bool
is_target text = not (length text == 0) && list_all may_be_in_logged_target text

-- request-line = method SP request-target SP HTTP-version (RFC 9112, section 3)
abbrev pub parsed_request_line : List ℕ → Option (List ℕ × List ℕ)
parsed_request_line line =
    option_and_then (λ m. option_and_then
    (λ t. if is_token m.0 && is_target t.0
    && is_version t.1 then Some (m.0, t.0) else None) (split_at_first_byte 32 m.1))
    (split_at_first_byte 32 line)

-- the request line with which a head begins, where that line is whole and has no fault
abbrev pub method_and_target_of_head : List ℕ → Option (List ℕ × List ℕ)
method_and_target_of_head head = option_and_then parsed_request_line (first_line head)

-- a method and a target; both are empty where no request could be read
pub record AskedWords : Type 0 where
  pub method : List ℕ
  pub target : List ℕ

abbrev pub asked_words : LoggedRequest → AskedWords
asked_words request = record { method = request.method.now; target = target_text request.target }

abbrev pub asked_target_text : AskedTarget → List ℕ
asked_target_text (asked.Uri key) = uri_text key
asked_target_text (asked.AsItCame target) = target

abbrev pub words_of_replied_question : MethodAndTarget → AskedWords
words_of_replied_question question = record { method = question.method; target = asked_target_text question.target }

abbrev pub words_of_request_line : Option (List ℕ × List ℕ) → AskedWords
words_of_request_line None = record { method = []; target = [] }
words_of_request_line (Some line) = record { method = line.0; target = line.1 }

-- of a head that was refused, or whose content is to come; the target is as it came
abbrev pub asked_words_of_head : List ℕ → AskedWords
asked_words_of_head head = words_of_request_line (method_and_target_of_head head)
