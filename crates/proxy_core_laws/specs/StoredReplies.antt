-- A stored response is sent as one response (RFC 9112, sections 6.3 and 11.1).
--
-- StoredResponseIsSendable: what can be sent as one
-- StoredAnswerIsSendable, FreshenedResponseIsSendable: so is what is made of an answer, and what a 304 leaves
-- HeldResponseIsSendable: so is whatever is held     StoredWholeIsSentAsOneResponse, Stored304IsSentAsOneResponse: so
-- it is sent
use Rattle.std.specs.List.{AllByRecursion}
use Rattle.std.specs.Prelude.{◌≡◌, ℕ, ◌<◌, ◌≤◌, ◌^◌, ◌++◌, Bool, true, false, List, [], ◌∷◌, length, codes, decimal}
use Rattle.std.specs.Prelude.{All, None, Some}
use Rattle.hx_fields.specs.declared.limits.TheConstants.{START_OF_YEAR_10000}
use Rattle.hx_fields.specs.Line.{Field}
use Rattle.httparse.specs.Grammar.{IsToken}
use Rattle.hx_fields.specs.FieldLines.{has_field}
use Rattle.hx_allow.specs.TableLines.{Table}
use Rattle.hx_framing.specs.declared.messages.Response.{Response}
use Rattle.hx_framing.specs.Lengths.{response_has_no_content}
use Rattle.hx_framing.specs.Reading.{Spelled}
use Rattle.hx_framing.specs.ResponseReading.{ReadsAs}
use Rattle.hx_framing.specs.Written.{FieldIsWritable}
use Rattle.hx_framing.specs.WrittenResponse.{SentResponse, response_as_read_back, sent_response_text}
use Rattle.hx_age.specs.Age.{age_of}
use Rattle.hx_age.specs.declared.moments.Times.{Times}
use Rattle.hx_hop.specs.Answering.{answered_of}
use Rattle.hx_hop.specs.declared.request_view.Asked.{Asked}
use Rattle.hx_status.specs.declared.status.Status.{Status}
use Rattle.hx_status.specs.Member.{member_text}
use Rattle.hx_store.specs.Stored.{Stored}
use Rattle.hx_validate.specs.Answering.{freshened_of}
use Rattle.hx_validate.specs.NotModified.{fields_of_304}
use Rattle.hx_hop_laws.specs.OneResponse.{ResponseIsWithinReaderLimits}
use Rattle.proxy_core.specs.declared.open.exchange.Exchange.{Exchange}
use Rattle.proxy_core.specs.Histories.{IsGoodHistory, entry_held_after}
use Rattle.proxy_core.specs.ReadAnswers.{EventIsReadFromAStream}
use Rattle.hx_policy.specs.declared.words.Policy.{Policy}
use Rattle.proxy_core.specs.Replies.{content_unless_head, is_head, length_unless_forbidden, line}
use Rattle.proxy_core.specs.Replies.{fields_without_hidden_tags}
use Rattle.proxy_core.specs.Storing.{stored_response_made}
use Rattle.proxy_core.specs.Validating.{stored_without_cookies, without_set_cookie_if}
use Rattle.proxy_core.specs.Traces.{Item}
use Rattle.proxy_core.specs.Starts.{StoreAtStart, HoldsForEachResponseAtStart}

-- its status is final, its lines stand in a text as they are and don't speak of its content, and where the status has
-- none it has none
pub record StoredResponseIsSendable (e : Stored) : Type 0 where
  pub status : (200 ≤ e.status) × (e.status ≤ 599)
  pub fields : All FieldIsWritable e.fields
  pub lengths : has_field e.fields (codes "content-length") ≡ false
  pub codings : has_field e.fields (codes "transfer-encoding") ≡ false
  pub without : response_has_no_content false e.status ≡ true → e.content ≡ []

-- its lines as they are sent: these of them, Age, and what Cache-Status tells (`fields_with_age_and_status` of the
-- core, whatever is shown)
abbrev pub stored_fields_as_sent : List ℕ → List Field → Stored → ℕ → Status → List Field
stored_fields_as_sent name fields e now shown =
    (fields ++ line (codes "Age") (decimal (age_of e.times now)) ∷ [])
    ++ line (codes "Cache-Status") (member_text name shown) ∷ []

-- those that a line lets be seen of these: without cookies where it removes them, and without tags where it hides them
abbrev pub fields_shown_under_policy : Policy → List Field → List Field
fields_shown_under_policy policy fields =
    fields_without_hidden_tags policy.hides_tags (without_set_cookie_if policy.removes_set_cookie fields)

-- it as it is sent whole (`whole_stored_text` of the core) over a line, and as a 304 (`not_modified_text`)
abbrev pub stored_sent_whole : Policy → List ℕ → Stored → ℕ → Status → Asked → SentResponse
stored_sent_whole policy name e now shown asked = record {
  status = e.status;
  fields = stored_fields_as_sent name (fields_shown_under_policy policy e.fields) e now shown;
  shown = length_unless_forbidden e.status (Some (length e.content));
  close = asked.close;
  content = content_unless_head (is_head asked) e.content;
}

abbrev pub stored_sent_as_304 : List ℕ → Stored → ℕ → Status → Asked → SentResponse
stored_sent_as_304 name e now shown asked = record {
  status = 304;
  fields = stored_fields_as_sent name (fields_of_304 e.fields) e now shown;
  shown = None;
  close = asked.close;
  content = [];
}

-- ---- the statements

abbrev pub StoredAnswerIsSendable : Type 0
StoredAnswerIsSendable = (max_body serial now : ℕ) (to_head ended : Bool) (bytes rest : List ℕ) (x : Exchange)
    (r : Response)
    → ReadsAs max_body to_head ended bytes (Spelled r rest) → now < START_OF_YEAR_10000 → StoredResponseIsSendable
    (stored_response_made serial x r now)

abbrev pub FreshenedResponseIsSendable : Type 0
FreshenedResponseIsSendable =
    (max_body now : ℕ) (to_head ended : Bool) (bytes rest : List ℕ) (e : Stored) (r : Response) (asked : Asked)
    (times : Times) (further : List (List ℕ)) (x : Exchange)
    → StoredResponseIsSendable e → ReadsAs max_body to_head ended bytes (Spelled r rest) → now < START_OF_YEAR_10000
    → StoredResponseIsSendable (stored_without_cookies x (freshened_of further e (answered_of r now) asked times))

-- at each moment of a good history whose answers were read (law `answers_have_a_final_status` of proxy_engine says that
-- they
-- are), so is the response of each serial, held or not, where each that was held at first is
abbrev pub HeldResponseIsSendable : Type 0
HeldResponseIsSendable = (table : Table) (start : StoreAtStart) (first : ℕ) (trace : List Item)
    → IsGoodHistory table start first trace
    → HoldsForEachResponseAtStart (λ serial e. StoredResponseIsSendable e) start
    → AllByRecursion (λ item. EventIsReadFromAStream item.event) trace → (serial : ℕ) (e : Stored)
    → entry_held_after table start trace serial ≡ Some e → StoredResponseIsSendable e

abbrev pub StoredWholeIsSentAsOneResponse : Type 0
StoredWholeIsSentAsOneResponse = (policy : Policy) (most now : ℕ) (name : List ℕ) (e : Stored) (shown : Status)
    (asked : Asked) → StoredResponseIsSendable e → IsToken name → length e.content < 2 ^ 64
    → ResponseIsWithinReaderLimits most
    (stored_sent_whole policy name e now shown asked)
    → (over : Bool) (behind : List ℕ)
    → ReadsAs most (is_head asked) over (sent_response_text (stored_sent_whole policy name e now shown asked) ++ behind)
    (Spelled (response_as_read_back (is_head asked) (stored_sent_whole policy name e now shown asked)) behind)

abbrev pub Stored304IsSentAsOneResponse : Type 0
Stored304IsSentAsOneResponse = (most now : ℕ) (name : List ℕ) (e : Stored) (shown : Status) (asked : Asked)
    → StoredResponseIsSendable e → IsToken name
    → ResponseIsWithinReaderLimits most (stored_sent_as_304 name e now shown asked)
    → (over : Bool) (behind : List ℕ)
    → ReadsAs most (is_head asked) over (sent_response_text (stored_sent_as_304 name e now shown asked) ++ behind)
    (Spelled (response_as_read_back (is_head asked) (stored_sent_as_304 name e now shown asked)) behind)
