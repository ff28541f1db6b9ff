-- What becomes of Cache-Tag over a line that hides it, as each of a table of version 4 does: it says by which tags the
-- operator may purge, and stays between the origin and the proxy.
--
-- IsResponseWithoutTags: a response that names none
-- NoHiddenTagIsSentOutOfTheStore, NoHiddenTagIsPassedOn: none comes to a client
use Rattle.std.specs.Prelude.{◌≡◌, ℕ, Bool, true, false, List, ◌∷◌, Option, Some, codes}
use Rattle.hx_fields.specs.FieldLines.{has_field}
use Rattle.hx_framing.specs.declared.messages.Response.{Response}
use Rattle.hx_framing.specs.WrittenResponse.{SentResponse, sent_response_text}
use Rattle.hx_policy.specs.declared.words.Policy.{Policy}
use Rattle.hx_allow.specs.Matching.{policy_of}
use Rattle.hx_allow.specs.TableLines.{Table}
use Rattle.hx_allow.specs.declared.verdicts.RouteOverLine.{RouteOverLine}
use Rattle.hx_storable.specs.declared.rule.StoreRule.{StoreRule}
use Rattle.proxy_core.specs.declared.open.exchange.Exchange.{Exchange}
use Rattle.proxy_core.specs.declared.outcome.Outcome.TheVariants.{Reply as ReplyData}
use Rattle.proxy_core.specs.declared.outcome.Reply.{Reply}
use Rattle.proxy_core.specs.Histories.{IsGoodHistory, open_exchanges}
use Rattle.proxy_core.specs.Outcomes.{find_exchange, exchange_id_of_event}
use Rattle.proxy_core.specs.Starts.{StoreAtStart}
use Rattle.proxy_core.specs.State.{serial_used_by_outcome}
use Rattle.proxy_core.specs.Traces.{Item}
use Rattle.proxy_core.specs.Uncached.{EventGoesOverLine}
use Rattle.proxy_core_laws.specs.OneResponse.{passed_answer_in_form_as_sent}

-- the bytes are the text of a response without a line of that name
pub record IsResponseWithoutTags (bytes : List ℕ) : Type 0 where
  pub sent : SentResponse
  pub text_is : bytes ≡ sent_response_text sent
  pub has_no_such_field : has_field sent.fields (codes "Cache-Tag") ≡ false

-- ---- the statements

-- Over a line that hides tags whoever is sent a stored response is sent no Cache-Tag: at a hit, in part or as a 304,
-- stale, behind a 304 and after waiting, whatever was held at first, and whatever line it was stored over.
abbrev pub NoHiddenTagIsSentOutOfTheStore : Type 0
NoHiddenTagIsSentOutOfTheStore = (table : Table) (start : StoreAtStart) (first s : ℕ) (line : RouteOverLine)
    (item : Item)
    (past : List Item) (reply : Reply)
    → IsGoodHistory table start first (item ∷ past)
    → EventGoesOverLine table (find_exchange (exchange_id_of_event item.event)
    (open_exchanges table start past)) item.event line
    → (policy_of table.lines line).hides_tags ≡ true
    → serial_used_by_outcome item.outcome ≡ Some s → item.outcome ≡ ReplyData reply
    → IsResponseWithoutTags reply.bytes

-- Nor has one an answer that is passed on, whole, in part, or as a 304 or a 416 in its place, stored or not.
abbrev pub NoHiddenTagIsPassedOn : Type 0
NoHiddenTagIsPassedOn = (policy : Policy) (name : List ℕ) (x : Exchange) (r : Response) (now : ℕ) (stored : Bool)
    (rule : Option StoreRule) → policy.hides_tags ≡ true
    → has_field (passed_answer_in_form_as_sent policy name x r now stored rule).fields (codes "Cache-Tag") ≡ false
