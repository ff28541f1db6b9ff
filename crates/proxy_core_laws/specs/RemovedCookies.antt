-- What becomes of Set-Cookie over a line that removes it: a cookie is for the one who asked (RFC 6265, section 3), and
-- what is stored may be sent to others (RFC 9111, section 7.3).
--
-- IsTextWithoutSetCookie: a response that sets none
-- NoCookieIsSentOutOfTheStore, NoCookieIsLeftInTheStore: none comes to others
-- RequesterGetsTheCookies: they come to the one who asked
use Rattle.std.specs.Prelude.{◌≡◌, ℕ, Bool, true, false, List, ◌∷◌, Option, Some, codes}
use Rattle.hx_fields.specs.FieldLines.{has_field, values_of}
use Rattle.hx_framing.specs.declared.messages.Response.{Response}
use Rattle.hx_framing.specs.WrittenResponse.{SentResponse, sent_response_text}
use Rattle.hx_hop.specs.Answering.{answered_of}
use Rattle.hx_policy.specs.declared.words.Policy.{Policy}
use Rattle.hx_allow.specs.Matching.{policy_of}
use Rattle.hx_allow.specs.TableLines.{Table}
use Rattle.hx_allow.specs.declared.verdicts.RouteOverLine.{RouteOverLine}
use Rattle.hx_storable.specs.declared.rule.StoreRule.{StoreRule}
use Rattle.hx_store.specs.Stored.{Stored}
use Rattle.proxy_core.specs.declared.open.exchange.Exchange.{Exchange}
use Rattle.proxy_core.specs.declared.outcome.Outcome.TheVariants.{Reply as ReplyData}
use Rattle.proxy_core.specs.declared.outcome.Reply.{Reply}
use Rattle.proxy_core.specs.Histories.{IsGoodHistory, entry_held_after, open_exchanges}
use Rattle.proxy_core.specs.Outcomes.{find_exchange, exchange_id_of_event}
use Rattle.proxy_core.specs.Starts.{StoreAtStart}
use Rattle.proxy_core.specs.State.{serial_used_by_outcome}
use Rattle.proxy_core.specs.Traces.{Item}
use Rattle.proxy_core.specs.Uncached.{EventGoesOverLine}
use Rattle.proxy_core_laws.specs.OneResponse.{passed_answer_in_form_as_sent}
use Rattle.proxy_core_laws.specs.Varied.{latest_storing_exchange_of}

-- the bytes are the text of a response without a line of that name
pub record IsTextWithoutSetCookie (bytes : List ℕ) : Type 0 where
  pub sent : SentResponse
  pub text_is : bytes ≡ sent_response_text sent
  pub has_no_such_field : has_field sent.fields (codes "Set-Cookie") ≡ false

-- ---- the statements

-- Over a line that removes cookies whoever is sent a stored response is sent no Set-Cookie: at a hit, stale, behind a
-- 304 and after waiting, whatever was held at first, and whatever line it was stored over.
abbrev pub NoCookieIsSentOutOfTheStore : Type 0
NoCookieIsSentOutOfTheStore = (table : Table) (start : StoreAtStart) (first s : ℕ) (line : RouteOverLine) (item : Item)
    (past : List Item) (reply : Reply)
    → IsGoodHistory table start first (item ∷ past)
    → EventGoesOverLine table (find_exchange (exchange_id_of_event item.event)
    (open_exchanges table start past)) item.event line
    → (policy_of table.lines line).removes_set_cookie ≡ true
    → serial_used_by_outcome item.outcome ≡ Some s → item.outcome ≡ ReplyData reply
    → IsTextWithoutSetCookie reply.bytes

-- and what a request over it left in the store, by its answer or by a 304, has none for any other line
abbrev pub NoCookieIsLeftInTheStore : Type 0
NoCookieIsLeftInTheStore = (table : Table) (start : StoreAtStart) (trace : List Item) (s : ℕ) (x : Exchange)
    (e : Stored)
    → latest_storing_exchange_of table start trace s ≡ Some x → (policy_of table.lines x.line).removes_set_cookie ≡ true
    → entry_held_after table start trace s ≡ Some e
    → has_field e.fields (codes "Set-Cookie") ≡ false

-- An answer that is passed on, whole, in part, or as a 304 or a 416 in its place, has the cookies that came, whatever
-- the line says of them and whether or not it is stored.
abbrev pub RequesterGetsTheCookies : Type 0
RequesterGetsTheCookies = (policy : Policy) (name : List ℕ) (x : Exchange) (r : Response) (now : ℕ) (stored : Bool)
    (rule : Option StoreRule)
    → values_of (passed_answer_in_form_as_sent policy name x r now stored rule).fields (codes "Set-Cookie")
    ≡ values_of (answered_of r now).fields (codes "Set-Cookie")
