-- When a request reaches the cache or its origin, and when a stored response is sent: in the words
-- of the RFCs, over what is held and open.
--
-- ResponseMayBeReused of hx_reuse: what RFC 9111 lets be sent
-- StoredMayBeSentInsteadOfError: what RFC 5861 lets be sent in place of an error
-- StoredResponseMayBeSentAtEvent: what may be sent at an event
-- MayBeSentWhileLeaderRevalidates, StoredMayBeSentWhileRevalidating: what RFC 5861 lets be sent while one asks the
-- origin about it
-- StoredResponseMayBeSent: either
-- ReplySendsTheStoredResponse: what is sent is that response
-- RequestGoesForward, RequestWaitsForFirstLeader: the two ways to an origin's answer
-- RequestReachesCacheOrOrigin, RequestIsRefusedByTheTable: what becomes of a request that is allowed, and of one that
-- isn't
-- Below them are the statements that the laws of `src/laws.rt` prove.
use Rattle.std.specs.Prelude.{◌≡◌, ◌≢◌, ◌⊎◌, ℕ, ◌||◌, true, false, List, ◌∷◌, Option, Some, None, is_some}
use Rattle.hx_policy.specs.declared.words.Policy.{Policy}
use Rattle.hx_directives.specs.Occurrences.{occurrences_of}
use Rattle.hx_framing.specs.declared.messages.Response.{Response}
use Rattle.hx_hop.specs.declared.request_view.Asked.{Asked}
use Rattle.hx_allow.specs.TableLines.{Table}
use Rattle.hx_allow.specs.Matching.{policy_of}
use Rattle.proxy_core.specs.Allowing.{verdict_of_asked, request_purges, exchanges_to_wait_for}
use Rattle.hx_allow.specs.declared.verdicts.Verdict.TheVariants.{Allowed, DeniedBy, NoLine as Unmatched}
use Rattle.hx_allow.specs.declared.verdicts.Verdict.TheVariants as verdict
use Rattle.hx_allow.specs.declared.verdicts.RouteOverLine.{RouteOverLine}
use Rattle.hx_store.specs.Stored.{Stored}
use Rattle.hx_store.specs.Shelf.{find_entry_of_serial}
use Rattle.hx_reuse.specs.Rules.{reuse_rule_applies, is_rule_on_chosen}
use Rattle.hx_reuse.specs.ChosenAndNamed.{ResponseIsChosen, IsLeastReuseRule, RuleOnChosenNamesItsSerial}
use Rattle.hx_reuse.specs.Reusable.{ResponseMayBeReused}
use Rattle.hx_reuse.specs.OnError.{ResponseMayBeSentOnError}
use Rattle.hx_reuse.specs.WhileRevalidating.{ResponseMayBeSentWhileRevalidating}
use Rattle.hx_reuse.specs.declared.rule.ReuseRule.{ReuseRule}
use Rattle.hx_status.specs.declared.cause.Cause.TheVariants.{Denied, NoLine, Looped, OnlyIfCached}
use Rattle.hx_status.specs.declared.status.Detail.{Detail}
use Rattle.hx_status.specs.declared.status.Detail.TheVariants.{StaleIfError, ReuseAfterError, ReuseAfter304}
use Rattle.hx_status.specs.declared.status.Detail.TheVariants.{StaleWhileRevalidate}
use Rattle.proxy_core.specs.declared.open.exchange.Exchange.{Exchange}
use Rattle.proxy_core.specs.declared.replies.stored_reply.StoredCacheStatusInfo.{StoredCacheStatusInfo}
use Rattle.proxy_core.specs.declared.outcome.Reply.{Reply}
use Rattle.proxy_core.specs.declared.outcome.Outcome.{Outcome}
use Rattle.proxy_core.specs.declared.outcome.Outcome.TheVariants.{Reply as ReplyData, Forward, Waits}
use Rattle.proxy_core.specs.declared.event.Event.{Event}
use Rattle.proxy_core.specs.declared.event.Event.TheVariants.{Arrive, Answer, Fail, Wake, Abandon, Overdue}
use Rattle.proxy_core.specs.Storing.{is_304_without_condition}
use Rattle.proxy_core.specs.Validating.{condition_to_revalidate_serial, is_304_to_own_conditions}
use Rattle.proxy_core.specs.Validating.{stored_response_validated_by_304}
use Rattle.proxy_core.specs.Replies.{stored_reply_text}
use Rattle.proxy_core.specs.Outcomes.{find_exchange, exchange_id_of_event, is_only_if_cached, is_stale_if_error_status}
use Rattle.proxy_core.specs.Outcomes.{outcome_of_refusal, outcome_of_purge, forward_text}
use Rattle.proxy_core.specs.Outcomes.{hit_status_info, sent_after_forward_status_info, collapsed_status_info}
use Rattle.proxy_core.specs.declared.open.awaited.Awaited.{Awaited}
use Rattle.proxy_core.specs.declared.open.awaited.Awaited.TheVariants.{Expired}
use Rattle.proxy_core.specs.Leading.{NoExchangeIsLeaderForRequest, IsFirstLeader}
use Rattle.proxy_core.specs.Awaiting.{RequestMayAwaitAnother}
use Rattle.proxy_core.specs.State.{serial_used_by_outcome, stored_response_freshened_by_event}
use Rattle.proxy_core.specs.Starts.{StoreAtStart}
use Rattle.proxy_core.specs.Traces.{Item}
use Rattle.proxy_core.specs.Histories.{held_entries, open_exchanges, IsGoodHistory}

-- the serial is that of the held response that may be sent without asking the origin (RFC 9111, section 4)
abbrev pub StoredResponseIsReusable : Policy → List Stored → Asked → ℕ → ℕ → Type 0
StoredResponseIsReusable policy held asked now s =
    (response : Stored) × ResponseMayBeReused policy held asked now response × (response.serial ≡ s)

-- In place of an error: the operator lets the request be answered from the store, the response is
-- the chosen one, no rule stands by which the operator, the request or what is held has no response
-- to send, and RFC 5861, section 4 lets it be sent.
pub record StoredMayBeSentInsteadOfError (policy : Policy) (held : List Stored) (asked : Asked) (now : ℕ)
    (response : Stored) : Type 0 where
  pub operator_allows : policy.caches ≡ true
  pub is_chosen : ResponseIsChosen held asked response
  pub no_request_rule_applies : (rule : ReuseRule)
      → is_rule_on_chosen rule ≡ false → reuse_rule_applies rule policy held asked now ≡ false
  pub may_be_sent : ResponseMayBeSentOnError policy response (occurrences_of asked.fields) now

-- after a failure or an error: one that may be sent anyway, or in place of the error
abbrev pub MayBeSentAsFallback : Policy → List Stored → Asked → ℕ → ℕ → Type 0
MayBeSentAsFallback policy held asked now s =
    StoredResponseIsReusable policy held asked now s
    ⊎ ((response : Stored) × StoredMayBeSentInsteadOfError policy held asked now response × (response.serial ≡ s))

-- At an event, of an exchange that is open, the response of this serial may be sent: at an arrival
-- that the table allows; at a 304 to the proxy's conditions, the one that it answers, or where it
-- answers none one that may be sent anyway; at a 304 that nobody asked for, a 500, 502, 503 or 504,
-- and at a failure; and to a request that waited, when it is woken.
abbrev pub StoredResponseMayBeSentAtEvent : Table → List Stored → Option Exchange → Event → ℕ → Type 0
StoredResponseMayBeSentAtEvent table held x (Arrive now id asked) s =
    (line : RouteOverLine) × (verdict_of_asked table asked ≡ Allowed line)
    × StoredResponseIsReusable (policy_of table.lines line) held asked now s
StoredResponseMayBeSentAtEvent table held (Some x) (Answer now id r) s =
    ((is_304_to_own_conditions x r ≡ true)
    × ((e : Stored) × (stored_response_validated_by_304 held x r now ≡ Some e) × (e.serial ≡ s)))
    ⊎ (((is_304_to_own_conditions x r ≡ true) × (stored_response_validated_by_304 held x r now ≡ None)
    × StoredResponseIsReusable (policy_of table.lines x.line) held x.asked now s)
    ⊎ ((is_304_to_own_conditions x r ≡ false)
    × ((is_304_without_condition (policy_of table.lines x.line) x.asked r || is_stale_if_error_status r.status) ≡ true)
    × MayBeSentAsFallback (policy_of table.lines x.line) held x.asked now s))
StoredResponseMayBeSentAtEvent table held (Some x) (Fail now id kind) s = MayBeSentAsFallback
    (policy_of table.lines x.line) held x.asked now s
StoredResponseMayBeSentAtEvent table held (Some x) (Wake now id) s = StoredResponseIsReusable
    (policy_of table.lines x.line) held x.asked now s
StoredResponseMayBeSentAtEvent table held None (Answer now id r) s = ⊥
StoredResponseMayBeSentAtEvent table held None (Fail now id kind) s = ⊥
StoredResponseMayBeSentAtEvent table held None (Wake now id) s = ⊥
StoredResponseMayBeSentAtEvent table held x (Abandon id) s = ⊥
StoredResponseMayBeSentAtEvent table held x (Overdue id) s = ⊥

-- While one asks the origin about it (RFC 5861, section 3): a GET that takes an answer of the origin could wait for the
-- first to arrive of those that went there for the response of this serial, which is the chosen one, and over, and may
-- be sent stale meanwhile.
pub record MayBeSentWhileLeaderRevalidates (policy : Policy) (held : List Stored) (xs : List Exchange) (asked : Asked)
    (now s : ℕ) : Type 0 where
  pub takes_origin_answer : is_only_if_cached asked ≡ false
  pub awaits : RequestMayAwaitAnother policy held asked now (Expired s)
  pub leader : ℕ
  pub first_leads : IsFirstLeader policy (Expired s) asked xs leader
  pub response : Stored
  pub chosen_is : ResponseIsChosen held asked response
  pub serial_is : response.serial ≡ s
  pub may_be_sent : ResponseMayBeSentWhileRevalidating policy response (occurrences_of asked.fields) now

-- so at an arrival that the table allows, where these are open
abbrev pub StoredMayBeSentWhileRevalidating : Table → List Stored → List Exchange → Event → ℕ → Type 0
StoredMayBeSentWhileRevalidating table held xs (Arrive now id asked) s =
    (line : RouteOverLine)
    × (verdict_of_asked table asked ≡ Allowed line)
    × MayBeSentWhileLeaderRevalidates (policy_of table.lines line) held
    (exchanges_to_wait_for table line asked xs) asked now s
StoredMayBeSentWhileRevalidating table held xs (Answer now id r) s = ⊥
StoredMayBeSentWhileRevalidating table held xs (Fail now id kind) s = ⊥
StoredMayBeSentWhileRevalidating table held xs (Wake now id) s = ⊥
StoredMayBeSentWhileRevalidating table held xs (Abandon id) s = ⊥
StoredMayBeSentWhileRevalidating table held xs (Overdue id) s = ⊥

abbrev pub StoredResponseMayBeSent : Table → List Stored → List Exchange → Option Exchange → Event → ℕ → Type 0
StoredResponseMayBeSent table held xs x event s =
    StoredResponseMayBeSentAtEvent table held x event s ⊎ StoredMayBeSentWhileRevalidating table held xs event s

-- ---- an item

-- By the least rule against a stored response a request goes to the origin of a line: its own text,
-- with conditions where the rule is on a response that has a validator, about that one (RFC 9111,
-- section 4.3.1).
pub record RequestGoesForward (table : Table) (held : List Stored) (asked : Asked) (now : ℕ) (line : RouteOverLine)
    (rule : ReuseRule) (outcome : Outcome) : Type 0 where
  pub is_least : IsLeastReuseRule (policy_of table.lines line) held asked now rule
  pub against : Option ℕ
  pub names : RuleOnChosenNamesItsSerial held asked rule against
  pub outcome_is : outcome ≡ Forward line (forward_text table line asked (condition_to_revalidate_serial held against))

-- no exchange at the origin has asked for what the request could be sent of the answer to another
abbrev pub NoLeaderForRequestIsOpen : Policy → List Stored → List Exchange → Asked → ℕ → Type 0
NoLeaderForRequestIsOpen policy held xs asked now =
    (awaited : Awaited)
    → RequestMayAwaitAnother policy held asked now awaited → NoExchangeIsLeaderForRequest policy awaited asked xs

-- A GET that could be sent the answer to another, since nothing is held for its key, or by the word
-- of its line since the lifetime of what is held is over, and that takes an answer of the origin,
-- waits for the first to arrive of those that are at the origin for that (RFC 9111, section 4:
-- collapsed requests).
pub record RequestWaitsForFirstLeader (table : Table) (held : List Stored) (xs : List Exchange) (now : ℕ)
    (asked : Asked)
    (line : RouteOverLine) (outcome : Outcome) : Type 0 where
  pub leader : ℕ
  pub is_not_only_if_cached : is_only_if_cached asked ≡ false
  pub awaited : Awaited
  pub awaits : RequestMayAwaitAnother (policy_of table.lines line) held asked now awaited
  pub first_leads : IsFirstLeader (policy_of table.lines line) awaited asked (exchanges_to_wait_for table line asked xs)
      leader
  pub outcome_is : outcome ≡ Waits leader

-- A request that is allowed reaches the cache, which sends a stored response, or the origin of that
-- line; or it waits for the answer to another request for its target; or it takes no response but a
-- stored one, and is told the rule against that.
abbrev pub RequestReachesCacheOrOrigin : Table → List Stored → List Exchange → ℕ → Asked → RouteOverLine → Outcome
    → Type 0
RequestReachesCacheOrOrigin table held xs now asked line outcome =
    ((s : ℕ) × (serial_used_by_outcome outcome ≡ Some s))
    ⊎ (((rule : ReuseRule)
    × RequestGoesForward table held asked now line rule outcome × (is_only_if_cached asked ≡ false)
    × NoLeaderForRequestIsOpen (policy_of table.lines line) held (exchanges_to_wait_for table line asked xs) asked now)
    ⊎ (RequestWaitsForFirstLeader table held xs now asked line outcome
    ⊎ ((rule : ReuseRule) × (is_only_if_cached asked ≡ true) × IsLeastReuseRule
    (policy_of table.lines line) held asked now rule
    × (outcome ≡ outcome_of_refusal now (OnlyIfCached rule) asked))))

-- any other is turned away, by the line that denies it, because none matches, or by the line that refuses its loop
abbrev pub RequestIsRefusedByTheTable : Table → ℕ → Asked → Outcome → Type 0
RequestIsRefusedByTheTable table now asked outcome =
    ((line : ℕ) × (verdict_of_asked table asked ≡ DeniedBy line)
    × (outcome ≡ outcome_of_refusal now (Denied line) asked))
    ⊎ (((verdict_of_asked table asked ≡ Unmatched) × (outcome ≡ outcome_of_refusal now NoLine asked))
    ⊎ ((line : ℕ) × (verdict_of_asked table asked ≡ verdict.Looped line)
    × (outcome ≡ outcome_of_refusal now (Looped line) asked)))

-- one that purges: what is held within its scope goes or is expired, and it is told how many those are
abbrev pub OutcomeIsOfRequestedPurge : List Stored → ℕ → Asked → Outcome → Type 0
OutcomeIsOfRequestedPurge held now asked outcome = outcome ≡ outcome_of_purge held now asked

-- The word of one that is sent in place of an error: it may be sent anyway, or in that place alone.
abbrev pub CacheStatusDetailAfterError : Policy → List Stored → Asked → ℕ → ℕ → Option Detail → Type 0
CacheStatusDetailAfterError policy held asked now s detail =
    (StoredResponseIsReusable policy held asked now s → detail ≡ Some ReuseAfterError)
    × ((StoredResponseIsReusable policy held asked now s → ⊥) → detail ≡ Some StaleIfError)

-- The word of one that is sent at an answer: none where the 304 answers it; else that the 304
-- answered none, or that of an error.
abbrev pub CacheStatusDetailAtAnswer : Policy → List Stored → Exchange → ℕ → Response → ℕ → Option Detail → Type 0
CacheStatusDetailAtAnswer policy held x now r s detail =
    (is_some (stored_response_validated_by_304 held x r now) ≡ true → detail ≡ None)
    × (is_304_to_own_conditions x r ≡ true → stored_response_validated_by_304 held x r now ≡ None
    → detail ≡ Some ReuseAfter304)
    × (is_304_to_own_conditions x r ≡ false → CacheStatusDetailAfterError policy held x.asked now s detail)

-- The word of one that is sent at an arrival: none where it may be sent anyway, else that one asks
-- the origin about it.
abbrev pub CacheStatusDetailAtArrival : Policy → List Stored → Asked → ℕ → ℕ → Option Detail → Type 0
CacheStatusDetailAtArrival policy held asked now s detail =
    (StoredResponseIsReusable policy held asked now s → detail ≡ None)
    × ((StoredResponseIsReusable policy held asked now s → ⊥) → detail ≡ Some StaleWhileRevalidate)

-- what Cache-Status tells of a stored response (RFC 9211): a hit, with a word where it is sent while
-- one asks the origin about it, or why the request had gone forward, what came, and the word of the step
abbrev pub CacheStatusIsExact : Table → List Stored → Option Exchange → Event → ℕ → StoredCacheStatusInfo → Type 0
CacheStatusIsExact table held x (Arrive now id asked) s h = (line : RouteOverLine)
    × (verdict_of_asked table asked ≡ Allowed line)
    × ((detail : Option Detail) × (h ≡ record (hit_status_info (policy_of table.lines line)) { detail = detail })
    × CacheStatusDetailAtArrival (policy_of table.lines line) held asked now s detail)
CacheStatusIsExact table held (Some x) (Answer now id r) s h = (detail : Option Detail)
    × (h ≡ sent_after_forward_status_info (policy_of table.lines x.line) x (Some r.status) detail)
    × CacheStatusDetailAtAnswer (policy_of table.lines x.line) held x now r s detail
CacheStatusIsExact table held (Some x) (Fail now id kind) s h = (detail : Option Detail)
    × (h ≡ sent_after_forward_status_info (policy_of table.lines x.line) x None detail)
    × CacheStatusDetailAfterError (policy_of table.lines x.line) held x.asked now s detail
CacheStatusIsExact table held (Some x) (Wake now id) s h = h ≡ collapsed_status_info (policy_of table.lines x.line) x
CacheStatusIsExact table held None (Answer now id r) s h = ⊥
CacheStatusIsExact table held None (Fail now id kind) s h = ⊥
CacheStatusIsExact table held None (Wake now id) s h = ⊥
CacheStatusIsExact table held x (Abandon id) s h = ⊥
CacheStatusIsExact table held x (Overdue id) s h = ⊥

-- the moment of an event, and the request that it is about
abbrev pub EventHasMomentAndRequest : Option Exchange → Event → ℕ → Asked → Type 0
EventHasMomentAndRequest x (Arrive t id a) now asked = (t ≡ now) × (a ≡ asked)
EventHasMomentAndRequest (Some x) (Answer t id r) now asked = (t ≡ now) × (x.asked ≡ asked)
EventHasMomentAndRequest (Some x) (Fail t id kind) now asked = (t ≡ now) × (x.asked ≡ asked)
EventHasMomentAndRequest (Some x) (Wake t id) now asked = (t ≡ now) × (x.asked ≡ asked)
EventHasMomentAndRequest None (Answer t id r) now asked = ⊥
EventHasMomentAndRequest None (Fail t id kind) now asked = ⊥
EventHasMomentAndRequest None (Wake t id) now asked = ⊥
EventHasMomentAndRequest x (Abandon id) now asked = ⊥
EventHasMomentAndRequest x (Overdue id) now asked = ⊥

-- What is sent is the held response of this serial, freshened where the 304 answers it: its
-- content, its head, or its 304 to the client's own conditions, by what `stored_reply_text` says.
pub record ReplySendsTheStoredResponse (table : Table) (held : List Stored) (x : Option Exchange) (event : Event)
    (outcome : Outcome)
    (s : ℕ) : Type 0 where
  pub response : Stored
  pub is_held : find_entry_of_serial s held ≡ Some response
  pub now : ℕ
  pub asked : Asked
  pub about : EventHasMomentAndRequest x event now asked
  pub info : StoredCacheStatusInfo
  pub cache_status_matches : CacheStatusIsExact table held x event s info
  pub reply : Reply
  pub outcome_is : outcome ≡ ReplyData reply
  pub bytes_are : reply.bytes
      ≡ stored_reply_text table.name (stored_response_freshened_by_event x event response) now info asked

-- ---- the statements

-- A stored response is sent exactly where one is held that may be.
abbrev pub StoredResponseIsSentWhereverItMayBe : Type 0
StoredResponseIsSentWhereverItMayBe = (table : Table) (start : StoreAtStart) (first s : ℕ) (item : Item)
    (past : List Item)
    → IsGoodHistory table start first (item ∷ past) →
    StoredResponseMayBeSent table (held_entries table start past) (open_exchanges table start past)
    (find_exchange (exchange_id_of_event item.event) (open_exchanges table start past)) item.event s
    → serial_used_by_outcome item.outcome ≡ Some s

abbrev pub StoredResponseIsSentOnlyWhereItMayBe : Type 0
StoredResponseIsSentOnlyWhereItMayBe = (table : Table) (start : StoreAtStart) (first s : ℕ) (item : Item)
    (past : List Item)
    → IsGoodHistory table start first (item ∷ past) →
    serial_used_by_outcome item.outcome ≡ Some s
    → StoredResponseMayBeSent table (held_entries table start past) (open_exchanges table start past)
    (find_exchange (exchange_id_of_event item.event) (open_exchanges table start past)) item.event s

-- A request that arrives goes to the origin of a line exactly where that is the table's first line
-- that matches and it allows, a rule stands against a stored response, the request takes others
-- too, and there is none for whose answer it waits.
abbrev pub ArrivalIsForwardedWhereverItMayBe : Type 0
ArrivalIsForwardedWhereverItMayBe =
    (table : Table) (start : StoreAtStart) (first now id : ℕ) (line : RouteOverLine) (asked : Asked)
    (rule : ReuseRule) (item : Item)
    (past : List Item) →
    IsGoodHistory table start first (item ∷ past) → item.event ≡ Arrive now id asked →
    verdict_of_asked table asked ≡ Allowed line
    → IsLeastReuseRule (policy_of table.lines line) (held_entries table start past) asked now rule
    → is_only_if_cached asked ≡ false →
    NoLeaderForRequestIsOpen (policy_of table.lines line) (held_entries table start past)
    (exchanges_to_wait_for table line asked (open_exchanges table start past))
    asked now →
    (bytes : List ℕ) × (item.outcome ≡ Forward line bytes)

abbrev pub ArrivalIsForwardedOnlyWhereItMayBe : Type 0
ArrivalIsForwardedOnlyWhereItMayBe =
    (table : Table) (start : StoreAtStart) (first now id : ℕ) (line : RouteOverLine) (asked : Asked)
    (bytes : List ℕ) (item : Item)
    (past : List Item) →
    IsGoodHistory table start first (item ∷ past) → item.event ≡ Arrive now id asked
    → item.outcome ≡ Forward line bytes →
    (verdict_of_asked table asked ≡ Allowed line)
    × ((rule : ReuseRule) × IsLeastReuseRule (policy_of table.lines line) (held_entries table start past) asked now rule
    × NoLeaderForRequestIsOpen (policy_of table.lines line) (held_entries table start past)
    (exchanges_to_wait_for table line asked (open_exchanges table start past))
    asked now)
    × (is_only_if_cached asked ≡ false)

-- A request that the table allows reaches the cache, which sends a stored response, or the origin
-- of that line; or it waits for the answer to another; or it takes no response but a stored one,
-- and is told the rule against that.
abbrev pub AllowedRequestReachesCacheOrOrigin : Type 0
AllowedRequestReachesCacheOrOrigin = (table : Table) (start : StoreAtStart) (first now id : ℕ) (line : RouteOverLine)
    (asked : Asked)
    (item : Item)
    (past : List Item) →
    IsGoodHistory table start first (item ∷ past) → item.event ≡ Arrive now id asked →
    verdict_of_asked table asked ≡ Allowed line
    → RequestReachesCacheOrOrigin table (held_entries table start past)
    (open_exchanges table start past) now asked line item.outcome

-- Any other is refused, by the line that denies it, because none matches, or by the line that refuses its loop.
abbrev pub RequestNotAllowedIsRefused : Type 0
RequestNotAllowedIsRefused = (table : Table) (start : StoreAtStart) (first now id : ℕ) (asked : Asked) (item : Item)
    (past : List Item) →
    IsGoodHistory table start first (item ∷ past) → item.event ≡ Arrive now id asked →
    ((line : RouteOverLine) → verdict_of_asked table asked ≢ Allowed line) → request_purges table asked ≡ false
    → RequestIsRefusedByTheTable table now asked item.outcome

-- One that purges takes away what is held within its scope.
abbrev pub PurgeRemovesOrExpiresItsScope : Type 0
PurgeRemovesOrExpiresItsScope = (table : Table) (start : StoreAtStart) (first now id : ℕ) (asked : Asked) (item : Item)
    (past : List Item) →
    IsGoodHistory table start first (item ∷ past) → item.event ≡ Arrive now id asked →
    request_purges table asked ≡ true → OutcomeIsOfRequestedPurge (held_entries table start past) now asked item.outcome

-- and what is sent is that response
abbrev pub SentReplyIsTheHeldResponse : Type 0
SentReplyIsTheHeldResponse = (table : Table) (start : StoreAtStart) (first s : ℕ) (item : Item) (past : List Item)
    → IsGoodHistory table start first (item ∷ past) → serial_used_by_outcome item.outcome ≡ Some s →
    ReplySendsTheStoredResponse table (held_entries table start past)
    (find_exchange (exchange_id_of_event item.event) (open_exchanges table start past)) item.event item.outcome s
