-- When an answer of an origin is stored: in the words of RFC 9111, section 3, over the exchange
-- that is open and the answer that came for it. So the facts that the storing rules are handed are
-- said here in the field's terms. And what is then held no longer.
--
-- VaryHasOnlyFieldNames, ConnectionRemovedNoCachingField, ResponseHasLifetimeOrValidator: what the answer's fields have
-- to say
-- KeyIsNotOvertakenSinceForward: nothing that was asked for under its key was overtaken meanwhile
-- AnswerMayBeStored: all that is asked             IsAnswerThatMayBeStored: an item that stores it
-- FreshenedMayBeKept: what is asked of a response that a 304 freshens
-- OutcomeRemovesExactlyWhatItMust, OutcomeExpiresExactlyWhatItMust: what an item takes away, and what it expires
use Rattle.std.specs.Prelude.{◌≡◌, ◌⊎◌, ℕ, ◌≤◌, Bool, true, false, cond, bytes_eq, List, [], ◌∷◌, ◌++◌, length, codes}
use Rattle.std.specs.Prelude.{is_some, All, Option, Some, None, IfSome}
use Rattle.hx_fields.specs.Line.{Field}
use Rattle.hx_fields.specs.FieldLines.{has_field as has_line}
use Rattle.hx_fields.specs.Tokens.{is_token}
use Rattle.hx_framing.specs.declared.messages.Response.{Response}
use Rattle.hx_directives.specs.Occurrences.{occurrences_of}
use Rattle.hx_directives.specs.Answers.{directive_occurs}
use Rattle.hx_directives.specs.declared.names.Directive.TheVariants.{MaxAge, SMaxage, Private, NoStore}
use Rattle.hx_target.specs.declared.keys.Key.{Key}
use Rattle.hx_vary.specs.declared.limits.TheConstants.{MOST_VARY_NAMES}
use Rattle.hx_vary.specs.Vary.{vary_names}
use Rattle.hx_hop.specs.Answering.{answered_of}
use Rattle.hx_hop.specs.Bypass.{request_has_content, has_precondition_for_origin}
use Rattle.hx_hop.specs.Stripping.{caching_field_names, connection_has_option}
use Rattle.hx_policy.specs.Policies.{lifetime_given_by_policy}
use Rattle.hx_policy.specs.declared.words.Policy.{Policy}
use Rattle.hx_allow.specs.TableLines.{Table}
use Rattle.hx_allow.specs.Matching.{policy_of}
use Rattle.hx_store.specs.Stored.{Stored}
use Rattle.hx_store.specs.Shelf.{serials_of_key}
use Rattle.hx_store.specs.Weights.{weight_of_entry}
use Rattle.hx_storable.specs.Storable.{StatusIsFinal, RequestAllowsStoring, AnswerDoesNotDependOnRange}
use Rattle.hx_storable.specs.Storable.{PolicyAllowsStoring}
use Rattle.hx_storable.specs.Storable.{ResponseIsStorable, StatusNeedsToBeUnderstood, NoStoreIsAbsentOrLifted}
use Rattle.hx_storable.specs.Storable.{ResponseAllowsSharedWithAuthorization, ResponseAllowsStoring}
use Rattle.hx_storable.specs.Rules.{is_understood_status, request_has_directive, response_has_directive}
use Rattle.hx_validate.specs.Validators.{date_validator, etag_validator}
use Rattle.hx_validate.specs.Room.{head_leaves_room}
use Rattle.proxy_core.specs.declared.open.exchange.Exchange.{Exchange}
use Rattle.proxy_core.specs.declared.outcome.Outcome.{Outcome}
use Rattle.proxy_core.specs.declared.event.Event.{Event}
use Rattle.proxy_core.specs.declared.event.Event.TheVariants.{Arrive, Answer, Fail, Wake, Abandon, Overdue}
use Rattle.proxy_core.specs.Storing.{serials_replaced_by_storing, weight_of_answer}
use Rattle.proxy_core.specs.Validating.{stored_response_validated_by_304, freshened_by_304, freshened_may_be_kept}
use Rattle.proxy_core.specs.Validating.{head_of_stored}
use Rattle.proxy_core.specs.Outcomes.{find_exchange, exchange_id_of_event}
use Rattle.proxy_core.specs.State.{serial_stored_by_outcome, serial_used_by_outcome, serials_removed_by_outcome}
use Rattle.proxy_core.specs.Scopes.{serials_purge_removes, serials_purge_expires}
use Rattle.proxy_core.specs.State.{outcome_purges, expired_serials_if_any}
use Rattle.proxy_core.specs.Allowing.{request_purges}
use Rattle.proxy_core.specs.Starts.{StoreAtStart}
use Rattle.proxy_core.specs.Traces.{Item}
use Rattle.proxy_core.specs.Histories.{IsGoodHistory, held_entries, next_serial, open_exchanges}
use Rattle.proxy_core.specs.Promises.{key_invalidated_by_answer, outcome_goes_forward, count_of_outcomes_of_id}
use Rattle.proxy_core.specs.Promises.{NoItemOvertakesKey}

-- each member of Vary is a field name: none is a star, by which no later request would ever match
-- (RFC 9111, section 4.1)
-- own: what no request would match isn't stored, and a member that is no name counts as a star; so do more members than
-- a cache compares ("A Vary of many names counts as a star")
abbrev pub VaryHasOnlyFieldNames : List Field → Type 0
VaryHasOnlyFieldNames fields =
    (length (vary_names fields) ≤ MOST_VARY_NAMES)
    × All (λ name. (bytes_eq name (codes "*") ≡ false) × (is_token name ≡ true)) (vary_names fields)

-- Connection took away no field by which a cache decides (RFC 9110, section 7.6.1)
-- own: without it the response says less than its origin said ("Less is stored than the standard allows")
abbrev pub ConnectionRemovedNoCachingField : List Field → Type 0
ConnectionRemovedNoCachingField received = All (λ name. connection_has_option received name ≡ false) caching_field_names

-- it says how long it is fresh (RFC 9111, section 4.2.1), or has a validator, by which it can be
-- asked about (section 4.3.1), or the operator gives it a lifetime (section 4.2.2)
-- own: any other would never be sent, since no lifetime is guessed ("No lifetime is guessed")
abbrev pub ResponseHasLifetimeOrValidator : Policy → ℕ → List Field → Type 0
ResponseHasLifetimeOrValidator policy status fields =
    (directive_occurs (occurrences_of fields) SMaxage ≡ true)
    ⊎ ((directive_occurs (occurrences_of fields) MaxAge ≡ true)
    ⊎ ((has_line fields (codes "Expires") ≡ true)
    ⊎ ((is_some (etag_validator fields) ≡ true)
    ⊎ ((is_some (date_validator fields) ≡ true)
    ⊎ (is_some (lifetime_given_by_policy policy status) ≡ true)))))

-- No item since the request of an exchange last went forward overtakes its key; went is the item
-- by which it did, and since are those that came after.
-- own: RFC 9111, section 4.4 drops what is held, and says nothing of an answer that is still on its
-- way; one that was asked for before may be what was to be dropped. So may one within the scope of a purge with a
-- tag, whatever its lines will name ("An overtaken answer is not stored")
pub record KeyIsNotOvertakenSinceForward (past : List Item) (x : Exchange) : Type 0 where
  pub since : List Item
  pub before : List Item
  pub went : Item
  pub past_is : past ≡ since ++ went ∷ before
  pub is_of_exchange : exchange_id_of_event went.event ≡ x.id
  pub goes_forward : outcome_goes_forward went.outcome ≡ true
  pub is_the_last : count_of_outcomes_of_id outcome_goes_forward x.id since ≡ 0
  pub nothing_overtakes : NoItemOvertakesKey x.asked.target.key since (went ∷ before)

-- The answer to an exchange may be stored: by the standard's list.
-- own: and by what this cache asks besides. The operator's line lets it, a GET of the whole asked for
-- it, it could be reused, nothing of its key was invalidated meanwhile, it isn't longer than the
-- operator's limit and alone no heavier than his whole store may be, and a serial is left.
pub record AnswerMayBeStored (table : Table) (next : Option ℕ) (past : List Item) (x : Exchange) (r : Response)
    (now : ℕ) : Type 0 where
  pub operator_allows : (policy_of table.lines x.line).caches ≡ true
  pub is_storable : ResponseIsStorable x.asked (answered_of r now)
  pub is_for_the_store : RequestAllowsStoring x.asked (answered_of r now) (policy_of table.lines x.line)
  pub policy_allows_it : PolicyAllowsStoring x.asked (answered_of r now) (policy_of table.lines x.line)
  pub names_fields : VaryHasOnlyFieldNames (answered_of r now).fields
  pub connection_lists_no_cache_field : ConnectionRemovedNoCachingField r.fields
  pub can_be_reused : ResponseHasLifetimeOrValidator (policy_of table.lines x.line) r.status (answered_of r now).fields
  pub key_is_not_overtaken : KeyIsNotOvertakenSinceForward past x
  pub fits : length r.content ≤ table.max_stored
  pub fits_the_store : IfSome table.max_store (λ most. weight_of_answer x r now ≤ most)
  pub serial_is_left : is_some next ≡ true

-- the event is the answer to an exchange that is open, and may be stored
pub record IsAnswerThatMayBeStored (table : Table) (start : StoreAtStart) (first : ℕ) (item : Item)
    (past : List Item) : Type 0 where
  pub now : ℕ
  pub id : ℕ
  pub response : Response
  pub exchange : Exchange
  pub event_is : item.event ≡ Answer now id response
  pub is_open : find_exchange id (open_exchanges table start past) ≡ Some exchange
  pub no_stored_response_is_sent_instead : serial_used_by_outcome item.outcome ≡ None
  pub may_be_stored : StatusIsFinal (answered_of response now)
      → AnswerMayBeStored table (next_serial first past) past exchange response now

-- ---- what a 304 freshens

-- What a 304 makes of a held response may be kept where a response with these lines could be stored
-- in answer to the request that had it validated (RFC 9111, sections 3 and 4.3.4).
-- own: whether a GET or a HEAD had it validated isn't asked: what a HEAD's 304 freshens is kept as
-- what a GET's does. Nor is anything that was asked when it was stored and stays: that its status is
-- final, and that it has a serial; or whether its key was invalidated, for then it would be held no more.
-- own: the Connection of the 304 counts, and room has to be left for what is added to the head where
-- the response is sent ("What a 304 brings has a bound")
pub record FreshenedMayBeKept (table : Table) (x : Exchange) (r : Response) (e : Stored) : Type 0 where
  pub line_has_cache : (policy_of table.lines x.line).caches ≡ true
  pub status_is_understood : StatusNeedsToBeUnderstood (head_of_stored e) → is_understood_status e.status ≡ true
  pub no_no_store : NoStoreIsAbsentOrLifted (head_of_stored e)
  pub not_private : response_has_directive (head_of_stored e) Private ≡ false
  pub not_authorized : (has_line x.asked.fields (codes "Authorization") ≡ false)
      ⊎ ResponseAllowsSharedWithAuthorization (head_of_stored e)
  pub allowed : ResponseAllowsStoring (head_of_stored e)
  pub request_has_no_no_store : request_has_directive x.asked NoStore ≡ false
  pub no_content : request_has_content x.asked ≡ false
  pub is_not_for_its_range : AnswerDoesNotDependOnRange x.asked (head_of_stored e) (policy_of table.lines x.line)
  pub no_precondition : has_precondition_for_origin x.asked ≡ false
  pub policy_allows_it : PolicyAllowsStoring x.asked (head_of_stored e) (policy_of table.lines x.line)
  pub names_fields : VaryHasOnlyFieldNames e.fields
  pub connection_of_304_removed_no_caching_field : ConnectionRemovedNoCachingField r.fields
  pub can_be_reused : ResponseHasLifetimeOrValidator (policy_of table.lines x.line) e.status e.fields
  pub fits : length e.content ≤ table.max_stored
  pub fits_the_store : IfSome table.max_store (λ most. weight_of_entry e ≤ most)
  pub leaves_room : head_leaves_room e.fields ≡ true

-- ---- what is taken away

-- a response that a 304 answers and freshens goes, unless it may be kept (RFC 9111, sections 3 and 4.3.4)
abbrev pub FreshenedIsRemovedUnlessItMayBeKept : Table → Exchange → ℕ → Response → Option Stored → List ℕ → Type 0
FreshenedIsRemovedUnlessItMayBeKept table x now r None gone = gone ≡ []
FreshenedIsRemovedUnlessItMayBeKept table x now r (Some e) gone =
    (FreshenedMayBeKept table x r (freshened_by_304 x r now e) → gone ≡ [])
    × ((FreshenedMayBeKept table x r (freshened_by_304 x r now e) → ⊥) → gone ≡ e.serial ∷ [])

-- all that is held for a key goes, where one is invalidated (section 4.4)
abbrev pub SerialsAreRemovedByInvalidationOr304 : Table → List Stored → Exchange → ℕ → Response → Option Key → List ℕ
    → Type 0
SerialsAreRemovedByInvalidationOr304 table held x now r (Some key) gone = gone ≡ serials_of_key key held
SerialsAreRemovedByInvalidationOr304 table held x now r None gone = FreshenedIsRemovedUnlessItMayBeKept table x now r
    (stored_response_validated_by_304 held x r now) gone

-- By an answer: where it is stored, those go that would answer the same request (section 4.1).
abbrev pub AnswerReplacesOrInvalidatesSerials : Table → List Stored → Exchange → ℕ → Response → Option ℕ → List ℕ
    → Type 0
AnswerReplacesOrInvalidatesSerials table held x now r (Some stored) gone =
    gone ≡ serials_replaced_by_storing held x.asked
AnswerReplacesOrInvalidatesSerials table held x now r None gone = SerialsAreRemovedByInvalidationOr304 table held x now
    r
    (key_invalidated_by_answer x.asked r) gone

-- a request that purges takes away all that is held within its scope, unless it says that it stays; no other event
-- takes anything away
abbrev pub OutcomeRemovesExactlyWhatItMust : Table → List Stored → Option Exchange → Event → Outcome → Type 0
OutcomeRemovesExactlyWhatItMust table held (Some x) (Answer now id r) outcome =
    AnswerReplacesOrInvalidatesSerials table held x now r
    (serial_stored_by_outcome outcome) (serials_removed_by_outcome outcome)
OutcomeRemovesExactlyWhatItMust table held None (Answer now id r) outcome = serials_removed_by_outcome outcome ≡ []
OutcomeRemovesExactlyWhatItMust table held x (Arrive now id asked) outcome = serials_removed_by_outcome outcome
    ≡ cond (request_purges table asked) (serials_purge_removes asked held) []
OutcomeRemovesExactlyWhatItMust table held x (Fail now id kind) outcome = serials_removed_by_outcome outcome ≡ []
OutcomeRemovesExactlyWhatItMust table held x (Wake now id) outcome = serials_removed_by_outcome outcome ≡ []
OutcomeRemovesExactlyWhatItMust table held x (Abandon id) outcome = serials_removed_by_outcome outcome ≡ []
OutcomeRemovesExactlyWhatItMust table held x (Overdue id) outcome = serials_removed_by_outcome outcome ≡ []

-- own: where it says so, that stays, and is expired; no other event expires anything ("A purge that expires")
abbrev pub OutcomeExpiresExactlyWhatItMust : Table → List Stored → Event → Outcome → Type 0
OutcomeExpiresExactlyWhatItMust table held (Arrive now id asked) outcome = expired_serials_if_any outcome
    ≡ cond (request_purges table asked) (serials_purge_expires asked held) None
OutcomeExpiresExactlyWhatItMust table held (Answer now id r) outcome = expired_serials_if_any outcome ≡ None
OutcomeExpiresExactlyWhatItMust table held (Fail now id kind) outcome = expired_serials_if_any outcome ≡ None
OutcomeExpiresExactlyWhatItMust table held (Wake now id) outcome = expired_serials_if_any outcome ≡ None
OutcomeExpiresExactlyWhatItMust table held (Abandon id) outcome = expired_serials_if_any outcome ≡ None
OutcomeExpiresExactlyWhatItMust table held (Overdue id) outcome = expired_serials_if_any outcome ≡ None

-- by the table an event purges
abbrev pub event_purges : Table → Event → Bool
event_purges table (Arrive now id asked) = request_purges table asked
event_purges table (Answer now id r) = false
event_purges table (Fail now id kind) = false
event_purges table (Wake now id) = false
event_purges table (Abandon id) = false
event_purges table (Overdue id) = false

-- ---- the statements

-- An answer that may be stored, and in whose place no stored response is sent, is stored, under the next serial.
abbrev pub AnswerIsStoredWhereItMayBe : Type 0
AnswerIsStoredWhereItMayBe =
    (table : Table) (start : StoreAtStart) (first now id : ℕ) (x : Exchange) (r : Response) (item : Item)
    (past : List Item) →
    IsGoodHistory table start first (item ∷ past) → item.event ≡ Answer now id r
    → find_exchange id (open_exchanges table start past) ≡ Some x →
    serial_used_by_outcome item.outcome ≡ None → AnswerMayBeStored table (next_serial first past) past x r now →
    serial_stored_by_outcome item.outcome ≡ next_serial first past

-- Nothing else is stored. That its status is final is known of each response that was read (law
-- `responses_read_are_final`).
abbrev pub OnlyWhatMayBeStoredIsStored : Type 0
OnlyWhatMayBeStoredIsStored = (table : Table) (start : StoreAtStart) (first s : ℕ) (item : Item) (past : List Item) →
    IsGoodHistory table start first (item ∷ past) → serial_stored_by_outcome item.outcome ≡ Some s
    → IsAnswerThatMayBeStored table start first item past

-- what an item takes away
abbrev pub ItemRemovesExactlyWhatItMust : Type 0
ItemRemovesExactlyWhatItMust =
    (table : Table) (start : StoreAtStart) (first : ℕ) (item : Item) (past : List Item)
    → IsGoodHistory table start first (item ∷ past) →
    OutcomeRemovesExactlyWhatItMust table (held_entries table start past)
    (find_exchange (exchange_id_of_event item.event) (open_exchanges table start past)) item.event item.outcome

-- an outcome is that of a purge exactly where the request purges
abbrev pub ItemPurgesWhereItsRequestPurges : Type 0
ItemPurgesWhereItsRequestPurges =
    (table : Table) (start : StoreAtStart) (first : ℕ) (item : Item) (past : List Item)
    → IsGoodHistory table start first (item ∷ past) →
    outcome_purges item.outcome ≡ event_purges table item.event

-- what an item expires
abbrev pub ItemExpiresExactlyWhatItMust : Type 0
ItemExpiresExactlyWhatItMust =
    (table : Table) (start : StoreAtStart) (first : ℕ) (item : Item) (past : List Item)
    → IsGoodHistory table start first (item ∷ past) →
    OutcomeExpiresExactlyWhatItMust table (held_entries table start past) item.event item.outcome

-- what the storing rules and the room of a head let be kept is what may be
abbrev pub FreshenedIsKeptWhereAllowed : Type 0
FreshenedIsKeptWhereAllowed = (table : Table) (x : Exchange) (r : Response) (e : Stored) →
    FreshenedMayBeKept table x r e → freshened_may_be_kept table x r e ≡ true

abbrev pub NothingElseFreshenedIsKept : Type 0
NothingElseFreshenedIsKept = (table : Table) (x : Exchange) (r : Response) (e : Stored) →
    freshened_may_be_kept table x r e ≡ true → FreshenedMayBeKept table x r e
