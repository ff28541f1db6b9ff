-- What an answer names that isn't a stored response: the first rule against one (RFC 9111, section
-- 4; RFC 5861, section 4; RFC 9211).
--
-- ArrivalAnswerNamesItsCause: the line of the table that denies, that none allows, the rule where only-if-cached
-- stands,
-- the line that refuses a loop, or a purge
-- FailureAnswerNamesItsCause: why nothing is sent in place of an error
-- PassedAnswerNamesItsRule: of an answer that is passed on, the one it has kept
-- AnswerNamesFirstRule: of an item
-- EachAnswerNotFromStoreNamesFirstRule: of each item of a good trace
use Rattle.std.specs.Prelude.{◌≡◌, ◌⊎◌, ℕ, true, false, List, ◌∷◌, Option, Some, None, is_some, length}
use Rattle.hx_policy.specs.declared.words.Policy.{Policy}
use Rattle.hx_directives.specs.Occurrences.{occurrences_of}
use Rattle.hx_framing.specs.declared.messages.Response.{Response}
use Rattle.hx_hop.specs.declared.request_view.Asked.{Asked}
use Rattle.hx_hop.specs.Moments.{date_text_of}
use Rattle.hx_allow.specs.TableLines.{Table}
use Rattle.hx_allow.specs.Matching.{policy_of}
use Rattle.proxy_core.specs.Allowing.{verdict_of_asked}
use Rattle.hx_allow.specs.declared.verdicts.Verdict.TheVariants.{Allowed, DeniedBy, NoLine as Unmatched}
use Rattle.hx_allow.specs.declared.verdicts.Verdict.TheVariants as verdict
use Rattle.hx_allow.specs.declared.verdicts.RouteOverLine.{RouteOverLine}
use Rattle.hx_store.specs.Stored.{Stored}
use Rattle.hx_reuse.specs.Chosen.{chosen_of}
use Rattle.hx_reuse.specs.Rules.{is_rule_on_chosen}
use Rattle.hx_reuse.specs.ChosenAndNamed.{IsLeastReuseRule}
use Rattle.hx_reuse.specs.OnError.{IsLeastErrorRule}
use Rattle.hx_reuse.specs.declared.rule.ReuseRule.{ReuseRule}
use Rattle.hx_reuse.specs.declared.rule.ErrorRule.{ErrorRule}
use Rattle.hx_status.specs.declared.cause.FailKind.{FailKind}
use Rattle.hx_status.specs.declared.cause.FailKind.TheVariants.{BadAnswer}
use Rattle.hx_status.specs.declared.cause.Cause.TheVariants.{Denied, NoLine, Looped, OnlyIfCached, Origin}
use Rattle.proxy_core.specs.declared.open.exchange.Exchange.{Exchange}
use Rattle.proxy_core.specs.declared.outcome.Outcome.{Outcome}
use Rattle.proxy_core.specs.declared.outcome.Outcome.TheVariants.{Reply, Forward, Waits, Ended, WaitsNoMore}
use Rattle.proxy_core.specs.declared.event.Event.{Event}
use Rattle.proxy_core.specs.declared.event.Event.TheVariants.{Arrive, Answer, Fail, Wake, Abandon, Overdue}
use Rattle.proxy_core.specs.Scopes.{serials_purged_by_request}
use Rattle.proxy_core.specs.Replies.{passed_answer_text, refusal_reply_text, purge_reply_text, is_head}
use Rattle.proxy_core.specs.Storing.{is_304_without_condition, storing_rule_to_explain}
use Rattle.proxy_core.specs.Outcomes.{find_exchange, exchange_id_of_event, is_only_if_cached}
use Rattle.proxy_core.specs.Traces.{Item}
use Rattle.proxy_core.specs.Histories.{held_entries, open_exchanges, next_serial, IsGoodHistory}
use Rattle.proxy_core.specs.Promises.{reply_uses_no_stored_response}
use Rattle.proxy_core.specs.Carrying.{RuleWasLeastWhenJudged}
use Rattle.proxy_core.specs.Starts.{StoreAtStart}

-- To a request that arrives the proxy answers by itself alone: the line of the table that denies
-- it; that none matches; the least reuse rule that stands, where the request takes no response
-- but a stored one; the line that refuses its loop; or a purge, where the line purges, by how many
-- went.
abbrev pub ArrivalAnswerNamesItsCause : Table → List Stored → ℕ → Asked → List ℕ → Type 0
ArrivalAnswerNamesItsCause table held now asked bytes =
    ((line : ℕ) × (verdict_of_asked table asked ≡ DeniedBy line)
    × (bytes ≡ refusal_reply_text (date_text_of now) (Denied line) asked.close (is_head asked)))
    ⊎ (((verdict_of_asked table asked ≡ Unmatched)
    × (bytes ≡ refusal_reply_text (date_text_of now) NoLine asked.close (is_head asked)))
    ⊎ (((line : RouteOverLine) × (rule : ReuseRule) × (verdict_of_asked table asked ≡ Allowed line)
    × (is_only_if_cached asked ≡ true) × IsLeastReuseRule (policy_of table.lines line) held asked now rule
    × (bytes ≡ refusal_reply_text (date_text_of now) (OnlyIfCached rule) asked.close (is_head asked)))
    ⊎ (((line : ℕ) × (verdict_of_asked table asked ≡ verdict.Looped line)
    × (bytes ≡ refusal_reply_text (date_text_of now) (Looped line) asked.close (is_head asked)))
    ⊎ ((line : ℕ) × (verdict_of_asked table asked ≡ verdict.Purged line)
    × (bytes ≡ purge_reply_text (date_text_of now) (length (serials_purged_by_request asked held)) asked.close)))))

-- beside a reuse rule against the chosen response: the least rule against sending it in place of an error
abbrev pub RuleOnChosenNamesErrorRule : Policy → List Stored → ℕ → Asked → ReuseRule → Option ErrorRule → Type 0
RuleOnChosenNamesErrorRule policy held now asked rule error =
    ((is_rule_on_chosen rule ≡ false) × (error ≡ None))
    ⊎ ((is_rule_on_chosen rule ≡ true)
    × ((response : Stored) × (least : ErrorRule) × (chosen_of held asked ≡ Some response)
    × IsLeastErrorRule policy response (occurrences_of asked.fields) now least × (error ≡ Some least)))

-- after a failure: its kind, the least reuse rule that stands now, and that rule
abbrev pub FailureAnswerNamesItsCause : Table → List Stored → ℕ → Exchange → FailKind → List ℕ → Type 0
FailureAnswerNamesItsCause table held now x kind bytes =
    (rule : ReuseRule) ×
    (error : Option ErrorRule) × IsLeastReuseRule (policy_of table.lines x.line) held x.asked now rule
    × RuleOnChosenNamesErrorRule (policy_of table.lines x.line) held now x.asked rule error
    × (bytes ≡ refusal_reply_text (date_text_of now) (Origin kind rule error) x.asked.close (is_head x.asked))

-- an answer that is passed on: the least rule that stood when its request was judged, at its
-- arrival or when it was woken, which its exchange has kept, in Cache-Status; and where its line
-- tells it the first storing rule against it, by the next serial
abbrev pub PassedAnswerNamesItsRule : Table → StoreAtStart → List Item → Option ℕ → ℕ → Exchange → Response → List ℕ
    → Option ℕ
    → Type 0
PassedAnswerNamesItsRule table start past next now x r bytes stored =
    RuleWasLeastWhenJudged table start x past × (bytes
    ≡ passed_answer_text
    (policy_of table.lines x.line) table.name x r now (is_some stored) (storing_rule_to_explain table x r now next))

-- by its event and the exchange that it is of; a 304 that nobody asked for is a failure
abbrev pub AnswerNamesItsRule : Table → StoreAtStart → List Item → Option ℕ → Option Exchange → Event → List ℕ
    → Option ℕ → Type 0
AnswerNamesItsRule table start past next x (Arrive now id asked) bytes stored =
    ArrivalAnswerNamesItsCause table (held_entries table start past) now asked bytes
AnswerNamesItsRule table start past next (Some x) (Answer now id r) bytes stored =
    ((is_304_without_condition (policy_of table.lines x.line) x.asked r ≡ false)
    × PassedAnswerNamesItsRule table start past next now x r bytes stored)
    ⊎ ((is_304_without_condition (policy_of table.lines x.line) x.asked r ≡ true) × FailureAnswerNamesItsCause table
    (held_entries table start past) now x BadAnswer bytes)
AnswerNamesItsRule table start past next (Some x) (Fail now id kind) bytes stored =
    FailureAnswerNamesItsCause table (held_entries table start past) now x kind bytes
AnswerNamesItsRule table start past next (Some x) (Wake now id) bytes stored = ⊥
AnswerNamesItsRule table start past next None (Answer now id r) bytes stored = ⊥
AnswerNamesItsRule table start past next None (Fail now id kind) bytes stored = ⊥
AnswerNamesItsRule table start past next None (Wake now id) bytes stored = ⊥
AnswerNamesItsRule table start past next x (Abandon id) bytes stored = ⊥
AnswerNamesItsRule table start past next x (Overdue id) bytes stored = ⊥

-- an item whose reply is no stored response, behind those before it
abbrev pub AnswerNamesFirstRule : Table → StoreAtStart → List Item → Option ℕ → Option Exchange → Event → Outcome
    → Type 0
AnswerNamesFirstRule table start past next x event (Reply r) =
    reply_uses_no_stored_response (Reply r) ≡ true → AnswerNamesItsRule table start past next x event r.bytes r.stored
AnswerNamesFirstRule table start past next x event (Forward line bytes) = Unit {0}
AnswerNamesFirstRule table start past next x event (Waits leader) = Unit {0}
AnswerNamesFirstRule table start past next x event Ended = Unit {0}
AnswerNamesFirstRule table start past next x event WaitsNoMore = Unit {0}

-- ---- the statement

-- Each answer that isn't a stored response names the first rule against one, over what was held and open before it.
abbrev pub EachAnswerNotFromStoreNamesFirstRule : Type 0
EachAnswerNotFromStoreNamesFirstRule =
    (table : Table) (start : StoreAtStart) (first : ℕ) (item : Item) (past : List Item)
    → IsGoodHistory table start first (item ∷ past) →
    AnswerNamesFirstRule table start past (next_serial first past)
    (find_exchange (exchange_id_of_event item.event) (open_exchanges table start past)) item.event item.outcome
