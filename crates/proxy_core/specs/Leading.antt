-- Which open exchange others wait for, and which may be woken.
--
-- exchange_went_forward_for_awaited: an exchange went forward for what a request could be sent
-- answer_may_be_shared_with, answer_may_serve: nothing that is known keeps its answer from that request
-- is_leader_for_request: the request waits for this exchange
-- leader: the first of these to arrive
-- waits_for, is_waiting: an exchange waits for another
-- wakeable_ids: the exchanges that may be woken, in the order of arrival
-- NoExchangeIsLeaderForRequest, IsFirstLeader: the same in words
use Rattle.std.specs.Prelude.{◌≡◌, ℕ, ◌==◌, ◌&&◌, ◌||◌, not, Bool, true, false, List, [], ◌∷◌, ◌++◌, Option, Some, None}
use Rattle.std.specs.Prelude.{cond, bytes_eq, codes, is_none}
use Rattle.std.specs.List.{AllByRecursion}
use Rattle.hx_fields.specs.FieldLines.{has_field as has_line}
use Rattle.hx_policy.specs.declared.words.Policy.{Policy}
use Rattle.hx_directives.specs.Occurrences.{occurrences_of}
use Rattle.hx_directives.specs.Answers.{directive_occurs as has_directive}
use Rattle.hx_directives.specs.declared.names.Directive.TheVariants.{NoStore}
use Rattle.hx_target.specs.Keys.{same_key}
use Rattle.hx_hop.specs.declared.request_view.Asked.{Asked}
use Rattle.hx_reuse.specs.Conditions.{forwards_client_condition}
use Rattle.hx_reuse.specs.FilledRanges.{forwards_range}
use Rattle.hx_reuse.specs.declared.rule.ReuseRule.{ReuseRule}
use Rattle.hx_reuse.specs.declared.rule.ReuseRule.TheVariants.{UriMiss}
use Rattle.proxy_core.specs.declared.open.stage.Stage.{Stage}
use Rattle.proxy_core.specs.declared.open.stage.Stage.TheVariants.{Forwarded, Waiting, Released}
use Rattle.proxy_core.specs.declared.open.awaited.Awaited.{Awaited}
use Rattle.proxy_core.specs.declared.open.awaited.Awaited.TheVariants.{Missing, Expired}
use Rattle.proxy_core.specs.declared.open.exchange.Exchange.{Exchange}

-- its request is at the origin
abbrev pub is_forwarded : Stage → Bool
is_forwarded Forwarded = true
is_forwarded (Waiting leader) = false
is_forwarded Released = false

-- it waits for the answer to another
abbrev pub is_waiting : Stage → Bool
is_waiting Forwarded = false
is_waiting (Waiting leader) = true
is_waiting Released = false

-- it may be woken
abbrev pub is_released : Stage → Bool
is_released Forwarded = false
is_released (Waiting leader) = false
is_released Released = true

-- it waits for the exchange of this id
abbrev pub waits_for : ℕ → Stage → Bool
waits_for id Forwarded = false
waits_for id (Waiting leader) = leader == id
waits_for id Released = false

abbrev pub is_get : Asked → Bool
is_get asked = bytes_eq asked.method (codes "GET")

-- nothing is held for the key of the request
abbrev pub is_uri_miss : ReuseRule → Bool
is_uri_miss UriMiss = true
is_uri_miss rule = false

abbrev pub has_authorization : Asked → Bool
has_authorization asked = has_line asked.fields (codes "Authorization")

-- its answer isn't stored (RFC 9111, section 5.2.1.5)
abbrev pub request_has_no_store : Asked → Bool
request_has_no_store asked = has_directive (occurrences_of asked.fields) NoStore

-- A condition of the client's own is at the origin (RFC 9110, sections 13.1.2 and 13.1.3): where the
-- proxy sends one, or keeps the client's, it takes the client's out. A 304 to it is for that client, and brings nothing
-- to store.
abbrev pub sends_clients_condition : Policy → Exchange → Bool
sends_clients_condition policy x = is_none x.condition && forwards_client_condition policy x.asked

abbrev pub option_names_serial : Option ℕ → ℕ → Bool
option_names_serial None serial = false
option_names_serial (Some named) serial = named == serial

-- The exchange went forward for this: nothing was held for its key, or its rule names that held
-- response, whichever rule that is. Whoever has a response validated freshens it for all (RFC 9111,
-- section 4.3.4).
abbrev pub exchange_went_forward_for_awaited : Awaited → Exchange → Bool
exchange_went_forward_for_awaited Missing x = is_uri_miss x.rule
exchange_went_forward_for_awaited (Expired serial) x = option_names_serial x.named serial

abbrev pub bools_are_equal : Bool → Bool → Bool
bools_are_equal a b = cond a b (not b)

-- Nothing that is known keeps the answer to the exchange from this request. It isn't stored where
-- the exchange has no-store (RFC 9111, section 5.2.1.5), where its key was invalidated since (section
-- 4.4), or where it may be a 304 to the client's own condition.
-- own: a request waits for one with Authorization exactly where it has Authorization, since nobody
-- knows yet whether the answer will be public (section 3.5)
abbrev pub answer_may_be_shared_with : Policy → Asked → Exchange → Bool
answer_may_be_shared_with policy asked x = not x.no_store
    && (not x.overtaken
    && (not (sends_clients_condition policy x) && bools_are_equal (has_authorization x.asked)
    (has_authorization asked)))

-- The answer to a range that went to the origin is for who asked for it alone (RFC 9110, section 14.2), but a range
-- that is filled is asked for as the whole is; what else may keep the answer back is looked at over a line with the
-- word.
abbrev pub answer_may_serve : Policy → Asked → Exchange → Bool
answer_may_serve policy asked x =
    not (forwards_range policy x.asked) && (not policy.waits_for_stale || answer_may_be_shared_with policy asked x)

-- A GET for the key of this request went forward for what it could be sent, and isn't answered yet. A
-- response "that is stored or storable" may "satisfy multiple requests", so a cache may "collapse
-- requests" (RFC 9111, section 4).
-- own: over a line without the word nothing more is asked
abbrev pub is_leader_for_request : Policy → Awaited → Asked → Exchange → Bool
is_leader_for_request policy awaited asked x =
    same_key x.asked.target.key asked.target.key
    && (is_get x.asked
    && (is_forwarded x.stage && (exchange_went_forward_for_awaited awaited x && answer_may_serve policy asked x)))

-- of those the first to arrive
abbrev pub leader : Policy → Awaited → Asked → List Exchange → Option ℕ
leader policy awaited asked [] = None
leader policy awaited asked (x ∷ xs) =
    cond (is_leader_for_request policy awaited asked x) (Some x.id) (leader policy awaited asked xs)

-- where there is something that the request could be sent
abbrev pub leader_id_if_awaited : Policy → Asked → List Exchange → Option Awaited → Option ℕ
leader_id_if_awaited policy asked xs None = None
leader_id_if_awaited policy asked xs (Some awaited) = leader policy awaited asked xs

-- the ids of the exchanges that may be woken, in the order of arrival
abbrev pub wakeable_ids : List Exchange → List ℕ
wakeable_ids [] = []
wakeable_ids (x ∷ xs) = cond (is_released x.stage) (x.id ∷ wakeable_ids xs) (wakeable_ids xs)

-- none of these leads
abbrev pub NoExchangeIsLeaderForRequest : Policy → Awaited → Asked → List Exchange → Type 0
NoExchangeIsLeaderForRequest policy awaited asked xs =
    AllByRecursion (λ (x : Exchange). is_leader_for_request policy awaited asked x ≡ false) xs

-- of the open exchanges, which stand in the order of arrival, the first GET of this request's key
-- that went forward for what it could be sent
pub record IsFirstLeader (policy : Policy) (awaited : Awaited) (asked : Asked) (xs : List Exchange)
    (leader : ℕ) : Type 0 where
  pub before : List Exchange
  pub x : Exchange
  pub behind : List Exchange
  pub open_exchanges_are : xs ≡ before ++ x ∷ behind
  pub id : x.id ≡ leader
  pub it_leads : is_leader_for_request policy awaited asked x ≡ true
  pub none_before : NoExchangeIsLeaderForRequest policy awaited asked before
