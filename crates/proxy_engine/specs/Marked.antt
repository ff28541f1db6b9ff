-- What is kept of the proxy's ends, and at which of them something may be due.
--
-- EndList, end_if_open_at, open_end_count: what contracts see of the connections and links
-- is_gone_with_exchange, connection_may_be_due, link_may_be_due: something may be due there
-- LookingAheadKeepsConnection, LinkAfterLookahead, ContentsOfPlacesAreRelated: what a look leaves
-- DiffersOnlyInSpareRoom: room was made or given back
-- NoOpenEndBelowHasFlag, NoOpenEndHasFlag: nothing may be due     NoEndIsOpenBeyond: nothing is kept beyond a count
-- link_of_disconnected_exchange_at, LookaheadShowsWhatIsDueOnLink, LookaheadShowsWhatIsDueOnConnection: something is
-- DisconnectedExchangesAreMarked: where a connection may be lost
use Rattle.std.specs.Prelude.{◌≡◌, ℕ, ◌+◌, ◌<◌, ◌≤◌, List, Bool, true, false, ◌&&◌, ◌||◌, not, Option, None, Some}
use Rattle.std.specs.Prelude.{is_some, if◌then◌else◌, slice_index_or, sum_by}
use Rattle.proxy_engine.specs.ReadyList.{ReadyPlaces, FlaggedPlacesAreMarked}
use Rattle.proxy_engine.specs.Activities.{link_place_of_activity, has_exchange}
use Rattle.proxy_engine.specs.Lookahead.{lookahead_may_be_due}
use Rattle.proxy_engine.specs.EngineModel.{ConnectionModel, LinkModel}
use Rattle.proxy_engine.specs.Due.{accepts_no_request, IsDueLinkResult, IsDueOnConnection}
use Rattle.proxy_engine.specs.State.{ConnectionRepresents, LinkRepresents, link_result_at, due_request_at}
use Rattle.proxy_engine.specs.State.{work_left_of_connection}
use Rattle.proxy_engine.specs.State.{work_left_of_link}
use Rattle.proxy_engine.specs.declared.endpoints.ends.Connection.{Connection}
use Rattle.proxy_engine.specs.declared.endpoints.ends.Link.{Link}

-- what is kept of each end in the order of their numbers: nothing of one that is over; and whether there is room for
-- one more
pub record EndList (A : Type 0) : Type 0 where
  pub items : List (Option A)
  pub has_room : Bool

-- the end at a place, if it isn't over
abbrev pub end_if_open_at : {A : Type 0} → List (Option A) → ℕ → Option A
end_if_open_at items i = slice_index_or items i None

-- how many aren't over
abbrev pub open_end_count : {A : Type 0} → List (Option A) → ℕ
open_end_count items = sum_by (λ o. if is_some o then 1 else 0) items

-- it is gone with an open exchange
abbrev pub is_gone_with_exchange : Connection → Bool
is_gone_with_exchange c = c.gone && has_exchange c.activity

-- no look has found that its stream asks for nothing
abbrev pub connection_may_be_due : Connection → Bool
connection_may_be_due c = not (accepts_no_request c.gone false c.activity) && lookahead_may_be_due c.reader.ahead

-- it has failed, or no look has found that no answer stands on it
abbrev pub link_may_be_due : Link → Bool
link_may_be_due k = lookahead_may_be_due k.reader.ahead || is_some k.failed

-- after a look: it represents the same models, and no more is to come
pub record LookingAheadKeepsConnection (old new : Connection) : Type 0 where
  pub represents : (s : ConnectionModel) → ConnectionRepresents (Some old) s → ConnectionRepresents (Some new) s
  pub gone : new.gone ≡ old.gone
  pub activity : new.activity ≡ old.activity
  pub load : work_left_of_connection (Some new) ≤ work_left_of_connection (Some old)

pub record LinkAfterLookahead (old new : Link) : Type 0 where
  pub represents : (s : LinkModel) → LinkRepresents (Some old) s → LinkRepresents (Some new) s
  pub connection : new.connection ≡ old.connection
  pub load : work_left_of_link (Some new) ≤ work_left_of_link (Some old)

-- room was made for bytes, or given back: it is alike, and as much may be due
pub record DiffersOnlyInSpareRoom {A : Type 0} (Alike : A → A → Type 0) (flag : A → Bool) (old new : A) : Type 0 where
  pub alike : Alike old new
  pub shows : flag new ≡ flag old

-- both have nothing, or R holds of what they have
abbrev pub OptionsAreRelated : {A : Type 0} → (A → A → Type 0) → Option A → Option A → Type 0
OptionsAreRelated R None None = Unit {0}
OptionsAreRelated R None (Some y) = ⊥
OptionsAreRelated R (Some x) None = ⊥
OptionsAreRelated R (Some x) (Some y) = R x y

-- at each place
abbrev pub ContentsOfPlacesAreRelated : {A : Type 0} → (A → A → Type 0) → (ℕ → Option A) → (ℕ → Option A) → Type 0
ContentsOfPlacesAreRelated R old new = (i : ℕ) → OptionsAreRelated R (old i) (new i)

-- nothing that is open below that place has the flag
abbrev pub NoOpenEndBelowHasFlag : {A : Type 0} → (A → Bool) → (ℕ → Option A) → ℕ → Type 0
NoOpenEndBelowHasFlag {A} flag end_at n = (j : ℕ) (x : A) → j < n → end_at j ≡ Some x → flag x ≡ false

-- nothing that is open has it
abbrev pub NoOpenEndHasFlag : {A : Type 0} → (A → Bool) → (ℕ → Option A) → Type 0
NoOpenEndHasFlag {A} flag end_at = (j : ℕ) (x : A) → end_at j ≡ Some x → flag x ≡ false

-- nothing is at a place beyond the count
abbrev pub NoEndIsOpenBeyond : {A : Type 0} → ℕ → (ℕ → Option A) → Type 0
NoEndIsOpenBeyond count end_at = (i : ℕ) → is_some (end_at i) ≡ true → i ≤ count

-- the connection is gone with an open exchange: its link, if its request went forward
abbrev pub link_of_disconnected_exchange_at : Option Connection → Option (Option ℕ)
link_of_disconnected_exchange_at None = None
link_of_disconnected_exchange_at (Some c) =
    if is_gone_with_exchange c then Some (link_place_of_activity c.activity) else None

-- a look has found something, and that is what is due there
abbrev pub LookaheadShowsWhatIsDue : {A B C : Type 0} → (Option A → B → Type 0) → (B → Option C → Type 0) →
    (Option A → Option C)
    → Option A → Type 0
LookaheadShowsWhatIsDue {A} {B} R P seen o = (is_some (seen o) ≡ true) × ((s : B) → R o s → P s (seen o))

abbrev pub LookaheadShowsWhatIsDueOnLink : Option Link → Type 0
LookaheadShowsWhatIsDueOnLink k = LookaheadShowsWhatIsDue LinkRepresents IsDueLinkResult link_result_at k

abbrev pub LookaheadShowsWhatIsDueOnConnection : Option Connection → Type 0
LookaheadShowsWhatIsDueOnConnection c = LookaheadShowsWhatIsDue ConnectionRepresents IsDueOnConnection due_request_at c

-- A connection that may be lost is at one of the places, and there is room for the marks of as many as aren't over, and
-- of one more where there is room for it.
pub record DisconnectedExchangesAreMarked (connections : EndList Connection) (kept : ReadyPlaces) : Type 0 where
  pub marked : FlaggedPlacesAreMarked is_gone_with_exchange (end_if_open_at connections.items)
      (open_end_count connections.items) kept
  pub next : connections.has_room ≡ true → open_end_count connections.items + 1 ≤ kept.room
