-- What an engine keeps, and which models it represents.
--
-- State: what contracts see of an engine
-- EngineRepresents: the models
-- EngineTakesHappening, IsFaultOfTakingHappening: a happening
-- link_result_at, due_request_at: what a look has found
-- IsFirstPlaceFoundDue, IsFirstDueLinkFound, IsFirstDueConnectionFound: the first place at which it found something
-- engine_work_left: a bound on the acts still to come
-- FirstDueActIfAnyWasDone, NoActWasDoneBecauseOf, EachActLeavesLessWork: what a call of work did, or why it did nothing
use Rattle.std.specs.Prelude.{◌≡◌, ℕ, ◌+◌, ◌*◌, ◌<◌, ◌≤◌, ◌^◌, List, [], ◌∷◌, length, sum_by, ◌&&◌, ◌||◌, not, Bool}
use Rattle.std.specs.Prelude.{true, false, Option, None, Some, slice_index_or, if◌then◌else◌}
use Rattle.std.specs.Option.{option_map}
use Rattle.hx_framing.specs.declared.messages.Request.{Request}
use Rattle.hx_framing.specs.declared.messages.Response.{Response}
use Rattle.hx_framing.specs.declared.messages.Next.{Next}
use Rattle.hx_framing.specs.declared.messages.Next.TheVariants as next
use Rattle.hx_status.specs.declared.cause.FailKind.{FailKind}
use Rattle.proxy_core.specs.State.{State as CoreState}
use Rattle.proxy_engine.specs.ConnectionNumbers.{link_number_of_place}
use Rattle.proxy_engine.specs.Activities.{has_exchange}
use Rattle.proxy_engine.specs.Happenings.{HappeningModel}
use Rattle.proxy_engine.specs.declared.endpoints.lookahead.Lookahead.{Lookahead}
use Rattle.proxy_engine.specs.declared.endpoints.lookahead.Lookahead.TheVariants.{Unknown, Quiet, Due}
use Rattle.proxy_engine.specs.Lookahead.{one_if_maybe_due}
use Rattle.proxy_engine.specs.PeekableReader.{RequestRepresents, ResponseRepresents, request_reader_work_left}
use Rattle.proxy_engine.specs.EngineModel.{EngineModel, ConnectionModel, LinkModel, no_connection, no_link}
use Rattle.proxy_engine.specs.EngineModel.{happening_fault}
use Rattle.proxy_engine.specs.EngineModel.{model_after_happening}
use Rattle.proxy_engine.specs.Due.{LinkResult, Breaks, link_result_of_next, due_request_action, accepts_no_request}
use Rattle.proxy_engine.specs.Due.{IsFirstAtWhich, IsDueLinkResult, IsDueOnConnection, Act}
use Rattle.proxy_engine.specs.Due.{IsFirstDueAct}
use Rattle.proxy_engine.specs.declared.endpoints.activities.Activity.{Activity}
use Rattle.proxy_engine.specs.declared.endpoints.activities.Activity.TheVariants.{Free, Forwarded, Waiting}
use Rattle.proxy_engine.specs.declared.endpoints.ends.Connection.{Connection}
use Rattle.proxy_engine.specs.declared.endpoints.ends.Link.{Link}
use Rattle.proxy_engine.specs.declared.work.EngineFault.{EngineFault}
use Rattle.proxy_engine.specs.declared.work.EngineFault.TheVariants.{WrongNumber, NotAccepted, OutOfMemory, Spent}
use Rattle.proxy_engine.specs.declared.work.EngineFault.TheVariants.{NotWaiting}
use Rattle.proxy_script.specs.declared.effect_list.Effect.{Effect}
use Rattle.proxy_engine.specs.declared.work.Work.{Work}
use Rattle.proxy_engine.specs.declared.work.Work.TheVariants as work
use Rattle.proxy_engine.specs.Acts.{ActIsDone, ActMayForward, next_link_number}

-- at the place of each connection and link what is kept of it: nothing of one that is over; and whether there is room
-- for one more connection
pub record State : Type 0 where
  pub connections : List (Option Connection)
  pub links : List (Option Link)
  pub core : CoreState
  pub first : ℕ
  pub room : Bool

-- part by part
abbrev pub ListsAreRelated : {A B : Type 0} → (A → B → Type 0) → List A → List B → Type 0
ListsAreRelated R [] [] = Unit {0}
ListsAreRelated R [] (y ∷ ys) = ⊥
ListsAreRelated R (x ∷ xs) [] = ⊥
ListsAreRelated R (x ∷ xs) (y ∷ ys) = R x y × ListsAreRelated R xs ys

-- a connection that isn't over
pub record ConnectionMatchesModel (c : Connection) (s : ConnectionModel) : Type 0 where
  pub reader : RequestRepresents c.reader s.progress
  pub ended : c.ended ≡ s.progress.ended
  pub gone : c.gone ≡ s.gone
  pub retired : c.retired ≡ s.retired
  pub activity : c.activity ≡ s.activity
  pub still : s.closed ≡ false
  pub used : s.gone ≡ true → has_exchange s.activity ≡ true

-- one that is over was closed by the proxy, or is gone, and has no open exchange: nothing is kept of it
abbrev pub ConnectionRepresents : Option Connection → ConnectionModel → Type 0
ConnectionRepresents None s = (s.gone || s.closed ≡ true) × (s.activity ≡ Free)
ConnectionRepresents (Some c) s = ConnectionMatchesModel c s

pub record LinkMatchesModel (k : Link) (s : LinkModel) : Type 0 where
  pub reader : ResponseRepresents k.reader s.progress
  pub ended : k.ended ≡ s.progress.ended
  pub failed : k.failed ≡ s.failed
  pub still : s.dropped ≡ false
  pub connection : k.connection ≡ s.connection

-- nothing is kept of a link that was dropped
abbrev pub LinkRepresents : Option Link → LinkModel → Type 0
LinkRepresents None s = s.dropped ≡ true
LinkRepresents (Some k) s = LinkMatchesModel k s

-- connections, links, a core and the number of the first link represent a model
pub record EnginePartsRepresentModel (cs : List (Option Connection)) (ks : List (Option Link)) (kept : CoreState)
    (number : ℕ)
    (s : EngineModel) : Type 0 where
  pub connections : ListsAreRelated ConnectionRepresents cs s.connections
  pub links : ListsAreRelated LinkRepresents ks s.links
  pub core : kept ≡ s.core
  pub first : number ≡ s.first
  pub numbers : link_number_of_place s.first (length s.links) ≤ 2 ^ 64

abbrev pub EngineRepresents : State → EngineModel → Type 0
EngineRepresents e s = EnginePartsRepresentModel e.connections e.links e.core e.first s

-- without room
abbrev pub engine_state_of_parts : List (Option Connection) → List (Option Link) → CoreState → ℕ → State
engine_state_of_parts connections links core first =
    record { connections = connections; links = links; core = core; first = first; room = false }

-- the happening was taken
pub record EnginePartsTakeHappening (s : EngineModel) (h : HappeningModel) (cs : List (Option Connection))
    (ks : List (Option Link))
    (kept : CoreState) (number : ℕ) : Type 0 where
  pub free : happening_fault s h ≡ None
  pub represents : EnginePartsRepresentModel cs ks kept number (model_after_happening s h)

abbrev pub EngineTakesHappening : EngineModel → HappeningModel → State → Type 0
EngineTakesHappening s h new = EnginePartsTakeHappening s h new.connections new.links new.core new.first

-- the refusal that stands, or out of memory where none does
abbrev pub IsFaultOrOutOfMemory : Option EngineFault → EngineFault → Type 0
IsFaultOrOutOfMemory None e = e ≡ OutOfMemory
IsFaultOrOutOfMemory (Some f) e = e ≡ f

abbrev pub IsFaultOfTakingHappening : EngineModel → HappeningModel → EngineFault → Type 0
IsFaultOfTakingHappening s h e = IsFaultOrOutOfMemory (happening_fault s h) e

-- ---- what is known of what is due, by the lookahead of a reader

abbrev pub link_result_of_lookahead : Lookahead Response → Option FailKind → Option LinkResult
link_result_of_lookahead Unknown kind = option_map Breaks kind
link_result_of_lookahead Quiet kind = option_map Breaks kind
link_result_of_lookahead (Due a) kind = link_result_of_next a kind

abbrev pub link_result_at : Option Link → Option LinkResult
link_result_at None = None
link_result_at (Some k) = link_result_of_lookahead k.reader.ahead k.failed

abbrev pub due_request_of_lookahead : Lookahead Request → Option (Next Request)
due_request_of_lookahead Unknown = None
due_request_of_lookahead Quiet = None
due_request_of_lookahead (Due a) = due_request_action a

abbrev pub due_request_at : Option Connection → Option (Next Request)
due_request_at None = None
due_request_at
    (Some c) = if accepts_no_request c.gone false c.activity then None else due_request_of_lookahead c.reader.ahead

-- it isn't gone, and has no open exchange
abbrev pub connection_is_open_and_idle : Option Connection → Bool
connection_is_open_and_idle None = false
connection_is_open_and_idle (Some c) = not (accepts_no_request c.gone false c.activity)

-- whether it is gone, where it isn't over
abbrev pub is_gone_if_connection : Option Connection → Option Bool
is_gone_if_connection None = None
is_gone_if_connection (Some c) = Some c.gone

-- whether it is to end
abbrev pub is_retired_connection : Option Connection → Bool
is_retired_connection None = false
is_retired_connection (Some c) = c.retired

-- no connection is gone with an open exchange
abbrev pub NoDisconnectedClientHasExchange : List (Option Connection) → Type 0
NoDisconnectedClientHasExchange cs = (i : ℕ) (c : Connection) → slice_index_or cs i None ≡ Some c → c.gone
    && has_exchange c.activity ≡ false

-- R: what is kept of an end stands for it     P: what is due at it     seen: what a look has found
-- something is seen at that place, and it is the first that is due, whatever the list stands for
pub record IsFirstDueFoundAt {A B C : Type 0} (R : Option A → B → Type 0) (P : B → Option C → Type 0) (d : B)
    (seen : Option A → Option C) (xs : List (Option A)) (i : ℕ) : Type 0 where
  pub due : C
  pub shown : seen (slice_index_or xs i None) ≡ Some due
  pub first : (ys : List B) → ListsAreRelated R xs ys → IsFirstAtWhich P d ys (Some (i, due))

-- the first place at which something is due, or that there is none
abbrev pub IsFirstPlaceFoundDue : {A B C : Type 0} → (Option A → B → Type 0) → (B → Option C → Type 0) → B →
    (Option A → Option C)
    → List (Option A) → Option ℕ → Type 0
IsFirstPlaceFoundDue {A} {B} R P d seen xs None = (ys : List B) → ListsAreRelated R xs ys → IsFirstAtWhich P d ys None
IsFirstPlaceFoundDue R P d seen xs (Some i) = IsFirstDueFoundAt R P d seen xs i

abbrev pub IsFirstDueLinkFound : List (Option Link) → Option ℕ → Type 0
IsFirstDueLinkFound ks r = IsFirstPlaceFoundDue LinkRepresents IsDueLinkResult no_link link_result_at ks r

abbrev pub IsFirstDueConnectionFound : List (Option Connection) → Option ℕ → Type 0
IsFirstDueConnectionFound cs r =
    IsFirstPlaceFoundDue ConnectionRepresents IsDueOnConnection no_connection due_request_at cs r

-- ---- how much is still to come

-- a message or a continue that is due
abbrev pub work_left_of_due_request : Option (Next Request) → ℕ
work_left_of_due_request None = 0
work_left_of_due_request (Some next.More) = 0
work_left_of_due_request (Some next.NeedsContinue) = 1
work_left_of_due_request (Some (next.Message m)) = 1
work_left_of_due_request (Some (next.Refused fault)) = 0
work_left_of_due_request (Some next.End) = 0

-- a request that waits is woken, and then may go forward
abbrev pub work_left_of_waiting : Activity → ℕ
work_left_of_waiting Free = 0
work_left_of_waiting (Forwarded place) = 0
work_left_of_waiting Waiting = 2

-- a message or a continue counts three, a connection that isn't over one, and one whose request waits two more
abbrev pub work_left_of_connection : Option Connection → ℕ
work_left_of_connection None = 0
work_left_of_connection (Some c) = 3 * request_reader_work_left c.reader + (1 + work_left_of_waiting c.activity)

-- an answer that may stand there counts one, and so does a failure
abbrev pub work_left_of_link_result : Lookahead Response → Option FailKind → ℕ
work_left_of_link_result ahead None = one_if_maybe_due ahead
work_left_of_link_result ahead (Some kind) = 1

-- a link that isn't dropped counts one, and what may stand on it one more: so a request that goes forward again leaves
-- less
abbrev pub work_left_of_link : Option Link → ℕ
work_left_of_link None = 0
work_left_of_link (Some k) = 1 + work_left_of_link_result k.reader.ahead k.failed

-- no more acts than this are due, one after another, while nothing is taken
abbrev pub engine_work_left : List (Option Connection) → List (Option Link) → ℕ
engine_work_left connections links = sum_by work_left_of_connection connections + sum_by work_left_of_link links

abbrev pub work_left_of_state : State → ℕ
work_left_of_state e = engine_work_left e.connections e.links

-- ---- what a call of work does

-- an engine that nothing has happened to
abbrev pub new_engine_model : CoreState → ℕ → EngineModel
new_engine_model core first = record { connections = []; links = []; core = core; first = first }

-- an act was done at this moment, with these effects
pub record EnginePartsDoAct (s : EngineModel) (now : ℕ) (act : Act) (effects : List Effect)
    (cs : List (Option Connection))
    (ks : List (Option Link)) (kept : CoreState) (number : ℕ) : Type 0 where
  pub after : EngineModel
  pub does : ActIsDone s now act effects after
  pub represents : EnginePartsRepresentModel cs ks kept number after

abbrev pub EngineDoesAct : EngineModel → ℕ → Act → List Effect → State → Type 0
EngineDoesAct s now act effects new = EnginePartsDoAct s now act effects new.connections new.links new.core new.first

-- the first act that was due was done at this moment, or none was due
abbrev pub FirstDueActIfAnyWasDone : EngineModel → ℕ → Work → State → Type 0
FirstDueActIfAnyWasDone s now work.Idle new = IsFirstDueAct s None × EngineRepresents new s
FirstDueActIfAnyWasDone s now (work.Did effects) new = (act : Act) × IsFirstDueAct s (Some act)
    × EngineDoesAct s now act effects.items new

-- no act was done: because memory ran out, or because the act that is due may need a link and no number is left
abbrev pub NoActWasDoneBecauseOf : EngineModel → EngineFault → Type 0
NoActWasDoneBecauseOf s WrongNumber = ⊥
NoActWasDoneBecauseOf s NotAccepted = ⊥
NoActWasDoneBecauseOf s NotWaiting = ⊥
NoActWasDoneBecauseOf s OutOfMemory = Unit {0}
NoActWasDoneBecauseOf s Spent = (act : Act) × IsFirstDueAct s (Some act) × ActMayForward act
    × (2 ^ 64 ≤ next_link_number s)

-- each act leaves less to do
abbrev pub EachActLeavesLessWork : State → Work → State → Type 0
EachActLeavesLessWork old work.Idle new = Unit {0}
EachActLeavesLessWork old (work.Did effects) new = work_left_of_state new < work_left_of_state old
