-- What each act does: its effects, and the model behind it.
--
-- OutcomeOnConnection: an outcome of the core, on a connection
-- effects_of_outcome, model_after_outcome: its effects there, and the model behind it
-- ActIsDone: an act was done                             ActMayForward: an act that may need a link
use Rattle.std.specs.Prelude.{◌≡◌, ℕ, ◌<◌, ◌^◌, List, [], ◌∷◌, ◌++◌, length, Bool, true, false, ◌||◌, Option}
use Rattle.std.specs.Prelude.{None, Some, if◌then◌else◌, slice_set, Result, Ok, Err, unwrap_or}
use Rattle.std.specs.Option.{option_map}
use Rattle.std.specs.declared.net.socket_addr.SocketAddrV4.{SocketAddrV4}
use Rattle.hx_framing.specs.declared.messages.Request.{Request}
use Rattle.hx_framing.specs.declared.frame_fault.FrameFault.TheVariants as frame
use Rattle.hx_framing.specs.declared.messages.Next.{Next}
use Rattle.hx_framing.specs.declared.messages.Next.TheVariants as next
use Rattle.hx_framing.specs.Progress.{progress_after_answer}
use Rattle.hx_framing.specs.Text.{continue_text}
use Rattle.hx_hop.specs.declared.request_view.Asked.{Asked}
use Rattle.hx_allow.specs.TableLines.{Table}
use Rattle.hx_allow.specs.Addresses.{address_of_numbers}
use Rattle.hx_allow.specs.Matching.{origin_address_of}
use Rattle.hx_allow.specs.declared.verdicts.RouteOverLine.{RouteOverLine}
use Rattle.proxy_core.specs.Abouts.{report_of_refusal_reply}
use Rattle.hx_status.specs.declared.about.StatusAndReason.{StatusAndReason}
use Rattle.hx_status.specs.declared.question.MethodAndTarget.{MethodAndTarget}
use Rattle.hx_status.specs.declared.cause.Cause.{Cause}
use Rattle.hx_status.specs.declared.cause.Cause.TheVariants as cause
use Rattle.hx_hop.specs.Moments.{date_text_of}
use Rattle.proxy_core.specs.Replies.{refusal_reply_text, is_head}
use Rattle.proxy_core.specs.AnsweredRequests.{request_of_exchange}
use Rattle.proxy_core.specs.Outcomes.{find_exchange}
use Rattle.proxy_core.specs.State.{State as CoreState, StepIsAccepted}
use Rattle.proxy_core.specs.declared.outcome.Outcome.{Outcome}
use Rattle.proxy_core.specs.declared.outcome.Outcome.TheVariants as outcomes
use Rattle.proxy_core.specs.declared.event.Event.{Event}
use Rattle.proxy_core.specs.declared.event.Event.TheVariants as events
use Rattle.proxy_script.specs.declared.effect_list.Effect.{Effect}
use Rattle.proxy_script.specs.declared.effect_list.Effect.TheVariants as effects
use Rattle.proxy_engine.specs.ConnectionNumbers.{connection_number_of_place, link_number_of_place}
use Rattle.proxy_engine.specs.Questions.{question_of_request, question_with_raw_target}
use Rattle.proxy_engine.specs.Admitted.{Refusal, RequestIsAdmittedOrRefused, asked_closing_if_retired}
use Rattle.proxy_engine.specs.EngineModel.{EngineModel, ConnectionModel, LinkModel, new_link_model, connection_at}
use Rattle.proxy_engine.specs.EngineModel.{link_at}
use Rattle.proxy_engine.specs.EngineModel.{with_changed_connection, with_changed_link, model_with_core}
use Rattle.proxy_engine.specs.Due.{LinkResult, Gives, Breaks, Act, Abandons, Finishes, Wakes, Serves}
use Rattle.proxy_engine.specs.declared.endpoints.activities.Activity.{Activity}
use Rattle.proxy_engine.specs.declared.endpoints.activities.Activity.TheVariants.{Free, Forwarded, Waiting}

-- an answer to the client and what it is, a request to the origin at an address, a request that waits, or nothing
pub data OutcomeOnConnection : Type 0 where
  Replies : (bytes : List ℕ) (about : StatusAndReason) (close : Bool) → OutcomeOnConnection
  Forwards : (address : SocketAddrV4) (bytes : List ℕ) → OutcomeOnConnection
  Queues : OutcomeOnConnection
  Nothing : OutcomeOnConnection

-- the address of the origin of a line; 0.0.0.0:0 of one that has none, by which no request comes
abbrev pub origin_address_of_line : Table → RouteOverLine → SocketAddrV4
origin_address_of_line table line = unwrap_or (origin_address_of table.lines line.number) (address_of_numbers 0 0 0 0 0)

-- an outcome by this table
abbrev pub outcome_with_origin_address : Table → Outcome → OutcomeOnConnection
outcome_with_origin_address table (outcomes.Reply r) = Replies r.bytes r.about r.close
outcome_with_origin_address table (outcomes.Forward line bytes) = Forwards (origin_address_of_line table line) bytes
outcome_with_origin_address table (outcomes.Waits leader) = Queues
outcome_with_origin_address table outcomes.Ended = Nothing
outcome_with_origin_address table outcomes.WaitsNoMore = Nothing

abbrev pub connection_with_closed : Bool → ConnectionModel → ConnectionModel
connection_with_closed close c = record c { closed = c.closed || close }

abbrev pub connection_with_activity : Activity → ConnectionModel → ConnectionModel
connection_with_activity activity c = record c { activity = activity }

abbrev pub connection_with_due_answer_used : Next Request → ConnectionModel → ConnectionModel
connection_with_due_answer_used a c = record c { progress = progress_after_answer c.progress a }

abbrev pub link_model_dropped : LinkModel → LinkModel
link_model_dropped k = record k { dropped = true }

-- the link at j is dropped, and the connection at i is free
abbrev pub model_after_link_freed : EngineModel → ℕ → ℕ → EngineModel
model_after_link_freed s j i =
    with_changed_connection (with_changed_link s j link_model_dropped) i (connection_with_activity Free)

-- the exchange of the connection at i ends: its link is dropped, if it has one
abbrev pub model_after_exchange_ends : EngineModel → Option ℕ → ℕ → EngineModel
model_after_exchange_ends s (Some j) i = model_after_link_freed s j i
model_after_exchange_ends s None i = with_changed_connection s i (connection_with_activity Free)

-- which is told
abbrev pub effects_of_link_drop : ℕ → Option ℕ → List Effect
effects_of_link_drop first (Some l) = effects.Drop (link_number_of_place first l) ∷ []
effects_of_link_drop first None = []

-- a link is opened for the connection at i; it answers a HEAD or not
abbrev pub model_with_opened_link : EngineModel → ℕ → Bool → EngineModel
model_with_opened_link s i to_head = record {
  connections = slice_set s.connections i (connection_with_activity (Forwarded (length s.links)) (connection_at s i));
  links = s.links ++ new_link_model s.core.table.max_body to_head i ∷ [];
  core = s.core;
  first = s.first;
}

-- the request of a step is a HEAD
abbrev pub request_is_head : Option Asked → Bool
request_is_head None = false
request_is_head (Some asked) = is_head asked

-- for the connection at i; the next link has this number, and a reply answers this question
abbrev pub effects_of_outcome : ℕ → ℕ → Option MethodAndTarget → OutcomeOnConnection → List Effect
effects_of_outcome i number question (Replies bytes about close) =
    effects.Client (connection_number_of_place i) bytes (Some (record { about = about; question = question }))
    ∷ (if close then effects.Close (connection_number_of_place i) ∷ [] else [])
effects_of_outcome i number question (Forwards address bytes) = effects.Forward number address bytes ∷ []
effects_of_outcome i number question Queues = []
effects_of_outcome i number question Nothing = []

abbrev pub model_after_outcome : ℕ → Bool → OutcomeOnConnection → EngineModel → EngineModel
model_after_outcome i to_head (Replies bytes about close) s = with_changed_connection s i (connection_with_closed close)
model_after_outcome i to_head (Forwards address bytes) s = model_with_opened_link s i to_head
model_after_outcome i to_head Queues s = with_changed_connection s i (connection_with_activity Waiting)
model_after_outcome i to_head Nothing s = s

-- the number of the next link
abbrev pub next_link_number : EngineModel → ℕ
next_link_number s = link_number_of_place s.first (length s.links)

-- The core was stepped by this event, on the connection at i, for this request, or for none that may be answered;
-- before that the model was t, with s's core and links. A reply answers the request, and a link that is opened answers
-- a HEAD where it is one; the effects `before` come first.
pub record CoreIsStepped (s t : EngineModel) (i : ℕ) (asked : Option Asked) (event : Event)
    (before emitted : List Effect)
    (after : EngineModel) : Type 0 where
  pub outcome : Outcome
  pub core : CoreState
  pub steps : StepIsAccepted s.core event outcome core
  pub emitted_is : emitted ≡ before
      ++ effects_of_outcome i (next_link_number s) (option_map question_of_request asked)
      (outcome_with_origin_address s.core.table outcome)
  pub after_is : after
      ≡ model_after_outcome i (request_is_head asked) (outcome_with_origin_address s.core.table outcome)
      (model_with_core t core)

-- the proxy answers this question by itself, and closes
pub record RequestIsRefusedAndClosed (s : EngineModel) (now i : ℕ) (why : Cause) (head : Bool)
    (question : Option MethodAndTarget)
    (emitted : List Effect)
    (after : EngineModel) : Type 0 where
  pub emitted_is : emitted
      ≡ effects.Client (connection_number_of_place i) (refusal_reply_text (date_text_of now) why true head)
      (Some (record { about = report_of_refusal_reply why head; question = question }))
      ∷ effects.Close (connection_number_of_place i)
      ∷ []
  pub after_is : after ≡ with_changed_connection s i (connection_with_closed true)

abbrev pub ConnectionIsClosedWithEffect : EngineModel → ℕ → List Effect → EngineModel → Type 0
ConnectionIsClosedWithEffect s i emitted after =
    (emitted ≡ effects.Close (connection_number_of_place i) ∷ [])
    × (after ≡ with_changed_connection s i (connection_with_closed true))

-- a request arrives at the core, or is refused
abbrev pub RequestArrivesOrIsRefused : EngineModel → ℕ → ℕ → Request → Result Asked Refusal → List Effect → EngineModel
    → Type 0
RequestArrivesOrIsRefused s now i r (Ok asked) emitted after =
    (next_link_number s < 2 ^ 64)
    × CoreIsStepped s (with_changed_connection s i (connection_with_due_answer_used (next.Message r))) i
    (Some (asked_closing_if_retired (connection_at s i).retired asked))
    (events.Arrive now (connection_number_of_place i) (asked_closing_if_retired (connection_at s i).retired asked)) []
    emitted after
RequestArrivesOrIsRefused s now i r (Err refusal) emitted after =
    RequestIsRefusedAndClosed s now i refusal.why refusal.head (Some (question_with_raw_target r)) emitted after

-- what a client's stream asks for is done
abbrev pub ConnectionRequestIsServed : EngineModel → ℕ → ℕ → Next Request → List Effect → EngineModel → Type 0
ConnectionRequestIsServed s now i next.More emitted after = ⊥
ConnectionRequestIsServed s now i next.NeedsContinue emitted after =
    (emitted ≡ effects.Client (connection_number_of_place i) continue_text None ∷ [])
    × (after ≡ with_changed_connection s i (connection_with_due_answer_used next.NeedsContinue))
ConnectionRequestIsServed s now i (next.Message r) emitted after =
    (judged : Result Asked Refusal) × RequestIsAdmittedOrRefused r judged
    × RequestArrivesOrIsRefused s now i r judged emitted after
ConnectionRequestIsServed s now i
    (next.Refused frame.Truncated) emitted after = ConnectionIsClosedWithEffect s i emitted after
ConnectionRequestIsServed s now i (next.Refused frame.Head) emitted after = RequestIsRefusedAndClosed s now i
    (cause.Frame frame.Head) false None emitted after
ConnectionRequestIsServed s now i (next.Refused frame.Version) emitted after =
    RequestIsRefusedAndClosed s now i (cause.Frame frame.Version) false None emitted after
ConnectionRequestIsServed s now i (next.Refused frame.BothLengths) emitted after =
    RequestIsRefusedAndClosed s now i (cause.Frame frame.BothLengths) false None emitted after
ConnectionRequestIsServed s now i (next.Refused frame.Length) emitted after =
    RequestIsRefusedAndClosed s now i (cause.Frame frame.Length) false None emitted after
ConnectionRequestIsServed s now i (next.Refused frame.Coding) emitted after =
    RequestIsRefusedAndClosed s now i (cause.Frame frame.Coding) false None emitted after
ConnectionRequestIsServed s now i (next.Refused frame.Chunk) emitted after = RequestIsRefusedAndClosed s now i
    (cause.Frame frame.Chunk) false None emitted after
ConnectionRequestIsServed s now i (next.Refused frame.TooLarge) emitted after =
    RequestIsRefusedAndClosed s now i (cause.Frame frame.TooLarge) false None emitted after
ConnectionRequestIsServed s now i (next.Refused frame.Expect) emitted after =
    RequestIsRefusedAndClosed s now i (cause.Frame frame.Expect) false None emitted after
ConnectionRequestIsServed s now i (next.Refused frame.Status) emitted after =
    RequestIsRefusedAndClosed s now i (cause.Frame frame.Status) false None emitted after
ConnectionRequestIsServed s now i next.End emitted after = ConnectionIsClosedWithEffect s i emitted after

-- the exchange on the link at j, of the connection at i, is finished
abbrev pub ExchangeOnLinkIsFinished : EngineModel → ℕ → ℕ → ℕ → LinkResult → List Effect → EngineModel → Type 0
ExchangeOnLinkIsFinished s now j i (Gives r) emitted after =
    (next_link_number s < 2 ^ 64) × CoreIsStepped s (model_after_link_freed s j i) i
    (request_of_exchange (find_exchange (connection_number_of_place i) s.core.exchanges))
    (events.Answer now (connection_number_of_place i) r)
    (effects.Drop (link_number_of_place s.first j) ∷ []) emitted after
ExchangeOnLinkIsFinished s now j i (Breaks kind) emitted after =
    CoreIsStepped s (model_after_link_freed s j i) i
    (request_of_exchange (find_exchange (connection_number_of_place i) s.core.exchanges))
    (events.Fail now (connection_number_of_place i) kind)
    (effects.Drop (link_number_of_place s.first j) ∷ []) emitted after

-- the request of the connection at i waited, and is judged anew
abbrev pub RequestIsWoken : EngineModel → ℕ → ℕ → List Effect → EngineModel → Type 0
RequestIsWoken s now i emitted after =
    (next_link_number s < 2 ^ 64) × CoreIsStepped s (with_changed_connection s i (connection_with_activity Free)) i
    (request_of_exchange (find_exchange (connection_number_of_place i) s.core.exchanges))
    (events.Wake now (connection_number_of_place i)) []
    emitted after

-- an act was done, with these effects
abbrev pub ActIsDone : EngineModel → ℕ → Act → List Effect → EngineModel → Type 0
ActIsDone s now (Abandons i l) emitted after =
    CoreIsStepped s (model_after_exchange_ends s l i) i None (events.Abandon (connection_number_of_place i))
    (effects_of_link_drop s.first l) emitted after
ActIsDone s now (Finishes j finish) emitted after = ExchangeOnLinkIsFinished s now j
    (link_at s j).connection finish emitted after
ActIsDone s now (Wakes i) emitted after = RequestIsWoken s now i emitted after
ActIsDone s now (Serves i action) emitted after = ConnectionRequestIsServed s now i action emitted after

-- an arrival, an answer or a wake, which may go forward
abbrev pub ActMayForward : Act → Type 0
ActMayForward (Abandons i l) = ⊥
ActMayForward (Finishes j (Gives r)) = Unit {0}
ActMayForward (Finishes j (Breaks kind)) = ⊥
ActMayForward (Wakes i) = Unit {0}
ActMayForward (Serves i (next.Message r)) = (asked : Asked) × RequestIsAdmittedOrRefused r (Ok asked)
ActMayForward (Serves i next.More) = ⊥
ActMayForward (Serves i next.NeedsContinue) = ⊥
ActMayForward (Serves i (next.Refused fault)) = ⊥
ActMayForward (Serves i next.End) = ⊥
