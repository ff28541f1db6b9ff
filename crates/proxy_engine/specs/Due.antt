-- What is due at the ends of the proxy, and which act is due first.
--
-- LinkResult, link_result_of_next: what stands on a link
-- IsGoneWhileBusy, IsDueLinkResult, IsDueOnConnection: what is due at one end
-- first_wakeable_id: the first request that may be woken      Act, IsFirstDueAct: the first act that is due, or that
-- none
-- is
use Rattle.std.specs.Prelude.{◌≡◌, ℕ, ◌<◌, List, length, Bool, true, false, ◌||◌, Option, None, Some, if◌then◌else◌}
use Rattle.std.specs.Prelude.{slice_index_or, ◌&&◌, slice_get}
use Rattle.std.specs.Option.{option_map}
use Rattle.hx_framing.specs.declared.messages.Request.{Request}
use Rattle.hx_framing.specs.declared.messages.Response.{Response}
use Rattle.hx_framing.specs.declared.frame_fault.FrameFault.{FrameFault}
use Rattle.hx_framing.specs.declared.frame_fault.FrameFault.TheVariants as frame
use Rattle.hx_framing.specs.declared.messages.Next.{Next}
use Rattle.hx_framing.specs.declared.messages.Next.TheVariants as next
use Rattle.hx_framing.specs.RequestStream.{Answers as RequestAnswers}
use Rattle.hx_framing.specs.ResponseStream.{Answers as ResponseAnswers}
use Rattle.hx_status.specs.declared.cause.FailKind.{FailKind}
use Rattle.hx_status.specs.declared.cause.FailKind.TheVariants as kinds
use Rattle.proxy_engine.specs.ConnectionNumbers.{connection_number_of_place}
use Rattle.proxy_engine.specs.Activities.{link_place_of_activity, has_exchange}
use Rattle.proxy_core.specs.Leading.{wakeable_ids}
use Rattle.proxy_core.specs.State.{State as CoreState}
use Rattle.proxy_engine.specs.EngineModel.{EngineModel, ConnectionModel, LinkModel, no_connection, no_link}
use Rattle.proxy_engine.specs.declared.endpoints.activities.Activity.{Activity}

-- a whole answer, or a failure
pub data LinkResult : Type 0 where
  Gives : (response : Response) → LinkResult
  Breaks : (kind : FailKind) → LinkResult

-- the failure that a fault in an answer is
abbrev pub fail_kind_of_fault : FrameFault → FailKind
fail_kind_of_fault frame.Truncated = kinds.Closed
fail_kind_of_fault frame.TooLarge = kinds.TooLarge
fail_kind_of_fault frame.Head = kinds.BadAnswer
fail_kind_of_fault frame.Version = kinds.BadAnswer
fail_kind_of_fault frame.BothLengths = kinds.BadAnswer
fail_kind_of_fault frame.Length = kinds.BadAnswer
fail_kind_of_fault frame.Coding = kinds.BadAnswer
fail_kind_of_fault frame.Chunk = kinds.BadAnswer
fail_kind_of_fault frame.Expect = kinds.BadAnswer
fail_kind_of_fault frame.Status = kinds.BadAnswer

-- what came first counts: an answer or a fault before the failure
abbrev pub link_result_of_next : Next Response → Option FailKind → Option LinkResult
link_result_of_next next.More kind = option_map Breaks kind
link_result_of_next (next.Message m) kind = Some (Gives m)
link_result_of_next (next.Refused fault) kind = Some (Breaks (fail_kind_of_fault fault))
link_result_of_next next.NeedsContinue kind = Some (Breaks kinds.BadAnswer)
link_result_of_next next.End kind = Some (Breaks kinds.Closed)

-- what a client's stream asks for next
abbrev pub due_request_action : Next Request → Option (Next Request)
due_request_action next.More = None
due_request_action next.NeedsContinue = Some next.NeedsContinue
due_request_action (next.Message m) = Some (next.Message m)
due_request_action (next.Refused fault) = Some (next.Refused fault)
due_request_action next.End = Some next.End

-- a gone connection with an open exchange: its link, if its request went forward
abbrev pub IsGoneWhileBusy : ConnectionModel → Option (Option ℕ) → Type 0
IsGoneWhileBusy c o = o ≡ (if c.gone && has_exchange c.activity then Some (link_place_of_activity c.activity)
    else None)

abbrev pub LinkResultUnlessDropped : Bool → LinkModel → Option LinkResult → Type 0
LinkResultUnlessDropped true k o = o ≡ None
LinkResultUnlessDropped false k o = (a : Next Response) × ResponseAnswers k.progress a
    × (o ≡ link_result_of_next a k.failed)

-- what stands on a link
abbrev pub IsDueLinkResult : LinkModel → Option LinkResult → Type 0
IsDueLinkResult k o = LinkResultUnlessDropped k.dropped k o

-- it is gone or closed, or has an open exchange
abbrev pub accepts_no_request : Bool → Bool → Activity → Bool
accepts_no_request gone closed activity = gone || (closed || has_exchange activity)

abbrev pub IsDueRequestActionUnlessBusy : Bool → ConnectionModel → Option (Next Request) → Type 0
IsDueRequestActionUnlessBusy true c o = o ≡ None
IsDueRequestActionUnlessBusy false c o = (a : Next Request) × RequestAnswers c.progress a × (o ≡ due_request_action a)

-- what stands on a connection that is neither closed nor gone and has no open exchange
abbrev pub IsDueOnConnection : ConnectionModel → Option (Next Request) → Type 0
IsDueOnConnection c o = IsDueRequestActionUnlessBusy (accepts_no_request c.gone c.closed c.activity) c o

-- the first place of a list at which something stands, and what; or that nothing stands anywhere
abbrev pub IsFirstAtWhich : {A B : Type 0} → (A → Option B → Type 0) → A → List A → Option (ℕ × B) → Type 0
IsFirstAtWhich R a xs None = (i : ℕ) → i < length xs → R (slice_index_or xs i a) None
IsFirstAtWhich R a xs (Some p) =
    (p.0 < length xs) × R (slice_index_or xs p.0 a) (Some p.1) × ((j : ℕ) → j < p.0 → R (slice_index_or xs j a) None)

-- an exchange is abandoned, with its link if it has one; a link is finished; a request that waited is woken; a
-- connection is served
pub data Act : Type 0 where
  Abandons : (i : ℕ) (l : Option ℕ) → Act
  Finishes : (j : ℕ) (finish : LinkResult) → Act
  Wakes : (i : ℕ) → Act
  Serves : (i : ℕ) (action : Next Request) → Act

-- the id of the first request to arrive of those that waited and may be woken
abbrev pub first_wakeable_id : CoreState → Option ℕ
first_wakeable_id core = slice_get (wakeable_ids core.exchanges) 0

-- the first act that is due, or that none is
abbrev pub IsFirstDueAct : EngineModel → Option Act → Type 0
IsFirstDueAct s (Some (Abandons i l)) = IsFirstAtWhich IsGoneWhileBusy no_connection s.connections (Some (i, l))
IsFirstDueAct s (Some (Finishes j f)) =
    IsFirstAtWhich
    IsGoneWhileBusy no_connection s.connections None × IsFirstAtWhich IsDueLinkResult no_link s.links (Some
    (j, f))
IsFirstDueAct s (Some (Wakes i)) =
    IsFirstAtWhich IsGoneWhileBusy no_connection s.connections None
    × IsFirstAtWhich IsDueLinkResult no_link s.links None
    × (first_wakeable_id s.core ≡ Some (connection_number_of_place i))
IsFirstDueAct s (Some (Serves i w)) =
    IsFirstAtWhich IsGoneWhileBusy no_connection s.connections None
    × IsFirstAtWhich IsDueLinkResult no_link s.links None
    × (first_wakeable_id s.core ≡ None)
    × IsFirstAtWhich IsDueOnConnection no_connection s.connections (Some (i, w))
IsFirstDueAct s None =
    IsFirstAtWhich IsGoneWhileBusy no_connection s.connections None
    × IsFirstAtWhich IsDueLinkResult no_link s.links None
    × (first_wakeable_id s.core ≡ None)
    × IsFirstAtWhich IsDueOnConnection no_connection s.connections None
