-- What is said on one connection: requests that come, replies that go, and the client's going away, in their order. A
-- server sends its responses in the order in which their requests came (RFC 9112, section 9.3.2), and exactly one
-- final response to each (RFC 9110, section 15). A continue is no final response, and ends nothing.
--
-- DialogueEvent, dialogue_of_act, dialogue_of_steps: what is said            replies_to, final_replies_to: the replies
-- among effects
-- DialogueState, DialogueIsInState: how a connection stands behind what was said
-- CoreIsHandedTheRequest, LastRequestIsOpen: the exchange of the core that is open on it is that of its last request
-- count_of_requests_in_dialogue, count_of_replies_in_dialogue: how many                          RepliesFollowRequests
-- and the others: the statements
use Rattle.std.specs.Prelude.{◌≡◌, ℕ, Bool, ◌+◌, ◌≤◌, ◌==◌, List, [], ◌∷◌, ◌++◌, Option, None, Some, Ok, cond, bytes_eq}
use Rattle.hx_allow.specs.TableLines.{Table}
use Rattle.hx_framing.specs.declared.messages.Request.{Request}
use Rattle.hx_framing.specs.declared.frame_fault.FrameFault.{FrameFault}
use Rattle.hx_framing.specs.declared.frame_fault.FrameFault.TheVariants as frame
use Rattle.hx_framing.specs.declared.messages.Next.{Next}
use Rattle.hx_framing.specs.declared.messages.Next.TheVariants as next
use Rattle.hx_framing.specs.Text.{continue_text}
use Rattle.hx_status.specs.declared.about.ReplyData.{ReplyData}
use Rattle.proxy_core.specs.Outcomes.{find_exchange}
use Rattle.proxy_core.specs.Starts.{StoreAtStart}
use Rattle.proxy_core.specs.Traces.{initial_state as core_begun}
use Rattle.proxy_core.specs.declared.open.exchange.Exchange.{Exchange}
use Rattle.proxy_script.specs.declared.effect_list.Effect.{Effect}
use Rattle.proxy_script.specs.declared.effect_list.Effect.TheVariants as effects
use Rattle.hx_hop.specs.declared.request_view.Asked.{Asked}
use Rattle.proxy_engine.specs.Admitted.{CoreIsHandedRequest}
use Rattle.proxy_engine.specs.ConnectionNumbers.{connection_number_of_place}
use Rattle.proxy_engine.specs.EngineModel.{EngineModel}
use Rattle.proxy_engine.specs.Due.{Act, Abandons, Finishes, Wakes, Serves}
use Rattle.proxy_engine.specs.State.{new_engine_model}
use Rattle.proxy_engine.specs.Executions.{ExecutionStep, Took, Worked, StepsLeadToModel}

-- ---- what is said

-- a request came, or what stands in the place of one and is refused; a final response went; or the client went away
-- before its request was answered
pub data DialogueEvent : Type 0 where
  RequestCame : (what : Next Request) → DialogueEvent
  ReplyWent : (bytes : List ℕ) → DialogueEvent
  ClientLeft : DialogueEvent

-- the replies to the client of this number, the latest first
abbrev pub replies_to : ℕ → List Effect → List DialogueEvent
replies_to n [] = []
replies_to n (effects.Client m bytes replied ∷ rest) = replies_to n rest ++ cond (m == n) (ReplyWent bytes ∷ []) []
replies_to n (effects.Forward l address bytes ∷ rest) = replies_to n rest
replies_to n (effects.Close m ∷ rest) = replies_to n rest
replies_to n (effects.Drop l ∷ rest) = replies_to n rest

-- but for the 25 bytes of a continue, an interim response (RFC 9110, section 15.2)
abbrev pub final_replies_to : ℕ → List Effect → List DialogueEvent
final_replies_to n [] = []
final_replies_to n (effects.Client m bytes replied ∷ rest) =
    final_replies_to n rest ++ cond (bytes_eq bytes continue_text) [] (cond (m == n) (ReplyWent bytes ∷ []) [])
final_replies_to n (effects.Forward l address bytes ∷ rest) = final_replies_to n rest
final_replies_to n (effects.Close m ∷ rest) = final_replies_to n rest
final_replies_to n (effects.Drop l ∷ rest) = final_replies_to n rest

-- a stream that ends amid a request has asked nothing; any other fault is answered
abbrev pub dialogue_events_of_fault : FrameFault → List DialogueEvent
dialogue_events_of_fault frame.Truncated = []
dialogue_events_of_fault frame.Head = RequestCame (next.Refused frame.Head) ∷ []
dialogue_events_of_fault frame.Version = RequestCame (next.Refused frame.Version) ∷ []
dialogue_events_of_fault frame.BothLengths = RequestCame (next.Refused frame.BothLengths) ∷ []
dialogue_events_of_fault frame.Length = RequestCame (next.Refused frame.Length) ∷ []
dialogue_events_of_fault frame.Coding = RequestCame (next.Refused frame.Coding) ∷ []
dialogue_events_of_fault frame.Chunk = RequestCame (next.Refused frame.Chunk) ∷ []
dialogue_events_of_fault frame.TooLarge = RequestCame (next.Refused frame.TooLarge) ∷ []
dialogue_events_of_fault frame.Expect = RequestCame (next.Refused frame.Expect) ∷ []
dialogue_events_of_fault frame.Status = RequestCame (next.Refused frame.Status) ∷ []

-- what an act says on the connection at this place, the latest first
abbrev pub dialogue_of_act : ℕ → Act → List Effect → List DialogueEvent
dialogue_of_act i (Abandons k l) emitted =
    replies_to (connection_number_of_place i) emitted ++ cond (k == i) (ClientLeft ∷ []) []
dialogue_of_act i (Finishes j finish) emitted = replies_to (connection_number_of_place i) emitted
dialogue_of_act i (Wakes k) emitted = replies_to (connection_number_of_place i) emitted
dialogue_of_act i (Serves k next.More) emitted = replies_to (connection_number_of_place i) emitted
dialogue_of_act i (Serves k next.NeedsContinue) emitted = final_replies_to (connection_number_of_place i) emitted
dialogue_of_act i (Serves k (next.Message r)) emitted =
    replies_to (connection_number_of_place i) emitted ++ cond (k == i) (RequestCame (next.Message r) ∷ []) []
dialogue_of_act i (Serves k (next.Refused fault)) emitted =
    replies_to (connection_number_of_place i) emitted ++ cond (k == i) (dialogue_events_of_fault fault) []
dialogue_of_act i (Serves k next.End) emitted = replies_to (connection_number_of_place i) emitted

abbrev pub dialogue_of_steps : ℕ → List ExecutionStep → List DialogueEvent
dialogue_of_steps i [] = []
dialogue_of_steps i (Took happening ∷ past) = dialogue_of_steps i past
dialogue_of_steps i (Worked now act emitted ∷ past) = dialogue_of_act i act emitted ++ dialogue_of_steps i past

-- ---- how a connection stands

-- each request was answered; the last one waits for its answer; or the client is gone, and gets none
pub data DialogueState : Type 0 where
  Answered Awaited Left : DialogueState

-- A request comes only where each before it was answered, a reply goes only where a request waits for it, and behind a
-- client that is gone nothing is said.
abbrev pub DialogueIsInState : DialogueState → List DialogueEvent → Type 0
DialogueIsInState standing [] = standing ≡ Answered
DialogueIsInState standing (RequestCame what ∷ past) = (standing ≡ Awaited) × DialogueIsInState Answered past
DialogueIsInState standing (ReplyWent bytes ∷ past) = (standing ≡ Answered) × DialogueIsInState Awaited past
DialogueIsInState standing (ClientLeft ∷ past) = (standing ≡ Left) × DialogueIsInState Awaited past

-- what the core was handed of a request, on a connection that is to end or isn't
abbrev pub CoreIsHandedTheRequest : Request → Asked → Type 0
CoreIsHandedTheRequest r asked = (retired : Bool) × CoreIsHandedRequest retired r asked

-- The exchange of the core that is open on the connection is that of the last request, which came and has no answer;
-- where none waits for an answer, none is open. So what the core gives for that exchange answers that request.
abbrev pub LastRequestIsOpen : DialogueState → List DialogueEvent → Option Exchange → Type 0
LastRequestIsOpen Answered said exchange = exchange ≡ None
LastRequestIsOpen Awaited said exchange =
    (r : Request) × (past : List DialogueEvent) × (x : Exchange) × (said ≡ RequestCame (next.Message r) ∷ past)
    × (exchange ≡ Some x) × CoreIsHandedTheRequest r x.asked
LastRequestIsOpen Left said exchange = exchange ≡ None

abbrev pub count_of_requests_in_dialogue : List DialogueEvent → ℕ
count_of_requests_in_dialogue [] = 0
count_of_requests_in_dialogue (RequestCame what ∷ past) = count_of_requests_in_dialogue past + 1
count_of_requests_in_dialogue (ReplyWent bytes ∷ past) = count_of_requests_in_dialogue past
count_of_requests_in_dialogue (ClientLeft ∷ past) = count_of_requests_in_dialogue past

abbrev pub count_of_replies_in_dialogue : List DialogueEvent → ℕ
count_of_replies_in_dialogue [] = 0
count_of_replies_in_dialogue (RequestCame what ∷ past) = count_of_replies_in_dialogue past
count_of_replies_in_dialogue (ReplyWent bytes ∷ past) = count_of_replies_in_dialogue past + 1
count_of_replies_in_dialogue (ClientLeft ∷ past) = count_of_replies_in_dialogue past

-- ---- the statements

-- Whatever an engine lives through, on each connection each reply follows its own request: the nth reply answers the
-- nth request, no request is answered twice, and none is passed over by a later one.
abbrev pub RepliesFollowRequests : Type 0
RepliesFollowRequests =
    (table : Table) (start : StoreAtStart) (first link : ℕ) (steps : List ExecutionStep) (t : EngineModel) (i : ℕ)
    → StepsLeadToModel (new_engine_model (core_begun table start first) link) steps t
    → (standing : DialogueState) × DialogueIsInState standing (dialogue_of_steps i steps)
    × LastRequestIsOpen standing (dialogue_of_steps i steps)
    (find_exchange (connection_number_of_place i) t.core.exchanges)

-- so a client has as many replies as it sent requests, or one fewer
abbrev pub RepliesEqualRequestsOrOneFewer : Type 0
RepliesEqualRequestsOrOneFewer =
    (standing : DialogueState) (said : List DialogueEvent) → DialogueIsInState standing said
    → (count_of_replies_in_dialogue said ≤ count_of_requests_in_dialogue said)
    × (count_of_requests_in_dialogue said ≤ count_of_replies_in_dialogue said + 1)

-- what the definition doesn't allow: two replies to one request, a reply that nobody asked for, two requests of which
-- the first is passed over, and anything behind a client that is gone
abbrev pub NoRequestIsAnsweredTwice : Type 0
NoRequestIsAnsweredTwice =
    (standing : DialogueState) (one other : List ℕ) (past : List DialogueEvent)
    → DialogueIsInState standing (ReplyWent one ∷ ReplyWent other ∷ past) → ⊥

abbrev pub NoReplyWithoutARequest : Type 0
NoReplyWithoutARequest = (standing : DialogueState) (bytes : List ℕ)
    → DialogueIsInState standing (ReplyWent bytes ∷ []) → ⊥

abbrev pub NoRequestIsPassedOverByALaterOne : Type 0
NoRequestIsPassedOverByALaterOne =
    (standing : DialogueState) (one other : Next Request) (past : List DialogueEvent)
    → DialogueIsInState standing (RequestCame one ∷ RequestCame other ∷ past) → ⊥

abbrev pub NothingFollowsALeave : Type 0
NothingFollowsALeave =
    (standing : DialogueState) (what : Next Request) (bytes : List ℕ) (past : List DialogueEvent)
    → (DialogueIsInState standing (RequestCame what ∷ ClientLeft ∷ past) → ⊥)
    × (DialogueIsInState standing (ReplyWent bytes ∷ ClientLeft ∷ past) → ⊥)

-- A refused life: one act that writes two replies to its client. No engine lives by such a step.
abbrev pub NoActRepliesTwiceToAClient : Type 0
NoActRepliesTwiceToAClient =
    (table : Table) (start : StoreAtStart) (first link now i : ℕ) (past : List ExecutionStep) (one other : List ℕ)
    (of_one of_other : Option ReplyData) (t : EngineModel)
    → StepsLeadToModel (new_engine_model (core_begun table start first) link)
    (Worked now (Wakes i) (effects.Client (connection_number_of_place i) one of_one
    ∷ effects.Client (connection_number_of_place i) other of_other ∷ []) ∷ past) t
    → ⊥
