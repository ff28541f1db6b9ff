-- What is to be done where something is due, between the readers and the core.
--
-- IsActionForReaderAnswer: what a client's stream asks for, read as a request or refused
-- ExchangeIsFinishedBy: the core's step that finishes an exchange      link_result_is_answer: it may go forward once
-- more
-- IsFaultOfFinishingExchange: why it isn't done
use Rattle.std.specs.Prelude.{◌≡◌, ℕ, Bool, true, false, None, Some, Ok, Err}
use Rattle.hx_framing.specs.declared.messages.Request.{Request}
use Rattle.hx_framing.specs.declared.frame_fault.FrameFault.{FrameFault}
use Rattle.hx_framing.specs.declared.frame_fault.FrameFault.TheVariants as frame
use Rattle.hx_framing.specs.declared.messages.Next.{Next}
use Rattle.hx_framing.specs.declared.messages.Next.TheVariants as next
use Rattle.hx_status.specs.declared.cause.Cause.TheVariants as cause
use Rattle.proxy_core.specs.State.{State as CoreState, StepIsAccepted}
use Rattle.proxy_core.specs.declared.outcome.Outcome.{Outcome}
use Rattle.proxy_core.specs.declared.outcome.Outcome.TheVariants as outcomes
use Rattle.proxy_core.specs.declared.event.Event.TheVariants as events
use Rattle.proxy_engine.specs.Admitted.{RequestIsAdmittedOrRefused}
use Rattle.proxy_engine.specs.Questions.{question_with_raw_target}
use Rattle.proxy_engine.specs.Due.{LinkResult, Gives, Breaks}
use Rattle.proxy_engine.specs.declared.work.EngineFault.{EngineFault}
use Rattle.proxy_engine.specs.declared.work.EngineFault.TheVariants.{WrongNumber, NotAccepted, OutOfMemory, Spent}
use Rattle.proxy_engine.specs.declared.work.EngineFault.TheVariants.{NotWaiting}
use Rattle.proxy_engine.specs.declared.steps.actions.Action.{Action}
use Rattle.proxy_engine.specs.declared.steps.actions.Action.TheVariants as action

-- a message that was read: it arrives, or is refused
abbrev pub IsActionOfMessage : Request → Action → Type 0
IsActionOfMessage r action.Continue = ⊥
IsActionOfMessage r (action.Arrive asked) = RequestIsAdmittedOrRefused r (Ok asked)
IsActionOfMessage r (action.Refuse why head question) =
    RequestIsAdmittedOrRefused r (Err (record { why = why; head = head }))
    × (question ≡ Some (question_with_raw_target r))
IsActionOfMessage r action.Close = ⊥

-- a stream that was cut off is closed without an answer
abbrev pub action_of_fault : FrameFault → Action
action_of_fault frame.Truncated = action.Close
action_of_fault frame.Head = action.Refuse (cause.Frame frame.Head) false None
action_of_fault frame.Version = action.Refuse (cause.Frame frame.Version) false None
action_of_fault frame.BothLengths = action.Refuse (cause.Frame frame.BothLengths) false None
action_of_fault frame.Length = action.Refuse (cause.Frame frame.Length) false None
action_of_fault frame.Coding = action.Refuse (cause.Frame frame.Coding) false None
action_of_fault frame.Chunk = action.Refuse (cause.Frame frame.Chunk) false None
action_of_fault frame.TooLarge = action.Refuse (cause.Frame frame.TooLarge) false None
action_of_fault frame.Expect = action.Refuse (cause.Frame frame.Expect) false None
action_of_fault frame.Status = action.Refuse (cause.Frame frame.Status) false None

abbrev pub IsActionForReaderAnswer : Next Request → Action → Type 0
IsActionForReaderAnswer next.More w = ⊥
IsActionForReaderAnswer next.NeedsContinue w = w ≡ action.Continue
IsActionForReaderAnswer (next.Message r) w = IsActionOfMessage r w
IsActionForReaderAnswer (next.Refused fault) w = w ≡ action_of_fault fault
IsActionForReaderAnswer next.End w = w ≡ action.Close

-- the core's step that finishes the exchange of an id
abbrev pub ExchangeIsFinishedBy : CoreState → ℕ → ℕ → LinkResult → Outcome → CoreState → Type 0
ExchangeIsFinishedBy s now id (Gives r) outcome t = StepIsAccepted s (events.Answer now id r) outcome t
ExchangeIsFinishedBy s now id (Breaks kind) outcome t = StepIsAccepted s (events.Fail now id kind) outcome t

-- an answer may go forward once more, and then needs a link
abbrev pub link_result_is_answer : LinkResult → Bool
link_result_is_answer (Gives r) = true
link_result_is_answer (Breaks kind) = false

-- Why an exchange isn't finished, where no link number is left or one is. Out of memory never hides that none is left.
abbrev pub IsFaultOfFinishingExchange : Bool → LinkResult → EngineFault → Type 0
IsFaultOfFinishingExchange exhausted finish WrongNumber = ⊥
IsFaultOfFinishingExchange exhausted finish NotAccepted = ⊥
IsFaultOfFinishingExchange exhausted finish NotWaiting = ⊥
IsFaultOfFinishingExchange exhausted (Gives r) OutOfMemory = exhausted ≡ false
IsFaultOfFinishingExchange exhausted (Breaks kind) OutOfMemory = Unit {0}
IsFaultOfFinishingExchange exhausted (Gives r) Spent = exhausted ≡ true
IsFaultOfFinishingExchange exhausted (Breaks kind) Spent = ⊥

abbrev pub outcome_needs_link : Outcome → Bool
outcome_needs_link (outcomes.Reply reply) = false
outcome_needs_link (outcomes.Forward line bytes) = true
outcome_needs_link (outcomes.Waits leader) = false
outcome_needs_link outcomes.Ended = false
outcome_needs_link outcomes.WaitsNoMore = false

-- what an outcome leaves to do: on the link of a request that goes forward, or of one that waits
abbrev pub due_act_count_after_outcome : Outcome → ℕ
due_act_count_after_outcome (outcomes.Reply reply) = 0
due_act_count_after_outcome (outcomes.Forward line bytes) = 1
due_act_count_after_outcome (outcomes.Waits leader) = 2
due_act_count_after_outcome outcomes.Ended = 0
due_act_count_after_outcome outcomes.WaitsNoMore = 0
