-- What a turn refuses: the statements of laws, each of what isn't so.
use Rattle.std.specs.Prelude.{◌≡◌, ◌≢◌, ℕ, ◌<◌, List, [], ◌∷◌, length, true, false, Option, Ok, Err}
use Rattle.hx_status.specs.declared.about.ReplyData.{ReplyData}
use Rattle.hx_status.specs.declared.cause.FailKind.TheVariants as kinds
use Rattle.proxy_script.specs.declared.effect_list.Effect.TheVariants as effects
use Rattle.proxy_engine.specs.EngineModel.{EngineModel}
use Rattle.proxy_engine.specs.Reading.{readable_ends_of}
use Rattle.proxy_engine.specs.declared.work.End.{End}
use Rattle.proxy_engine.specs.declared.work.End.TheVariants as ends
use Rattle.proxy_turn.specs.Turn.{AcceptOutcomeIfCalled, NotAsked, Came, may_accept_below_256, accept_was_called}
use Rattle.proxy_turn.specs.Turn.{count_of_accepted_if_called}
use Rattle.proxy_turn.specs.Turn.{EndRead, ActWithEffectFates, Carried, Passed}
use Rattle.proxy_turn.specs.Turn.{EffectIsHandledWithFate, FailedEffectHasFailKind, TurnIsDoneInOrder, TurnIsReported}
use Rattle.proxy_turn.specs.Turn.{IsAtMostOnePiece}
use Rattle.proxy_turn.specs.Calls.{Bytes}
use Rattle.proxy_turn.specs.declared.report.Report.{Report}
use Rattle.proxy_turn.specs.declared.report.TurnFault.TheVariants as faults

-- more acts than a thousand
abbrev pub TurnHasAtMostAThousandActs : Type 0
TurnHasAtMostAThousandActs =
    (now : ℕ) (s t : EngineModel) (asked : AcceptOutcomeIfCalled) (reads : List EndRead) (rest : List End)
    (rounds : List ActWithEffectFates)
    → TurnIsDoneInOrder now s asked reads rest rounds t → 1000 < length rounds → ⊥

-- a call of accept where 256 connections are open, or no number is left
abbrev pub NoAcceptWhereNoneMayBeAccepted : Type 0
NoAcceptWhereNoneMayBeAccepted =
    (now : ℕ) (s t : EngineModel) (asked : AcceptOutcomeIfCalled) (reads : List EndRead) (rest : List End)
    (rounds : List ActWithEffectFates)
    → TurnIsDoneInOrder now s asked reads rest rounds t → may_accept_below_256 s ≡ false → accept_was_called asked
    ≡ true → ⊥

-- a read of an end from which nothing may come
abbrev pub NoUnreadableEndIsReadInATurn : Type 0
NoUnreadableEndIsReadInATurn =
    (now : ℕ) (s t : EngineModel) (read : EndRead) (reads : List EndRead) (rest : List End)
    (rounds : List ActWithEffectFates)
    → TurnIsDoneInOrder now s NotAsked (read ∷ reads) rest rounds t → readable_ends_of s ≡ [] → ⊥

-- an act before each end was read
abbrev pub NoActBeforeAllReads : Type 0
NoActBeforeAllReads =
    (now : ℕ) (s t : EngineModel) (asked : AcceptOutcomeIfCalled) (reads : List EndRead) (end : End) (rest : List End)
    (round : ActWithEffectFates)
    (rounds : List ActWithEffectFates) → TurnIsDoneInOrder now s asked reads (end ∷ rest) (round ∷ rounds) t → ⊥

-- a read that gave more bytes than a piece
abbrev pub NoReadGivesMoreThanAPiece : Type 0
NoReadGivesMoreThanAPiece = (bytes : List ℕ) → 4096 < length bytes → IsAtMostOnePiece (Bytes bytes) → ⊥

-- a report of a turn that left an end out, or that counts what wasn't done
abbrev pub ReportedTurnOmitsNoEnd : Type 0
ReportedTurnOmitsNoEnd =
    (s t : EngineModel) (asked : AcceptOutcomeIfCalled) (reads : List EndRead) (end : End) (rest : List End)
    (rounds : List ActWithEffectFates)
    (report : Report) → TurnIsReported s asked reads (end ∷ rest) rounds t (Ok report) → ⊥

abbrev pub ReportedTurnCountsWhatWasDone : Type 0
ReportedTurnCountsWhatWasDone =
    (s t : EngineModel) (asked : AcceptOutcomeIfCalled) (reads : List EndRead) (rest : List End)
    (rounds : List ActWithEffectFates)
    (report : Report)
    → TurnIsReported s asked reads rest rounds t (Ok report)
    → (report.works ≢ length rounds → ⊥) × (report.reads ≢ length reads → ⊥) ×
    (report.accepted ≢ count_of_accepted_if_called asked → ⊥)

-- a failure of the listener that wasn't one
abbrev pub ListenerFaultNeedsAFailedAccept : Type 0
ListenerFaultNeedsAFailedAccept =
    (s t : EngineModel) (reads : List EndRead) (rest : List End) (rounds : List ActWithEffectFates)
    → TurnIsReported s Came reads rest rounds t (Err faults.Listener) → ⊥

-- an effect to an end on which a call has failed, and one that is passed over though none has
abbrev pub NoCallOnAFailedEnd : Type 0
NoCallOnAFailedEnd =
    (s t : EngineModel) (bytes : List ℕ) (replied : Option ReplyData) (more : List End)
    → EffectIsHandledWithFate s (ends.Client 1 ∷ []) (effects.Client 1 bytes replied) Carried t more → ⊥

abbrev pub NoEffectIsSkippedWithoutFailure : Type 0
NoEffectIsSkippedWithoutFailure =
    (s t : EngineModel) (bytes : List ℕ) (replied : Option ReplyData) (more : List End)
    → EffectIsHandledWithFate s (ends.Client 2 ∷ []) (effects.Client 1 bytes replied) Passed t more → ⊥

-- a write to a client that counts as an origin's refusal
abbrev pub NoClientWriteCountsAsRefused : Type 0
NoClientWriteCountsAsRefused =
    (bytes : List ℕ) (replied : Option ReplyData)
    → FailedEffectHasFailKind (effects.Client 1 bytes replied) kinds.Refused → ⊥
