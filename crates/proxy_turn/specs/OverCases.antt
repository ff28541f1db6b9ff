-- What a turn over ends that are handed in refuses: the statements of laws, each of what isn't so.
use Rattle.std.specs.Prelude.{◌≡◌, ◌≢◌, ℕ, ◌+◌, ◌<◌, List, [], ◌∷◌, ◌++◌, length, true, false, nat_lt, Ok, Err}
use Rattle.proxy_engine.specs.EngineModel.{EngineModel}
use Rattle.proxy_engine.specs.Reading.{end_may_send, open_connection_count}
use Rattle.proxy_engine.specs.State.{State}
use Rattle.proxy_engine.specs.declared.work.End.{End}
use Rattle.proxy_engine.specs.declared.work.End.TheVariants as ends
use Rattle.proxy_turn.specs.Calls as call
use Rattle.proxy_turn.specs.Calls.{AcceptOutcome, Came, NoneCame, ReadOutcome}
use Rattle.proxy_turn.specs.Counts.{Calls}
use Rattle.proxy_turn.specs.Turn.{EndRead, ActWithEffectFates, calls_of_reads, calls_of_rounds}
use Rattle.proxy_turn.specs.Over.{may_accept_more, TurnOverGivenEndsIsDoneInOrder, TurnOverGivenEndsIsReported}
use Rattle.proxy_turn.specs.Over.{EngineTurnsOverGivenEnds}
use Rattle.proxy_turn.specs.Over.{calls_of_turn_over_given_ends, count_of_accepted_connections}
use Rattle.proxy_turn.specs.declared.bounds.TurnAcceptBounds.{TurnAcceptBounds}
use Rattle.proxy_turn.specs.declared.report.Report.{Report}
use Rattle.proxy_turn.specs.declared.report.TurnFault.TheVariants as faults

-- more calls of accept than there may be
abbrev pub NoMoreAcceptsThanTheBound : Type 0
NoMoreAcceptsThanTheBound =
    (now : ℕ) (bounds : TurnAcceptBounds) (s t : EngineModel) (given : List End) (accepts : List AcceptOutcome)
    (reads : List EndRead) (rest : List End) (rounds : List ActWithEffectFates)
    → TurnOverGivenEndsIsDoneInOrder now bounds s given accepts reads rest rounds t
    → bounds.most_accepts < length accepts → ⊥

-- a call where as many connections are open as may be
abbrev pub NoAcceptAtTheConnectionBound : Type 0
NoAcceptAtTheConnectionBound =
    (now : ℕ) (bounds : TurnAcceptBounds) (s t : EngineModel) (given : List End) (a : AcceptOutcome)
    (accepts : List AcceptOutcome) (reads : List EndRead) (rest : List End) (rounds : List ActWithEffectFates)
    → TurnOverGivenEndsIsDoneInOrder now bounds s given (a ∷ accepts) reads rest rounds t
    → nat_lt (open_connection_count s) bounds.most_open ≡ false → ⊥

-- a call behind one that gave no connection
abbrev pub NoAcceptAfterNoConnectionCame : Type 0
NoAcceptAfterNoConnectionCame =
    (now : ℕ) (bounds : TurnAcceptBounds) (s t : EngineModel) (given : List End) (a : AcceptOutcome)
    (accepts : List AcceptOutcome) (reads : List EndRead) (rest : List End) (rounds : List ActWithEffectFates)
    → TurnOverGivenEndsIsDoneInOrder now bounds s given (NoneCame ∷ a ∷ accepts) reads rest rounds t → ⊥

-- a read of an end from which no bytes may come
abbrev pub NoUnreadableEndIsRead : Type 0
NoUnreadableEndIsRead =
    (now : ℕ) (bounds : TurnAcceptBounds) (s t : EngineModel) (given : List End) (accepts : List AcceptOutcome)
    (read : EndRead) (reads : List EndRead) (rest : List End) (rounds : List ActWithEffectFates)
    → (turn : TurnOverGivenEndsIsDoneInOrder now bounds s given accepts (read ∷ reads) rest rounds t)
    → end_may_send turn.begun read.end ≡ false → ⊥

-- a second read of an end that is handed in once
abbrev pub NoEndIsReadTwice : Type 0
NoEndIsReadTwice =
    (now : ℕ) (bounds : TurnAcceptBounds) (s t : EngineModel) (end : End) (first second : ReadOutcome)
    (reads : List EndRead) (rest : List End) (rounds : List ActWithEffectFates)
    → TurnOverGivenEndsIsDoneInOrder now bounds s (end ∷ []) []
    (record { end = end; given = first } ∷ record { end = end; given = second } ∷ reads) rest rounds t
    → ⊥

-- an end that is handed in, from which bytes may come, and that is neither read nor left
abbrev pub NoHandedInEndIsSkipped : Type 0
NoHandedInEndIsSkipped =
    (now : ℕ) (bounds : TurnAcceptBounds) (s t : EngineModel) (end : End) (rounds : List ActWithEffectFates)
    → (turn : TurnOverGivenEndsIsDoneInOrder now bounds s (end ∷ []) [] [] [] rounds t)
    → end_may_send turn.begun end ≡ true → ⊥

-- a connection that came, from which bytes may come, and that is neither read nor left
abbrev pub NoAcceptedEndIsSkipped : Type 0
NoAcceptedEndIsSkipped =
    (now : ℕ) (bounds : TurnAcceptBounds) (s t : EngineModel) (rounds : List ActWithEffectFates)
    → (turn : TurnOverGivenEndsIsDoneInOrder now bounds s [] (Came ∷ []) [] [] rounds t)
    → end_may_send turn.begun (ends.Client (length s.connections + 1)) ≡ true → ⊥

-- a read where one more connection could have been accepted
abbrev pub NoReadBeforeTheAccepts : Type 0
NoReadBeforeTheAccepts =
    (now : ℕ) (bounds : TurnAcceptBounds) (s t : EngineModel) (given : List End) (read : EndRead) (reads : List EndRead)
    (rest : List End) (rounds : List ActWithEffectFates)
    → TurnOverGivenEndsIsDoneInOrder now bounds s given [] (read ∷ reads) rest rounds t
    → 0 < bounds.most_accepts → may_accept_more bounds.most_open s ≡ true → ⊥

-- an act where an end is left
abbrev pub NoActBeforeAllEndsAreRead : Type 0
NoActBeforeAllEndsAreRead =
    (now : ℕ) (bounds : TurnAcceptBounds) (s t : EngineModel) (given : List End) (accepts : List AcceptOutcome)
    (reads : List EndRead) (end : End) (rest : List End) (round : ActWithEffectFates) (rounds : List ActWithEffectFates)
    → TurnOverGivenEndsIsDoneInOrder now bounds s given accepts reads (end ∷ rest) (round ∷ rounds) t → ⊥

-- more acts than a thousand
abbrev pub NoMoreActsThanAThousand : Type 0
NoMoreActsThanAThousand =
    (now : ℕ) (bounds : TurnAcceptBounds) (s t : EngineModel) (given : List End) (accepts : List AcceptOutcome)
    (reads : List EndRead) (rest : List End) (rounds : List ActWithEffectFates)
    → TurnOverGivenEndsIsDoneInOrder now bounds s given accepts reads rest rounds t → 1000 < length rounds → ⊥

-- a report of a turn that left an end out, that left a connection out, or that counts what wasn't done
abbrev pub NoReportOmitsAnUnreadEnd : Type 0
NoReportOmitsAnUnreadEnd =
    (bounds : TurnAcceptBounds) (begun t : EngineModel) (accepts : List AcceptOutcome) (reads : List EndRead)
    (end : End)
    (rest : List End) (rounds : List ActWithEffectFates) (report : Report)
    → TurnOverGivenEndsIsReported bounds accepts begun reads (end ∷ rest) rounds t (Ok report) → ⊥

abbrev pub NoReportedTurnStopsAcceptingEarly : Type 0
NoReportedTurnStopsAcceptingEarly =
    (bounds : TurnAcceptBounds) (begun t : EngineModel) (reads : List EndRead) (rest : List End)
    (rounds : List ActWithEffectFates)
    (report : Report)
    → TurnOverGivenEndsIsReported bounds (Came ∷ []) begun reads rest rounds t (Ok report)
    → 1 < bounds.most_accepts → may_accept_more bounds.most_open begun ≡ true → ⊥

abbrev pub NoReportCountsWhatWasNotDone : Type 0
NoReportCountsWhatWasNotDone =
    (bounds : TurnAcceptBounds) (begun t : EngineModel) (accepts : List AcceptOutcome) (reads : List EndRead)
    (rest : List End) (rounds : List ActWithEffectFates) (report : Report)
    → TurnOverGivenEndsIsReported bounds accepts begun reads rest rounds t (Ok report)
    → (report.works ≢ length rounds → ⊥) × (report.reads ≢ length reads → ⊥) ×
    (report.accepted ≢ count_of_accepted_connections accepts → ⊥)

-- a failure of the listener that wasn't one
abbrev pub ListenerFaultOnlyAfterFailedAccept : Type 0
ListenerFaultOnlyAfterFailedAccept =
    (bounds : TurnAcceptBounds) (begun t : EngineModel) (reads : List EndRead) (rest : List End)
    (rounds : List ActWithEffectFates)
    → TurnOverGivenEndsIsReported bounds (Came ∷ []) begun reads rest rounds t (Err faults.Listener) → ⊥

-- an end that is left in the list, and from which no bytes might come
abbrev pub NoUnreadableEndIsListed : Type 0
NoUnreadableEndIsListed =
    (now : ℕ) (bounds : TurnAcceptBounds) (s : EngineModel) (given : List End) (e : State) (end : End) (left : List End)
    (before after : Calls) (report : Report)
    → (turns : EngineTurnsOverGivenEnds now bounds s given e (end ∷ left) before after (Ok report))
    → end_may_send turns.turn.begun end ≡ false → ⊥

-- the calls of accept come first, then the reads, and then the calls of the acts
abbrev pub CallsOfATurnOverGivenEndsStandInOrder : Type 0
CallsOfATurnOverGivenEndsStandInOrder =
    (s : EngineModel) (reads : List EndRead) (rounds : List ActWithEffectFates)
    → calls_of_turn_over_given_ends s (NoneCame ∷ []) reads rounds
    ≡ call.Accept (length s.connections + 1) NoneCame ∷ (calls_of_reads reads ++ calls_of_rounds rounds)
