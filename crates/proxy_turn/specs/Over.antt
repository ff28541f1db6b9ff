-- What a turn over ends that are handed in does with an engine, within its bounds: the connections that it accepts, the
-- ends that it reads, and the acts that it does. Reads, acts and their effects are those of `Turn`.
--
-- may_accept_more, AcceptsAreTaken: the calls of accept
-- AcceptsAreComplete, LastAcceptOutcomeIs: how they end
-- accepted_ends, ends_to_read: the ends of the connections that came, and those of all that are read
-- calls_of_turn_over_given_ends: the calls of a turn, in order
-- TurnOverGivenEndsIsDoneInOrder: a turn, whole or as far as it came            TurnOverGivenEndsIsReported: what it
-- answers
-- EngineTurnsOverGivenEnds: both                                                EngineTurnsOverGivenEndsWithCalls: with
-- its calls
use Rattle.std.specs.Prelude.{◌≡◌, ℕ, ◌+◌, ◌≤◌, List, [], ◌∷◌, ◌++◌, length, filter, sum_by, Bool, true, false, ◌&&◌}
use Rattle.std.specs.Prelude.{nat_lt, Option, None, Some, is_some, Result, Ok, Err, ◌⊎◌}
use Rattle.proxy_engine.specs.Happenings.{HappeningModel, Accepts}
use Rattle.proxy_engine.specs.EngineModel.{EngineModel}
use Rattle.proxy_engine.specs.Due.{IsFirstDueAct}
use Rattle.proxy_engine.specs.Reading.{end_may_send, failed_links, open_connection_count, next_connection_number}
use Rattle.proxy_engine.specs.State.{State, EngineRepresents, NoActWasDoneBecauseOf as EngineFailed}
use Rattle.proxy_engine.specs.declared.work.EngineFault.TheVariants as engine
use Rattle.proxy_engine.specs.declared.work.End.{End}
use Rattle.proxy_engine.specs.declared.work.End.TheVariants as ends
use Rattle.proxy_turn.specs.Calls as call
use Rattle.proxy_turn.specs.Calls.{Call, AcceptOutcome, Came, NoneCame, Failed}
use Rattle.proxy_turn.specs.Counts.{Calls, CallCountsRiseBy}
use Rattle.proxy_turn.specs.Turn.{HappeningIfAnyIsTaken, EndRead, ReadsAreTaken, ends_of_reads, ActWithEffectFates}
use Rattle.proxy_turn.specs.Turn.{ActsAreDoneWithEffectFates, calls_of_reads, calls_of_rounds, count_of_failed_reads}
use Rattle.proxy_turn.specs.Turn.{count_of_failed_in_rounds}
use Rattle.proxy_turn.specs.declared.bounds.TurnAcceptBounds.{TurnAcceptBounds}
use Rattle.proxy_turn.specs.declared.report.Report.{Report}
use Rattle.proxy_turn.specs.declared.report.TurnFault.{TurnFault}
use Rattle.proxy_turn.specs.declared.report.TurnFault.TheVariants as faults

-- ---- the listener

-- where fewer connections than this are open, and a number is left
abbrev pub may_accept_more : ℕ → EngineModel → Bool
may_accept_more most s = nat_lt (open_connection_count s) most && is_some (next_connection_number s)

-- asked under this number
abbrev pub happening_of_accept_outcome : ℕ → AcceptOutcome → Option HappeningModel
happening_of_accept_outcome n Came = Some (Accepts n)
happening_of_accept_outcome n NoneCame = None
happening_of_accept_outcome n Failed = None

-- Each call is made where fewer connections than `most` are open and a number is left. A connection that came is taken
-- before the next call; behind a call that gave none no other is made.
abbrev pub AcceptsAreTaken : ℕ → EngineModel → List AcceptOutcome → EngineModel → Type 0
AcceptsAreTaken most s [] t = t ≡ s
AcceptsAreTaken most s (a ∷ more) t =
    (after : EngineModel) × (may_accept_more most s ≡ true)
    × HappeningIfAnyIsTaken s (happening_of_accept_outcome (length s.connections + 1) a) after
    × ((a ≡ Came) ⊎ (more ≡ [])) × AcceptsAreTaken most after more t

-- the last call gave this
abbrev pub LastAcceptOutcomeIs : AcceptOutcome → List AcceptOutcome → Type 0
LastAcceptOutcomeIs a accepts = (front : List AcceptOutcome) × (accepts ≡ front ++ a ∷ [])

-- No call was left out: as many were made as there may be, or no other may be made, or none waited.
abbrev pub AcceptsAreComplete : TurnAcceptBounds → List AcceptOutcome → EngineModel → Type 0
AcceptsAreComplete bounds accepts begun =
    (length accepts ≡ bounds.most_accepts) ⊎ ((may_accept_more bounds.most_open begun ≡ false)
    ⊎ LastAcceptOutcomeIs NoneCame accepts)

-- ---- the ends

abbrev pub ends_of_accept_outcome : ℕ → AcceptOutcome → List End
ends_of_accept_outcome n Came = ends.Client n ∷ []
ends_of_accept_outcome n NoneCame = []
ends_of_accept_outcome n Failed = []

-- the ends of the connections that came, where the first call was for one of this number
abbrev pub accepted_ends : ℕ → List AcceptOutcome → List End
accepted_ends n [] = []
accepted_ends n (a ∷ more) = ends_of_accept_outcome n a ++ accepted_ends (n + 1) more

-- Of those that are handed in, and those of the connections that came behind them: the ends from which bytes may come
-- once these are taken.
abbrev pub ends_to_read : EngineModel → List End → List AcceptOutcome → EngineModel → List End
ends_to_read s given accepts begun =
    filter (end_may_send begun) (given ++ accepted_ends (length s.connections + 1) accepts)

-- ---- calls

-- each for the next number
abbrev pub calls_of_accepts : ℕ → List AcceptOutcome → List Call
calls_of_accepts n [] = []
calls_of_accepts n (a ∷ more) = call.Accept n a ∷ calls_of_accepts (n + 1) more

-- all of a turn, in order
abbrev pub calls_of_turn_over_given_ends : EngineModel → List AcceptOutcome → List EndRead → List ActWithEffectFates
    → List Call
calls_of_turn_over_given_ends s accepts reads rounds =
    calls_of_accepts (length s.connections + 1) accepts ++ (calls_of_reads reads ++ calls_of_rounds rounds)

-- ---- counts

abbrev pub count_of_accepted_connection : AcceptOutcome → ℕ
count_of_accepted_connection Came = 1
count_of_accepted_connection NoneCame = 0
count_of_accepted_connection Failed = 0

abbrev pub count_of_failed_accept_outcome : AcceptOutcome → ℕ
count_of_failed_accept_outcome Came = 0
count_of_failed_accept_outcome NoneCame = 0
count_of_failed_accept_outcome Failed = 1

abbrev pub count_of_accepted_connections : List AcceptOutcome → ℕ
count_of_accepted_connections accepts = sum_by count_of_accepted_connection accepts

abbrev pub count_of_failed_accept_outcomes : List AcceptOutcome → ℕ
count_of_failed_accept_outcomes accepts = sum_by count_of_failed_accept_outcome accepts

-- ---- a turn

-- As far as it came: calls of accept, one read of each end from which bytes may come, in order, but for the rest, and
-- then acts.
pub record TurnOverGivenEndsIsDoneInOrder (now : ℕ) (bounds : TurnAcceptBounds) (s : EngineModel) (given : List End)
    (accepts : List AcceptOutcome) (reads : List EndRead) (rest : List End) (rounds : List ActWithEffectFates)
    (t : EngineModel) : Type 0 where
  pub begun : EngineModel
  pub read : EngineModel
  pub gone : List End
  pub few : length accepts ≤ bounds.most_accepts
  pub accepts_are : AcceptsAreTaken bounds.most_open s accepts begun
  pub ends : ends_of_reads reads ++ rest ≡ ends_to_read s given accepts begun
  pub reads_are : ReadsAreTaken begun reads read
  pub works : ActsAreDoneWithEffectFates now read (failed_links read) rounds t gone
  pub bound : length rounds ≤ 1000
  pub accepts_come_first : AcceptsAreComplete bounds accepts begun ⊎ ((reads ≡ []) × (rounds ≡ []))
  pub reads_come_before_acts : (rest ≡ []) ⊎ (rounds ≡ [])

-- nothing was left out, and this was counted
pub record TurnOverGivenEndsIsWholeAndCounted (bounds : TurnAcceptBounds) (accepts : List AcceptOutcome)
    (begun : EngineModel)
    (reads : List EndRead) (rest : List End) (rounds : List ActWithEffectFates)
    (t : EngineModel) (report : Report) : Type 0 where
  pub accepts_are : AcceptsAreComplete bounds accepts begun
  pub unbroken : count_of_failed_accept_outcomes accepts ≡ 0
  pub rest_is : rest ≡ []
  pub worked : (length rounds ≡ 1000) ⊎ IsFirstDueAct t None
  pub accepted : report.accepted ≡ count_of_accepted_connections accepts
  pub reads_are : report.reads ≡ length reads
  pub works : report.works ≡ length rounds
  pub faults : report.faults ≡ count_of_failed_reads reads + count_of_failed_in_rounds rounds

-- what a turn answers, whose calls of accept led to `begun`
abbrev pub TurnOverGivenEndsIsReported : TurnAcceptBounds → List AcceptOutcome → EngineModel → List EndRead → List End
    → List ActWithEffectFates
    → EngineModel
    → Result Report TurnFault
    → Type 0
TurnOverGivenEndsIsReported bounds accepts begun reads rest rounds t (Ok report) =
    TurnOverGivenEndsIsWholeAndCounted bounds accepts begun reads rest rounds t report
TurnOverGivenEndsIsReported bounds accepts begun reads rest rounds t (Err faults.Listener) =
    LastAcceptOutcomeIs Failed accepts × (reads ≡ []) × (rounds ≡ [])
TurnOverGivenEndsIsReported bounds accepts begun reads rest rounds t (Err faults.NoMemory) =
    count_of_failed_accept_outcomes accepts ≡ 0
TurnOverGivenEndsIsReported bounds accepts begun reads rest rounds t (Err faults.Spent) =
    (count_of_failed_accept_outcomes accepts ≡ 0) × AcceptsAreComplete bounds accepts begun × (rest ≡ [])
    × EngineFailed t engine.Spent

-- A turn of an engine over the ends that are given, with how the counts of calls rose. What is left of the ends are
-- those from which bytes might come before the reads.
pub record EngineTurnsOverGivenEnds (now : ℕ) (bounds : TurnAcceptBounds) (s : EngineModel) (given : List End)
    (e : State)
    (left : List End) (before after : Calls) (result : Result Report TurnFault) : Type 0 where
  pub accepts : List AcceptOutcome
  pub reads : List EndRead
  pub rest : List End
  pub rounds : List ActWithEffectFates
  pub last : EngineModel
  pub turn : TurnOverGivenEndsIsDoneInOrder now bounds s given accepts reads rest rounds last
  pub represents : EngineRepresents e last
  pub listed : left ≡ ends_to_read s given accepts turn.begun
  pub reports : TurnOverGivenEndsIsReported bounds accepts turn.begun reads rest rounds last result
  pub raises : CallCountsRiseBy before after (length accepts) (length reads)
      (count_of_failed_accept_outcomes accepts + (count_of_failed_reads reads + count_of_failed_in_rounds rounds))

-- A turn of an engine, and its calls: `did` says that just these were made on the sockets.
pub record EngineTurnsOverGivenEndsWithCalls (now : ℕ) (bounds : TurnAcceptBounds) (s : EngineModel) (given : List End)
    (e : State)
    (left : List End) (did : List Call → Type 0) (before after : Calls)
    (result : Result Report TurnFault) : Type 0 where
  pub turns : EngineTurnsOverGivenEnds now bounds s given e left before after result
  pub calls : did (calls_of_turn_over_given_ends s turns.accepts turns.reads turns.rounds)
