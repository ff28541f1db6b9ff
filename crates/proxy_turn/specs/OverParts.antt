-- What the parts of a turn do that ask the listener and read the ends of a list, over the models of the engine, with
-- the calls that they make.
use Rattle.std.specs.Prelude.{◌≡◌, ℕ, ◌+◌, ◌≤◌, List, [], ◌∷◌, ◌++◌, length, Bool, true, false, Result, Ok, Err, ◌⊎◌}
use Rattle.proxy_engine.specs.EngineModel.{EngineModel}
use Rattle.proxy_engine.specs.State.{State, EngineRepresents}
use Rattle.proxy_engine.specs.declared.work.End.{End}
use Rattle.proxy_turn.specs.Calls.{Call, AcceptOutcome, Came, NoneCame, Failed}
use Rattle.proxy_turn.specs.Counts.{Calls, CallCountsRiseBy}
use Rattle.proxy_turn.specs.Turn.{EndRead, ends_of_reads}
use Rattle.proxy_turn.specs.Parts.{EndsAreReadOnceEach, ReadCountsAreReported}
use Rattle.proxy_turn.specs.Over.{AcceptsAreTaken, LastAcceptOutcomeIs, AcceptsAreComplete, may_accept_more}
use Rattle.proxy_turn.specs.Over.{accepted_ends}
use Rattle.proxy_turn.specs.Over.{calls_of_accepts, count_of_accepted_connections, count_of_failed_accept_outcomes}
use Rattle.proxy_turn.specs.declared.bounds.TurnAcceptBounds.{TurnAcceptBounds}
use Rattle.proxy_turn.specs.declared.report.TurnFault.{TurnFault}
use Rattle.proxy_turn.specs.declared.report.TurnFault.TheVariants as faults

-- what asking the listener once answers: whether a connection came
abbrev pub OneAcceptMatchesResult : ℕ → EngineModel → List AcceptOutcome → Result Bool TurnFault → Type 0
OneAcceptMatchesResult most s asked (Ok true) = asked ≡ Came ∷ []
OneAcceptMatchesResult most s asked (Ok false) =
    ((asked ≡ []) × (may_accept_more most s ≡ false)) ⊎ (asked ≡ NoneCame ∷ [])
OneAcceptMatchesResult most s asked (Err faults.Listener) = asked ≡ Failed ∷ []
OneAcceptMatchesResult most s asked (Err faults.NoMemory) = asked ≡ []
OneAcceptMatchesResult most s asked (Err faults.Spent) = ⊥

-- The listener was asked once, or not at all. The end of a connection that came is behind the others.
pub record ListenerIsAskedAtMostOnce (most : ℕ) (s : EngineModel) (given : List End) (e : State) (more : List End)
    (did : List Call → Type 0) (before after : Calls) (result : Result Bool TurnFault) : Type 0 where
  pub asked : List AcceptOutcome
  pub begun : EngineModel
  pub takes : AcceptsAreTaken most s asked begun
  pub represents : EngineRepresents e begun
  pub listed : more ≡ given ++ accepted_ends (length s.connections + 1) asked
  pub reports : OneAcceptMatchesResult most s asked result
  pub calls : did (calls_of_accepts (length s.connections + 1) asked)
  pub raises : CallCountsRiseBy before after (length asked) 0 (count_of_failed_accept_outcomes asked)

-- what asking it until no more is accepted answers: how many came
abbrev pub AcceptsMatchResult : TurnAcceptBounds → List AcceptOutcome → EngineModel → Result ℕ TurnFault → Type 0
AcceptsMatchResult bounds accepts begun (Ok count) =
    AcceptsAreComplete bounds accepts begun × (count_of_failed_accept_outcomes accepts ≡ 0)
    × (count ≡ count_of_accepted_connections accepts)
AcceptsMatchResult bounds accepts begun (Err faults.Listener) = LastAcceptOutcomeIs Failed accepts
AcceptsMatchResult bounds accepts begun (Err faults.NoMemory) = count_of_failed_accept_outcomes accepts ≡ 0
AcceptsMatchResult bounds accepts begun (Err faults.Spent) = ⊥

-- connections were accepted, one after another; their ends are behind the others
pub record ConnectionsAreAccepted (bounds : TurnAcceptBounds) (s : EngineModel) (given : List End) (e : State)
    (more : List End) (did : List Call → Type 0) (before after : Calls) (result : Result ℕ TurnFault) : Type 0 where
  pub accepts : List AcceptOutcome
  pub begun : EngineModel
  pub few : length accepts ≤ bounds.most_accepts
  pub are : AcceptsAreTaken bounds.most_open s accepts begun
  pub represents : EngineRepresents e begun
  pub listed : more ≡ given ++ accepted_ends (length s.connections + 1) accepts
  pub reports : AcceptsMatchResult bounds accepts begun result
  pub calls : did (calls_of_accepts (length s.connections + 1) accepts)
  pub raises : CallCountsRiseBy before after (length accepts) 0 (count_of_failed_accept_outcomes accepts)

-- the ends of a list were read, but for the rest
pub record EndsOfListAreRead (s : EngineModel) (listed : List End) (e : State) (did : List Call → Type 0)
    (before after : Calls) (result : Result (ℕ × ℕ) TurnFault) : Type 0 where
  pub reads : List EndRead
  pub rest : List End
  pub ends : ends_of_reads reads ++ rest ≡ listed
  pub some : EndsAreReadOnceEach s reads e did before after
  pub reports : ReadCountsAreReported reads rest result
