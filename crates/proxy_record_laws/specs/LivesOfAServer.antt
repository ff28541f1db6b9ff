-- The life of a server that keeps a record, from its beginning on, and what a replay of the record does.
--
-- steps_of_server_turn, happenings_of_server_turn: what was lost in front of a turn, and what it took and did
-- ServerLife: how far a server has come
-- ServerBegins, RecordedLifeBegins: its beginning, and that of one that keeps a record
-- LifeContinuesByTurn, TurnsLeadToLife: one more turn, and turns one after another
-- AServerBegins, NewServerBeginsRecordedLife, AServedTurnContinuesTheLife, ATurnOutOfLinkNumbersContinuesTheLife: what
-- a call of
-- `new` or of `wait_and_serve_turn` did
-- ALifeIsAnExecution: its steps are what its engine has lived through
-- ARecordedTurnSendsItsEffects: while a record is written, what its sockets were called with
-- ReplayTellsWhatWasServed, ARecordReplaysWhatWasServed, AnEndedRecordReplaysWhatWasServed: the law
use Rattle.std.specs.Prelude.{◌≡◌, ℕ, ◌<◌, true, false, List, [], ◌∷◌, ◌++◌, None, Some, Result, Ok, Err}
use Rattle.std.specs.List.{AllByRecursion}
use Rattle.hx_fields.specs.declared.limits.TheConstants.{START_OF_YEAR_10000}
use Rattle.hx_allow.specs.TableLines.{Table}
use Rattle.hx_allow.specs.Tables.{BytesReadAsTable}
use Rattle.hx_store.specs.Stored.{Stored}
use Rattle.proxy_script.specs.Effects.{effects_text}
use Rattle.proxy_script.specs.Happenings.{HappeningModel as Happening}
use Rattle.proxy_script.specs.declared.effect_list.Effect.{Effect}
use Rattle.proxy_engine.specs.EngineModel.{EngineModel}
use Rattle.proxy_engine.specs.Due.{IsFirstDueAct}
use Rattle.proxy_engine.specs.Executions.{ExecutionStep, effects_of_steps}
use Rattle.proxy_engine.specs.Beginnings.{ResponsesMayBeHeldAtStart, engine_model_at_start}
use Rattle.proxy_engine.specs.State.{EngineRepresents}
use Rattle.proxy_replay.specs.Replay.{ScriptIsReplayedOverAStore}
use Rattle.proxy_turn.specs.Turn.{calls_of_rounds}
use Rattle.proxy_turn.specs.TurnSteps.{effects_of_rounds}
use Rattle.proxy_turn.specs.OverSteps.{steps_of_turn_over_given_ends}
use Rattle.proxy_turn.specs.Served.{EngineLivedThroughSteps, steps_taking_happenings}
use Rattle.proxy_turn.specs.declared.report.Report.{Report}
use Rattle.proxy_turn.specs.declared.report.TurnFault.{TurnFault}
use Rattle.proxy_turn.specs.declared.report.TurnFault.TheVariants as faults
use Rattle.proxy_turn_laws.specs.ActsOfATurn.{calls_of_successful_effects, calls_without_link_shuts}
use Rattle.proxy_record.specs.Recorded.{is_recording}
use Rattle.proxy_record.specs.RecordedTurns.{happenings_of_steps, recorded_at_moment}
use Rattle.proxy_record.specs.Records.{RecordSoFar, RecordBeginsWithTable, RecordedHappening}
use Rattle.proxy_record.specs.Records.{RecordedHappeningHasSpelling}
use Rattle.proxy_server.specs.ServerState.{ServerState, state_at_turn_start}
use Rattle.proxy_server.specs.Serving.{ServerTurn, ServerServesTurn, ServeTurnResultIsTruthful, turn_left_no_act_due}
use Rattle.proxy_server.specs.declared.server.ServeFault.TheVariants.{Spent}
use Rattle.proxy_server.specs.declared.server.ServedTurn.{ServedTurn}

-- ---- what a turn took and did

-- the steps of what was lost, and those of the turn, behind those before
abbrev pub steps_of_server_turn : {s : EngineModel} {a b : ServerState} {reported : Result Report TurnFault}
    → ServerTurn s a b reported → List ExecutionStep → List ExecutionStep
steps_of_server_turn {s} {a} served past =
    steps_of_turn_over_given_ends a.moment served.handed_in.losses.after served.turn.turns.accepts
    served.turn.turns.reads
    served.turn.turns.rounds (steps_taking_happenings served.handed_in.losses.lost past)

-- what was lost, and then what the turn took
abbrev pub happenings_of_server_turn : {s : EngineModel} {a b : ServerState} {reported : Result Report TurnFault}
    → ServerTurn s a b reported → List Happening
happenings_of_server_turn {s} {a} served =
    served.handed_in.losses.lost
    ++ happenings_of_steps (steps_of_turn_over_given_ends a.moment served.handed_in.losses.after
    served.turn.turns.accepts served.turn.turns.reads served.turn.turns.rounds [])

-- ---- a life

-- A server, the model for which its engine stands, the steps that led to it, and all that happened, each at the moment
-- of its turn.
pub record ServerLife : Type 0 where
  pub server : ServerState
  pub model : EngineModel
  pub steps : List ExecutionStep
  pub happened : List RecordedHappening

-- Nothing has happened to a server by the table that these bytes say, over a store that holds these responses, from
-- this serial on: none, from 1 on, where no store was kept.
pub record ServerBegins (bytes : List ℕ) (table : Table) (kept : List Stored) (serial : ℕ)
    (l : ServerLife) : Type 0 where
  pub reads : BytesReadAsTable bytes (Ok table)
  pub may : ResponsesMayBeHeldAtStart table kept serial
  pub table_is : l.server.engine.core.table ≡ table
  pub represents : EngineRepresents l.server.engine (engine_model_at_start table kept serial 1)
  pub model : l.model ≡ engine_model_at_start table kept serial 1
  pub steps : l.steps ≡ []
  pub happened : l.happened ≡ []

-- It keeps a record, which begins with them.
pub record RecordedLifeBegins (bytes : List ℕ) (table : Table) (kept : List Stored) (serial : ℕ)
    (l : ServerLife) : Type 0 where
  pub server : ServerBegins bytes table kept serial l
  pub begun : RecordSoFar
  pub recorder : l.server.recorder ≡ Some begun
  pub begins : RecordBeginsWithTable (Some []) bytes begun
  pub unended : begun.over ≡ false

-- A turn began at some moment up to the end of the year 9999 and was served, behind what was lost. It told this, and
-- left to the next what it leaves.
pub record LifeContinuesByTurn (l : ServerLife) (reported : Result Report TurnFault) (m : ServerLife) : Type 0 where
  pub now : ℕ
  pub last : ServerState
  pub early : (state_at_turn_start now l.server).moment < START_OF_YEAR_10000
  pub serves : ServerServesTurn (state_at_turn_start now l.server) last reported
  pub served : ServerTurn l.model (state_at_turn_start now l.server) last reported
  pub server : m.server ≡ record last { settled = turn_left_no_act_due reported }
  pub model : m.model ≡ served.turn.turns.last
  pub steps : m.steps ≡ steps_of_server_turn served l.steps
  pub happened : m.happened
      ≡ l.happened ++ recorded_at_moment (state_at_turn_start now l.server).moment (happenings_of_server_turn served)

-- turns one after another, which told this, the latest first
abbrev pub TurnsLeadToLife : ServerLife → List (Result Report TurnFault) → ServerLife → Type 0
TurnsLeadToLife begin [] l = l ≡ begin
TurnsLeadToLife begin (reported ∷ past) l =
    (before : ServerLife) × TurnsLeadToLife begin past before × LifeContinuesByTurn before reported l

-- A server as `Server::new` or `Server::with_store` makes it by a table that was read is at its beginning,
abbrev pub AServerBegins : Type 0
AServerBegins =
    (bytes : List ℕ) (table : Table) (kept : List Stored) (serial : ℕ) (a : ServerState)
    → BytesReadAsTable bytes (Ok table) → a.engine.core.table ≡ table → ResponsesMayBeHeldAtStart table kept serial
    → EngineRepresents a.engine (engine_model_at_start table kept serial 1)
    → (l : ServerLife) × (l.server ≡ a) × ServerBegins bytes table kept serial l

-- also one whose record begins with that table.
abbrev pub NewServerBeginsRecordedLife : Type 0
NewServerBeginsRecordedLife =
    (bytes : List ℕ) (table : Table) (kept : List Stored) (serial : ℕ) (a : ServerState) (begun : RecordSoFar)
    → BytesReadAsTable bytes (Ok table) → a.engine.core.table ≡ table → ResponsesMayBeHeldAtStart table kept serial
    → EngineRepresents a.engine (engine_model_at_start table kept serial 1)
    → a.recorder ≡ Some begun → RecordBeginsWithTable (Some []) bytes begun → begun.over ≡ false
    → (l : ServerLife) × (l.server ≡ a) × RecordedLifeBegins bytes table kept serial l

-- What an engine has lived through from the beginning on are the steps of its server's life.
abbrev pub ALifeIsAnExecution : Type 0
ALifeIsAnExecution =
    (bytes : List ℕ) (table : Table) (kept : List Stored) (serial : ℕ) (begin l : ServerLife)
    (turns : List (Result Report TurnFault))
    → ServerBegins bytes table kept serial begin → TurnsLeadToLife begin turns l
    → EngineLivedThroughSteps l.server.engine kept serial 1 l.steps l.model

-- Then what a call of `wait_and_serve_turn` did is one more turn, whole or as far as it came,
abbrev pub AServedTurnContinuesTheLife : Type 0
AServedTurnContinuesTheLife =
    (kept : List Stored) (serial : ℕ) (l : ServerLife) (b : ServerState) (turned : ServedTurn)
    → EngineLivedThroughSteps l.server.engine kept serial 1 l.steps l.model
    → ServeTurnResultIsTruthful l.server b (Ok turned)
    → (m : ServerLife) × (m.server ≡ b) × LifeContinuesByTurn l turned.reported m

-- also where the last number of a link is used.
abbrev pub ATurnOutOfLinkNumbersContinuesTheLife : Type 0
ATurnOutOfLinkNumbersContinuesTheLife =
    (kept : List Stored) (serial : ℕ) (l : ServerLife) (b : ServerState)
    → EngineLivedThroughSteps l.server.engine kept serial 1 l.steps l.model
    → ServeTurnResultIsTruthful l.server b (Err Spent)
    → (m : ServerLife) × (m.server ≡ b) × LifeContinuesByTurn l (Err faults.Spent) m

-- While a record is written, the effects of a turn are those of its acts, behind those before it; and of its acts just
-- these are written: each reply to its client and each request on its new link whole, once, in order. It leaves out no
-- more than the shutting of a link that had failed.
abbrev pub ARecordedTurnSendsItsEffects : Type 0
ARecordedTurnSendsItsEffects =
    (bytes : List ℕ) (table : Table) (kept : List Stored) (serial : ℕ) (begin l m : ServerLife)
    (past : List (Result Report TurnFault))
    (reported : Result Report TurnFault)
    → RecordedLifeBegins bytes table kept serial begin → TurnsLeadToLife begin past l
    → (on : LifeContinuesByTurn l reported m)
    → m.server.failed ≡ false → is_recording m.server.recorder ≡ true
    → (effects_of_steps m.steps ≡ effects_of_steps l.steps ++ effects_of_rounds on.served.turn.turns.rounds)
    × (calls_without_link_shuts (calls_of_rounds on.served.turn.turns.rounds)
    ≡ calls_of_successful_effects (effects_of_rounds on.served.turn.turns.rounds))

-- ---- what a replay does

-- the text is that of the effects of these steps, and of more only where something is due
pub record ReplayTellsWhatWasServed (l : ServerLife) (text : List ℕ) : Type 0 where
  pub rest : List Effect
  pub text_is : text ≡ effects_text (effects_of_steps l.steps ++ rest)
  pub due : IsFirstDueAct l.model None → rest ≡ []
  pub settled : l.server.settled ≡ true → rest ≡ []

-- A record that is being written, and that is replayed to its end, replays what was served: all of it, each byte, in
-- order. More only where something is still due. A script can spell what happened.
abbrev pub ARecordReplaysWhatWasServed : Type 0
ARecordReplaysWhatWasServed =
    (bytes : List ℕ) (table : Table) (kept : List Stored) (serial : ℕ) (begin l : ServerLife)
    (turns : List (Result Report TurnFault)) (r : RecordSoFar) (script text : List ℕ)
    → RecordedLifeBegins bytes table kept serial begin → TurnsLeadToLife begin turns l
    → l.server.failed ≡ false → l.server.recorder ≡ Some r → r.over ≡ false → r.held ≡ Some script
    → AllByRecursion RecordedHappeningHasSpelling l.happened
    → ScriptIsReplayedOverAStore kept serial script text → ReplayTellsWhatWasServed l text

-- A record that has ended, or goes on, replays first all that was served while it was being written.
abbrev pub AnEndedRecordReplaysWhatWasServed : Type 0
AnEndedRecordReplaysWhatWasServed =
    (bytes : List ℕ) (table : Table) (kept : List Stored) (serial : ℕ) (begin l m : ServerLife)
    (turns more : List (Result Report TurnFault))
    (r : RecordSoFar) (script text : List ℕ)
    → RecordedLifeBegins bytes table kept serial begin → TurnsLeadToLife begin turns l → is_recording l.server.recorder
    ≡ true
    → TurnsLeadToLife l more m
    → m.server.failed ≡ false → m.server.recorder ≡ Some r → r.held ≡ Some script
    → AllByRecursion RecordedHappeningHasSpelling m.happened
    → ScriptIsReplayedOverAStore kept serial script text
    → (rest : List Effect) × (text ≡ effects_text (effects_of_steps l.steps ++ rest))
