-- What a call of `wait_and_serve_turn` did, by what it answers.
--
-- server_accept_bounds: how many connections it serves
-- ServerTurn, ServerServesTurn: what was lost and one turn, over the sockets of the server itself
-- ServeTurnResultIsTruthful: what it answers
use Rattle.std.specs.Prelude.{◌≡◌, ℕ, ◌<◌, nat_lt, List, Bool, false, true, Result, Ok, Err}
use Rattle.hx_fields.specs.declared.limits.TheConstants.{START_OF_YEAR_10000}
use Rattle.proxy_engine.specs.State.{EngineRepresents}
use Rattle.proxy_engine.specs.EngineModel.{EngineModel}
use Rattle.proxy_engine.specs.Orderly.{ModelIsConsistent}
use Rattle.proxy_engine.specs.declared.work.End.{End}
use Rattle.proxy_turn.specs.Over.{EngineTurnsOverGivenEndsWithCalls}
use Rattle.proxy_turn.specs.declared.limits.TheConstants.{MOST_ACTS_OF_A_TURN}
use Rattle.proxy_turn.specs.declared.bounds.TurnAcceptBounds.{TurnAcceptBounds}
use Rattle.proxy_turn.specs.declared.report.Report.{Report}
use Rattle.proxy_turn.specs.declared.report.TurnFault.{TurnFault}
use Rattle.proxy_turn.specs.declared.report.TurnFault.TheVariants as faults
use Rattle.proxy_ends.specs.declared.limits.TheConstants.{MOST_OPEN_CONNECTIONS, MOST_ACCEPTED_PER_TURN}
use Rattle.proxy_server.specs.ServerState.{ServerState, state_at_turn_start, ServerSocketsMadeCalls}
use Rattle.proxy_server.specs.Losses.{EndLossesAreTakenAndRecorded}
use Rattle.proxy_server.specs.declared.server.ServedTurn.{ServedTurn}
use Rattle.proxy_server.specs.declared.server.ServeFault.{ServeFault}
use Rattle.proxy_server.specs.declared.server.ServeFault.TheVariants.{Socket, Clock, Record, Spent}

-- How many connections an engine has open at a time, and how often a turn asks for one. The sockets of a server may
-- have fewer: they tell that none waits.
abbrev pub server_accept_bounds : TurnAcceptBounds
server_accept_bounds = record { most_open = MOST_OPEN_CONNECTIONS; most_accepts = MOST_ACCEPTED_PER_TURN }

-- no number of a link was wanted that is used up
abbrev pub TurnHadLinkNumbersLeft : Result Report TurnFault → Type 0
TurnHadLinkNumbersLeft (Ok report) = Unit {0}
TurnHadLinkNumbersLeft (Err faults.Listener) = Unit {0}
TurnHadLinkNumbersLeft (Err faults.NoMemory) = Unit {0}
TurnHadLinkNumbersLeft (Err faults.Spent) = ⊥

-- what a turn leaves to the next: nothing, where it told of fewer acts than it may do
abbrev pub turn_left_no_act_due : Result Report TurnFault → Bool
turn_left_no_act_due (Ok report) = nat_lt report.works MOST_ACTS_OF_A_TURN
turn_left_no_act_due (Err fault) = false

-- What was lost was handed in, and then one turn was served, at the moment that had begun: with the engine of the
-- server, over its own sockets, and within its bounds. It told this. Nothing else was taken or done.
pub record ServerTurn (s : EngineModel) (a b : ServerState) (reported : Result Report TurnFault) : Type 0 where
  pub mid : ServerState
  pub handed_in : EndLossesAreTakenAndRecorded s a mid
  pub given : List End
  pub left : List End
  pub turn : EngineTurnsOverGivenEndsWithCalls a.moment server_accept_bounds handed_in.losses.after given b.engine left
      (λ made. ServerSocketsMadeCalls mid made b) mid.calls b.calls reported
  pub settled : b.settled ≡ a.settled

-- from each orderly model that its engine stood for
abbrev pub ServerServesTurn : ServerState → ServerState → Result Report TurnFault → Type 0
ServerServesTurn a b reported = (s : EngineModel) → EngineRepresents a.engine s → ModelIsConsistent s
    → ServerTurn s a b reported

-- A turn began at some moment up to the end of the year 9999, and was served.
pub record TurnIsServed (a b : ServerState) (reported : Result Report TurnFault) : Type 0 where
  pub now : ℕ
  pub early : (state_at_turn_start now a).moment < START_OF_YEAR_10000
  pub serves : ServerServesTurn (state_at_turn_start now a) b reported

-- the same, with what it leaves to the next
pub record TurnIsServedAndSettled (a b : ServerState) (reported : Result Report TurnFault) : Type 0 where
  pub last : ServerState
  pub served : TurnIsServed a last reported
  pub settles : b ≡ record last { settled = turn_left_no_act_due reported }

-- One turn was served, behind what was lost, at the moment that it names, and told what it says. Where the system can't
-- tell what is ready, or a clock can't be read, nothing was taken or done. Where the record failed, a turn was served
-- as far as it came; and where the last number of a link is used, by a turn that ended so.
abbrev pub ServeTurnResultIsTruthful : ServerState → ServerState → Result ServedTurn ServeFault → Type 0
ServeTurnResultIsTruthful a b (Ok turned) = TurnHadLinkNumbersLeft turned.reported
    × ((served : TurnIsServedAndSettled a b turned.reported)
    × (turned.moment ≡ (state_at_turn_start served.served.now a).moment))
ServeTurnResultIsTruthful a b (Err Socket) = b ≡ a
ServeTurnResultIsTruthful a b (Err Clock) = b ≡ a
ServeTurnResultIsTruthful a b (Err (Record fault)) = (b.failed ≡ true)
    × ((reported : Result Report TurnFault) × TurnIsServed a b reported)
ServeTurnResultIsTruthful a b (Err Spent) = TurnIsServedAndSettled a b (Err faults.Spent)
