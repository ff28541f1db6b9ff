-- What an engine has lived through, from one step of a server to the next.
use Rattle.std.proofs.Common.{◌≡◌, ℕ, List, refl, sym, ap, ◌∙◌, subst, Bool, Result, Ok, Err}
use Rattle.std.specs.Prelude.{◌<◌, ◌||◌, not, cond, true, false, Option}
use Rattle.hx_fields.specs.declared.limits.TheConstants.{START_OF_YEAR_10000}
use Rattle.proxy_engine.specs.EngineModel.{EngineModel}
use Rattle.proxy_engine.specs.Orderly.{ModelIsConsistent}
use Rattle.proxy_engine.specs.State.{State, EngineRepresents}
use Rattle.proxy_engine.specs.declared.work.End.{End}
use Rattle.proxy_turn.specs.Over.{EngineTurnsOverGivenEndsWithCalls}
use Rattle.proxy_turn.specs.Served.{EngineContinues, EngineServesTurn, EngineContinuesByNothing, EngineContinuesByTurn, EndLossesKeepModelConsistent}
use Rattle.proxy_turn.specs.Counts.{Calls}
use Rattle.proxy_record.specs.Records.{RecordSoFar}
use Rattle.proxy_record.specs.Recorded.{is_recording}
use Rattle.proxy_turn.specs.declared.report.Report.{Report}
use Rattle.proxy_turn.specs.declared.report.TurnFault.{TurnFault}
use Rattle.proxy_turn.specs.declared.report.TurnFault.TheVariants as faults
use Rattle.proxy_server.specs.ServerState.{ServerState, state_at_turn_start, ServerSocketsMadeCalls}
use Rattle.proxy_server.specs.Losses.{ServerTakesEndLosses}
use Rattle.proxy_server.specs.Serving.{server_accept_bounds, turn_left_no_act_due, ServerServesTurn, TurnIsServed, TurnIsServedAndSettled, ServeTurnResultIsTruthful}
use Rattle.proxy_server.specs.Paces.{work_left_after_turn}
use Rattle.proxy_server.specs.declared.pace.WorkLeftForNextTurn.{WorkLeftForNextTurn}
use Rattle.proxy_server.specs.declared.server.ServedTurn.{ServedTurn}
use Rattle.proxy_server.specs.declared.server.ServeFault.{ServeFault}
use Rattle.proxy_server.specs.declared.server.ServeFault.TheVariants as fault

-- what a turn of a server is of its engine
engine_turns : (a b : ServerState) (reported : Result Report TurnFault) → ServerServesTurn a b reported → EngineServesTurn a.moment server_accept_bounds a.engine b.engine reported
engine_turns a b reported serves s represents orderly =
    let turn = serves s represents orderly in
    record {
      lost = turn.handed_in.losses.lost;
      are_losses = turn.handed_in.losses.are_losses;
      mid = turn.handed_in.losses.after;
      takes = turn.handed_in.losses.takes;
      given = turn.given;
      left = turn.left;
      before = turn.mid.calls;
      after = b.calls;
      turn = turn.turn.turns;
    }

pub goes_by_turn : EngineContinuesByTurn → (a b : ServerState) (reported : Result Report TurnFault) → ServerServesTurn a b reported → EngineContinues a.engine b.engine
goes_by_turn turns a b reported serves = turns a.engine b.engine a.moment server_accept_bounds reported (engine_turns a b reported serves)

served_on : EngineContinuesByTurn → (a b : ServerState) (reported : Result Report TurnFault) → TurnIsServed a b reported → EngineContinues a.engine b.engine
served_on turns a b reported served = goes_by_turn turns (state_at_turn_start served.now a) b reported served.serves

settled_on : EngineContinuesByTurn → (a b : ServerState) (reported : Result Report TurnFault) → TurnIsServedAndSettled a b reported → EngineContinues a.engine b.engine
settled_on turns a b reported did =
    subst (λ (x : ServerState). EngineContinues a.engine x.engine) (sym did.settles) (served_on turns a did.last reported did.served)

-- whatever a call answers, the engine has gone on
pub answered_on : EngineContinuesByNothing → EngineContinuesByTurn → (a b : ServerState) (result : Result ServedTurn ServeFault) → ServeTurnResultIsTruthful a b result → EngineContinues a.engine b.engine
answered_on stays turns a b (Ok turned) did = settled_on turns a b turned.reported did.1.0
answered_on stays turns a b (Err fault.Socket) same = subst (λ (x : ServerState). EngineContinues a.engine x.engine) (sym same) (stays a.engine)
answered_on stays turns a b (Err fault.Clock) same = subst (λ (x : ServerState). EngineContinues a.engine x.engine) (sym same) (stays a.engine)
answered_on stays turns a b (Err (fault.Record why)) did = served_on turns a b did.1.0 did.1.1
answered_on stays turns a b (Err fault.Spent) did = settled_on turns a b (Err faults.Spent) did

-- what a turn leaves to the next
pub settles : (p : WorkLeftForNextTurn) (reported : Result Report TurnFault) (more : Bool) → (work_left_after_turn p reported more).settled ≡ turn_left_no_act_due reported
settles p (Ok report) more = refl
settles p (Err faults.Listener) more = refl
settles p (Err faults.NoMemory) more = refl
settles p (Err faults.Spent) more = refl

-- a turn begins at the moment of the clock, or at that of the one before
pub begun_early : (end now was : ℕ) (fresh : Bool) → now < end → was < end → cond fresh now was < end
begun_early end now was true early before = early
begun_early end now was false early before = before

-- What was lost was handed in, and then one turn was served over the sockets of the server.
pub turned_over : EndLossesKeepModelConsistent → (a seen b : ServerState) (now : ℕ) → now ≡ a.moment → (given left : List End) (reported : Result Report TurnFault)
    → ServerTakesEndLosses a seen → b.settled ≡ seen.settled
    → ((s : EngineModel) → EngineRepresents seen.engine s → ModelIsConsistent s → EngineTurnsOverGivenEndsWithCalls now server_accept_bounds s given b.engine left (λ made. ServerSocketsMadeCalls seen made b) seen.calls b.calls reported)
    → ServerServesTurn a b reported
turned_over order a seen b now is given left reported loses settled turns s represents orderly =
    let handed_in = loses s represents in
    record {
      mid = seen;
      handed_in = handed_in;
      given = given;
      left = left;
      turn = subst (λ (m : ℕ). EngineTurnsOverGivenEndsWithCalls m server_accept_bounds handed_in.losses.after given b.engine left (λ made. ServerSocketsMadeCalls seen made b) seen.calls b.calls reported) is
          (turns handed_in.losses.after handed_in.losses.represents (order s seen.engine handed_in.losses orderly));
      settled = settled ∙ handed_in.settled;
    }

-- what is seen of a server, part for part
abbrev pub server_state : State → Option RecordSoFar → Bool → ℕ → Bool → Bool → Calls → ServerState
server_state engine recorder failed moment taken settled calls = record {
  engine = engine;
  recorder = recorder;
  failed = failed;
  moment = moment;
  taken = taken;
  settled = settled;
  calls = calls;
}

pub begun_from : (now : ℕ) (seen before a : ServerState) → before ≡ a → seen ≡ state_at_turn_start now before → seen ≡ state_at_turn_start now a
begun_from now seen before a first begun = begun ∙ ap (state_at_turn_start now) first

pub served_behind : (now : ℕ) (seen a b : ServerState) (reported : Result Report TurnFault) → seen ≡ state_at_turn_start now a → now < START_OF_YEAR_10000 → a.moment < START_OF_YEAR_10000
    → ServerServesTurn seen b reported → TurnIsServed a b reported
served_behind now seen a b reported begun early before serves = record {
  now = now;
  early = begun_early START_OF_YEAR_10000 now a.moment (a.settled || not (is_recording a.recorder)) early before;
  serves = subst (λ (x : ServerState). ServerServesTurn x b reported) begun serves;
}

pub settled_behind : (now : ℕ) (seen a b last : ServerState) (reported : Result Report TurnFault) → seen ≡ state_at_turn_start now a → now < START_OF_YEAR_10000 → a.moment < START_OF_YEAR_10000
    → ServerServesTurn seen b reported → last ≡ record b { settled = turn_left_no_act_due reported } → TurnIsServedAndSettled a last reported
settled_behind now seen a b last reported begun early before serves settles = record {
  last = b;
  served = served_behind now seen a b reported begun early before serves;
  settles = settles;
}

-- and the moment that it names is that of the turn
pub answered_at : (now : ℕ) (seen a b last : ServerState) (reported : Result Report TurnFault) (moment : ℕ) → seen ≡ state_at_turn_start now a → now < START_OF_YEAR_10000 → a.moment < START_OF_YEAR_10000
    → ServerServesTurn seen b reported → last ≡ record b { settled = turn_left_no_act_due reported } → moment ≡ seen.moment
    → (served : TurnIsServedAndSettled a last reported) × (moment ≡ (state_at_turn_start served.served.now a).moment)
answered_at now seen a b last reported moment begun early before serves settles is = (
  record {
    last = b;
    served = record {
      now = now;
      early = begun_early START_OF_YEAR_10000 now a.moment (a.settled || not (is_recording a.recorder)) early before;
      serves = subst (λ (x : ServerState). ServerServesTurn x b reported) begun serves;
    };
    settles = settles;
  },
  is ∙ ap (λ (x : ServerState). x.moment) begun,
)
