-- While a record is written a turn writes the effects of its acts.
use Rattle.std.proofs.Common.{◌≡◌, inr, ℕ, ◌+◌, List, [], ◌++◌, length, refl, sym, ap, ◌∙◌, arith, true, Err}
use Rattle.proxy_script.specs.declared.effect_list.Effect.{Effect}
use Rattle.proxy_engine.specs.EngineModel.{EngineModel}
use Rattle.proxy_engine.specs.Executions.{effects_of_steps}
use Rattle.proxy_engine.specs.Reading.{failed_links}
use Rattle.proxy_engine.specs.State.{State}
use Rattle.proxy_turn.specs.Counts.{Calls, CountRisesBy}
use Rattle.proxy_turn.specs.Turn.{calls_of_reads, calls_of_rounds}
use Rattle.proxy_turn.specs.TurnSteps.{effects_of_rounds}
use Rattle.proxy_turn.specs.Over.{ends_to_read, calls_of_accepts}
use Rattle.proxy_turn.specs.OverSteps.{TurnOverGivenEndsStepsEmitTheirEffects}
use Rattle.proxy_turn.specs.Served.{EngineLivedThroughSteps, EndLossesAreTaken, TurnIsServedAfterEndLosses, steps_taking_happenings, TurnExecutesItsSteps}
use Rattle.proxy_turn.specs.declared.report.TurnFault.TheVariants as faults
use Rattle.proxy_turn_laws.specs.ActsOfATurn.{NoCallOfRoundsFailed, ATurnWritesItsEffects}
use Rattle.proxy_record.specs.Recorded.{is_recording}
use Rattle.proxy_record.specs.RecordedTurns.{TurnsAreRecorded}
use Rattle.proxy_server.specs.ServerState.{ServerState, state_at_turn_start}
use Rattle.proxy_server.specs.Serving.{server_accept_bounds}
use Rattle.proxy_record_laws.specs.LivesOfAServer.{ARecordedTurnSendsItsEffects}
use Rattle.proxy_record_laws.proofs.Taking.{fine_rounds, none_failed_in_two}
use Rattle.proxy_record_laws.proofs.Living.{last_fine}
use Rattle.proxy_record_laws.proofs.LivingOn.{losses_emit}
use Rattle.proxy_record_laws.proofs.Replaying.{life_is_executed}

no_rise : (n : ℕ) → CountRisesBy n n 0
no_rise n = record { no_less = omega arith; exact = λ few. omega arith }

-- a turn that came no further than what was lost in front of it
abbrev lost_alone : (now : ℕ) (s : EngineModel) (e : State) → Calls → (losses : EndLossesAreTaken s e) → TurnIsServedAfterEndLosses now server_accept_bounds s e (Err faults.NoMemory)
lost_alone now s e counts losses = record {
  lost = losses.lost;
  are_losses = losses.are_losses;
  mid = losses.after;
  takes = losses.takes;
  given = [];
  left = ends_to_read losses.after [] [] losses.after;
  before = counts;
  after = counts;
  turn = record {
    accepts = [];
    reads = [];
    rest = ends_to_read losses.after [] [] losses.after;
    rounds = [];
    last = losses.after;
    turn = record {
      begun = losses.after;
      read = losses.after;
      gone = failed_links losses.after;
      few = omega arith;
      accepts_are = refl;
      ends = refl;
      reads_are = refl;
      works = (refl, refl);
      bound = omega arith;
      accepts_come_first = inr (refl, refl);
      reads_come_before_acts = inr refl;
    };
    represents = losses.represents;
    listed = refl;
    reports = refl;
    raises = record { asked = no_rise counts.accepts; read = no_rise counts.reads; failed = no_rise counts.failures };
  };
}

pub recorded_turn_writes : ATurnWritesItsEffects → TurnExecutesItsSteps → TurnOverGivenEndsStepsEmitTheirEffects → TurnsAreRecorded → ARecordedTurnSendsItsEffects
recorded_turn_writes writes by_steps emit recorded bytes table kept serial begin l m past reported begins leads on fine recording =
    let moment = (state_at_turn_start on.now l.server).moment in
    let mid = on.served.mid in
    let losses = on.served.handed_in.losses in
    let turns = on.served.turn.turns in
    let rounds = turns.rounds in
    let executed = life_is_executed by_steps bytes table kept serial begin l past begins.server leads in
    let then_executed : EngineLivedThroughSteps mid.engine kept serial 1 (steps_taking_happenings losses.lost l.steps) losses.after =
    by_steps l.server.engine mid.engine kept serial 1 l.steps l.model moment server_accept_bounds (Err faults.NoMemory) executed (lost_alone moment l.model mid.engine mid.calls losses) in
    let recording_last : is_recording on.last.recorder ≡ true = ap (λ (a : ServerState). is_recording a.recorder) (sym on.server) ∙ recording in
    let own = on.served.turn.calls.notes (last_fine recorded l reported m on fine) in
    let asked = calls_of_accepts (length losses.after.connections + 1) turns.accepts in
    let read = calls_of_reads turns.reads in
    let whole : NoCallOfRoundsFailed rounds =
    fine_rounds rounds moment turns.turn.read (failed_links turns.turn.read) turns.last turns.turn.gone turns.turn.works
    (none_failed_in_two read (calls_of_rounds rounds) (none_failed_in_two asked (read ++ calls_of_rounds rounds) (own.whole recording_last)).1).1 in (
      ap effects_of_steps on.steps
          ∙ (emit (steps_taking_happenings losses.lost l.steps) moment losses.after turns.accepts turns.reads rounds
          ∙ ap (λ (es : List Effect). es ++ effects_of_rounds rounds) (losses_emit losses.lost l.steps)),
      writes mid.engine kept serial 1 (steps_taking_happenings losses.lost l.steps) moment server_accept_bounds losses.after on.served.given turns.accepts turns.reads turns.rest rounds turns.last then_executed whole turns.turn,
    )
