-- What an engine has lived through goes on by what happens and by turns, under one table.
use Rattle.std.proofs.Common.{◌≡◌, ℕ, List, [], ◌∷◌, ◌++◌, refl, sym, ap, ◌∙◌, subst, append_assoc, Bool, Option, Result, Ok, Err}
use Rattle.std.specs.List.{AllByRecursion}
use Rattle.hx_allow.specs.TableLines.{Table}
use Rattle.hx_framing.specs.declared.frame_fault.FrameFault.TheVariants as frame
use Rattle.hx_framing.specs.declared.messages.Next.{Next}
use Rattle.hx_framing.specs.declared.messages.Next.TheVariants as next
use Rattle.hx_framing.specs.declared.messages.Request.{Request}
use Rattle.hx_hop.specs.declared.request_view.Asked.{Asked}
use Rattle.hx_status.specs.declared.cause.Cause.{Cause}
use Rattle.hx_status.specs.declared.question.MethodAndTarget.{MethodAndTarget}
use Rattle.hx_store.specs.Stored.{Stored}
use Rattle.proxy_core.specs.State.{State as CoreState}
use Rattle.proxy_core.specs.Traces.{initial_state as core_begun}
use Rattle.proxy_core.specs.declared.event.Event.{Event}
use Rattle.proxy_script.specs.declared.effect_list.Effect.{Effect}
use Rattle.proxy_engine.specs.Admitted.{Refusal}
use Rattle.proxy_engine.specs.Happenings.{HappeningModel, Accepts, Sends, Hears, Ends, Leaves, Retires, Overdues, Shuts, Fails}
use Rattle.proxy_engine.specs.EngineModel.{EngineModel, model_after_happening, model_with_core}
use Rattle.proxy_engine.specs.Due.{Act, Abandons, Finishes, Wakes, Serves, Gives, Breaks}
use Rattle.proxy_engine.specs.Acts.{request_is_head, ActIsDone, CoreIsStepped, RequestIsRefusedAndClosed, ConnectionIsClosedWithEffect, ConnectionRequestIsServed, RequestArrivesOrIsRefused, OutcomeOnConnection, Replies, Forwards, Queues, Nothing, outcome_with_origin_address, model_after_outcome}
use Rattle.proxy_engine.specs.Orderly.{ModelIsConsistent, NewModelIsConsistent, HappeningKeepsModelConsistent, ActKeepsModelConsistent}
use Rattle.proxy_engine.specs.Executions.{ExecutionStep, Took, Worked, StepsLeadToModel, CoreStepsOfExecutionsAreGoodRuns}
use Rattle.proxy_engine.specs.State.{State, EngineRepresents}
use Rattle.proxy_engine.specs.Beginnings.{ResponsesMayBeHeldAtStart, engine_model_at_start, store_holding}
use Rattle.proxy_turn.specs.OverSteps.{TurnOverGivenEndsStepsAreExecuted}
use Rattle.proxy_turn.specs.declared.bounds.TurnAcceptBounds.{TurnAcceptBounds}
use Rattle.proxy_turn.specs.declared.report.Report.{Report}
use Rattle.proxy_turn.specs.declared.report.TurnFault.{TurnFault}
use Rattle.proxy_turn.specs.Served.{initial_model_of, EngineLivedThroughSteps, steps_taking_happenings, IsLossTimeoutOrRetirement, TurnIsServedAfterEndLosses, steps_of_served_turn, EndLossesMayBeNone, OneEndLossIsTaken, EndLossesAreTakenTransitively, EndLossesAreTakenInOrder, EndLossesKeepModelConsistent, EngineContinuesByEndLosses, TurnIsServedByEndLossesAndTurn, NewEngineIsReachable, EngineContinuesByNothing, EngineContinuesTransitively, EngineContinuesByHappening, EngineContinuesByTurn, ReachableEngineStaysReachable, ReachableEngineHasServedAGoodRun, TurnExecutesItsSteps, ExecutedEngineHasServedAGoodRun, EngineKeepsItsTable}
use Rattle.proxy_turn.proofs.Stepping.{executes_on}

-- ---- the table and the room of the store stay

abbrev kept_core : CoreState → Table × ℕ
kept_core k = (k.table, k.limit)

abbrev kept : EngineModel → Table × ℕ
kept s = kept_core s.core

core_heard : (s : EngineModel) (h : HappeningModel) → kept_core (model_after_happening s h).core ≡ kept_core s.core
core_heard s (Accepts n) = refl
core_heard s (Sends n bytes) = refl
core_heard s (Hears l bytes) = refl
core_heard s (Ends n) = refl
core_heard s (Leaves n) = refl
core_heard s (Retires n) = refl
core_heard s (Overdues n) = refl
core_heard s (Shuts l) = refl
core_heard s (Fails l kind) = refl

steps_keep : (s t : EngineModel) (i : ℕ) (asked : Option Asked) (event : Event) (before emitted : List Effect) (after : EngineModel) → CoreIsStepped s t i asked event before emitted after → kept after ≡ kept s
steps_keep s t i asked event before emitted after steps =
    ap kept steps.after_is ∙ (by (outcome_with_origin_address s.core.table steps.outcome) ∙ ap kept_core steps.steps.leaves)
  where
    by : (c : OutcomeOnConnection) → kept (model_after_outcome i (request_is_head asked) c (model_with_core t steps.core)) ≡ kept_core steps.core
    by (Replies bytes about close) = refl
    by (Forwards address bytes) = refl
    by Queues = refl
    by Nothing = refl

does_keep : (s : EngineModel) (now : ℕ) (act : Act) (emitted : List Effect) (after : EngineModel) → ActIsDone s now act emitted after → kept after ≡ kept s
does_keep s now (Abandons i l) emitted after done = steps_keep s _ _ _ _ _ emitted after done
does_keep s now (Finishes j (Gives r)) emitted after done = steps_keep s _ _ _ _ _ emitted after done.1
does_keep s now (Finishes j (Breaks kind)) emitted after done = steps_keep s _ _ _ _ _ emitted after done
does_keep s now (Wakes i) emitted after done = steps_keep s _ _ _ _ _ emitted after done.1
does_keep s now (Serves i action) emitted after done = by_action action done
  where
    refuses : (why : Cause) (head : Bool) (question : Option MethodAndTarget) → RequestIsRefusedAndClosed s now i why head question emitted after → kept after ≡ kept s
    refuses why head question d = ap kept d.after_is

    closes : ConnectionIsClosedWithEffect s i emitted after → kept after ≡ kept s
    closes d = ap kept d.1

    arrives : (r : Request) (judged : Result Asked Refusal) → RequestArrivesOrIsRefused s now i r judged emitted after → kept after ≡ kept s
    arrives r (Ok asked) d = steps_keep s _ _ _ _ _ emitted after d.1
    arrives r (Err refusal) d = refuses _ _ _ d

    by_action : (w : Next Request) → ConnectionRequestIsServed s now i w emitted after → kept after ≡ kept s
    by_action next.More d = absurd d
    by_action next.NeedsContinue d = ap kept d.1
    by_action (next.Message r) d = arrives r d.0 d.2
    by_action (next.Refused frame.Truncated) d = closes d
    by_action (next.Refused frame.Head) d = refuses _ _ _ d
    by_action (next.Refused frame.Version) d = refuses _ _ _ d
    by_action (next.Refused frame.BothLengths) d = refuses _ _ _ d
    by_action (next.Refused frame.Length) d = refuses _ _ _ d
    by_action (next.Refused frame.Coding) d = refuses _ _ _ d
    by_action (next.Refused frame.Chunk) d = refuses _ _ _ d
    by_action (next.Refused frame.TooLarge) d = refuses _ _ _ d
    by_action (next.Refused frame.Expect) d = refuses _ _ _ d
    by_action (next.Refused frame.Status) d = refuses _ _ _ d
    by_action next.End d = closes d

executes_keep : (s : EngineModel) (steps : List ExecutionStep) (t : EngineModel) → StepsLeadToModel s steps t → kept t ≡ kept s
executes_keep s [] t here = ap kept here
executes_keep s (Took h ∷ past) t executes =
    ap kept executes.2.1 ∙ (core_heard executes.0 h ∙ executes_keep s past executes.0 executes.1)
executes_keep s (Worked now act emitted ∷ past) t executes = does_keep executes.0 now act emitted t executes.2.1 ∙ executes_keep s past executes.0 executes.1

-- an engine that stands for what was lived from a beginning by this table has that table
same_table : (e new : State) (held : List Stored) (first link : ℕ) (steps : List ExecutionStep) (last : EngineModel) → StepsLeadToModel (initial_model_of e held first link) steps last → EngineRepresents new last → e.core.table ≡ new.core.table
same_table e new held first link steps last executes represents =
    sym (ap (λ (k : Table × ℕ). k.0) (ap kept_core represents.core ∙ executes_keep (initial_model_of e held first link) steps last executes))

-- ---- what is lost is taken

take_on : (hs : List HappeningModel) (past : List ExecutionStep) → steps_taking_happenings hs past ≡ steps_taking_happenings hs [] ++ past
take_on [] past = refl
take_on (h ∷ hs) past =
    take_on hs (Took h ∷ past)
    ∙ (sym (append_assoc (steps_taking_happenings hs []) (Took h ∷ []) past) ∙ ap (λ (steps : List ExecutionStep). steps ++ past) (sym (take_on hs (Took h ∷ []))))

takes_live : (hs : List HappeningModel) (begin : EngineModel) (past : List ExecutionStep) (s t : EngineModel) → StepsLeadToModel begin past s → StepsLeadToModel s (steps_taking_happenings hs []) t → StepsLeadToModel begin (steps_taking_happenings hs past) t
takes_live hs begin past s t before takes =
    subst (λ (steps : List ExecutionStep). StepsLeadToModel begin steps t) (sym (take_on hs past)) (executes_on (steps_taking_happenings hs []) begin past s t before takes)

take_both : (hs more : List HappeningModel) (past : List ExecutionStep) → steps_taking_happenings (hs ++ more) past ≡ steps_taking_happenings more (steps_taking_happenings hs past)
take_both [] more past = refl
take_both (h ∷ hs) more past = take_both hs more (Took h ∷ past)

both_losses : (hs more : List HappeningModel) → AllByRecursion IsLossTimeoutOrRetirement hs → AllByRecursion IsLossTimeoutOrRetirement more → AllByRecursion IsLossTimeoutOrRetirement (hs ++ more)
both_losses [] more are others = others
both_losses (h ∷ hs) more are others = (are.0, both_losses hs more are.1 others)

pub nothing_is_lost : EndLossesMayBeNone
nothing_is_lost e s represents = record { lost = []; are_losses = tt; after = s; takes = refl; represents = represents }

pub one_is_lost : OneEndLossIsTaken
one_is_lost e new h loss taken s represents =
    let took = taken s represents in
    record { lost = h ∷ []; are_losses = (loss, tt); after = model_after_happening s h; takes = (s, refl, (took.free, refl)); represents = took.represents }

pub both_are_lost : EndLossesAreTakenInOrder
both_are_lost s mid new one other = (
  record {
    lost = one.lost ++ other.lost;
    are_losses = both_losses one.lost other.lost one.are_losses other.are_losses;
    after = other.after;
    takes = subst (λ (steps : List ExecutionStep). StepsLeadToModel s steps other.after) (sym (take_both one.lost other.lost []))
        (takes_live other.lost s (steps_taking_happenings one.lost []) one.after other.after one.takes other.takes);
    represents = other.represents;
  },
  refl,
  refl,
)

pub more_are_lost : EndLossesAreTakenTransitively
more_are_lost e mid new first rest s represents =
    let one = first s represents in
    (both_are_lost s mid new one (rest one.after one.represents)).0

pub losses_go_on : EngineContinuesByEndLosses
losses_go_on e new loses s represents orderly =
    let losses = loses s represents in
    record { steps = steps_taking_happenings losses.lost []; last = losses.after; executes = losses.takes; represents = losses.represents }

executes_orderly : HappeningKeepsModelConsistent → ActKeepsModelConsistent → (s : EngineModel) (steps : List ExecutionStep) (t : EngineModel) → ModelIsConsistent s → StepsLeadToModel s steps t → ModelIsConsistent t
executes_orderly takes acts s [] t h here = subst ModelIsConsistent (sym here) h
executes_orderly takes acts s (Took said ∷ past) t h executes = subst ModelIsConsistent (sym executes.2.1) (takes executes.0 said (executes_orderly takes acts s past executes.0 h executes.1))
executes_orderly takes acts s (Worked now act emitted ∷ past) t h executes = (acts executes.0 now act emitted t (executes_orderly takes acts s past executes.0 h executes.1) executes.2.0 executes.2.1).0

pub losses_keep_order : HappeningKeepsModelConsistent → ActKeepsModelConsistent → EndLossesKeepModelConsistent
losses_keep_order takes acts s e losses orderly =
    executes_orderly takes acts s (steps_taking_happenings losses.lost []) losses.after orderly losses.takes

pub turns_are_served : HappeningKeepsModelConsistent → ActKeepsModelConsistent → TurnIsServedByEndLossesAndTurn
turns_are_served takes acts e mid new now bounds given left before after emitted loses turns s represents orderly =
    let losses = loses s represents in
    record {
      lost = losses.lost;
      are_losses = losses.are_losses;
      mid = losses.after;
      takes = losses.takes;
      given = given;
      left = left;
      before = before;
      after = after;
      turn = turns losses.after losses.represents (executes_orderly takes acts s (steps_taking_happenings losses.lost []) losses.after orderly losses.takes);
    }

-- ---- it goes on

table_now : (e : State) (s : EngineModel) → EngineRepresents e s → kept_core e.core ≡ kept s
table_now e s represents = ap kept_core represents.core

pub begins_reachable : NewEngineIsReachable
begins_reachable e table held first link may represents =
    let same : table ≡ e.core.table = sym (ap (λ (k : CoreState). k.table) represents.core) in
    record {
      held = held;
      first = first;
      link = link;
      steps = [];
      last = engine_model_at_start table held first link;
      executed = record {
        begins = subst (λ (t : Table). ResponsesMayBeHeldAtStart t held first) same may;
        executes = ap (λ (t : Table). engine_model_at_start t held first link) same;
        represents = represents;
      };
    }

pub stays_on : EngineContinuesByNothing
stays_on e s represents orderly = record { steps = []; last = s; executes = refl; represents = represents }

pub takes_go_on : EngineContinuesByHappening
takes_go_on e new h taken s represents orderly =
    let took = taken s represents in
    record { steps = Took h ∷ []; last = model_after_happening s h; executes = (s, refl, (took.free, refl)); represents = took.represents }

module _ (executed : TurnOverGivenEndsStepsAreExecuted) where
  -- behind what was lived before it
  served_executes : (begin : EngineModel) (past : List ExecutionStep) (e new : State) (s : EngineModel) (now : ℕ) (bounds : TurnAcceptBounds) (emitted : Result Report TurnFault) → StepsLeadToModel begin past s → (served : TurnIsServedAfterEndLosses now bounds s new emitted) → StepsLeadToModel begin (steps_of_served_turn served past) served.turn.last
  served_executes begin past e new s now bounds emitted before served =
      let turn = served.turn in
      executed begin (steps_taking_happenings served.lost past) now bounds served.mid served.given turn.accepts turn.reads turn.rest turn.rounds turn.last (takes_live served.lost begin past s served.mid before served.takes) turn.turn

  pub turns_go_on : EngineContinuesByTurn
  turns_go_on e new now bounds emitted serves s represents orderly =
      let served = serves s represents orderly in
      record { steps = steps_of_served_turn served []; last = served.turn.last; executes = served_executes s [] e new s now bounds emitted refl served; represents = served.turn.represents }

  pub turns_live_on : TurnExecutesItsSteps
  turns_live_on e new held first link steps s now bounds emitted before served =
      let whole = served_executes (initial_model_of e held first link) steps e new s now bounds emitted before.executes served in
      let same = same_table e new held first link (steps_of_served_turn served steps) served.turn.last whole served.turn.represents in
      record {
        begins = subst (λ (t : Table). ResponsesMayBeHeldAtStart t held first) same before.begins;
        executes = subst (λ (t : Table). StepsLeadToModel (engine_model_at_start t held first link) (steps_of_served_turn served steps) served.turn.last) same whole;
        represents = served.turn.represents;
      }

module _ (takes : HappeningKeepsModelConsistent) (acts : ActKeepsModelConsistent) where
  pub goes_on_and_on : EngineContinuesTransitively
  goes_on_and_on e mid new first rest s represents orderly =
      let one = first s represents orderly in
      let other = rest one.last one.represents (executes_orderly takes acts s one.steps one.last orderly one.executes) in
      record {
        steps = other.steps ++ one.steps;
        last = other.last;
        executes = executes_on other.steps s one.steps one.last other.last one.executes other.executes;
        represents = other.represents;
      }

  module _ (begins : NewModelIsConsistent) where
    executed_orderly : (e : State) (held : List Stored) (first link : ℕ) (steps : List ExecutionStep) (last : EngineModel) → EngineLivedThroughSteps e held first link steps last → ModelIsConsistent last
    executed_orderly e held first link steps last executed =
        executes_orderly takes acts (initial_model_of e held first link) steps last (begins (core_begun e.core.table (store_holding e.core.table held) first) link refl) executed.executes

    pub executions_are_serving : CoreStepsOfExecutionsAreGoodRuns → ExecutedEngineHasServedAGoodRun
    executions_are_serving runs e held first link steps last executed =
        (executed_orderly e held first link steps last executed, runs e.core.table (store_holding e.core.table held) first link steps last executed.begins executed.executes)

    pub reachable_goes_on : ReachableEngineStaysReachable
    reachable_goes_on e new goes had =
        let executed = had.executed in
        let more = goes had.last executed.represents (executed_orderly e had.held had.first had.link had.steps had.last executed) in
        let steps = more.steps ++ had.steps in
        let whole = executes_on more.steps (initial_model_of e had.held had.first had.link) had.steps had.last more.last executed.executes more.executes in
        let same = same_table e new had.held had.first had.link steps more.last whole more.represents in
        record {
          held = had.held;
          first = had.first;
          link = had.link;
          steps = steps;
          last = more.last;
          executed = record {
            begins = subst (λ (t : Table). ResponsesMayBeHeldAtStart t had.held had.first) same executed.begins;
            executes = subst (λ (t : Table). StepsLeadToModel (engine_model_at_start t had.held had.first had.link) steps more.last) same whole;
            represents = more.represents;
          };
        }

    pub keeps_its_table : EngineKeepsItsTable
    keeps_its_table e new goes had =
        let more = goes had.last had.executed.represents (executed_orderly e had.held had.first had.link had.steps had.last had.executed) in
        let same : kept_core new.core ≡ kept_core e.core =
        table_now new more.last more.represents ∙ (executes_keep had.last more.steps more.last more.executes ∙ sym (table_now e had.last had.executed.represents)) in
        (ap (λ (k : Table × ℕ). k.0) same, ap (λ (k : Table × ℕ). k.1) same)

pub reachable_are_serving : CoreStepsOfExecutionsAreGoodRuns → ReachableEngineHasServedAGoodRun
reachable_are_serving runs e had = record {
  held = had.held;
  first = had.first;
  link = had.link;
  steps = had.steps;
  last = had.last;
  run = runs e.core.table (store_holding e.core.table had.held) had.first had.link had.steps had.last had.executed.begins had.executed.executes;
  represents = had.executed.represents;
  limit = ap (λ (k : Table × ℕ). k.1) (table_now e had.last had.executed.represents ∙ executes_keep (initial_model_of e had.held had.first had.link) had.steps had.last had.executed.executes);
}
