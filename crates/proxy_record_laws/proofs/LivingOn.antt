-- How far the play of a record has come with the turns of its server.
use Rattle.std.proofs.Common.{◌≡◌, ◌⊎◌, inl, inr, ℕ, List, [], ◌∷◌, ◌++◌, length, refl, sym, ap, ◌∙◌, subst, append-nil, append_assoc, Bool, true, false, Option, None, Some, cond, Result, Ok, Err}
use Rattle.std.specs.Prelude.{not, ◌||◌, nat_lt}
use Rattle.std.proofs.lemmas.Bool.{false≢true, true≢false}
use Rattle.hx_allow.specs.TableLines.{Table}
use Rattle.hx_store.specs.Stored.{Stored}
use Rattle.proxy_script.specs.Happenings.{HappeningModel as Happening}
use Rattle.proxy_script.specs.declared.effect_list.Effect.{Effect}
use Rattle.proxy_engine.specs.EngineModel.{EngineModel}
use Rattle.proxy_engine.specs.Due.{Act, IsFirstDueAct}
use Rattle.proxy_engine.specs.Executions.{ExecutionStep, Took, StepsLeadToModel, effects_of_steps}
use Rattle.proxy_engine.specs.declared.work.End.{End}
use Rattle.proxy_turn.specs.Calls.{AcceptOutcome}
use Rattle.proxy_turn.specs.Turn.{EndRead, ActWithEffectFates}
use Rattle.proxy_turn.specs.Over.{TurnOverGivenEndsIsReported, calls_of_turn_over_given_ends}
use Rattle.proxy_turn.specs.OverSteps.{steps_of_turn_over_given_ends, TurnOverGivenEndsStepsEmitTheirEffects}
use Rattle.proxy_turn.specs.Served.{steps_taking_happenings}
use Rattle.proxy_turn.specs.declared.bounds.TurnAcceptBounds.{TurnAcceptBounds}
use Rattle.proxy_turn.specs.declared.limits.TheConstants.{MOST_ACTS_OF_A_TURN}
use Rattle.proxy_turn.specs.declared.report.Report.{Report}
use Rattle.proxy_turn.specs.declared.report.TurnFault.{TurnFault}
use Rattle.proxy_turn_laws.specs.ActsOfATurn.{RoundsWithoutFailureAreActsInOrder}
use Rattle.proxy_record.specs.Records.{RecordSoFar, RecordedHappening}
use Rattle.proxy_record.specs.Recorded.{TurnIsRecorded, is_recording}
use Rattle.proxy_record.specs.RecordedTurns.{happenings_of_steps, recorded_at_moment, TurnsAreRecorded}
use Rattle.proxy_server.specs.Losses.{AtMostOneEndLossIsTaken}
use Rattle.proxy_server.specs.ServerState.{ServerState, state_at_turn_start}
use Rattle.proxy_server.specs.Serving.{server_accept_bounds, turn_left_no_act_due}
use Rattle.proxy_record_laws.specs.OneThing.{AtMostOneHappeningIsTaken}
use Rattle.proxy_record_laws.specs.PlaysOfARecord.{NotedHappeningsArePlayedSoFar}
use Rattle.proxy_record_laws.specs.LivesOfAServer.{steps_of_server_turn, ServerLife, LifeContinuesByTurn, TurnsLeadToLife}
use Rattle.proxy_record_laws.proofs.PlayingOn.{plays_on, turns_play_on}
use Rattle.proxy_record_laws.proofs.Living.{moments_joined, open_before, first_fine, last_fine, mid_fine, turn_noted, life_noted}

-- ---- what was lost is one thing at most

losses_take : (lost : List Happening) (taken later : Bool) (now : ℕ) (s after : EngineModel) → StepsLeadToModel s (steps_taking_happenings lost []) after → AtMostOneEndLossIsTaken taken lost later → AtMostOneHappeningIsTaken taken s now lost [] after later
losses_take [] taken later now s after leads some = inl (record { none = refl; later_is = some; works = leads })
losses_take (h ∷ []) taken later now s after leads some =
    let lost : AtMostOneHappeningIsTaken taken leads.0 now (h ∷ []) [] after later =
    inr (record { happening = h; one = refl; first = some.0; later_is = some.1; free = leads.2.0; works = leads.2.1 }) in
    subst (λ (m : EngineModel). AtMostOneHappeningIsTaken taken m now (h ∷ []) [] after later) leads.1 lost
losses_take (h ∷ k ∷ more) taken later now s after leads some = absurd (true≢false some.1.0)

pub losses_emit : (lost : List Happening) (past : List ExecutionStep) → effects_of_steps (steps_taking_happenings lost past) ≡ effects_of_steps past
losses_emit [] past = refl
losses_emit (h ∷ lost) past = losses_emit lost (Took h ∷ past)

-- ---- what a turn leaves

settles_due : (reported : Result Report TurnFault) (bounds : TurnAcceptBounds) (accepts : List AcceptOutcome) (begun : EngineModel) (reads : List EndRead) (rest : List End) (rounds : List ActWithEffectFates) (t : EngineModel) → TurnOverGivenEndsIsReported bounds accepts begun reads rest rounds t reported
    → turn_left_no_act_due reported ≡ true → IsFirstDueAct t None
settles_due (Err fault) bounds accepts begun reads rest rounds t told is = absurd (false≢true is)
settles_due (Ok report) bounds accepts begun reads rest rounds t told is = by_count told.worked
  where
    by_count : (length rounds ≡ 1000) ⊎ IsFirstDueAct t None → IsFirstDueAct t None
    by_count (inl all) = absurd (few (report.works) (told.works ∙ all) is)
      where
        few : (n : ℕ) → n ≡ 1000 → nat_lt n MOST_ACTS_OF_A_TURN ≡ true → ⊥
        few n are less = false≢true (ap (λ (k : ℕ). nat_lt k MOST_ACTS_OF_A_TURN) (sym are) ∙ less)
    by_count (inr none) = none

pub isnt : (b : Bool) → not b ≡ false → b ≡ true
isnt true is = refl
isnt false is = absurd (true≢false is)

pub is_not : (b : Bool) → not b ≡ true → b ≡ false
is_not false is = refl
is_not true is = absurd (false≢true is)

-- ---- the play

pub record Stands (table : Table) (held : List Stored) (serial : ℕ) (l : ServerLife) : Type 0 where
  pub played : NotedHappeningsArePlayedSoFar table held serial l.happened (effects_of_steps l.steps) l.model l.server.moment
  pub settled : l.server.settled ≡ true → IsFirstDueAct l.model None

module _ (recorded : TurnsAreRecorded) (due : (s : EngineModel) → (a b : Option Act) → IsFirstDueAct s a → IsFirstDueAct s b → a ≡ b) (in_order : RoundsWithoutFailureAreActsInOrder) (emit : TurnOverGivenEndsStepsEmitTheirEffects) where
  abbrev SettledOrTaken : ServerLife → ℕ → EngineModel → Bool → Type 0
  SettledOrTaken l now s taken = (taken ≡ false → IsFirstDueAct s None) × (taken ≡ true → now ≡ l.server.moment)

  -- what may be taken in front of a turn, and at which moment
  begins_so : (table : Table) (held : List Stored) (serial : ℕ) (l : ServerLife) (now : ℕ) → Stands table held serial l → is_recording l.server.recorder ≡ true → SettledOrTaken l (state_at_turn_start now l.server).moment l.model (state_at_turn_start now l.server).taken
  begins_so table held serial l now stands writes =
      let a = l.server in (
        λ is. stands.settled (isnt a.settled is),
        λ is. ap (λ (b : Bool). cond (b || not (is_recording a.recorder)) now a.moment) (is_not a.settled is) ∙ ap (λ (b : Bool). cond (false || not b) now a.moment) writes,
      )

  -- behind what was lost: where nothing was taken, nothing is due
  due_behind : (taken later : Bool) (s after : EngineModel) (now : ℕ) (lost : List Happening) → AtMostOneHappeningIsTaken taken s now lost [] after later → (taken ≡ false → IsFirstDueAct s None) → later ≡ false → IsFirstDueAct after None
  due_behind taken later s after now lost (inl a) none is = subst (λ (m : EngineModel). IsFirstDueAct m None) (sym a.works) (none (sym a.later_is ∙ is))
  due_behind taken later s after now lost (inr a) none is = absurd (true≢false (sym a.later_is ∙ is))

  turn_stands : (table : Table) (held : List Stored) (serial : ℕ) (l : ServerLife) (reported : Result Report TurnFault) (m : ServerLife) (on : LifeContinuesByTurn l reported m) (r : RecordSoFar) → Stands table held serial l → l.server.recorder ≡ Some r → m.server.failed ≡ false → is_recording m.server.recorder ≡ true → Stands table held serial m
  turn_stands table held serial l reported m on r stands kept_at fine writes =
      let moment = (state_at_turn_start on.now l.server).moment in
      let taken = (state_at_turn_start on.now l.server).taken in
      let lost = on.served.handed_in.losses.lost in
      let after = on.served.handed_in.losses.after in
      let mid = on.served.mid in
      let last = on.last in
      let turns = on.served.turn.turns in
      let made = calls_of_turn_over_given_ends after turns.accepts turns.reads turns.rounds in
      let took = happenings_of_steps (steps_of_turn_over_given_ends moment after turns.accepts turns.reads turns.rounds []) in
      let noted = turn_noted recorded l reported m on r kept_at fine in
      let writes_last : is_recording last.recorder ≡ true = ap (λ (a : ServerState). is_recording a.recorder) (sym on.server) ∙ writes in
      let unended : noted.behind.over ≡ false = is_not noted.behind.over (ap is_recording (sym noted.held_last) ∙ writes) in
      let unended_mid : noted.behind_losses.over ≡ false = open_before (recorded_at_moment moment took) noted.behind_losses noted.behind noted.turn unended in
      let unended_first : r.over ≡ false = open_before (recorded_at_moment moment lost) r noted.behind_losses noted.losses unended_mid in
      let writes_mid : is_recording mid.recorder ≡ true = ap is_recording noted.held_then ∙ ap not unended_mid in
      let writes_first : is_recording l.server.recorder ≡ true = ap is_recording kept_at ∙ ap not unended_first in
      let begins = begins_so table held serial l on.now stands writes_first in
      let few = losses_take lost taken mid.taken moment l.model after on.served.handed_in.losses.takes (on.served.handed_in.takes (mid_fine recorded l reported m on fine) writes_mid) in
      let lost_played = plays_on due table held serial l.happened (effects_of_steps l.steps) l.model after l.server.moment moment taken mid.taken lost [] stands.played begins.0 begins.1 few in
      let past = steps_taking_happenings lost l.steps in
      let happened = l.happened ++ recorded_at_moment moment lost in
      let mid_played : NotedHappeningsArePlayedSoFar table held serial happened (effects_of_steps past) after moment =
      subst (λ (es : List Effect). NotedHappeningsArePlayedSoFar table held serial happened es after moment) (append-nil (effects_of_steps l.steps) ∙ sym (losses_emit lost l.steps)) lost_played in
      let own : TurnIsRecorded mid.moment mid.recorder mid.taken made last.moment last.recorder last.taken = on.served.turn.calls.notes (last_fine recorded l reported m on fine) in
      let played = turns_play_on due in_order emit table held serial happened past moment moment server_accept_bounds after on.served.given turns.accepts turns.reads turns.rest turns.rounds turns.last mid.taken last.taken mid_played
      (due_behind taken mid.taken l.model after moment lost few begins.0) (λ is. refl) turns.turn (own.whole writes_last) (own.takes writes_last) in
      let all : happened ++ recorded_at_moment moment took ≡ m.happened =
      append_assoc l.happened (recorded_at_moment moment lost) (recorded_at_moment moment took) ∙ (ap (λ (ns : List RecordedHappening). l.happened ++ ns) (sym (moments_joined moment lost took)) ∙ sym on.happened) in
      let steps_are : effects_of_steps (steps_of_server_turn on.served l.steps) ≡ effects_of_steps m.steps = ap effects_of_steps (sym on.steps) in
      let moment_is : moment ≡ m.server.moment = sym on.served.handed_in.moment ∙ (sym on.served.turn.calls.stays ∙ ap (λ (a : ServerState). a.moment) (sym on.server)) in
      record {
        played = subst (λ (n : ℕ). NotedHappeningsArePlayedSoFar table held serial m.happened (effects_of_steps m.steps) m.model n) moment_is
            (subst (λ (s : EngineModel). NotedHappeningsArePlayedSoFar table held serial m.happened (effects_of_steps m.steps) s moment) (sym on.model)
            (subst (λ (es : List Effect). NotedHappeningsArePlayedSoFar table held serial m.happened es turns.last moment) steps_are
            (subst (λ (ns : List RecordedHappening). NotedHappeningsArePlayedSoFar table held serial ns (effects_of_steps (steps_of_server_turn on.served l.steps)) turns.last moment) all played)));
        settled = λ is. subst (λ (s : EngineModel). IsFirstDueAct s None) (sym on.model)
            (settles_due reported server_accept_bounds turns.accepts turns.turn.begun turns.reads turns.rest turns.rounds turns.last turns.reports (ap (λ (a : ServerState). a.settled) (sym on.server) ∙ is));
      }

  -- a record that is still being written was so before
  writes_before : (turns : List (Result Report TurnFault)) (l m : ServerLife) (r : RecordSoFar) → TurnsLeadToLife l turns m → l.server.recorder ≡ Some r → m.server.failed ≡ false → is_recording m.server.recorder ≡ true → is_recording l.server.recorder ≡ true
  writes_before turns l m r leads kept_at fine writes =
      let since = life_noted recorded turns l m r leads kept_at fine in
      let unended : since.later.over ≡ false = is_not since.later.over (ap is_recording (sym since.held) ∙ writes) in
      ap is_recording kept_at ∙ ap not (open_before since.since r since.later since.noted unended)

  pub life_stands : (turns : List (Result Report TurnFault)) (table : Table) (held : List Stored) (serial : ℕ) (begin l : ServerLife) (r : RecordSoFar) → Stands table held serial begin → TurnsLeadToLife begin turns l → begin.server.recorder ≡ Some r → l.server.failed ≡ false → is_recording l.server.recorder ≡ true → Stands table held serial l
  life_stands [] table held serial begin l r stands same kept_at fine writes = subst (Stands table held serial) (sym same) stands
  life_stands (reported ∷ past) table held serial begin l r stands leads kept_at fine writes =
      let before = leads.0 in
      let fine_before = first_fine recorded before reported l leads.2 fine in
      let since = life_noted recorded past begin before r leads.1 kept_at fine_before in
      let one : TurnsLeadToLife before (reported ∷ []) l = (before, refl, leads.2) in
      let writes_then = writes_before (reported ∷ []) before l since.later one since.held fine writes in
      turn_stands table held serial before reported l leads.2 since.later (life_stands past table held serial begin before r stands leads.1 kept_at fine_before writes_then) since.held fine writes
