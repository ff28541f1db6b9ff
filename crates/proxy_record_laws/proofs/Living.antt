-- What a server's turns noted, and how far the play of it has come with them.
use Rattle.std.proofs.Common.{◌≡◌, inl, inr, ℕ, List, [], ◌∷◌, ◌++◌, refl, sym, ap, ◌∙◌, subst, append-nil, append_assoc, Bool, true, false, Option, Some, Result}
use Rattle.std.specs.Prelude.{not, ◌&&◌}
use Rattle.std.proofs.lemmas.Bool.{true≢false}
use Rattle.proxy_script.specs.Happenings.{HappeningModel as Happening}
use Rattle.proxy_turn.specs.Over.{calls_of_turn_over_given_ends}
use Rattle.proxy_turn.specs.OverSteps.{steps_of_turn_over_given_ends}
use Rattle.proxy_turn.specs.declared.report.Report.{Report}
use Rattle.proxy_turn.specs.declared.report.TurnFault.{TurnFault}
use Rattle.proxy_record.specs.Records.{RecordSoFar, ended_record, RecordMayEnd, RecordedHappening, EachHappeningIsRecorded, HappeningsAreRecordedOrRecordEnds}
use Rattle.proxy_record.specs.Recorded.{CallsAreRecorded, TurnIsRecorded, recording_had_not_failed}
use Rattle.proxy_record.specs.RecordedTurns.{happenings_of_steps, recorded_at_moment, TurnsAreRecorded}
use Rattle.proxy_server.specs.Losses.{EndLossesAreRecorded}
use Rattle.proxy_server.specs.ServerState.{ServerState, state_at_turn_start}
use Rattle.proxy_server.specs.Serving.{server_accept_bounds}
use Rattle.proxy_record_laws.specs.LivesOfAServer.{happenings_of_server_turn, ServerLife, LifeContinuesByTurn, TurnsLeadToLife}

-- ---- what was noted

ended_twice : (r begun new : RecordSoFar) → RecordMayEnd r begun → RecordMayEnd begun new → RecordMayEnd r new
ended_twice r begun new (inl same) (inl more) = inl (more ∙ same)
ended_twice r begun new (inl same) (inr ends) = inr (ends ∙ ap ended_record same)
ended_twice r begun new (inr ends) (inl more) = inr (more ∙ ends)
ended_twice r begun new (inr ends) (inr more) = inr (more ∙ ap ended_record ends)

ended_in_front : (r begun : RecordSoFar) (ns : List RecordedHappening) (new : RecordSoFar) → RecordMayEnd r begun → HappeningsAreRecordedOrRecordEnds begun ns new → HappeningsAreRecordedOrRecordEnds r ns new
ended_in_front r begun [] new may noted = ended_twice r begun new may noted
ended_in_front r begun (one ∷ more) new may noted = (noted.0, ended_twice r begun noted.0 may noted.1, noted.2, noted.3, noted.4)

pub noted_joined : (ns more : List RecordedHappening) (r mid new : RecordSoFar) → HappeningsAreRecordedOrRecordEnds r ns mid → HappeningsAreRecordedOrRecordEnds mid more new → HappeningsAreRecordedOrRecordEnds r (ns ++ more) new
noted_joined [] more r mid new h k = ended_in_front r mid more new h k
noted_joined (one ∷ ns) more r mid new h k = (h.0, h.1, h.2, h.3, noted_joined ns more h.2 mid new h.4 k)

each_noted : (ns : List RecordedHappening) (r new : RecordSoFar) → EachHappeningIsRecorded r ns new → HappeningsAreRecordedOrRecordEnds r ns new
each_noted [] r new same = inl same
each_noted (one ∷ ns) r new h = (r, inl refl, h.0, h.1, each_noted ns h.0 new h.2)

pub moments_joined : (now : ℕ) (hs ks : List Happening) → recorded_at_moment now (hs ++ ks) ≡ recorded_at_moment now hs ++ recorded_at_moment now ks
moments_joined now [] ks = refl
moments_joined now (h ∷ hs) ks = ap (λ (ns : List RecordedHappening). record { moment = now; happening = h } ∷ ns) (moments_joined now hs ks)

open_by : (over fits : Bool) → not (not over && fits) ≡ false → over ≡ false
open_by false fits is = refl
open_by true fits is = absurd (true≢false is)

open_behind : (r new : RecordSoFar) → RecordMayEnd r new → new.over ≡ false → r.over ≡ false
open_behind r new (inl same) is = ap (λ (k : RecordSoFar). k.over) (sym same) ∙ is
open_behind r new (inr ends) is = absurd (true≢false (ap (λ (k : RecordSoFar). k.over) (sym ends) ∙ is))

-- what isn't over was open before
pub open_before : (ns : List RecordedHappening) (r new : RecordSoFar) → HappeningsAreRecordedOrRecordEnds r ns new → new.over ≡ false → r.over ≡ false
open_before [] r new may is = open_behind r new may is
open_before (one ∷ ns) r new (begun, may, mid, happens, rest) is =
    let unended : mid.over ≡ false = open_before ns mid new rest is in
    open_behind r begun may (open_by begun.over _ (sym happens.ends ∙ unended))

-- ---- one turn

abbrev NotedBehind : RecordSoFar → List RecordedHappening → Option RecordSoFar → Type 0
NotedBehind r ns new = (later : RecordSoFar) × (new ≡ Some later) × HappeningsAreRecordedOrRecordEnds r ns later

losses_noted : (now : ℕ) (lost : List Happening) (old : Option RecordSoFar) (r : RecordSoFar) (new : Option RecordSoFar) → old ≡ Some r → EndLossesAreRecorded now lost old new → (later : RecordSoFar) × (new ≡ Some later) × EachHappeningIsRecorded r (recorded_at_moment now lost) later
losses_noted now lost old r new is noted = subst (λ (o : Option RecordSoFar). EndLossesAreRecorded now lost o new) is noted

module _ (recorded : TurnsAreRecorded) where
  -- what a turn, and the losses in front of it, noted: in two parts
  pub record TurnNoted (l : ServerLife) (reported : Result Report TurnFault) (m : ServerLife) (on : LifeContinuesByTurn l reported m) (r : RecordSoFar) : Type 0 where
    pub behind_losses : RecordSoFar
    pub held_then : on.served.mid.recorder ≡ Some behind_losses
    pub losses : HappeningsAreRecordedOrRecordEnds r (recorded_at_moment (state_at_turn_start on.now l.server).moment on.served.handed_in.losses.lost) behind_losses
    pub behind : RecordSoFar
    pub held_last : m.server.recorder ≡ Some behind
    pub turn : HappeningsAreRecordedOrRecordEnds behind_losses (recorded_at_moment (state_at_turn_start on.now l.server).moment (happenings_of_steps (steps_of_turn_over_given_ends (state_at_turn_start on.now l.server).moment on.served.handed_in.losses.after on.served.turn.turns.accepts on.served.turn.turns.reads on.served.turn.turns.rounds []))) behind

  pub last_fine : (l : ServerLife) (reported : Result Report TurnFault) (m : ServerLife) (on : LifeContinuesByTurn l reported m) → m.server.failed ≡ false → on.last.failed ≡ false
  last_fine l reported m on fine = ap (λ (a : ServerState). a.failed) (sym on.server) ∙ fine

  pub mid_fine : (l : ServerLife) (reported : Result Report TurnFault) (m : ServerLife) (on : LifeContinuesByTurn l reported m) → m.server.failed ≡ false → on.served.mid.failed ≡ false
  mid_fine l reported m on fine = recording_had_not_failed on.served.mid.failed on.last.failed on.served.turn.calls.fails (last_fine l reported m on fine)

  pub first_fine : (l : ServerLife) (reported : Result Report TurnFault) (m : ServerLife) → LifeContinuesByTurn l reported m → m.server.failed ≡ false → l.server.failed ≡ false
  first_fine l reported m on fine = recording_had_not_failed l.server.failed on.served.mid.failed on.served.handed_in.fails (mid_fine l reported m on fine)

  pub turn_noted : (l : ServerLife) (reported : Result Report TurnFault) (m : ServerLife) (on : LifeContinuesByTurn l reported m) (r : RecordSoFar) → l.server.recorder ≡ Some r → m.server.failed ≡ false → TurnNoted l reported m on r
  turn_noted l reported m on r is fine =
      let begun = state_at_turn_start on.now l.server in
      let mid = on.served.mid in
      let turns = on.served.turn.turns in
      let after = on.served.handed_in.losses.after in
      let made = calls_of_turn_over_given_ends after turns.accepts turns.reads turns.rounds in
      let lost = losses_noted begun.moment on.served.handed_in.losses.lost l.server.recorder r mid.recorder is (on.served.handed_in.notes (mid_fine l reported m on fine)) in
      let noted : TurnIsRecorded mid.moment mid.recorder mid.taken made on.last.moment on.last.recorder on.last.taken = on.served.turn.calls.notes (last_fine l reported m on fine) in
      let notes : CallsAreRecorded begun.moment made (Some lost.0) on.last.recorder =
      subst (λ (o : Option RecordSoFar). CallsAreRecorded begun.moment made o on.last.recorder) lost.1
      (subst (λ (n : ℕ). CallsAreRecorded n made mid.recorder on.last.recorder) on.served.handed_in.moment noted.notes) in
      let turn = recorded begun.moment server_accept_bounds after on.served.given turns.accepts turns.reads turns.rest turns.rounds turns.last lost.0 on.last.recorder turns.turn notes in
      record {
        behind_losses = lost.0;
        held_then = lost.1;
        losses = each_noted (recorded_at_moment begun.moment on.served.handed_in.losses.lost) r lost.0 lost.2;
        behind = turn.0;
        held_last = ap (λ (a : ServerState). a.recorder) on.server ∙ turn.1;
        turn = turn.2;
      }

  noted_by_turn : (l : ServerLife) (reported : Result Report TurnFault) (m : ServerLife) (on : LifeContinuesByTurn l reported m) (r : RecordSoFar) → TurnNoted l reported m on r
      → NotedBehind r (recorded_at_moment (state_at_turn_start on.now l.server).moment (happenings_of_server_turn on.served)) m.server.recorder
  noted_by_turn l reported m on r noted =
      let moment = (state_at_turn_start on.now l.server).moment in
      let lost = on.served.handed_in.losses.lost in
      let took = happenings_of_steps (steps_of_turn_over_given_ends moment on.served.handed_in.losses.after on.served.turn.turns.accepts on.served.turn.turns.reads on.served.turn.turns.rounds []) in (
        noted.behind,
        noted.held_last,
        subst (λ (ns : List RecordedHappening). HappeningsAreRecordedOrRecordEnds r ns noted.behind) (sym (moments_joined moment lost took))
            (noted_joined (recorded_at_moment moment lost) (recorded_at_moment moment took) r noted.behind_losses noted.behind noted.losses noted.turn),
      )

  -- ---- turns

  -- all that happened since was noted behind what was noted before
  pub record NotedSince (l : ServerLife) (r : RecordSoFar) (m : ServerLife) : Type 0 where
    pub since : List RecordedHappening
    pub happened : m.happened ≡ l.happened ++ since
    pub later : RecordSoFar
    pub held : m.server.recorder ≡ Some later
    pub noted : HappeningsAreRecordedOrRecordEnds r since later

  pub life_noted : (turns : List (Result Report TurnFault)) (l m : ServerLife) (r : RecordSoFar) → TurnsLeadToLife l turns m → l.server.recorder ≡ Some r → m.server.failed ≡ false → NotedSince l r m
  life_noted [] l m r same is fine = record {
    since = [];
    happened = ap (λ (k : ServerLife). k.happened) same ∙ sym (append-nil l.happened);
    later = r;
    held = ap (λ (k : ServerLife). k.server.recorder) same ∙ is;
    noted = inl refl;
  }
  life_noted (reported ∷ past) l m r leads is fine =
      let before = leads.0 in
      let on = leads.2 in
      let so_far = life_noted past l before r leads.1 is (first_fine before reported m on fine) in
      let more = noted_by_turn before reported m on so_far.later (turn_noted before reported m on so_far.later so_far.held fine) in
      let new = recorded_at_moment (state_at_turn_start on.now before.server).moment (happenings_of_server_turn on.served) in
      record {
        since = so_far.since ++ new;
        happened = on.happened ∙ (ap (λ (ns : List RecordedHappening). ns ++ new) so_far.happened ∙ append_assoc l.happened so_far.since new);
        later = more.0;
        held = more.1;
        noted = noted_joined so_far.since new r so_far.later more.0 so_far.noted more.2;
      }
