-- The play of a record comes as far as the turns and the losses that were recorded.
use Rattle.std.proofs.Common.{◌≡◌, ◌⊎◌, inl, inr, ℕ, ◌==◌, ◌<◌, List, [], ◌∷◌, ◌++◌, refl, sym, ap, ◌∙◌, subst, arith, append-nil, append_assoc, Bool, true, false, Option, None}
use Rattle.hx_allow.specs.TableLines.{Table}
use Rattle.hx_store.specs.Stored.{Stored}
use Rattle.proxy_script.specs.Happenings.{HappeningModel as Happening}
use Rattle.proxy_script.specs.Script.{ItemModel as Item}
use Rattle.proxy_script.specs.declared.effect_list.Effect.{Effect}
use Rattle.proxy_engine.specs.EngineModel.{EngineModel, model_after_happening, happening_fault}
use Rattle.proxy_engine.specs.Due.{Act, IsFirstDueAct}
use Rattle.proxy_replay.specs.Played.{DoneActWithEffects, FirstDueActsAreDoneInOrder, effects_of_acts, HappeningAndDueActsArePlayed, PlayState, play_state_over_store, ItemsArePlayed}
use Rattle.proxy_turn.specs.Turn.{ActWithEffectFates}
use Rattle.proxy_turn.specs.TurnSteps.{effects_of_rounds}
use Rattle.proxy_turn.specs.OverSteps.{steps_of_turn_over_given_ends, TurnOverGivenEndsStepsEmitTheirEffects}
use Rattle.proxy_turn_laws.specs.ActsOfATurn.{done_acts_of_rounds, RoundsWithoutFailureAreActsInOrder}
use Rattle.proxy_record.specs.Records.{RecordedHappening, items_of_happening, items_of_recorded}
use Rattle.proxy_record.specs.RecordedTurns.{happenings_of_steps, recorded_at_moment}
use Rattle.proxy_engine.specs.Executions.{effects_of_steps}
use Rattle.proxy_record_laws.specs.OneThing.{AtMostOneHappeningIsTaken}
use Rattle.proxy_record_laws.specs.PlaysOfARecord.{LastHappeningIsBeingPlayed, NotedHappeningsArePlayedSoFar, ATurnContinuesThePlay, AnEndLossContinuesThePlay}
use Rattle.proxy_record_laws.proofs.Playing.{moment_behind, items_joined, played_joined, same_number, play_one, now_behind, no_act}
use Rattle.proxy_record_laws.proofs.Taking.{turn_takes_one_thing}

-- ---- acts

acts_joined : (xs ys : List DoneActWithEffects) (s : EngineModel) (now : ℕ) (t u : EngineModel) → FirstDueActsAreDoneInOrder s now xs t → FirstDueActsAreDoneInOrder t now ys u → FirstDueActsAreDoneInOrder s now (xs ++ ys) u
acts_joined [] ys s now t u h k = subst (λ (m : EngineModel). FirstDueActsAreDoneInOrder m now ys u) h k
acts_joined (x ∷ xs) ys s now t u h k = (h.0, h.1, h.2, acts_joined xs ys h.0 now t u h.3 k)

effects_joined : (xs ys : List DoneActWithEffects) → effects_of_acts (xs ++ ys) ≡ effects_of_acts xs ++ effects_of_acts ys
effects_joined [] ys = refl
effects_joined (x ∷ xs) ys = ap (λ (es : List Effect). x.effects ++ es) (effects_joined xs ys) ∙ sym (append_assoc x.effects (effects_of_acts xs) (effects_of_acts ys))

effects_of_done : (rs : List ActWithEffectFates) → effects_of_acts (done_acts_of_rounds rs) ≡ effects_of_rounds rs
effects_of_done [] = refl
effects_of_done (r ∷ rs) = ap (λ (es : List Effect). r.emitted ++ es) (effects_of_done rs)

-- ---- nothing is due of an engine to which nothing has happened

pub nothing_due : (table : Table) (held : List Stored) (serial : ℕ) → IsFirstDueAct (play_state_over_store table held serial).model None
nothing_due table held serial = ((λ i few. tt_of i few), (λ i few. tt_of i few), refl, (λ i few. tt_of i few))
  where
    tt_of : {P : Type 0} (i : ℕ) → i < 0 → P
    tt_of {P} i few = absurd (omega (arith, few))

module _ (due : (s : EngineModel) → (a b : Option Act) → IsFirstDueAct s a → IsFirstDueAct s b → a ≡ b) where
  -- the last of what was noted was played whole
  whole : (table : Table) (held : List Stored) (serial : ℕ) (all_noted : List RecordedHappening) (effects : List Effect) (s : EngineModel) (then : ℕ) (so_far : LastHappeningIsBeingPlayed table held serial all_noted effects s then) → IsFirstDueAct s None
      → ItemsArePlayed (play_state_over_store table held serial) (items_of_recorded 0 all_noted) effects (record { model = s; now = so_far.one.moment })
  whole table held serial all_noted effects s then so_far none =
      let begin = play_state_over_store table held serial in
      let one = so_far.one in
      let before = so_far.before in
      let last : PlayState = record { model = s; now = one.moment } in
      let played : HappeningAndDueActsArePlayed before.model one.moment one.happening (effects_of_acts so_far.done_acts) s =
      record { free = so_far.free; done_acts = so_far.done_acts; settles = (so_far.works, none); emitted = refl } in
      let alone : ItemsArePlayed before (items_of_happening before.now one.moment one.happening) (effects_of_acts so_far.done_acts) last =
      play_one (one.moment == before.now) before one.moment one.happening (effects_of_acts so_far.done_acts) s (same_number one.moment before.now) played in
      let items : ItemsArePlayed before (items_of_recorded before.now (one ∷ [])) (effects_of_acts so_far.done_acts) last =
      subst (λ (is : List Item). ItemsArePlayed before is (effects_of_acts so_far.done_acts) last) (sym (append-nil (items_of_happening before.now one.moment one.happening))) alone in
      let at_moment : ItemsArePlayed before (items_of_recorded (moment_behind 0 so_far.front) (one ∷ [])) (effects_of_acts so_far.done_acts) last =
      subst (λ (n : ℕ). ItemsArePlayed before (items_of_recorded n (one ∷ [])) (effects_of_acts so_far.done_acts) last) (now_behind so_far.front begin before so_far.first so_far.plays) items in
      let both = played_joined (items_of_recorded 0 so_far.front) (items_of_recorded (moment_behind 0 so_far.front) (one ∷ [])) begin before last so_far.first (effects_of_acts so_far.done_acts) so_far.plays at_moment in
      let all : items_of_recorded 0 so_far.front ++ items_of_recorded (moment_behind 0 so_far.front) (one ∷ []) ≡ items_of_recorded 0 all_noted =
      sym (items_joined 0 so_far.front (one ∷ [])) ∙ ap (items_of_recorded 0) (sym so_far.noted_are) in
      subst (λ (es : List Effect). ItemsArePlayed begin (items_of_recorded 0 all_noted) es last) (sym so_far.emitted)
      (subst (λ (is : List Item). ItemsArePlayed begin is (so_far.first ++ effects_of_acts so_far.done_acts) last) all both)

  -- one more thing, behind a play of all that was noted before
  one_more_played : (table : Table) (held : List Stored) (serial : ℕ) (all_noted : List RecordedHappening) (effects : List Effect) (begun : PlayState) (now : ℕ) (h : Happening) (acts : List DoneActWithEffects) (t : EngineModel) → ItemsArePlayed (play_state_over_store table held serial) (items_of_recorded 0 all_noted) effects begun
      → happening_fault begun.model h ≡ None → FirstDueActsAreDoneInOrder (model_after_happening begun.model h) now acts t → NotedHappeningsArePlayedSoFar table held serial (all_noted ++ recorded_at_moment now (h ∷ [])) (effects ++ effects_of_acts acts) t now
  one_more_played table held serial all_noted effects begun now h acts t plays free works = inr (record {
    front = all_noted;
    one = record { moment = now; happening = h };
    noted_are = refl;
    before = begun;
    first = effects;
    plays = plays;
    free = free;
    done_acts = acts;
    works = works;
    emitted = refl;
    moment = inr refl;
  })

  -- nothing more, and no act
  still_played : (table : Table) (held : List Stored) (serial : ℕ) (all_noted : List RecordedHappening) (effects : List Effect) (s t : EngineModel) (then now : ℕ) (hs : List Happening) (acts : List DoneActWithEffects) → NotedHappeningsArePlayedSoFar table held serial all_noted effects s then → IsFirstDueAct s None → hs ≡ [] → FirstDueActsAreDoneInOrder s now acts t
      → NotedHappeningsArePlayedSoFar table held serial (all_noted ++ recorded_at_moment now hs) (effects ++ effects_of_acts acts) t now
  still_played table held serial all_noted effects s t then now hs acts so_far none no_more works =
      let no_acts = no_act due acts s now t none works in
      let ns : all_noted ≡ all_noted ++ recorded_at_moment now hs = sym (append-nil all_noted) ∙ ap (λ (xs : List Happening). all_noted ++ recorded_at_moment now xs) (sym no_more) in
      let es : effects ≡ effects ++ effects_of_acts acts = sym (append-nil effects) ∙ ap (λ (xs : List DoneActWithEffects). effects ++ effects_of_acts xs) (sym no_acts.0) in
      subst (λ (m : EngineModel). NotedHappeningsArePlayedSoFar table held serial (all_noted ++ recorded_at_moment now hs) (effects ++ effects_of_acts acts) m now) (sym no_acts.1)
      (subst (λ (xs : List Effect). NotedHappeningsArePlayedSoFar table held serial (all_noted ++ recorded_at_moment now hs) xs s now) es
      (subst (λ (xs : List RecordedHappening). NotedHappeningsArePlayedSoFar table held serial xs effects s now) ns (later so_far)))
    where
      later : NotedHappeningsArePlayedSoFar table held serial all_noted effects s then → NotedHappeningsArePlayedSoFar table held serial all_noted effects s now
      later (inl yet) = inl yet
      later (inr some) = inr (record {
        front = some.front;
        one = some.one;
        noted_are = some.noted_are;
        before = some.before;
        first = some.first;
        plays = some.plays;
        free = some.free;
        done_acts = some.done_acts;
        works = some.works;
        emitted = some.emitted;
        moment = inl none;
      })

  -- more acts behind the last thing, at its moment
  more_acts : (table : Table) (held : List Stored) (serial : ℕ) (all_noted : List RecordedHappening) (effects : List Effect) (s t : EngineModel) (then now : ℕ) (hs : List Happening) (acts : List DoneActWithEffects) (some : LastHappeningIsBeingPlayed table held serial all_noted effects s then) → now ≡ some.one.moment → hs ≡ [] → FirstDueActsAreDoneInOrder s now acts t
      → NotedHappeningsArePlayedSoFar table held serial (all_noted ++ recorded_at_moment now hs) (effects ++ effects_of_acts acts) t now
  more_acts table held serial all_noted effects s t then now hs acts some is no_more works =
      subst (λ (xs : List Happening). NotedHappeningsArePlayedSoFar table held serial (all_noted ++ recorded_at_moment now xs) (effects ++ effects_of_acts acts) t now) (sym no_more) (inr (record {
        front = some.front;
        one = some.one;
        noted_are = append-nil all_noted ∙ some.noted_are;
        before = some.before;
        first = some.first;
        plays = some.plays;
        free = some.free;
        done_acts = some.done_acts ++ acts;
        works = acts_joined some.done_acts acts (model_after_happening some.before.model some.one.happening) some.one.moment s t some.works (subst (λ (n : ℕ). FirstDueActsAreDoneInOrder s n acts t) is works);
        emitted = ap (λ (es : List Effect). es ++ effects_of_acts acts) some.emitted ∙ (append_assoc some.first (effects_of_acts some.done_acts) (effects_of_acts acts)
            ∙ ap (λ (es : List Effect). some.first ++ es) (sym (effects_joined some.done_acts acts)));
        moment = inr is;
      }))

  abbrev DueOrAt : EngineModel → ℕ → ℕ → Type 0
  DueOrAt s now m = IsFirstDueAct s None ⊎ (now ≡ m)

  due_or_at : (taken : Bool) (s : EngineModel) (then now m : ℕ) → (taken ≡ false → IsFirstDueAct s None) → (taken ≡ true → now ≡ then) → DueOrAt s then m → DueOrAt s now m
  due_or_at false s then now m none same so_far = inl (none refl)
  due_or_at true s then now m none same (inl due_none) = inl due_none
  due_or_at true s then now m none same (inr is) = inr (same refl ∙ is)

  pub plays_on : (table : Table) (held : List Stored) (serial : ℕ) (all_noted : List RecordedHappening) (effects : List Effect) (s t : EngineModel) (then now : ℕ) (taken later : Bool) (hs : List Happening) (acts : List DoneActWithEffects) → NotedHappeningsArePlayedSoFar table held serial all_noted effects s then
      → (taken ≡ false → IsFirstDueAct s None) → (taken ≡ true → now ≡ then) → AtMostOneHappeningIsTaken taken s now hs acts t later → NotedHappeningsArePlayedSoFar table held serial (all_noted ++ recorded_at_moment now hs) (effects ++ effects_of_acts acts) t now
  plays_on table held serial all_noted effects s t then now taken later hs acts (inl yet) none same (inl no_more) =
      still_played table held serial all_noted effects s t then now hs acts (inl yet) (subst (λ (m : EngineModel). IsFirstDueAct m None) (sym yet.2) (nothing_due table held serial)) no_more.none no_more.works
  plays_on table held serial all_noted effects s t then now taken later hs acts (inl yet) none same (inr one) =
      let begin = play_state_over_store table held serial in
      let plays : ItemsArePlayed begin (items_of_recorded 0 all_noted) effects begin =
      subst (λ (es : List Effect). ItemsArePlayed begin (items_of_recorded 0 all_noted) es begin) (sym yet.1)
      (subst (λ (ns : List RecordedHappening). ItemsArePlayed begin (items_of_recorded 0 ns) [] begin) (sym yet.0) (refl, refl)) in
      subst (λ (xs : List Happening). NotedHappeningsArePlayedSoFar table held serial (all_noted ++ recorded_at_moment now xs) (effects ++ effects_of_acts acts) t now) (sym one.one)
      (one_more_played table held serial all_noted effects begin now one.happening acts t plays (subst (λ (m : EngineModel). happening_fault m one.happening ≡ None) yet.2 one.free)
      (subst (λ (m : EngineModel). FirstDueActsAreDoneInOrder (model_after_happening m one.happening) now acts t) yet.2 one.works))
  plays_on table held serial all_noted effects s t then now taken later hs acts (inr some) none same (inl no_more) = by_moment (due_or_at taken s then now some.one.moment none same some.moment)
    where
      by_moment : DueOrAt s now some.one.moment → NotedHappeningsArePlayedSoFar table held serial (all_noted ++ recorded_at_moment now hs) (effects ++ effects_of_acts acts) t now
      by_moment (inl due_none) = still_played table held serial all_noted effects s t then now hs acts (inr some) due_none no_more.none no_more.works
      by_moment (inr is) = more_acts table held serial all_noted effects s t then now hs acts some is no_more.none no_more.works
  plays_on table held serial all_noted effects s t then now taken later hs acts (inr some) none same (inr one) =
      subst (λ (xs : List Happening). NotedHappeningsArePlayedSoFar table held serial (all_noted ++ recorded_at_moment now xs) (effects ++ effects_of_acts acts) t now) (sym one.one)
      (one_more_played table held serial all_noted effects (record { model = s; now = some.one.moment }) now one.happening acts t (whole table held serial all_noted effects s then some (none one.first)) one.free one.works)

  pub losses_play_on : AnEndLossContinuesThePlay
  losses_play_on table held serial all_noted steps then now s h so_far none free =
      subst (λ (es : List Effect). NotedHappeningsArePlayedSoFar table held serial (all_noted ++ recorded_at_moment now (h ∷ [])) es (model_after_happening s h) now) (append-nil (effects_of_steps steps))
      (plays_on table held serial all_noted (effects_of_steps steps) s (model_after_happening s h) then now false true (h ∷ []) [] so_far (λ is. none) (λ is. absurd (cc))
      (inr (record { happening = h; one = refl; first = refl; later_is = refl; free = free; works = refl })))

  pub turns_play_on : RoundsWithoutFailureAreActsInOrder → TurnOverGivenEndsStepsEmitTheirEffects → ATurnContinuesThePlay
  turns_play_on in_order emit table held serial all_noted steps then now bounds s given accepts reads rest rounds t taken later so_far none same turn fine some =
      let hs = happenings_of_steps (steps_of_turn_over_given_ends now s accepts reads rounds []) in
      let happens = turn_takes_one_thing in_order now bounds s given accepts reads rest rounds t taken later turn fine some in
      let on = plays_on table held serial all_noted (effects_of_steps steps) s t then now taken later hs (done_acts_of_rounds rounds) so_far none same happens in
      let emitted : effects_of_steps steps ++ effects_of_acts (done_acts_of_rounds rounds) ≡ effects_of_steps (steps_of_turn_over_given_ends now s accepts reads rounds steps) =
      ap (λ (es : List Effect). effects_of_steps steps ++ es) (effects_of_done rounds) ∙ sym (emit steps now s accepts reads rounds) in
      subst (λ (es : List Effect). NotedHappeningsArePlayedSoFar table held serial (all_noted ++ recorded_at_moment now hs) es t now) emitted on
