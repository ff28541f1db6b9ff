-- A play of a record goes on from what was played of it so far, in one way.
use Rattle.std.proofs.Common.{◌≡◌, inl, inr, ℕ, ◌==◌, List, [], ◌∷◌, ◌++◌, refl, sym, ap, ◌∙◌, subst, arith, append-nil, append_assoc, Bool, true, false, Option, None, Some}
use Rattle.std.specs.Prelude.{if◌then◌else◌}
use Rattle.std.proofs.lemmas.Bool.Decides.{nat_tests}
use Rattle.proxy_script.specs.Happenings.{HappeningModel as Happening}
use Rattle.proxy_script.specs.Script.{ItemModel as Item, Moment, Happens}
use Rattle.proxy_script.specs.declared.effect_list.Effect.{Effect}
use Rattle.proxy_engine.specs.EngineModel.{EngineModel, model_after_happening}
use Rattle.proxy_engine.specs.Due.{Act, IsFirstDueAct}
use Rattle.proxy_engine.specs.Acts.{ActIsDone}
use Rattle.proxy_engine.specs.Executions.{ActIsDoneInOneWay}
use Rattle.proxy_replay.specs.Played.{DoneActWithEffects, FirstDueActsAreDoneInOrder, effects_of_acts, HappeningAndDueActsArePlayed, PlayState, play_state_over_store, ItemIsPlayed, ItemsArePlayed}
use Rattle.proxy_replay.specs.Runs.{ScriptHasOnePlay}
use Rattle.proxy_record.specs.Records.{RecordedHappening, items_of_happening, items_of_recorded}
use Rattle.proxy_record_laws.specs.PlaysOfARecord.{AWholePlayExtendsThePlaySoFar}

-- ---- items

-- the moment behind what was noted
abbrev pub moment_behind : ℕ → List RecordedHappening → ℕ
moment_behind m [] = m
moment_behind m (one ∷ more) = moment_behind one.moment more

pub items_joined : (m : ℕ) (xs ys : List RecordedHappening) → items_of_recorded m (xs ++ ys) ≡ items_of_recorded m xs ++ items_of_recorded (moment_behind m xs) ys
items_joined m [] ys = refl
items_joined m (one ∷ xs) ys =
    ap (λ (is : List Item). items_of_happening m one.moment one.happening ++ is) (items_joined one.moment xs ys)
    ∙ sym (append_assoc (items_of_happening m one.moment one.happening) (items_of_recorded one.moment xs) (items_of_recorded (moment_behind one.moment xs) ys))

abbrev PlayedInTwo : List Item → List Item → PlayState → PlayState → List Effect → Type 0
PlayedInTwo xs ys a c all = (mid : PlayState) × (one : List Effect) × (two : List Effect) × ItemsArePlayed a xs one mid × ItemsArePlayed mid ys two c × (all ≡ one ++ two)

pub played_in_two : (xs ys : List Item) (a c : PlayState) (all : List Effect) → ItemsArePlayed a (xs ++ ys) all c → PlayedInTwo xs ys a c all
played_in_two [] ys a c all h = (a, [], all, (refl, refl), h, refl)
played_in_two (x ∷ xs) ys a c all h =
    let rest = played_in_two xs ys h.0 c h.2 h.4 in
    (rest.0, h.1 ++ rest.1, rest.2, (h.0, h.1, rest.1, h.3, rest.3, refl), rest.4, h.5 ∙ (ap (λ (es : List Effect). h.1 ++ es) rest.5 ∙ sym (append_assoc h.1 rest.1 rest.2)))

pub played_joined : (xs ys : List Item) (a b c : PlayState) (one two : List Effect) → ItemsArePlayed a xs one b → ItemsArePlayed b ys two c → ItemsArePlayed a (xs ++ ys) (one ++ two) c
played_joined [] ys a b c one two h k =
    subst (λ (es : List Effect). ItemsArePlayed a ys (es ++ two) c) (sym h.0) (subst (λ (m : PlayState). ItemsArePlayed m ys two c) h.1 k)
played_joined (x ∷ xs) ys a b c one two h k =
    (h.0, h.1, h.2 ++ two, h.3, played_joined xs ys h.0 b c h.2 two h.4 k, ap (λ (es : List Effect). es ++ two) h.5 ∙ append_assoc h.1 h.2 two)

pub same_number : (m n : ℕ) → (m == n) ≡ true → m ≡ n
same_number m n is = grind (arith, nat_tests)

-- a happening at a moment, as its items are played: with the item of its moment, or where that stands already
abbrev items_at : Bool → ℕ → Happening → List Item
items_at same now h = if same then Happens h ∷ [] else Moment now ∷ Happens h ∷ []

abbrev IsPlayedAt : PlayState → ℕ → Happening → List Effect → PlayState → Type 0
IsPlayedAt b now h effects c = HappeningAndDueActsArePlayed b.model now h effects c.model × (c.now ≡ now)

happens_played : (b c : PlayState) (now : ℕ) (h : Happening) (effects : List Effect) → now ≡ b.now → ItemsArePlayed b (Happens h ∷ []) effects c → IsPlayedAt b now h effects c
happens_played b c now h effects is plays =
    let item : ItemIsPlayed b (Happens h) plays.1 plays.0 = plays.3 in
    let now_is : plays.0.now ≡ now = item.moment ∙ sym is in
    let here : HappeningAndDueActsArePlayed b.model now h plays.1 plays.0.model = subst (λ (n : ℕ). HappeningAndDueActsArePlayed b.model n h plays.1 plays.0.model) now_is item.happened in
    let all : effects ≡ plays.1 = plays.5 ∙ (ap (λ (es : List Effect). plays.1 ++ es) plays.4.0 ∙ append-nil plays.1) in (
      subst (λ (m : PlayState). HappeningAndDueActsArePlayed b.model now h effects m.model) (sym plays.4.1) (subst (λ (es : List Effect). HappeningAndDueActsArePlayed b.model now h es plays.0.model) (sym all) here),
      subst (λ (m : PlayState). m.now ≡ now) (sym plays.4.1) now_is,
    )

one_played : (same : Bool) (b c : PlayState) (now : ℕ) (h : Happening) (effects : List Effect) → (same ≡ true → now ≡ b.now) → ItemsArePlayed b (items_at same now h) effects c → IsPlayedAt b now h effects c
one_played true b c now h effects is plays = happens_played b c now h effects (is refl) plays
one_played false b c now h effects is plays =
    let item : ItemIsPlayed b (Moment now) plays.1 plays.0 = plays.3 in
    let all : effects ≡ plays.2 = plays.5 ∙ ap (λ (es : List Effect). es ++ plays.2) item.happened.0 in
    let here : IsPlayedAt plays.0 now h plays.2 c = happens_played plays.0 c now h plays.2 (sym item.moment) plays.4 in
    let from : IsPlayedAt b now h plays.2 c = subst (λ (m : EngineModel). HappeningAndDueActsArePlayed m now h plays.2 c.model × (c.now ≡ now)) item.happened.1 here in
    subst (λ (es : List Effect). IsPlayedAt b now h es c) (sym all) from

pub play_one : (same : Bool) (b : PlayState) (now : ℕ) (h : Happening) (effects : List Effect) (t : EngineModel) → (same ≡ true → now ≡ b.now) → HappeningAndDueActsArePlayed b.model now h effects t → ItemsArePlayed b (items_at same now h) effects (record { model = t; now = now })
play_one true b now h effects t is plays =
    (record { model = t; now = now }, effects, [], record { moment = is refl; happened = plays }, (refl, refl), sym (append-nil effects))
play_one false b now h effects t is plays =
    let mid : PlayState = record { model = b.model; now = now } in (
      mid,
      [],
      effects,
      record { moment = refl; happened = (refl, refl) },
      (record { model = t; now = now }, effects, [], record { moment = refl; happened = plays }, (refl, refl), sym (append-nil effects)),
      refl,
    )

pub now_behind : (xs : List RecordedHappening) (a c : PlayState) (all : List Effect) → ItemsArePlayed a (items_of_recorded a.now xs) all c → c.now ≡ moment_behind a.now xs
now_behind [] a c all plays = ap (λ (m : PlayState). m.now) plays.1
now_behind (one ∷ xs) a c all plays =
    let parts = played_in_two (items_of_happening a.now one.moment one.happening) (items_of_recorded one.moment xs) a c all plays in
    let here = one_played (one.moment == a.now) a parts.0 one.moment one.happening parts.1 (same_number one.moment a.now) parts.3 in
    let behind : ItemsArePlayed parts.0 (items_of_recorded parts.0.now xs) parts.2 c = subst (λ (n : ℕ). ItemsArePlayed parts.0 (items_of_recorded n xs) parts.2 c) (sym here.1) parts.4 in
    now_behind xs parts.0 c parts.2 behind ∙ ap (λ (n : ℕ). moment_behind n xs) here.1

-- ---- acts

none_some : {P : Type 0} (act : Act) → ◌≡◌ {A = Option Act} None (Some act) → P
none_some {P} act h = absurd (cc)

abbrev IsPrefix : List DoneActWithEffects → List DoneActWithEffects → EngineModel → Type 0
IsPrefix xs ys last = (rest : List Effect) × (effects_of_acts ys ≡ effects_of_acts xs ++ rest) × (IsFirstDueAct last None → rest ≡ [])

module _ (due : (s : EngineModel) → (a b : Option Act) → IsFirstDueAct s a → IsFirstDueAct s b → a ≡ b) where
  -- where nothing is due none is done
  pub no_act : (xs : List DoneActWithEffects) (s : EngineModel) (now : ℕ) (t : EngineModel) → IsFirstDueAct s None → FirstDueActsAreDoneInOrder s now xs t → (xs ≡ []) × (t ≡ s)
  no_act [] s now t none h = (refl, h)
  no_act (x ∷ xs) s now t none h = none_some x.act (due s None (Some x.act) none h.1)

  module _ (done : ActIsDoneInOneWay) where
    prefix : (xs ys : List DoneActWithEffects) (s : EngineModel) (now : ℕ) (last u : EngineModel) → FirstDueActsAreDoneInOrder s now xs last → FirstDueActsAreDoneInOrder s now ys u → IsFirstDueAct u None → IsPrefix xs ys last
    prefix [] ys s now last u h k j = (
      effects_of_acts ys,
      refl,
      λ none. ap effects_of_acts (no_act ys s now u (subst (λ (m : EngineModel). IsFirstDueAct m None) h none) k).0,
    )
    prefix (x ∷ xs) [] s now last u h k j = none_some x.act (due s None (Some x.act) (subst (λ (m : EngineModel). IsFirstDueAct m None) k j) h.1)
    prefix (x ∷ xs) (y ∷ ys) s now last u h k j =
        let some : Some x.act ≡ Some y.act = due s (Some x.act) (Some y.act) h.1 k.1 in
        let act : x.act ≡ y.act = cc in
        let does : ActIsDone s now x.act y.effects k.0 = subst (λ (a : Act). ActIsDone s now a y.effects k.0) (sym act) k.2 in
        let same = done s now x.act x.effects y.effects h.0 k.0 h.2 does in
        let rest = prefix xs ys h.0 now last u h.3 (subst (λ (m : EngineModel). FirstDueActsAreDoneInOrder m now ys u) (sym same.1) k.3) j in (
          rest.0,
          ap (λ (es : List Effect). es ++ effects_of_acts ys) (sym same.0) ∙ (ap (λ (es : List Effect). x.effects ++ es) rest.1 ∙ sym (append_assoc x.effects (effects_of_acts xs) rest.0)),
          rest.2,
        )

    -- ---- the play of all that was noted

    pub play_goes_on : ScriptHasOnePlay → AWholePlayExtendsThePlaySoFar
    play_goes_on once table held serial all_noted effects all_effects last now end (inl yet) plays =
        let none : ItemsArePlayed (play_state_over_store table held serial) [] all_effects end = subst (λ (ns : List RecordedHappening). ItemsArePlayed (play_state_over_store table held serial) (items_of_recorded 0 ns) all_effects end) yet.0 plays in
        (all_effects, ap (λ (es : List Effect). es ++ all_effects) (sym yet.1), λ due_none. none.0)
    play_goes_on once table held serial all_noted effects all_effects last now end (inr so_far) plays =
        let begin = play_state_over_store table held serial in
        let front = so_far.front in
        let one = so_far.one in
        let before = so_far.before in
        let both : ItemsArePlayed begin (items_of_recorded 0 front ++ items_of_recorded (moment_behind 0 front) (one ∷ [])) all_effects end =
        subst (λ (is : List Item). ItemsArePlayed begin is all_effects end) (ap (items_of_recorded 0) so_far.noted_are ∙ items_joined 0 front (one ∷ [])) plays in
        let parts = played_in_two (items_of_recorded 0 front) (items_of_recorded (moment_behind 0 front) (one ∷ [])) begin end all_effects both in
        let same = once begin (items_of_recorded 0 front) so_far.first parts.1 before parts.0 so_far.plays parts.3 in
        let now_is : before.now ≡ moment_behind 0 front = now_behind front begin before so_far.first so_far.plays in
        let from : ItemsArePlayed before (items_of_recorded (moment_behind 0 front) (one ∷ [])) parts.2 end = subst (λ (m : PlayState). ItemsArePlayed m (items_of_recorded (moment_behind 0 front) (one ∷ [])) parts.2 end) (sym same.1) parts.4 in
        let at_moment : ItemsArePlayed before (items_of_recorded before.now (one ∷ [])) parts.2 end = subst (λ (n : ℕ). ItemsArePlayed before (items_of_recorded n (one ∷ [])) parts.2 end) (sym now_is) from in
        let alone : ItemsArePlayed before (items_of_happening before.now one.moment one.happening) parts.2 end =
        subst (λ (is : List Item). ItemsArePlayed before is parts.2 end) (append-nil (items_of_happening before.now one.moment one.happening)) at_moment in
        let played = (one_played (one.moment == before.now) before end one.moment one.happening parts.2 (same_number one.moment before.now) alone).0 in
        let more = prefix so_far.done_acts played.done_acts (model_after_happening before.model one.happening) one.moment last end.model so_far.works played.settles.0 played.settles.1 in (
          more.0,
          parts.5
              ∙ (ap (λ (es : List Effect). es ++ parts.2) (sym same.0)
              ∙ (ap (λ (es : List Effect). so_far.first ++ es) (played.emitted ∙ more.1)
              ∙ (sym (append_assoc so_far.first (effects_of_acts so_far.done_acts) more.0) ∙ ap (λ (es : List Effect). es ++ more.0) (sym so_far.emitted)))),
          more.2,
        )
