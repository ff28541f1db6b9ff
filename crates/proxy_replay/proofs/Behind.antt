-- What is over is named no more: for any way in which a connection or a link is over, and stays so.
use Rattle.std.proofs.Common.{ℕ, List, [], ◌∷◌, ◌++◌, sym, subst, Option, None, Some}
use Rattle.std.proofs.lemmas.List.{append_assoc}
use Rattle.proxy_script.specs.Script.{ItemModel as Item}
use Rattle.proxy_script.specs.declared.effect_list.Effect.{Effect}
use Rattle.proxy_engine.specs.Happenings.{HappeningModel as Happening}
use Rattle.proxy_engine.specs.EngineModel.{EngineModel, model_after_happening}
use Rattle.proxy_engine.specs.Drops.{OnlyFirstEffectMayDropALink, ActHasFewEffects}
use Rattle.proxy_engine.specs.Orderly.{ModelIsConsistent, EffectsNameOpenEnds, EndedEndsStayEnded, HappeningKeepsModelConsistent, ActKeepsModelConsistent, EndedEndsStayEndedAfterHappening, EndedEndsStayEndedAfterAct}
use Rattle.proxy_replay.specs.Played.{DoneActWithEffects, FirstDueActsAreDoneInOrder, effects_of_acts, PlayState, ItemsArePlayed, HappeningIfAnyIsPlayed, happening_of_item}
use Rattle.proxy_replay.specs.Closes.{EffectsNeverName, NothingIsNamedAfterItsEnd}

-- what an act in an orderly model keeps to
pub record IsAct (s after : EngineModel) (emitted : List Effect) : Type 0 where
  pub orderly : ModelIsConsistent after
  pub names : EffectsNameOpenEnds s after emitted
  pub stays : EndedEndsStayEnded s after
  pub drops : OnlyFirstEffectMayDropALink emitted

never_more : (of : Effect → Option ℕ) (n : ℕ) (xs ys : List Effect) → EffectsNeverName of n xs → EffectsNeverName of n ys → EffectsNeverName of n (xs ++ ys)
never_more of n [] ys h k = k
never_more of n (x ∷ xs) ys h k = (h.0, never_more of n xs ys h.1 k)

-- the laws of the engine
module _ (takes_order : HappeningKeepsModelConsistent) (acts_order : ActKeepsModelConsistent) (takes_stay : EndedEndsStayEndedAfterHappening) (acts_stay : EndedEndsStayEndedAfterAct) (acts_short : ActHasFewEffects) where
  act : (s : EngineModel) (now : ℕ) (done_act : DoneActWithEffects) (done_acts : List DoneActWithEffects) (t : EngineModel) → (h : FirstDueActsAreDoneInOrder s now (done_act ∷ done_acts) t) → ModelIsConsistent s → IsAct s h.0 done_act.effects
  act s now done_act done_acts t h o =
      let order = acts_order s now done_act.act done_act.effects h.0 o h.1 h.2 in
      record { orderly = order.0; names = order.1; stays = acts_stay s now done_act.act done_act.effects h.0 h.2; drops = (acts_short s now done_act.act done_act.effects h.0 h.2).1 }

  pub works_orderly : (s : EngineModel) (now : ℕ) (done_acts : List DoneActWithEffects) (t : EngineModel) → FirstDueActsAreDoneInOrder s now done_acts t → ModelIsConsistent s → ModelIsConsistent t
  works_orderly s now [] t h o = subst ModelIsConsistent (sym h) o
  works_orderly s now (done_act ∷ done_acts) t h o = works_orderly h.0 now done_acts t h.3 (act s now done_act done_acts t h o).orderly

  pub item_orderly : (s : EngineModel) (now : ℕ) (o : Option Happening) (emitted : List Effect) (t : EngineModel) → HappeningIfAnyIsPlayed o s now emitted t → ModelIsConsistent s → ModelIsConsistent t
  item_orderly s now None emitted t h o = subst ModelIsConsistent (sym h.1) o
  item_orderly s now (Some happening) emitted t h o = works_orderly (model_after_happening s happening) now h.done_acts t h.settles.0 (takes_order s happening o)

  -- what an effect names, and when that is over
  module _ (of : Effect → Option ℕ) (Over : EngineModel → ℕ → Type 0) (later : (s t : EngineModel) (n : ℕ) → EndedEndsStayEnded s t → Over s n → Over t n)
      (unnamed : (s after : EngineModel) (emitted : List Effect) (n : ℕ) → IsAct s after emitted → Over s n → EffectsNeverName of n emitted) where
    pub works_over : (s : EngineModel) (now : ℕ) (done_acts : List DoneActWithEffects) (t : EngineModel) (n : ℕ) → FirstDueActsAreDoneInOrder s now done_acts t → ModelIsConsistent s → Over s n → Over t n
    works_over s now [] t n h o over = subst (λ (u : EngineModel). Over u n) (sym h) over
    works_over s now (done_act ∷ done_acts) t n h o over =
        let a = act s now done_act done_acts t h o in
        works_over h.0 now done_acts t n h.3 a.orderly (later s h.0 n a.stays over)

    pub works_unnamed : (s : EngineModel) (now : ℕ) (done_acts : List DoneActWithEffects) (t : EngineModel) (n : ℕ) → FirstDueActsAreDoneInOrder s now done_acts t → ModelIsConsistent s → Over s n → EffectsNeverName of n (effects_of_acts done_acts)
    works_unnamed s now [] t n h o over = tt
    works_unnamed s now (done_act ∷ done_acts) t n h o over =
        let a = act s now done_act done_acts t h o in
        never_more of n done_act.effects (effects_of_acts done_acts) (unnamed s h.0 done_act.effects n a over) (works_unnamed h.0 now done_acts t n h.3 a.orderly (later s h.0 n a.stays over))

    item_over : (s : EngineModel) (now : ℕ) (o : Option Happening) (emitted : List Effect) (t : EngineModel) (n : ℕ) → HappeningIfAnyIsPlayed o s now emitted t → ModelIsConsistent s → Over s n → Over t n
    item_over s now None emitted t n h o over = subst (λ (u : EngineModel). Over u n) (sym h.1) over
    item_over s now (Some happening) emitted t n h o over =
        works_over (model_after_happening s happening) now h.done_acts t n h.settles.0 (takes_order s happening o) (later s (model_after_happening s happening) n (takes_stay s happening) over)

    item_unnamed : (s : EngineModel) (now : ℕ) (o : Option Happening) (emitted : List Effect) (t : EngineModel) (n : ℕ) → HappeningIfAnyIsPlayed o s now emitted t → ModelIsConsistent s → Over s n → EffectsNeverName of n emitted
    item_unnamed s now None emitted t n h o over = subst (λ (es : List Effect). EffectsNeverName of n es) (sym h.0) tt
    item_unnamed s now (Some happening) emitted t n h o over =
        subst (λ (es : List Effect). EffectsNeverName of n es) (sym h.emitted)
        (works_unnamed (model_after_happening s happening) now h.done_acts t n h.settles.0 (takes_order s happening o) (later s (model_after_happening s happening) n (takes_stay s happening) over))

    pub plays_unnamed : (a : PlayState) (items : List Item) (emitted : List Effect) (c : PlayState) (n : ℕ) → ItemsArePlayed a items emitted c → ModelIsConsistent a.model → Over a.model n → EffectsNeverName of n emitted
    plays_unnamed a [] emitted c n h o over = subst (λ (es : List Effect). EffectsNeverName of n es) (sym h.0) tt
    plays_unnamed a (item ∷ items) emitted c n h o over =
        let happened = h.3.happened in
        subst (λ (es : List Effect). EffectsNeverName of n es) (sym h.5)
        (never_more of n h.1 h.2 (item_unnamed a.model h.0.now (happening_of_item item) h.1 h.0.model n happened o over)
        (plays_unnamed h.0 items h.2 c n h.4 (item_orderly a.model h.0.now (happening_of_item item) h.1 h.0.model happened o) (item_over a.model h.0.now (happening_of_item item) h.1 h.0.model n happened o over)))

    -- what ends it, and what is told behind that
    module _ (ends : Effect → Option ℕ)
        (act_ends : (s after : EngineModel) (emitted rest : List Effect) → IsAct s after emitted → ((n : ℕ) → Over after n → EffectsNeverName of n rest) → NothingIsNamedAfterItsEnd ends of rest → NothingIsNamedAfterItsEnd ends of (emitted ++ rest)) where
      works_end : (s : EngineModel) (now : ℕ) (done_acts : List DoneActWithEffects) (t : EngineModel) (rest : List Effect) → FirstDueActsAreDoneInOrder s now done_acts t → ModelIsConsistent s → ((n : ℕ) → Over t n → EffectsNeverName of n rest) → NothingIsNamedAfterItsEnd ends of rest →
          NothingIsNamedAfterItsEnd ends of (effects_of_acts done_acts ++ rest)
      works_end s now [] t rest h o behind ending = ending
      works_end s now (done_act ∷ done_acts) t rest h o behind ending =
          let a = act s now done_act done_acts t h o in
          subst (NothingIsNamedAfterItsEnd ends of) (sym (append_assoc done_act.effects (effects_of_acts done_acts) rest))
          (act_ends s h.0 done_act.effects (effects_of_acts done_acts ++ rest) a
          (λ n over. never_more of n (effects_of_acts done_acts) rest (works_unnamed h.0 now done_acts t n h.3 a.orderly over) (behind n (works_over h.0 now done_acts t n h.3 a.orderly over)))
          (works_end h.0 now done_acts t rest h.3 a.orderly behind ending))

      item_ends : (s : EngineModel) (now : ℕ) (o : Option Happening) (emitted : List Effect) (t : EngineModel) (rest : List Effect) → HappeningIfAnyIsPlayed o s now emitted t → ModelIsConsistent s → ((n : ℕ) → Over t n → EffectsNeverName of n rest) →
          NothingIsNamedAfterItsEnd ends of rest → NothingIsNamedAfterItsEnd ends of (emitted ++ rest)
      item_ends s now None emitted t rest h o behind ending = subst (λ (es : List Effect). NothingIsNamedAfterItsEnd ends of (es ++ rest)) (sym h.0) ending
      item_ends s now (Some happening) emitted t rest h o behind ending =
          subst (λ (es : List Effect). NothingIsNamedAfterItsEnd ends of (es ++ rest)) (sym h.emitted) (works_end (model_after_happening s happening) now h.done_acts t rest h.settles.0 (takes_order s happening o) behind ending)

      pub plays_end : (a : PlayState) (items : List Item) (emitted : List Effect) (c : PlayState) → ItemsArePlayed a items emitted c → ModelIsConsistent a.model → NothingIsNamedAfterItsEnd ends of emitted
      plays_end a [] emitted c h o = subst (NothingIsNamedAfterItsEnd ends of) (sym h.0) tt
      plays_end a (item ∷ items) emitted c h o =
          let happened = h.3.happened in
          let next = item_orderly a.model h.0.now (happening_of_item item) h.1 h.0.model happened o in
          subst (NothingIsNamedAfterItsEnd ends of) (sym h.5)
          (item_ends a.model h.0.now (happening_of_item item) h.1 h.0.model h.2 happened o (λ n over. plays_unnamed h.0 items h.2 c n h.4 next over) (plays_end h.0 items h.2 c h.4 next))
