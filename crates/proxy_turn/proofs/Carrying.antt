-- Effects that are carried out, one after another.
use Rattle.std.proofs.Common.{◌≡◌, ℕ, zero, suc, ◌+◌, ◌<◌, List, [], ◌∷◌, ◌++◌, length, map, take, get_or, refl, sym, ap, ◌∙◌, subst, arith, false, Option}
use Rattle.std.proofs.Math.Seq.{take-suc}
use Rattle.hx_status.specs.declared.cause.FailKind.{FailKind}
use Rattle.proxy_script.specs.declared.effect_list.Effect.{Effect}
use Rattle.proxy_engine.specs.Happenings.{HappeningModel}
use Rattle.proxy_engine.specs.EngineModel.{EngineModel}
use Rattle.proxy_engine.specs.Orderly.{EndedEndsStayEndedAfterHappening}
use Rattle.proxy_engine.specs.State.{State, EngineRepresents}
use Rattle.proxy_engine.specs.declared.work.End.{End}
use Rattle.proxy_turn.specs.Calls.{Call}
use Rattle.proxy_turn.specs.Counts.{Calls, CallCountsRiseBy}
use Rattle.proxy_turn.specs.Turn.{HappeningIfAnyIsTaken, happening_of_loss, end_has_failed, end_of_effect, FailedEffectHasFailKind, Lost, EffectsAreHandledWithFates, one_if_effect_failed, count_of_failed_effects, calls_of_effect, calls_of_effects}
use Rattle.proxy_turn.specs.Parts.{HappeningIfAnyWasTaken, EndNumberWasGiven, EndNumbersWereGiven, EffectWasHandled, EffectsWereHandled}
use Rattle.proxy_turn.proofs.Called.{Joins, emitted_more}
use Rattle.proxy_turn.proofs.Counting.{raises_none, raises_on}
use Rattle.proxy_turn.proofs.There.{all_there_later}
use Rattle.proxy_turn.proofs.Turning.{carries_more, carries_stays, sum_more}

pub carried_lost : (s : EngineModel) (gone : List End) (effect : Effect) (e : State) (more : List End) (did : List Call → Type 0) (before after : Calls) (kind : FailKind) (end : End) (o : Option HappeningModel) → end ≡ end_of_effect effect → end_has_failed gone end ≡ false → FailedEffectHasFailKind effect kind → o ≡ happening_of_loss end kind
    → HappeningIfAnyWasTaken s o e → more ≡ gone ++ end ∷ [] → did (calls_of_effect effect (Lost kind)) → CallCountsRiseBy before after 0 0 1 → EffectWasHandled s gone effect e more did before after 1
carried_lost s gone effect e more did before after kind end o is here fails said took longer calls raises = record {
  fate = Lost kind;
  last = took.after;
  carries = (
    ap (end_has_failed gone) (sym is) ∙ here,
    fails,
    subst (λ (x : Option HappeningModel). HappeningIfAnyIsTaken s x took.after) (said ∙ ap (λ (x : End). happening_of_loss x kind) is) took.takes,
    longer ∙ ap (λ (x : End). gone ++ x ∷ []) is,
  );
  represents = took.represents;
  counted = refl;
  calls = calls;
  raises = raises;
}

effect_there : (s : EngineModel) (es : List Effect) (i : ℕ) (effect : Effect) → EndNumbersWereGiven s (map end_of_effect es) → i < length es → effect ≡ get_or es i effect → EndNumberWasGiven s (end_of_effect effect)
effect_there s [] i effect there l is = absurd (omega (arith, l))
effect_there s (e ∷ es) zero effect there l is = subst (λ (x : Effect). EndNumberWasGiven s (end_of_effect x)) (sym is) there.0
effect_there s (e ∷ es) (suc i) effect there l is = effect_there s es i effect there.1 (omega (arith, l)) is

pub carried_none : (s : EngineModel) (gone : List End) (e : State) (did : List Call → Type 0) (here : Calls) → EngineRepresents e s → did [] → EffectsWereHandled s gone [] e gone did here here 0
carried_none s gone e did here represents none = record { fates = []; last = s; carries = (refl, refl); represents = represents; counted = refl; calls = none; raises = raises_none here }

pub named_later : (stay : EndedEndsStayEndedAfterHappening) (s : EngineModel) (gone : List End) (es : List Effect) (i : ℕ) (effect : Effect) (e : State) (mid : List End) (did : List Call → Type 0) (a b : Calls) (faults : ℕ) → effect ≡ get_or es i effect → i < length es → EndNumbersWereGiven s (map end_of_effect es) → (done : EffectsWereHandled s gone (take i es) e mid did a b faults)
    → EndNumberWasGiven done.last (end_of_effect effect)
named_later stay s gone es i effect e mid did a b faults is l there done =
    effect_there done.last es i effect (all_there_later s done.last (map end_of_effect es) (carries_stays stay (take i es) done.fates s gone done.last mid done.carries) there) l is

module _ (s : EngineModel) (gone : List End) (es : List Effect) (i : ℕ) (effect : Effect) (e new : State) (mid more : List End) (did then all : List Call → Type 0) (a b c : Calls) (faults count : ℕ) where
  pub carried_more : effect ≡ get_or es i effect → i < length es → (done : EffectsWereHandled s gone (take i es) e mid did a b faults) → EffectWasHandled done.last mid effect new more then b c count → Joins did then all → EffectsWereHandled s gone (take (i + 1) es) new more all a c (faults + count)
  carried_more is l done one join =
      let longer : take (i + 1) es ≡ take i es ++ effect ∷ [] = next in
      record {
        fates = done.fates ++ one.fate ∷ [];
        last = one.last;
        carries = subst (λ (xs : List Effect). EffectsAreHandledWithFates s gone xs (done.fates ++ one.fate ∷ []) one.last more) (sym longer)
            (carries_more (take i es) done.fates s gone done.last mid effect one.fate one.last more done.carries one.carries);
        represents = one.represents;
        counted = let before = done.counted in let here = one.counted in let sum = sum_more one_if_effect_failed done.fates one.fate in omega (arith, before, here, sum);
        calls = subst (λ (xs : List Effect). all (calls_of_effects xs (done.fates ++ one.fate ∷ []))) (sym longer)
            (subst all (sym (emitted_more (take i es) done.fates s gone done.last mid effect one.fate done.carries)) (join (calls_of_effects (take i es) done.fates) (calls_of_effect effect one.fate) done.calls one.calls));
        raises = subst (λ (n : ℕ). CallCountsRiseBy a c 0 0 n) (sym (sum_more one_if_effect_failed done.fates one.fate)) (raises_on a b c 0 0 (count_of_failed_effects done.fates) 0 0 (one_if_effect_failed one.fate) done.raises one.raises);
      }
    where
      next : take (i + 1) es ≡ take i es ++ effect ∷ []
      next =
          let same : i + 1 ≡ suc i = omega arith in
          ap (λ (n : ℕ). take n es) same ∙ (take-suc es i effect l ∙ ap (λ (x : Effect). take i es ++ x ∷ []) (sym is))
