-- Reads, effects and acts, one more of each; and what they keep.
use Rattle.std.proofs.Common.{◌≡◌, ℕ, ◌+◌, List, [], ◌∷◌, ◌++◌, refl, sym, ◌∙◌, subst, arith, Option, None, Some}
use Rattle.std.proofs.lemmas.List.Sums.{sum_by-append}
use Rattle.proxy_script.specs.declared.effect_list.Effect.{Effect}
use Rattle.proxy_engine.specs.Happenings.{HappeningModel}
use Rattle.proxy_engine.specs.EngineModel.{EngineModel}
use Rattle.proxy_engine.specs.Due.{IsFirstDueAct}
use Rattle.proxy_engine.specs.Acts.{ActIsDone}
use Rattle.proxy_engine.specs.Orderly.{ModelIsConsistent, EndedEndsStayEnded, HappeningKeepsModelConsistent, EndedEndsStayEndedAfterHappening, ActKeepsModelConsistent}
use Rattle.proxy_engine.specs.declared.work.End.{End}
use Rattle.proxy_turn.specs.Turn.{HappeningIfAnyIsTaken, happening_of_read, IsAtMostOnePiece, EndRead, ReadsAreTaken, happening_of_loss, end_of_effect, EffectFate, Carried, Passed, Lost, EffectIsHandledWithFate, EffectsAreHandledWithFates, ActWithEffectFates, ActsAreDoneWithEffectFates}

-- ---- one more

pub reads_more : (rs : List EndRead) (s t u : EngineModel) (r : EndRead) → ReadsAreTaken s rs t → HappeningIfAnyIsTaken t (happening_of_read r.end r.given) u → IsAtMostOnePiece r.given → ReadsAreTaken s (rs ++ r ∷ []) u
reads_more [] s t u r here takes piece = (u, subst (λ x. HappeningIfAnyIsTaken x (happening_of_read r.end r.given) u) here takes, refl, piece)
reads_more (first ∷ rs) s t u r before takes piece = (before.0, before.1, reads_more rs before.0 t u r before.2 takes piece, before.3)

pub carries_more : (es : List Effect) (fs : List EffectFate) (s : EngineModel) (gone : List End) (t : EngineModel) (mid : List End) (e : Effect) (f : EffectFate) (u : EngineModel) (more : List End) → EffectsAreHandledWithFates s gone es fs t mid → EffectIsHandledWithFate t mid e f u more
    → EffectsAreHandledWithFates s gone (es ++ e ∷ []) (fs ++ f ∷ []) u more
carries_more [] [] s gone t mid e f u more here one =
    (u, more, subst (λ x. EffectIsHandledWithFate x gone e f u more) here.0 (subst (λ es. EffectIsHandledWithFate t es e f u more) here.1 one), (refl, refl))
carries_more [] (x ∷ fs) s gone t mid e f u more before one = absurd before
carries_more (x ∷ es) [] s gone t mid e f u more before one = absurd before
carries_more (x ∷ es) (y ∷ fs) s gone t mid e f u more before one =
    (before.0, before.1, before.2, carries_more es fs before.0 before.1 t mid e f u more before.3 one)

pub works_more : (rs : List ActWithEffectFates) (now : ℕ) (s : EngineModel) (gone : List End) (t : EngineModel) (mid : List End) (r : ActWithEffectFates) (done u : EngineModel) (more : List End) → ActsAreDoneWithEffectFates now s gone rs t mid
    → IsFirstDueAct t (Some r.act) → ActIsDone t now r.act r.emitted done → EffectsAreHandledWithFates done mid r.emitted r.fates u more → ActsAreDoneWithEffectFates now s gone (rs ++ r ∷ []) u more
works_more [] now s gone t mid r done u more here due does out =
    (done, u, more, subst (λ x. IsFirstDueAct x (Some r.act)) here.0 due, subst (λ x. ActIsDone x now r.act r.emitted done) here.0 does, subst (λ es. EffectsAreHandledWithFates done es r.emitted r.fates u more) here.1 out, (refl, refl))
works_more (x ∷ rs) now s gone t mid r done u more before due does out =
    (before.0, before.1, before.2, before.3, before.4, before.5, works_more rs now before.1 before.2 t mid r done u more before.6 due does out)

pub sum_more : {A : Type 0} (f : A → ℕ) (xs : List A) (x : A) → Rattle.std.specs.Prelude.sum_by f (xs ++ x ∷ []) ≡ Rattle.std.specs.Prelude.sum_by f xs + f x
sum_more f xs x = let both = sum_by-append f xs (x ∷ []) in omega (arith, both)

-- ---- what stays

stays_same : (s : EngineModel) → EndedEndsStayEnded s s
stays_same s = record { closed = λ i l e. e; gone = λ i l e. e; retired = λ i l e. e; dropped = λ j l e. e; connections = omega arith; links = omega arith; first = refl }

pub stays_on : (r s t : EngineModel) → EndedEndsStayEnded r s → EndedEndsStayEnded s t → EndedEndsStayEnded r t
stays_on r s t f g =
    let connections = f.connections in
    let links = f.links in
    let more_connections = g.connections in
    let more_links = g.links in
    record {
      closed = λ i l e. g.closed i (omega (arith, l, connections)) (f.closed i l e);
      gone = λ i l e. g.gone i (omega (arith, l, connections)) (f.gone i l e);
      retired = λ i l e. g.retired i (omega (arith, l, connections)) (f.retired i l e);
      dropped = λ j l e. g.dropped j (omega (arith, l, links)) (f.dropped j l e);
      connections = omega (arith, connections, more_connections);
      links = omega (arith, links, more_links);
      first = g.first ∙ f.first;
    }

module _ (stay : EndedEndsStayEndedAfterHappening) where
  pub if_stays : (s : EngineModel) (o : Option HappeningModel) (t : EngineModel) → HappeningIfAnyIsTaken s o t → EndedEndsStayEnded s t
  if_stays s None t takes = subst (EndedEndsStayEnded s) (sym takes) (stays_same s)
  if_stays s (Some h) t takes = subst (EndedEndsStayEnded s) (sym takes.1) (stay s h)

  pub reads_stay : (rs : List EndRead) (s t : EngineModel) → ReadsAreTaken s rs t → EndedEndsStayEnded s t
  reads_stay [] s t here = subst (EndedEndsStayEnded s) (sym here) (stays_same s)
  reads_stay (r ∷ rs) s t before = stays_on s before.0 t (if_stays s (happening_of_read r.end r.given) before.0 before.1) (reads_stay rs before.0 t before.2)

  pub carries_stays : (es : List Effect) (fs : List EffectFate) (s : EngineModel) (gone : List End) (t : EngineModel) (more : List End) → EffectsAreHandledWithFates s gone es fs t more → EndedEndsStayEnded s t
  carries_stays [] [] s gone t more here = subst (EndedEndsStayEnded s) (sym here.0) (stays_same s)
  carries_stays [] (f ∷ fs) s gone t more out = absurd out
  carries_stays (e ∷ es) [] s gone t more out = absurd out
  carries_stays (e ∷ es) (f ∷ fs) s gone t more out = stays_on s out.0 t (one f out.2) (carries_stays es fs out.0 out.1 t more out.3)
    where
      one : (f : EffectFate) → EffectIsHandledWithFate s gone e f out.0 out.1 → EndedEndsStayEnded s out.0
      one Carried c = subst (EndedEndsStayEnded s) (sym c.1) (stays_same s)
      one Passed c = subst (EndedEndsStayEnded s) (sym c.1) (stays_same s)
      one (Lost kind) c = if_stays s (happening_of_loss (end_of_effect e) kind) out.0 c.2

module _ (takes_in_order : HappeningKeepsModelConsistent) where
  pub if_orderly : (s : EngineModel) (o : Option HappeningModel) (t : EngineModel) → HappeningIfAnyIsTaken s o t → ModelIsConsistent s → ModelIsConsistent t
  if_orderly s None t takes h = subst ModelIsConsistent (sym takes) h
  if_orderly s (Some said) t takes h = subst ModelIsConsistent (sym takes.1) (takes_in_order s said h)

  pub reads_orderly : (rs : List EndRead) (s t : EngineModel) → ReadsAreTaken s rs t → ModelIsConsistent s → ModelIsConsistent t
  reads_orderly [] s t here h = subst ModelIsConsistent (sym here) h
  reads_orderly (r ∷ rs) s t before h = reads_orderly rs before.0 t before.2 (if_orderly s (happening_of_read r.end r.given) before.0 before.1 h)

  pub carries_orderly : (es : List Effect) (fs : List EffectFate) (s : EngineModel) (gone : List End) (t : EngineModel) (more : List End) → EffectsAreHandledWithFates s gone es fs t more → ModelIsConsistent s → ModelIsConsistent t
  carries_orderly [] [] s gone t more here h = subst ModelIsConsistent (sym here.0) h
  carries_orderly [] (f ∷ fs) s gone t more out h = absurd out
  carries_orderly (e ∷ es) [] s gone t more out h = absurd out
  carries_orderly (e ∷ es) (f ∷ fs) s gone t more out h = carries_orderly es fs out.0 out.1 t more out.3 (one f out.2)
    where
      one : (f : EffectFate) → EffectIsHandledWithFate s gone e f out.0 out.1 → ModelIsConsistent out.0
      one Carried c = subst ModelIsConsistent (sym c.1) h
      one Passed c = subst ModelIsConsistent (sym c.1) h
      one (Lost kind) c = if_orderly s (happening_of_loss (end_of_effect e) kind) out.0 c.2 h

  pub works_orderly : ActKeepsModelConsistent → (rs : List ActWithEffectFates) (now : ℕ) (s : EngineModel) (gone : List End) (t : EngineModel) (more : List End) → ActsAreDoneWithEffectFates now s gone rs t more → ModelIsConsistent s → ModelIsConsistent t
  works_orderly acts [] now s gone t more here h = subst ModelIsConsistent (sym here.0) h
  works_orderly acts (r ∷ rs) now s gone t more w h =
      works_orderly acts rs now w.1 w.2 t more w.6 (carries_orderly r.emitted r.fates w.0 gone w.1 w.2 w.5 ((acts s now r.act r.emitted w.0 h w.3 w.4).0))
