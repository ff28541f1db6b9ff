-- A turn amid which no call fails does its acts in order, and writes their effects.
use Rattle.std.proofs.Common.{◌≡◌, inr, ℕ, ◌+◌, ◌<◌, ◌≤◌, ◌==◌, List, [], ◌∷◌, ◌++◌, length, map, refl, sym, ap, ◌∙◌, subst, arith, append_assoc, Bool, true, false, ◌||◌, cond, None}
use Rattle.std.specs.List.{AllByRecursion}
use Rattle.std.proofs.lemmas.Bool.{false≢true}
use Rattle.std.proofs.lemmas.Bool.Decides.{nat_tests}
use Rattle.proxy_core.specs.Traces.{initial_state as core_begun}
use Rattle.proxy_script.specs.declared.effect_list.Effect.{Effect}
use Rattle.proxy_script.specs.declared.effect_list.Effect.TheVariants as effects
use Rattle.proxy_engine.specs.EngineModel.{EngineModel, LinkModel}
use Rattle.proxy_engine.specs.Acts.{next_link_number}
use Rattle.proxy_engine.specs.Executions.{ExecutionStep, Took, Worked, StepsLeadToModel}
use Rattle.proxy_engine.specs.Orderly.{ModelIsConsistent, EffectsNameOpenEnds, EndedEndsStayEnded, NewModelIsConsistent, HappeningKeepsModelConsistent, ActKeepsModelConsistent, EndedEndsStayEndedAfterAct}
use Rattle.proxy_engine.specs.Beginnings.{engine_model_at_start, store_holding}
use Rattle.proxy_engine.specs.Reading.{failed_links, open_link_model_has_failed, link_end_at, places_with_flag}
use Rattle.proxy_engine.specs.declared.work.End.{End}
use Rattle.proxy_engine.specs.declared.work.End.TheVariants as ends
use Rattle.proxy_replay.specs.Played.{FirstDueActsAreDoneInOrder}
use Rattle.proxy_turn.specs.Calls as call
use Rattle.proxy_turn.specs.Calls.{Call}
use Rattle.proxy_turn.specs.Turn.{EffectFate, Carried, Passed, Lost, EffectsAreHandledWithFates, ActWithEffectFates, ActsAreDoneWithEffectFates, end_has_failed, calls_of_effects, calls_of_rounds}
use Rattle.proxy_turn.specs.TurnSteps.{effects_of_rounds}
use Rattle.proxy_turn.specs.Over.{TurnOverGivenEndsIsDoneInOrder}
use Rattle.proxy_turn.specs.OverSteps.{steps_of_turn_over_given_ends, TurnOverGivenEndsStepsAreExecuted}
use Rattle.proxy_turn_laws.specs.ActsOfATurn.{EffectDidNotFail, NoCallOfRoundsFailed, done_acts_of_rounds, calls_of_successful_effect, calls_of_successful_effects, calls_without_link_shuts, RoundsWithoutFailureAreActsInOrder, ATurnWithoutFailureDoesActsInOrder, ATurnWritesItsEffects}
use Rattle.proxy_turn_laws.proofs.Writing.{without_rounds}

carried : (es : List Effect) (fs : List EffectFate) (s : EngineModel) (gone : List End) (t : EngineModel) (more : List End) → AllByRecursion EffectDidNotFail fs → EffectsAreHandledWithFates s gone es fs t more → (t ≡ s) × (more ≡ gone)
carried [] [] s gone t more fine here = here
carried [] (f ∷ fs) s gone t more fine out = absurd out
carried (e ∷ es) [] s gone t more fine out = absurd out
carried (e ∷ es) (Carried ∷ fs) s gone t more fine out =
    let rest = carried es fs out.0 out.1 t more fine.1 out.3 in
    (rest.0 ∙ out.2.1, rest.1 ∙ out.2.2)
carried (e ∷ es) (Passed ∷ fs) s gone t more fine out =
    let rest = carried es fs out.0 out.1 t more fine.1 out.3 in
    (rest.0 ∙ out.2.1, rest.1 ∙ out.2.2)
carried (e ∷ es) (Lost kind ∷ fs) s gone t more fine out = absurd fine.0

in_order : (rs : List ActWithEffectFates) (now : ℕ) (s t : EngineModel) (gone more : List End) → NoCallOfRoundsFailed rs → ActsAreDoneWithEffectFates now s gone rs t more → FirstDueActsAreDoneInOrder s now (done_acts_of_rounds rs) t × (more ≡ gone)
in_order [] now s t gone more fine here = here
in_order (r ∷ rs) now s t gone more fine w =
    let same = carried r.emitted r.fates w.0 gone w.1 w.2 fine.0 w.5 in
    let rest = in_order rs now w.1 t w.2 more fine.1 w.6 in
    ((w.0, w.3, w.4, subst (λ (u : EngineModel). FirstDueActsAreDoneInOrder u now (done_acts_of_rounds rs) t) same.0 rest.0), rest.1 ∙ same.1)

pub rounds_are_acts_in_order : RoundsWithoutFailureAreActsInOrder
rounds_are_acts_in_order now s t gone more rounds fine works = in_order rounds now s t gone more fine works

pub turns_do_acts_in_order : ATurnWithoutFailureDoesActsInOrder
turns_do_acts_in_order now bounds s given accepts reads rest rounds t fine turn = (in_order rounds now turn.read t (failed_links turn.read) turn.gone fine turn.works).0

-- ---- what is lost before a turn is a link

abbrev IsLinkBelow : ℕ → End → Type 0
IsLinkBelow b ends.Listener = ⊥
IsLinkBelow b (ends.Client n) = ⊥
IsLinkBelow b (ends.Link l) = l < b

below_more : (b c : ℕ) → b ≤ c → (gone : List End) → AllByRecursion (IsLinkBelow b) gone → AllByRecursion (IsLinkBelow c) gone
below_more b c le [] h = tt
below_more b c le (ends.Listener ∷ gone) h = absurd h.0
below_more b c le (ends.Client n ∷ gone) h = absurd h.0
below_more b c le (ends.Link l ∷ gone) h = let lt : l < b = h.0 in (omega (arith, lt, le), below_more b c le gone h.1)

client_open : (b n : ℕ) (gone : List End) → AllByRecursion (IsLinkBelow b) gone → end_has_failed gone (ends.Client n) ≡ false
client_open b n [] h = refl
client_open b n (ends.Listener ∷ gone) h = absurd h.0
client_open b n (ends.Client m ∷ gone) h = absurd h.0
client_open b n (ends.Link l ∷ gone) h = client_open b n gone h.1

other_link : (l b : ℕ) → l < b → (l == b) ≡ false
other_link l b lt = grind (arith, nat_tests)

link_open : (b : ℕ) (gone : List End) → AllByRecursion (IsLinkBelow b) gone → end_has_failed gone (ends.Link b) ≡ false
link_open b [] h = refl
link_open b (ends.Listener ∷ gone) h = absurd h.0
link_open b (ends.Client m ∷ gone) h = absurd h.0
link_open b (ends.Link l ∷ gone) h = ap (λ (c : Bool). c || end_has_failed gone (ends.Link b)) (other_link l b h.0) ∙ link_open b gone h.1

by_flag : (first n b : ℕ) (ks : List LinkModel) (c : Bool) → first + n < b → AllByRecursion (IsLinkBelow b) (map (link_end_at first) (places_with_flag open_link_model_has_failed (n + 1) ks))
    → AllByRecursion (IsLinkBelow b) (map (link_end_at first) (cond c (n ∷ places_with_flag open_link_model_has_failed (n + 1) ks) (places_with_flag open_link_model_has_failed (n + 1) ks)))
by_flag first n b ks true here rest = (here, rest)
by_flag first n b ks false here rest = rest

failed_below : (first n b : ℕ) (ks : List LinkModel) → first + (n + length ks) ≤ b → AllByRecursion (IsLinkBelow b) (map (link_end_at first) (places_with_flag open_link_model_has_failed n ks))
failed_below first n b [] le = tt
failed_below first n b (k ∷ ks) le =
    let more : first + ((n + 1) + length ks) ≤ b = omega (arith, le) in
    let here : first + n < b = omega (arith, le) in
    by_flag first n b ks (open_link_model_has_failed k) here (failed_below first (n + 1) b ks more)

-- ---- lists of calls

writes_joined : (es fs : List Effect) → calls_of_successful_effects (es ++ fs) ≡ calls_of_successful_effects es ++ calls_of_successful_effects fs
writes_joined [] fs = refl
writes_joined (e ∷ es) fs = ap (λ (cs : List Call). calls_of_successful_effect e ++ cs) (writes_joined es fs) ∙ sym (append_assoc (calls_of_successful_effect e) (calls_of_successful_effects es) (calls_of_successful_effects fs))

without_joined : (xs ys : List Call) → calls_without_link_shuts (xs ++ ys) ≡ calls_without_link_shuts xs ++ calls_without_link_shuts ys
without_joined [] ys = refl
without_joined (call.Accept n answer ∷ xs) ys = ap (λ (cs : List Call). call.Accept n answer ∷ cs) (without_joined xs ys)
without_joined (call.Read end given ∷ xs) ys = ap (λ (cs : List Call). call.Read end given ∷ cs) (without_joined xs ys)
without_joined (call.Write end bytes replied done ∷ xs) ys = ap (λ (cs : List Call). call.Write end bytes replied done ∷ cs) (without_joined xs ys)
without_joined (call.Connect l address done ∷ xs) ys = ap (λ (cs : List Call). call.Connect l address done ∷ cs) (without_joined xs ys)
without_joined (call.Shut ends.Listener done ∷ xs) ys = ap (λ (cs : List Call). call.Shut ends.Listener done ∷ cs) (without_joined xs ys)
without_joined (call.Shut (ends.Client n) done ∷ xs) ys = ap (λ (cs : List Call). call.Shut (ends.Client n) done ∷ cs) (without_joined xs ys)
without_joined (call.Shut (ends.Link l) done ∷ xs) ys = without_joined xs ys

-- ---- the effects of an act are written

module _ (s after : EngineModel) where
  effects_whole : (es : List Effect) (fs : List EffectFate) (u t : EngineModel) (gone more : List End) → AllByRecursion (IsLinkBelow (next_link_number s)) gone → EffectsNameOpenEnds s after es → AllByRecursion EffectDidNotFail fs → EffectsAreHandledWithFates u gone es fs t more
      → calls_without_link_shuts (calls_of_effects es fs) ≡ calls_of_successful_effects es
  effects_whole [] [] u t gone more below names fine out = refl
  effects_whole [] (f ∷ fs) u t gone more below names fine out = absurd out
  effects_whole (e ∷ es) [] u t gone more below names fine out = absurd out
  effects_whole (effects.Client n bytes replied ∷ es) (Carried ∷ fs) u t gone more below names fine out =
      ap (λ (cs : List Call). call.Write (ends.Client n) bytes replied true ∷ cs) (effects_whole es fs out.0 t out.1 more (subst (AllByRecursion (IsLinkBelow (next_link_number s))) (sym out.2.2) below) names.1 fine.1 out.3)
  effects_whole (effects.Client n bytes replied ∷ es) (Passed ∷ fs) u t gone more below names fine out = absurd (false≢true (sym (client_open (next_link_number s) n gone below) ∙ out.2.0))
  effects_whole (effects.Close n ∷ es) (Carried ∷ fs) u t gone more below names fine out =
      ap (λ (cs : List Call). call.Shut (ends.Client n) true ∷ cs) (effects_whole es fs out.0 t out.1 more (subst (AllByRecursion (IsLinkBelow (next_link_number s))) (sym out.2.2) below) (subst (EffectsNameOpenEnds s after) (sym names.2) tt) fine.1 out.3)
  effects_whole (effects.Close n ∷ es) (Passed ∷ fs) u t gone more below names fine out = absurd (false≢true (sym (client_open (next_link_number s) n gone below) ∙ out.2.0))
  effects_whole (effects.Forward l address bytes ∷ es) (Carried ∷ fs) u t gone more below names fine out =
      ap (λ (cs : List Call). call.Connect l address true ∷ call.Write (ends.Link l) bytes None true ∷ cs) (effects_whole es fs out.0 t out.1 more (subst (AllByRecursion (IsLinkBelow (next_link_number s))) (sym out.2.2) below) names.1 fine.1 out.3)
  effects_whole (effects.Forward l address bytes ∷ es) (Passed ∷ fs) u t gone more below names fine out =
      absurd (false≢true (sym (ap (λ (k : ℕ). end_has_failed gone (ends.Link k)) names.0 ∙ link_open (next_link_number s) gone below) ∙ out.2.0))
  effects_whole (effects.Drop l ∷ es) (Carried ∷ fs) u t gone more below names fine out =
      effects_whole es fs out.0 t out.1 more (subst (AllByRecursion (IsLinkBelow (next_link_number s))) (sym out.2.2) below) names.1 fine.1 out.3
  effects_whole (effects.Drop l ∷ es) (Passed ∷ fs) u t gone more below names fine out =
      effects_whole es fs out.0 t out.1 more (subst (AllByRecursion (IsLinkBelow (next_link_number s))) (sym out.2.2) below) names.1 fine.1 out.3
  effects_whole (e ∷ es) (Lost kind ∷ fs) u t gone more below names fine out = absurd fine.0

module _ (first_in_order : NewModelIsConsistent) (takes : HappeningKeepsModelConsistent) (acts : ActKeepsModelConsistent) (ended : EndedEndsStayEndedAfterAct) where
  rounds_whole : (rs : List ActWithEffectFates) (now : ℕ) (s t : EngineModel) (gone more : List End) → ModelIsConsistent s → AllByRecursion (IsLinkBelow (next_link_number s)) gone → NoCallOfRoundsFailed rs → ActsAreDoneWithEffectFates now s gone rs t more
      → calls_without_link_shuts (calls_of_rounds rs) ≡ calls_of_successful_effects (effects_of_rounds rs)
  rounds_whole [] now s t gone more orderly below fine here = refl
  rounds_whole (r ∷ rs) now s t gone more orderly below fine w =
      let order = acts s now r.act r.emitted w.0 orderly w.3 w.4 in
      let stays : EndedEndsStayEnded s w.0 = ended s now r.act r.emitted w.0 w.4 in
      let same = carried r.emitted r.fates w.0 gone w.1 w.2 fine.0 w.5 in
      let longer : length s.links ≤ length w.0.links = stays.links in
      let start : w.0.first ≡ s.first = stays.first in
      let more_links : next_link_number s ≤ next_link_number w.0 = omega (arith, longer, start) in
      let here : calls_without_link_shuts (calls_of_effects r.emitted r.fates) ≡ calls_of_successful_effects r.emitted = effects_whole s w.0 r.emitted r.fates w.0 w.1 gone w.2 below order.1 fine.0 w.5 in
      let below_then = subst (AllByRecursion (IsLinkBelow (next_link_number w.0))) (sym same.1) (below_more (next_link_number s) (next_link_number w.0) more_links gone below) in
      let then_on : calls_without_link_shuts (calls_of_rounds rs) ≡ calls_of_successful_effects (effects_of_rounds rs) = rounds_whole rs now w.1 t w.2 more (subst ModelIsConsistent (sym same.0) order.0)
      (subst (λ (u : EngineModel). AllByRecursion (IsLinkBelow (next_link_number u)) w.2) (sym same.0) below_then) fine.1 w.6 in
      without_joined (calls_of_effects r.emitted r.fates) (calls_of_rounds rs)
      ∙ (ap (λ (cs : List Call). cs ++ calls_without_link_shuts (calls_of_rounds rs)) here
      ∙ (ap (λ (cs : List Call). calls_of_successful_effects r.emitted ++ cs) then_on ∙ sym (writes_joined r.emitted (effects_of_rounds rs))))

  orderly_by : (begin : EngineModel) → ModelIsConsistent begin → (steps : List ExecutionStep) (t : EngineModel) → StepsLeadToModel begin steps t → ModelIsConsistent t
  orderly_by begin order [] t is = subst ModelIsConsistent (sym is) order
  orderly_by begin order (Took h ∷ past) t (s, executed, leads) = subst ModelIsConsistent (sym leads.1) (takes s h (orderly_by begin order past s executed))
  orderly_by begin order (Worked now act emitted ∷ past) t (s, executed, leads) = (acts s now act emitted t (orderly_by begin order past s executed) leads.0 leads.1).0

  pub turns_write_their_effects : TurnOverGivenEndsStepsAreExecuted → ATurnWritesItsEffects
  turns_write_their_effects live e held first link steps now bounds s given accepts reads rest rounds t executed fine turn =
      let begin = engine_model_at_start e.core.table held first link in
      let before : TurnOverGivenEndsIsDoneInOrder now bounds s given accepts reads rest [] turn.read = record {
        begun = turn.begun;
        read = turn.read;
        gone = failed_links turn.read;
        few = turn.few;
        accepts_are = turn.accepts_are;
        ends = turn.ends;
        reads_are = turn.reads_are;
        works = (refl, refl);
        bound = omega arith;
        accepts_come_first = without_rounds reads rounds turn.accepts_come_first;
        reads_come_before_acts = inr refl;
      } in
      let lived : StepsLeadToModel begin (steps_of_turn_over_given_ends now s accepts reads [] steps) turn.read = live begin steps now bounds s given accepts reads rest [] turn.read executed.executes before in
      let order : ModelIsConsistent turn.read = orderly_by begin (first_in_order (core_begun e.core.table (store_holding e.core.table held) first) link refl) (steps_of_turn_over_given_ends now s accepts reads [] steps) turn.read lived in
      rounds_whole rounds now turn.read t (failed_links turn.read) turn.gone order
      (failed_below turn.read.first 0 (next_link_number turn.read) turn.read.links (omega arith)) fine turn.works
