-- Acts that are done, and their effects carried out, one after another.
use Rattle.std.proofs.Common.{◌≡◌, inl, inr, ℕ, ◌+◌, ◌*◌, ◌≤◌, List, [], ◌∷◌, ◌++◌, length, map, refl, sym, ap, ◌∙◌, subst, arith, Some, Ok, Err}
use Rattle.std.proofs.lemmas.List.{length-append}
use Rattle.std.specs.declared.vec.Vec.{Vec}
use Rattle.std.specs.declared.alloc.Global.{Global}
use Rattle.proxy_script.specs.declared.effect_list.Effect.{Effect}
use Rattle.proxy_engine.specs.EngineModel.{EngineModel}
use Rattle.proxy_engine.specs.Due.{Act, IsFirstDueAct}
use Rattle.proxy_engine.specs.Acts.{ActIsDone}
use Rattle.proxy_engine.specs.Drops.{ActHasFewEffects}
use Rattle.proxy_engine.specs.Orderly.{ModelIsConsistent, HappeningKeepsModelConsistent, ActKeepsModelConsistent, EndedEndsStayEndedAfterAct}
use Rattle.proxy_engine.specs.Reading.{failed_links}
use Rattle.proxy_engine.specs.State.{State, EngineRepresents, FirstDueActIfAnyWasDone, NoActWasDoneBecauseOf}
use Rattle.proxy_engine.specs.declared.work.End.{End}
use Rattle.proxy_engine.specs.declared.work.EngineFault.{EngineFault}
use Rattle.proxy_engine.specs.declared.work.EngineFault.TheVariants as engine
use Rattle.proxy_engine.specs.declared.work.Work.{Work}
use Rattle.proxy_engine.specs.declared.work.Work.TheVariants as work
use Rattle.proxy_turn.specs.Calls.{Call}
use Rattle.proxy_turn.specs.Counts.{Calls, CallCountsRiseBy}
use Rattle.proxy_turn.specs.Turn.{ActWithEffectFates, end_of_effect, count_of_failed_effects, count_of_failed_in_rounds, calls_of_effects, calls_of_rounds}
use Rattle.proxy_turn.specs.Parts.{turn_fault_of_engine_fault, EndNumbersWereGiven, EffectsWereHandled, ActsAreDoneOneAfterAnother, ActsAreReported, DueActsAreDone}
use Rattle.proxy_turn.specs.declared.report.TurnFault.{TurnFault}
use Rattle.proxy_turn.specs.declared.report.TurnFault.TheVariants.{NoMemory}
use Rattle.proxy_turn.proofs.Called.{Joins, worked_one_more}
use Rattle.proxy_turn.proofs.Counting.{raises_none, raises_on}
use Rattle.proxy_turn.proofs.There.{effects_there}
use Rattle.proxy_turn.proofs.Turning.{works_more, works_orderly, sum_more}

-- so many acts were done
pub record SoFar (now : ℕ) (s : EngineModel) (e : State) (gone : List End) (did : List Call → Type 0) (a b : Calls) (works faults : ℕ) : Type 0 where
  pub rounds : List ActWithEffectFates
  pub some : ActsAreDoneOneAfterAnother now s rounds e gone did a b
  pub number : length rounds ≡ works
  pub counted : faults ≡ count_of_failed_in_rounds rounds
  pub few : faults ≤ 3 * works

-- the first act that was due was done
pub record Acted (t : EngineModel) (now : ℕ) (emitted : List Effect) (e : State) : Type 0 where
  pub act : Act
  pub after : EngineModel
  pub due : IsFirstDueAct t (Some act)
  pub does : ActIsDone t now act emitted after
  pub represents : EngineRepresents e after

pub acted : (t : EngineModel) (now : ℕ) (w : Work) (effects : Vec Effect Global) (e : State) → w ≡ work.Did effects → FirstDueActIfAnyWasDone t now w e → Acted t now effects.items e
acted t now w effects e is did =
    let one = subst (λ (w : Work). FirstDueActIfAnyWasDone t now w e) is did in
    record { act = one.0; after = one.2.after; due = one.1; does = one.2.does; represents = one.2.represents }

pub worked_none : (now : ℕ) (s : EngineModel) (e : State) (gone : List End) (did : List Call → Type 0) (here : Calls) → gone ≡ failed_links s → EngineRepresents e s → did [] → SoFar now s e gone did here here 0 0
worked_none now s e gone did here is represents none = record {
  rounds = [];
  some = record { last = s; works = (refl, is); represents = represents; calls = none; raises = raises_none here };
  number = refl;
  counted = refl;
  few = omega arith;
}

module _ (now : ℕ) (s : EngineModel) (e : State) (gone : List End) (did : List Call → Type 0) (a b : Calls) (works faults : ℕ) (done : SoFar now s e gone did a b works faults) where
  pub still_orderly : HappeningKeepsModelConsistent → ActKeepsModelConsistent → ModelIsConsistent s → ModelIsConsistent done.some.last
  still_orderly takes acts h = works_orderly takes acts done.rounds now s (failed_links s) done.some.last gone done.some.works h

  module _ (emitted : List Effect) (mid : State) (one : Acted done.some.last now emitted mid) where
    pub emitted_there : HappeningKeepsModelConsistent → ActKeepsModelConsistent → EndedEndsStayEndedAfterAct → ModelIsConsistent s → EndNumbersWereGiven one.after (map end_of_effect emitted)
    emitted_there takes acts stay h =
        effects_there done.some.last now one.act emitted one.after (stay done.some.last now one.act emitted one.after one.does) (acts done.some.last now one.act emitted one.after (still_orderly takes acts h) one.due one.does).1 one.does

    pub emitted_short : ActHasFewEffects → length emitted ≤ 3
    emitted_short short = (short done.some.last now one.act emitted one.after one.does).0

    pub worked_more : (new : State) (more : List End) (then all : List Call → Type 0) (c : Calls) (count sum : ℕ) → sum ≡ faults + count → count ≤ 3 → EffectsWereHandled one.after gone emitted new more then b c count → Joins did then all
        → SoFar now s new more all a c (works + 1) sum
    worked_more new more then all c count sum is small out join =
        let r : ActWithEffectFates = record { act = one.act; emitted = emitted; fates = out.fates } in
        let total = sum_more (λ (x : ActWithEffectFates). count_of_failed_effects x.fates) done.rounds r in
        record {
          rounds = done.rounds ++ r ∷ [];
          some = record {
            last = out.last;
            works = works_more done.rounds now s (failed_links s) done.some.last gone r one.after out.last more done.some.works one.due one.does out.carries;
            represents = out.represents;
            calls = subst all (sym (worked_one_more done.rounds r)) (join (calls_of_rounds done.rounds) (calls_of_effects emitted out.fates) done.some.calls out.calls);
            raises = subst (λ (n : ℕ). CallCountsRiseBy a c 0 0 n) (sym total) (raises_on a b c 0 0 (count_of_failed_in_rounds done.rounds) 0 0 (count_of_failed_effects out.fates) done.some.raises out.raises);
          };
          number = length-append done.rounds (r ∷ []) ∙ ap (λ (n : ℕ). n + 1) done.number;
          counted = let before = done.counted in let here = out.counted in omega (arith, is, before, here, total);
          few = let before = done.few in omega (arith, is, before, small);
        }

  module _ (bound : works ≤ 1000) where
    bounded : length done.rounds ≤ 1000
    bounded = let n = done.number in omega (arith, n, bound)

    small : count_of_failed_in_rounds done.rounds ≤ 3000
    small = let n = done.counted in let few = done.few in omega (arith, n, few, bound)

  -- nothing is due
  pub idle_by : (w : Work) (new : State) (counts : ℕ × ℕ) → w ≡ work.Idle → FirstDueActIfAnyWasDone done.some.last now w new → counts.0 ≡ works → counts.1 ≡ faults → works ≤ 1000 → DueActsAreDone now s new did a b (Ok counts)
  idle_by w new counts is did number more bound =
      let idle = subst (λ (w : Work). FirstDueActIfAnyWasDone done.some.last now w new) is did in
      record {
        rounds = done.rounds;
        gone = gone;
        some = record { last = done.some.last; works = done.some.works; represents = idle.1; calls = done.some.calls; raises = done.some.raises };
        bound = bounded bound;
        few = small bound;
        reports = (inr idle.0, number ∙ sym done.number, more ∙ done.counted);
      }

  -- as many as a turn does
  pub full_by : (counts : ℕ × ℕ) → counts.0 ≡ works → counts.1 ≡ faults → works ≡ 1000 → DueActsAreDone now s e did a b (Ok counts)
  full_by counts number more full = record {
    rounds = done.rounds;
    gone = gone;
    some = done.some;
    bound = bounded (omega (arith, full));
    few = small (omega (arith, full));
    reports = (inl (done.number ∙ full), number ∙ sym done.number, more ∙ done.counted);
  }

  -- room was refused
  pub stopped_by : works ≤ 1000 → DueActsAreDone now s e did a b (Err NoMemory)
  stopped_by bound = record { rounds = done.rounds; gone = gone; some = done.some; bound = bounded bound; few = small bound; reports = tt }

  -- an act was refused
  pub failed_by : (fault : EngineFault) (new : State) → NoActWasDoneBecauseOf done.some.last fault → EngineRepresents new done.some.last → works ≤ 1000 → DueActsAreDone now s new did a b (Err (turn_fault_of_engine_fault fault))
  failed_by fault new failed represents bound = record {
    rounds = done.rounds;
    gone = gone;
    some = record { last = done.some.last; works = done.some.works; represents = represents; calls = done.some.calls; raises = done.some.raises };
    bound = bounded bound;
    few = small bound;
    reports = reports fault failed;
  }
    where
      reports : (fault : EngineFault) → NoActWasDoneBecauseOf done.some.last fault → ActsAreReported done.rounds done.some.last (Err (turn_fault_of_engine_fault fault))
      reports engine.WrongNumber failed = absurd failed
      reports engine.NotAccepted failed = absurd failed
      reports engine.NotWaiting failed = absurd failed
      reports engine.OutOfMemory failed = tt
      reports engine.Spent failed = failed

-- under other names for the same
pub same_gone : (now : ℕ) (s : EngineModel) (e : State) (gone more : List End) (did : List Call → Type 0) (a b : Calls) (works faults : ℕ) → more ≡ gone → SoFar now s e gone did a b works faults → SoFar now s e more did a b works faults
same_gone now s e gone more did a b works faults is done = subst (λ (es : List End). SoFar now s e es did a b works faults) (sym is) done

pub same_emitted : (s : EngineModel) (gone : List End) (emitted more : List Effect) (e : State) (later : List End) (did : List Call → Type 0) (a b : Calls) (count : ℕ) → more ≡ emitted → EffectsWereHandled s gone more e later did a b count → EffectsWereHandled s gone emitted e later did a b count
same_emitted s gone emitted more e later did a b count is out = subst (λ (es : List Effect). EffectsWereHandled s gone es e later did a b count) is out

pub same_fault : (now : ℕ) (s : EngineModel) (e : State) (did : List Call → Type 0) (a b : Calls) (fault other : TurnFault) → other ≡ fault → DueActsAreDone now s e did a b (Err fault) → DueActsAreDone now s e did a b (Err other)
same_fault now s e did a b fault other is all = subst (λ (f : TurnFault). DueActsAreDone now s e did a b (Err f)) (sym is) all
