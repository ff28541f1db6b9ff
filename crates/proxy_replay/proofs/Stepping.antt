-- One act further, what an item tells the engine, and why it isn't done.
use Rattle.std.proofs.Common.{◌≡◌, ◌≢◌, inl, inr, ℕ, List, [], ◌∷◌, ◌++◌, take, refl, ap, sym, ◌∙◌, subst, Option, None, Some}
use Rattle.std.specs.Io.KnownBytes.{Appends}
use Rattle.std.proofs.KnownBytes.{Appends-nil}
use Rattle.std.proofs.lemmas.Grind.{flat_map-append}
use Rattle.std.proofs.lemmas.List.{append-nil}
use Rattle.std.specs.declared.vec.Vec.{Vec}
use Rattle.std.specs.declared.alloc.Global.{Global}
use Rattle.proxy_script.specs.Effects.{effects_text}
use Rattle.proxy_script.specs.declared.effect_list.Effect.{Effect}
use Rattle.proxy_engine.specs.Happenings.{HappeningModel as Happening}
use Rattle.proxy_engine.specs.EngineModel.{EngineModel, model_after_happening, happening_fault}
use Rattle.proxy_engine.specs.Due.{IsFirstDueAct}
use Rattle.proxy_engine.specs.Acts.{ActIsDone}
use Rattle.proxy_engine.specs.State.{State, EngineRepresents, IsFaultOrOutOfMemory, IsFaultOfTakingHappening, FirstDueActIfAnyWasDone, NoActWasDoneBecauseOf}
use Rattle.proxy_engine.specs.declared.work.EngineFault.{EngineFault}
use Rattle.proxy_engine.specs.declared.work.EngineFault.TheVariants as engine
use Rattle.proxy_engine.specs.declared.work.Work.{Work}
use Rattle.proxy_engine.specs.declared.work.Work.TheVariants as work
use Rattle.proxy_replay.specs.declared.replay_fault.ReplayFault.TheVariants as faults
use Rattle.proxy_replay.specs.Played.{DoneActWithEffects, FirstDueActsAreDoneInOrder, effects_of_acts, DueActsStopAtFault, EngineFailsAtHappening}
use Rattle.proxy_replay.specs.Steps.{replay_fault_of_engine_fault, EngineDidDueActs, EngineDidAllDueActs, ItemWasPlayedAndWritten, PlayingItemFails, ItemWasNotPlayed}

-- acts that were done

works_more : (done_acts : List DoneActWithEffects) (s : EngineModel) (now : ℕ) (done_act : DoneActWithEffects) (t u : EngineModel) → FirstDueActsAreDoneInOrder s now done_acts t → IsFirstDueAct t (Some done_act.act) → ActIsDone t now done_act.act done_act.effects u → FirstDueActsAreDoneInOrder s now (done_acts ++ done_act ∷ []) u
works_more [] s now done_act t u here due does =
    (u, subst (λ x. IsFirstDueAct x (Some done_act.act)) here due, subst (λ x. ActIsDone x now done_act.act done_act.effects u) here does, refl)
works_more (first ∷ done_acts) s now done_act t u before due does =
    (before.0, before.1, before.2, works_more done_acts before.0 now done_act t u before.3 due does)

pub worked_first : (s : EngineModel) (now : ℕ) (e : State) → EngineRepresents e s → EngineDidDueActs s now [] e
worked_first s now e represents = record { done_acts = []; last = s; works = refl; emitted = refl; represents = represents }

pub worked_more : (s : EngineModel) (now : ℕ) (effects : List Effect) (e new : State) (w : Work) (more : Vec Effect Global) → (before : EngineDidDueActs s now effects e) → w ≡ work.Did more → FirstDueActIfAnyWasDone before.last now w new → EngineDidDueActs s now (effects ++ more.items) new
worked_more s now effects e new w more before is did =
    let one = subst (λ w. FirstDueActIfAnyWasDone before.last now w new) is did in
    let done_act : DoneActWithEffects = record { act = one.0; effects = more.items } in
    record {
      done_acts = before.done_acts ++ done_act ∷ [];
      last = one.2.after;
      works = works_more before.done_acts s now done_act before.last one.2.after before.works one.1 one.2.does;
      emitted = ap (λ es. es ++ more.items) before.emitted
          ∙ (ap (λ es. effects_of_acts before.done_acts ++ es) (sym (append-nil more.items))
          ∙ sym (flat_map-append (λ (d : DoneActWithEffects). d.effects) before.done_acts (done_act ∷ [])));
      represents = one.2.represents;
    }

pub settled_by : (s : EngineModel) (now : ℕ) (effects : List Effect) (e new : State) (w : Work) → (before : EngineDidDueActs s now effects e) → w ≡ work.Idle → FirstDueActIfAnyWasDone before.last now w new → EngineDidAllDueActs s now effects new
settled_by s now effects e new w before is did =
    let idle = subst (λ w. FirstDueActIfAnyWasDone before.last now w new) is did in
    record {
      worked = record { done_acts = before.done_acts; last = before.last; works = before.works; emitted = before.emitted; represents = idle.1 };
      idle = idle.0;
    }

pub broke_by : (s : EngineModel) (now : ℕ) (effects : List Effect) (e : State) (fault : EngineFault) → (before : EngineDidDueActs s now effects e) → NoActWasDoneBecauseOf before.last fault → DueActsStopAtFault s now fault
broke_by s now effects e fault before failed = record { done_acts = before.done_acts; last = before.last; works = before.works; failed = failed }

-- what an item tells the engine

pub done_by : (s : EngineModel) (now : ℕ) (h : Happening) (effects : List Effect) (e : State) (old new : Option (List ℕ)) → happening_fault s h ≡ None → EngineDidAllDueActs (model_after_happening s h) now effects e → Appends old new (effects_text effects) → ItemWasPlayedAndWritten s now (Some h) e old new
done_by s now h effects e old new free settled appends = record {
  effects = effects;
  last = settled.worked.last;
  happened = record { free = free; done_acts = settled.worked.done_acts; settles = (settled.worked.works, settled.idle); emitted = settled.worked.emitted };
  represents = settled.worked.represents;
  appends = appends;
}

pub nothing_done : (s : EngineModel) (now : ℕ) (e : State) (h : Option Happening) (old : Option (List ℕ)) → None ≡ h → EngineRepresents e s → ItemWasPlayedAndWritten s now h e old old
nothing_done s now e h old none represents = subst (λ h. ItemWasPlayedAndWritten s now h e old old) none (record {
  effects = [];
  last = s;
  happened = (refl, refl);
  represents = represents;
  appends = Appends-nil old;
})

-- why it wasn't done

refuses_by : (s : EngineModel) (now : ℕ) (h : Happening) (o : Option EngineFault) (fault : EngineFault) → happening_fault s h ≡ o → IsFaultOrOutOfMemory o fault → fault ≢ engine.OutOfMemory → EngineFailsAtHappening s now h fault
refuses_by s now h None fault is refusal other = absurd (other refusal)
refuses_by s now h (Some f) fault is refusal other = inl (is ∙ ap Some (sym refusal))

refused_by : (s : EngineModel) (now : ℕ) (h : Happening) (fault : EngineFault) → IsFaultOfTakingHappening s h fault → PlayingItemFails s now (Some h) [] (replay_fault_of_engine_fault fault)
refused_by s now h engine.WrongNumber refusal = (h, refl, refuses_by s now h (happening_fault s h) engine.WrongNumber refl refusal (λ e. cc), refl)
refused_by s now h engine.NotAccepted refusal = (h, refl, refuses_by s now h (happening_fault s h) engine.NotAccepted refl refusal (λ e. cc), refl)
refused_by s now h engine.NotWaiting refusal = (h, refl, refuses_by s now h (happening_fault s h) engine.NotWaiting refl refusal (λ e. cc), refl)
refused_by s now h engine.OutOfMemory refusal = refl
refused_by s now h engine.Spent refusal = (h, refl, refuses_by s now h (happening_fault s h) engine.Spent refl refusal (λ e. cc), refl)

pub untaken : (s : EngineModel) (now : ℕ) (h : Happening) (fault : EngineFault) (old : Option (List ℕ)) → IsFaultOfTakingHappening s h fault → ItemWasNotPlayed s now (Some h) (replay_fault_of_engine_fault fault) old old
untaken s now h fault old refusal = record { written = []; appends = Appends-nil old; fails = refused_by s now h fault refusal }

breaks_by : (s : EngineModel) (now : ℕ) (h : Happening) (fault : EngineFault) → happening_fault s h ≡ None → DueActsStopAtFault (model_after_happening s h) now fault → PlayingItemFails s now (Some h) [] (replay_fault_of_engine_fault fault)
breaks_by s now h engine.WrongNumber free breaks = absurd breaks.failed
breaks_by s now h engine.NotAccepted free breaks = absurd breaks.failed
breaks_by s now h engine.NotWaiting free breaks = absurd breaks.failed
breaks_by s now h engine.OutOfMemory free breaks = refl
breaks_by s now h engine.Spent free breaks = (h, refl, inr (refl, free, breaks), refl)

pub unsettled : (s : EngineModel) (now : ℕ) (h : Happening) (fault : EngineFault) (old : Option (List ℕ)) → happening_fault s h ≡ None → DueActsStopAtFault (model_after_happening s h) now fault → ItemWasNotPlayed s now (Some h) (replay_fault_of_engine_fault fault) old old
unsettled s now h fault old free breaks = record { written = []; appends = Appends-nil old; fails = breaks_by s now h fault free breaks }

pub unwritten : (s : EngineModel) (now : ℕ) (h : Happening) (effects : List Effect) (e : State) (text : List ℕ) (old new : Option (List ℕ)) (k : ℕ) → happening_fault s h ≡ None → EngineDidAllDueActs (model_after_happening s h) now effects e → text ≡ effects_text effects → Appends old new (take k text) → ItemWasNotPlayed s now (Some h) faults.Write old new
unwritten s now h effects e text old new k free settled is appends = record {
  written = take k text;
  appends = appends;
  fails = (
    effects,
    settled.worked.last,
    record { free = free; done_acts = settled.worked.done_acts; settles = (settled.worked.works, settled.idle); emitted = settled.worked.emitted },
    k,
    ap (take k) is,
  );
}
