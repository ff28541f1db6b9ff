-- Ends that are lost, one after another: each is taken and recorded, and nothing else is.
use Rattle.std.proofs.Common.{◌≡◌, ◌⊎◌, List, [], ◌∷◌, ◌++◌, refl, sym, ap, ◌∙◌, subst, inl, inr, Bool, true, false, Option, None, Some, is_some, is_ok, Result, Ok, Err, IfErr, OnOk, OnErr}
use Rattle.std.proofs.lemmas.Bool.{false≢true, true≢false}
use Rattle.std.specs.Prelude.{ℕ, option_map, unwrap_or}
use Rattle.hx_status.specs.declared.cause.FailKind.{FailKind}
use Rattle.proxy_script.specs.declared.happening.Happening.{Happening}
use Rattle.proxy_engine.specs.Happenings as happened
use Rattle.proxy_engine.specs.Happenings.{HappeningModel, model_of_happening, happening_takes_memory}
use Rattle.proxy_engine.specs.EngineModel.{EngineModel, model_after_happening, happening_fault}
use Rattle.proxy_engine.specs.State.{State, EngineRepresents, EngineTakesHappening, IsFaultOrOutOfMemory, IsFaultOfTakingHappening}
use Rattle.proxy_engine.specs.declared.work.EngineFault.{EngineFault}
use Rattle.proxy_engine.specs.declared.work.EngineFault.TheVariants.{OutOfMemory}
use Rattle.proxy_engine.specs.declared.work.End.{End}
use Rattle.proxy_engine.specs.declared.work.End.TheVariants as ends
use Rattle.proxy_turn.specs.Turn.{happening_of_loss}
use Rattle.proxy_turn.specs.Served.{IsLossTimeoutOrRetirement, EngineTakesEndLosses, EndLossesAreTakenInOrder}
use Rattle.proxy_record.specs.Records.{RecordSoFar, EachHappeningIsRecorded}
use Rattle.proxy_record.specs.Recorded.{HappeningIfAnyIsRecorded, is_recording, may_be_taken_while_recording, was_recording_before, recording_had_not_failed}
use Rattle.proxy_record.specs.RecordedTurns.{recorded_at_moment}
use Rattle.proxy_server.specs.ServerState.{ServerState, may_take_an_end_loss}
use Rattle.proxy_server.specs.Losses.{EndLossIsTaken, EndLossIsRefused, EndLossIfAnyIsTakenOrRefused, EndLossOfKindIsTaken, EndLossesAreRecorded, AtMostOneEndLossIsTaken, EndLossesAreTakenAndRecorded, ServerTakesEndLosses}

-- ---- none

notes_none : (now : ℕ) (r : Option RecordSoFar) → EndLossesAreRecorded now [] r r
notes_none now None = refl
notes_none now (Some r) = (r, refl, refl)

-- its engine stands for the same, and nothing else changes
pub roomier : (a : ServerState) (e : State) → ((s : EngineModel) → EngineRepresents a.engine s → EngineRepresents e s) → ServerTakesEndLosses a (record a { engine = e })
roomier a e same s represents = record {
  losses = record { lost = []; are_losses = tt; after = s; takes = refl; represents = same s represents };
  fails = λ is. is;
  notes = λ ok. notes_none a.moment a.recorder;
  takes = λ ok is. refl;
  moment = refl;
  settled = refl;
  calls = refl;
}

pub none_on : (a b : ServerState) → b ≡ a → ServerTakesEndLosses a b
none_on a b is = subst (ServerTakesEndLosses a) (sym is) (roomier a a.engine (λ s h. h))

-- ---- one

may_be_first : (failed taken recording : Bool) → may_be_taken_while_recording failed taken recording ≡ true → recording ≡ true → taken ≡ false
may_be_first false false recording may is = refl
may_be_first false true true may is = absurd (false≢true may)
may_be_first false true false may is = absurd (false≢true is)
may_be_first true taken recording may is = absurd (false≢true may)

notes_one : (now : ℕ) (h : HappeningModel) (old new : Option RecordSoFar) → HappeningIfAnyIsRecorded now (Some h) old new → EndLossesAreRecorded now (h ∷ []) old new
notes_one now h None new noted = noted
notes_one now h (Some r) new noted = (noted.0, noted.1, (noted.0, noted.2, refl))

abbrev may : ServerState → Type 0
may a = may_take_an_end_loss a ≡ true

one_on : (h : HappeningModel) (a b : ServerState) → IsLossTimeoutOrRetirement h → may a → EndLossIsTaken h a b → ServerTakesEndLosses a b
one_on h a b loss free taken s represents =
    let took = taken.takes s represents in
    record {
      losses = record { lost = h ∷ []; are_losses = (loss, tt); after = model_after_happening s h; takes = (s, refl, (took.free, refl)); represents = took.represents };
      fails = taken.fails;
      notes = λ ok. notes_one a.moment h a.recorder b.recorder (taken.notes ok);
      takes = λ ok is. (
        may_be_first a.failed a.taken (is_recording a.recorder) free (was_recording_before a.moment (Some h) a.recorder b.recorder (taken.notes ok) is),
        taken.taken,
      );
      moment = taken.moment;
      settled = taken.settled;
      calls = taken.calls;
    }

pub end_on : (end : End) (kind : FailKind) (a b : ServerState) → may a → EndLossOfKindIsTaken end kind a b → ServerTakesEndLosses a b
end_on ends.Listener kind a b free is = none_on a b is
end_on (ends.Client n) kind a b free (inl taken) = one_on _ a b tt free taken
end_on (ends.Client n) kind a b free (inr refused) = none_on a b refused.same
end_on (ends.Link l) kind a b free (inl taken) = one_on _ a b tt free taken
end_on (ends.Link l) kind a b free (inr refused) = none_on a b refused.same

-- ---- and then others

each_on : (now : ℕ) (xs ys : List HappeningModel) (r mid new : RecordSoFar) → EachHappeningIsRecorded r (recorded_at_moment now xs) mid → EachHappeningIsRecorded mid (recorded_at_moment now ys) new → EachHappeningIsRecorded r (recorded_at_moment now (xs ++ ys)) new
each_on now [] ys r mid new same rest = subst (λ (k : RecordSoFar). EachHappeningIsRecorded k (recorded_at_moment now ys) new) same rest
each_on now (h ∷ xs) ys r mid new noted rest = (noted.0, noted.1, each_on now xs ys noted.0 mid new noted.2 rest)

notes_on : (now : ℕ) (xs ys : List HappeningModel) (old mid new : Option RecordSoFar) → EndLossesAreRecorded now xs old mid → EndLossesAreRecorded now ys mid new → EndLossesAreRecorded now (xs ++ ys) old new
notes_on now xs ys None mid new same rest = subst (λ (r : Option RecordSoFar). EndLossesAreRecorded now ys r new) same rest
notes_on now xs ys (Some r) mid new noted rest =
    let behind = subst (λ (k : Option RecordSoFar). EndLossesAreRecorded now ys k new) noted.1 rest in
    (behind.0, behind.1, each_on now xs ys r noted.0 behind.0 noted.2 behind.2)

each_was_recorded : (now : ℕ) (xs : List HappeningModel) (r new : RecordSoFar) → EachHappeningIsRecorded r (recorded_at_moment now xs) new → is_recording (Some new) ≡ true → is_recording (Some r) ≡ true
each_was_recorded now [] r new same is = subst (λ (k : RecordSoFar). is_recording (Some k) ≡ true) same is
each_was_recorded now (h ∷ xs) r new noted is =
    was_recording_before now (Some h) (Some r) (Some noted.0) (noted.0, refl, noted.1) (each_was_recorded now xs noted.0 new noted.2 is)

was_recorded : (now : ℕ) (xs : List HappeningModel) (old new : Option RecordSoFar) → EndLossesAreRecorded now xs old new → is_recording new ≡ true → is_recording old ≡ true
was_recorded now xs None new same is = subst (λ (r : Option RecordSoFar). is_recording r ≡ true) same is
was_recorded now xs (Some r) new noted is =
    each_was_recorded now xs r noted.0 noted.2 (subst (λ (k : Option RecordSoFar). is_recording k ≡ true) noted.1 is)

one_of_both : (taken some later : Bool) (xs ys : List HappeningModel) → AtMostOneEndLossIsTaken taken xs some → AtMostOneEndLossIsTaken some ys later → AtMostOneEndLossIsTaken taken (xs ++ ys) later
one_of_both taken some later [] ys same rest = subst (λ (t : Bool). AtMostOneEndLossIsTaken t ys later) same rest
one_of_both taken some later (h ∷ xs) ys first rest = (first.0, one_of_both true some later xs ys first.1 rest)

pub more_on : EndLossesAreTakenInOrder → (a mid b : ServerState) → ServerTakesEndLosses a mid → ServerTakesEndLosses mid b → ServerTakesEndLosses a b
more_on joined a mid b first rest s represents =
    let one = first s represents in
    let other = rest one.losses.after one.losses.represents in
    let both = joined s mid.engine b.engine one.losses other.losses in
    record {
      losses = both.0;
      fails = λ is. other.fails (one.fails is);
      notes = λ ok.
          let before = one.notes (recording_had_not_failed mid.failed b.failed other.fails ok) in
          let behind = subst (λ (now : ℕ). EndLossesAreRecorded now other.losses.lost mid.recorder b.recorder) one.moment (other.notes ok) in
          subst (λ (lost : List HappeningModel). EndLossesAreRecorded a.moment lost a.recorder b.recorder) (sym both.1)
          (notes_on a.moment one.losses.lost other.losses.lost a.recorder mid.recorder b.recorder before behind);
      takes = λ ok is.
          let free = recording_had_not_failed mid.failed b.failed other.fails ok in
          let was = was_recorded mid.moment other.losses.lost mid.recorder b.recorder (other.notes ok) is in
          subst (λ (lost : List HappeningModel). AtMostOneEndLossIsTaken a.taken lost b.taken) (sym both.1)
          (one_of_both a.taken mid.taken b.taken one.losses.lost other.losses.lost (one.takes free was) (other.takes ok is));
      moment = other.moment ∙ one.moment;
      settled = other.settled ∙ one.settled;
      calls = other.calls ∙ one.calls;
    }

-- from a state that is the one before
pub on_from : EndLossesAreTakenInOrder → (a mid same b : ServerState) → same ≡ mid → ServerTakesEndLosses a mid → ServerTakesEndLosses same b → ServerTakesEndLosses a b
on_from joined a mid same b is first rest = more_on joined a mid b first (subst (λ (x : ServerState). ServerTakesEndLosses x b) is rest)

-- of its engine they are losses, and nothing else
pub engine_loses : (a b : ServerState) → ServerTakesEndLosses a b → EngineTakesEndLosses a.engine b.engine
engine_loses a b loses s represents = (loses s represents).losses

pub engine_roomier : (e new : State) → ((s : EngineModel) → EngineRepresents e s → EngineRepresents new s) → EngineTakesEndLosses e new
engine_roomier e new same s represents = record { lost = []; are_losses = tt; after = s; takes = refl; represents = same s represents }

-- whatever a state is seen as
pub from_view : (seen a b : ServerState) → seen ≡ a → ServerTakesEndLosses seen b → ServerTakesEndLosses a b
from_view seen a b is loses = subst (λ (x : ServerState). ServerTakesEndLosses x b) is loses

-- ---- what is handed in is what happened

pub is_lost : (end : End) (kind : FailKind) (o : Option Happening) (h : Happening) (a b : ServerState) → o ≡ Some h → option_map model_of_happening o ≡ happening_of_loss end kind → EndLossIsTaken (model_of_happening h) a b → EndLossOfKindIsTaken end kind a b
is_lost end kind o h a b is says taken =
    subst (λ (l : Option HappeningModel). EndLossIfAnyIsTakenOrRefused l a b) (sym (ap (option_map model_of_happening) is) ∙ says) (inl taken)

pub is_refused : (end : End) (kind : FailKind) (o : Option Happening) (h : Happening) (a b : ServerState) → o ≡ Some h → option_map model_of_happening o ≡ happening_of_loss end kind → EndLossIsRefused (model_of_happening h) a b → EndLossOfKindIsTaken end kind a b
is_refused end kind o h a b is says refused =
    subst (λ (l : Option HappeningModel). EndLossIfAnyIsTakenOrRefused l a b) (sym (ap (option_map model_of_happening) is) ∙ says) (inr refused)

pub is_none : (end : End) (kind : FailKind) (o : Option Happening) (a b : ServerState) → o ≡ None → option_map model_of_happening o ≡ happening_of_loss end kind → b ≡ a → EndLossOfKindIsTaken end kind a b
is_none end kind o a b is says same =
    subst (λ (l : Option HappeningModel). EndLossIfAnyIsTakenOrRefused l a b) (sym (ap (option_map model_of_happening) is) ∙ says) same

-- it takes no memory, so it is refused where the engine has no such end, and nowhere else
loss_takes_none : (h : HappeningModel) → IsLossTimeoutOrRetirement h → happening_takes_memory h ≡ true → ⊥
loss_takes_none (happened.Accepts n) loss is = loss
loss_takes_none (happened.Sends n bytes) loss is = loss
loss_takes_none (happened.Hears l bytes) loss is = loss
loss_takes_none (happened.Ends n) loss is = loss
loss_takes_none (happened.Leaves n) loss is = absurd (false≢true is)
loss_takes_none (happened.Retires n) loss is = absurd (false≢true is)
loss_takes_none (happened.Overdues n) loss is = absurd (false≢true is)
loss_takes_none (happened.Shuts l) loss is = loss
loss_takes_none (happened.Fails l kind) loss is = absurd (false≢true is)

stands : (o : Option EngineFault) (fault : EngineFault) → (fault ≡ OutOfMemory → ⊥) → IsFaultOrOutOfMemory o fault → is_some o ≡ true
stands None fault fits is = absurd (fits is)
stands (Some f) fault fits is = refl

pub refused_where_gone : (h : HappeningModel) (a : ServerState) (r : Result (Unit {0}) EngineFault) (fault : EngineFault) → IsLossTimeoutOrRetirement h → r ≡ Err fault
    → (r ≡ Err OutOfMemory → happening_takes_memory h ≡ true) → ((s : EngineModel) → EngineRepresents a.engine s → IsFaultOfTakingHappening s h fault)
    → EndLossIsRefused h a a
refused_where_gone h a r fault loss is memory faults = record {
  same = refl;
  gone = λ s represents. stands (happening_fault s h) fault (λ wanting. loss_takes_none h loss (memory (is ∙ ap Err wanting))) (faults s represents);
}

some_inj : {x y : HappeningModel} → Some x ≡ Some y → x ≡ y
some_inj {x} same = ap (λ (o : Option HappeningModel). unwrap_or o x) same

loss_by_end : (e : End) (kind : FailKind) (h : HappeningModel) → Some h ≡ happening_of_loss e kind → IsLossTimeoutOrRetirement h
loss_by_end ends.Listener kind h said = absurd cc
loss_by_end (ends.Client n) kind h said = subst IsLossTimeoutOrRetirement (sym (some_inj said)) tt
loss_by_end (ends.Link l) kind h said = subst IsLossTimeoutOrRetirement (sym (some_inj said)) tt

-- an end that is lost is a loss
pub loss_of_end : (end : End) (kind : FailKind) (o : Option Happening) (h : Happening) → o ≡ Some h → option_map model_of_happening o ≡ happening_of_loss end kind → IsLossTimeoutOrRetirement (model_of_happening h)
loss_of_end end kind o h is says = loss_by_end end kind (model_of_happening h) (sym (ap (option_map model_of_happening) is) ∙ says)

-- what the engine took was recorded
pub taken_here : (end : End) (kind : FailKind) (o : Option Happening) (h : Happening) (seen b : ServerState) (r : Result (Unit {0}) EngineFault) → is_ok r ≡ true → o ≡ Some h → option_map model_of_happening o ≡ happening_of_loss end kind
    → OnOk r ((s : EngineModel) → EngineRepresents seen.engine s → EngineTakesHappening s (model_of_happening h) b.engine)
    → (seen.failed ≡ true → b.failed ≡ true) → (b.failed ≡ false → HappeningIfAnyIsRecorded seen.moment (Some (model_of_happening h)) seen.recorder b.recorder)
    → b.taken ≡ true → b.moment ≡ seen.moment → b.settled ≡ seen.settled → b.calls ≡ seen.calls → EndLossOfKindIsTaken end kind seen b
taken_here end kind o h seen b (Ok done) ok is says takes fails notes taken moment settled calls =
    is_lost end kind o h seen b is says (record { takes = takes; fails = fails; notes = notes; taken = taken; moment = moment; settled = settled; calls = calls })
taken_here end kind o h seen b (Err fault) ok is says takes fails notes taken moment settled calls = absurd (false≢true ok)

-- the engine has no such end
pub refused_here : (end : End) (kind : FailKind) (o : Option Happening) (h : Happening) (seen : ServerState) (e : State) (r : Result (Unit {0}) EngineFault) → is_ok r ≡ false → o ≡ Some h → option_map model_of_happening o ≡ happening_of_loss end kind
    → (r ≡ Err OutOfMemory → happening_takes_memory (model_of_happening h) ≡ true) → IfErr r (λ (fault : EngineFault). (s : EngineModel) → EngineRepresents seen.engine s → IsFaultOfTakingHappening s (model_of_happening h) fault)
    → OnErr r (e ≡ seen.engine) → EndLossOfKindIsTaken end kind seen (record seen { engine = e })
refused_here end kind o h seen e (Ok done) failed is says memory faults same = absurd (true≢false failed)
refused_here end kind o h seen e (Err fault) failed is says memory faults same =
    subst (λ (x : State). EndLossOfKindIsTaken end kind seen (record seen { engine = x })) (sym same)
    (is_refused end kind o h seen seen is says (refused_where_gone (model_of_happening h) seen (Err fault) fault (loss_of_end end kind o h is says) refl memory faults))

pub lost_from_view : (end : End) (kind : FailKind) (seen a b : ServerState) → seen ≡ a → EndLossOfKindIsTaken end kind seen b → EndLossOfKindIsTaken end kind a b
lost_from_view end kind seen a b is lost = subst (λ (x : ServerState). EndLossOfKindIsTaken end kind x b) is lost

-- what a call answered well did
pub did_well : {T : Type 0} (r : Result (Unit {0}) EngineFault) → is_ok r ≡ true → OnOk r T → T
did_well (Ok done) ok did = did
did_well (Err fault) ok did = absurd (false≢true ok)

-- ---- one that is named

pub one_taken : (h : HappeningModel) (seen a b : ServerState) (r : Result (Unit {0}) EngineFault) → seen ≡ a → is_ok r ≡ true
    → OnOk r ((s : EngineModel) → EngineRepresents seen.engine s → EngineTakesHappening s h b.engine)
    → (seen.failed ≡ true → b.failed ≡ true) → (b.failed ≡ false → HappeningIfAnyIsRecorded seen.moment (Some h) seen.recorder b.recorder)
    → b.taken ≡ true → b.moment ≡ seen.moment → b.settled ≡ seen.settled → b.calls ≡ seen.calls → EndLossIfAnyIsTakenOrRefused (Some h) a b
one_taken h seen a b (Ok done) is ok takes fails notes taken moment settled calls =
    subst (λ (x : ServerState). EndLossIfAnyIsTakenOrRefused (Some h) x b) is
    (inl (record { takes = takes; fails = fails; notes = notes; taken = taken; moment = moment; settled = settled; calls = calls }))
one_taken h seen a b (Err fault) is ok takes fails notes taken moment settled calls = absurd (false≢true ok)

pub one_refused : (h : HappeningModel) (seen a : ServerState) (e : State) (r : Result (Unit {0}) EngineFault) → seen ≡ a → is_ok r ≡ false → IsLossTimeoutOrRetirement h
    → (r ≡ Err OutOfMemory → happening_takes_memory h ≡ true) → IfErr r (λ (fault : EngineFault). (s : EngineModel) → EngineRepresents seen.engine s → IsFaultOfTakingHappening s h fault)
    → OnErr r (e ≡ seen.engine) → EndLossIfAnyIsTakenOrRefused (Some h) a (record seen { engine = e })
one_refused h seen a e (Ok done) is failed loss memory faults same = absurd (true≢false failed)
one_refused h seen a e (Err fault) is failed loss memory faults same =
    subst (λ (x : ServerState). EndLossIfAnyIsTakenOrRefused (Some h) x (record seen { engine = e })) is
    (subst (λ (x : State). EndLossIfAnyIsTakenOrRefused (Some h) seen (record seen { engine = x })) (sym same)
    (inr (refused_where_gone h seen (Err fault) fault loss refl memory faults)))

pub one_taken_on : (h : HappeningModel) (a b : ServerState) → IsLossTimeoutOrRetirement h → may a → EndLossIfAnyIsTakenOrRefused (Some h) a b → ServerTakesEndLosses a b
one_taken_on h a b loss free (inl taken) = one_on h a b loss free taken
one_taken_on h a b loss free (inr refused) = none_on a b refused.same
