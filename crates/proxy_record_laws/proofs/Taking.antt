-- A turn of whose calls one thing at most is taken takes it in front of its acts.
use Rattle.std.proofs.Common.{◌≡◌, ◌≢◌, ◌⊎◌, inl, inr, ℕ, ◌+◌, List, [], ◌∷◌, ◌++◌, length, length-append, refl, sym, ap, ◌∙◌, subst, arith, append-nil, append_assoc, Bool, true, false, Option, None, Some, cond}
use Rattle.std.specs.Prelude.{is_some}
use Rattle.std.specs.List.{AllByRecursion}
use Rattle.std.proofs.lemmas.Bool.{false≢true, true≢false}
use Rattle.hx_status.specs.declared.cause.FailKind.{FailKind}
use Rattle.hx_status.specs.declared.cause.FailKind.TheVariants as kinds
use Rattle.std.specs.declared.net.socket_addr.SocketAddrV4.{SocketAddrV4}
use Rattle.proxy_script.specs.Happenings.{HappeningModel as Happening, Accepts}
use Rattle.proxy_script.specs.declared.effect_list.Effect.{Effect}
use Rattle.proxy_script.specs.declared.effect_list.Effect.TheVariants as effects
use Rattle.proxy_engine.specs.EngineModel.{EngineModel, new_connection_model, model_after_happening, happening_fault}
use Rattle.proxy_engine.specs.Executions.{ExecutionStep, Worked}
use Rattle.proxy_engine.specs.Reading.{failed_links}
use Rattle.proxy_engine.specs.declared.work.End.{End}
use Rattle.proxy_replay.specs.Played.{FirstDueActsAreDoneInOrder}
use Rattle.proxy_turn.specs.Calls.{Call, AcceptOutcome, Came, NoneCame, Failed}
use Rattle.proxy_turn.specs.Turn.{HappeningIfAnyIsTaken, EndRead, ReadsAreTaken, EffectFate, Carried, Passed, Lost, EffectsAreHandledWithFates, ActWithEffectFates, ActsAreDoneWithEffectFates, happening_of_read, calls_of_reads, calls_of_failed_forward, calls_of_effect, calls_of_effects, calls_of_rounds}
use Rattle.proxy_turn.specs.TurnSteps.{step_of_happening_if_any, steps_of_reads, steps_of_lost_ends, steps_of_rounds}
use Rattle.proxy_turn.specs.Over.{happening_of_accept_outcome, AcceptsAreTaken, calls_of_accepts}
use Rattle.proxy_turn.specs.OverSteps.{steps_of_accepts, steps_of_turn_over_given_ends}
use Rattle.proxy_turn_laws.specs.ActsOfATurn.{EffectDidNotFail, NoCallOfRoundsFailed, done_acts_of_rounds, RoundsWithoutFailureAreActsInOrder}
use Rattle.proxy_record.specs.Recorded.{call_gave_something, AtMostOneCallGaveSomething, NoEffectCallFailed}
use Rattle.proxy_record.specs.RecordedTurns.{happening_as_list, happenings_of_steps}
use Rattle.proxy_record_laws.specs.OneThing.{AtMostOneHappeningIsTaken, ATurnTakesAtMostOneHappening, ATurnTakesNoSecondHappening}

-- ---- at most one thing is taken

abbrev TakesNothing : Bool → EngineModel → List Happening → EngineModel → Bool → Type 0
TakesNothing taken s hs t later = (hs ≡ []) × (t ≡ s) × (later ≡ taken)

abbrev TakesOneThing : Bool → EngineModel → List Happening → EngineModel → Bool → Type 0
TakesOneThing taken s hs t later =
    (h : Happening) × (hs ≡ h ∷ []) × (taken ≡ false) × (happening_fault s h ≡ None) × (t ≡ model_after_happening s h) × (later ≡ true)

abbrev Takes : Bool → EngineModel → List Happening → EngineModel → Bool → Type 0
Takes taken s hs t later = TakesNothing taken s hs t later ⊎ TakesOneThing taken s hs t later

takes_joined : (taken mid later : Bool) (s u t : EngineModel) (hs ks : List Happening) → Takes taken s hs u mid → Takes mid u ks t later → Takes taken s (hs ++ ks) t later
takes_joined taken mid later s u t hs ks (inl a) (inl b) = inl (ap (λ (xs : List Happening). xs ++ ks) a.0 ∙ b.0, b.1 ∙ a.1, b.2 ∙ a.2)
takes_joined taken mid later s u t hs ks (inl a) (inr b) = inr (
  b.0,
  ap (λ (xs : List Happening). xs ++ ks) a.0 ∙ b.1,
  sym a.2 ∙ b.2,
  subst (λ (m : EngineModel). happening_fault m b.0 ≡ None) a.1 b.3,
  b.4 ∙ ap (λ (m : EngineModel). model_after_happening m b.0) a.1,
  b.5,
)
takes_joined taken mid later s u t hs ks (inr a) (inl b) = inr (
  a.0,
  ap (λ (xs : List Happening). xs ++ ks) a.1 ∙ ap (λ (xs : List Happening). a.0 ∷ xs) b.0,
  a.2,
  a.3,
  b.1 ∙ a.4,
  b.2 ∙ a.5,
)
takes_joined taken mid later s u t hs ks (inr a) (inr b) = absurd (true≢false (sym a.5 ∙ b.2))

takes_one : (o : Option Happening) (taken : Bool) (s t : EngineModel) → (is_some o ≡ true → taken ≡ false) → HappeningIfAnyIsTaken s o t → Takes taken s (happening_as_list o) t (cond (is_some o) true taken)
takes_one None taken s t free same = inl (refl, same, refl)
takes_one (Some h) taken s t free takes = inr (h, refl, free refl, takes.0, takes.1, refl)

-- ---- calls

abbrev TakenInTwo : Bool → List Call → List Call → Bool → Type 0
TakenInTwo taken a b later = (mid : Bool) × AtMostOneCallGaveSomething taken a mid × AtMostOneCallGaveSomething mid b later

taken_in_two : (a b : List Call) (taken later : Bool) → AtMostOneCallGaveSomething taken (a ++ b) later → TakenInTwo taken a b later
taken_in_two [] b taken later h = (taken, refl, h)
taken_in_two (c ∷ a) b taken later h =
    let rest = taken_in_two a b (cond (call_gave_something c) true taken) later h.1 in
    (rest.0, (h.0, rest.1), rest.2)

pub none_failed_in_two : (a b : List Call) → NoEffectCallFailed (a ++ b) → NoEffectCallFailed a × NoEffectCallFailed b
none_failed_in_two [] b h = (tt, h)
none_failed_in_two (c ∷ a) b h = let rest = none_failed_in_two a b h.1 in ((h.0, rest.0), rest.1)

-- ---- accepts and reads

abbrev happenings_of_accepts : ℕ → List AcceptOutcome → List Happening
happenings_of_accepts n [] = []
happenings_of_accepts n (a ∷ more) = happening_as_list (happening_of_accept_outcome n a) ++ happenings_of_accepts (n + 1) more

abbrev happenings_of_reads : List EndRead → List Happening
happenings_of_reads [] = []
happenings_of_reads (r ∷ rs) = happening_as_list (happening_of_read r.end r.given) ++ happenings_of_reads rs

one_more : (s : EngineModel) (n : ℕ) → n ≡ length s.connections + 1 → n + 1 ≡ length (model_after_happening s (Accepts n)).connections + 1
one_more s n is =
    let count = length-append s.connections (new_connection_model s.core.table.max_body ∷ []) in
    omega (arith, is, count)

accepts_take : (most : ℕ) (accepts : List AcceptOutcome) (n : ℕ) (taken later : Bool) (s t : EngineModel) → n ≡ length s.connections + 1 → AcceptsAreTaken most s accepts t → AtMostOneCallGaveSomething taken (calls_of_accepts n accepts) later
    → Takes taken s (happenings_of_accepts n accepts) t later
accepts_take most [] n taken later s t is same some = inl (refl, same, some)
accepts_take most (Came ∷ more) n taken later s t is takes some =
    let took : HappeningIfAnyIsTaken s (Some (Accepts n)) takes.0 = subst (λ (k : ℕ). HappeningIfAnyIsTaken s (Some (Accepts k)) takes.0) (sym is) takes.2 in
    let here = takes_one (Some (Accepts n)) taken s takes.0 some.0 took in
    let numbered : n + 1 ≡ length takes.0.connections + 1 = one_more s n is ∙ ap (λ (m : EngineModel). length m.connections + 1) (sym took.1) in
    let rest = accepts_take most more (n + 1) true later takes.0 t numbered takes.4 some.1 in
    takes_joined taken true later s takes.0 t (Accepts n ∷ []) (happenings_of_accepts (n + 1) more) here rest
accepts_take most (NoneCame ∷ []) n taken later s t is takes some = inl (refl, takes.4 ∙ takes.2, some.1)
accepts_take most (Failed ∷ []) n taken later s t is takes some = inl (refl, takes.4 ∙ takes.2, some.1)
accepts_take most (NoneCame ∷ a ∷ more) n taken later s t is takes some = absurd (stopped takes.3)
  where
    stopped : (NoneCame ≡ Came) ⊎ (◌≡◌ {A = List AcceptOutcome} (a ∷ more) []) → ⊥
    stopped (inl came) = absurd (cc)
    stopped (inr none) = absurd (cc)
accepts_take most (Failed ∷ a ∷ more) n taken later s t is takes some = absurd (stopped takes.3)
  where
    stopped : (Failed ≡ Came) ⊎ (◌≡◌ {A = List AcceptOutcome} (a ∷ more) []) → ⊥
    stopped (inl came) = absurd (cc)
    stopped (inr none) = absurd (cc)

reads_take : (reads : List EndRead) (taken later : Bool) (s t : EngineModel) → ReadsAreTaken s reads t → AtMostOneCallGaveSomething taken (calls_of_reads reads) later → Takes taken s (happenings_of_reads reads) t later
reads_take [] taken later s t same some = inl (refl, same, some)
reads_take (r ∷ rs) taken later s t takes some =
    let o = happening_of_read r.end r.given in
    let here = takes_one o taken s takes.0 some.0 takes.1 in
    let rest = reads_take rs (cond (is_some o) true taken) later takes.0 t takes.2 some.1 in
    takes_joined taken (cond (is_some o) true taken) later s takes.0 t (happening_as_list o) (happenings_of_reads rs) here rest

-- ---- acts

fine_forward : (l : ℕ) (address : SocketAddrV4) (bytes : List ℕ) (kind : FailKind) → NoEffectCallFailed (calls_of_failed_forward l address bytes kind) → ⊥
fine_forward l address bytes kinds.Refused h = true≢false h.0
fine_forward l address bytes kinds.TimedOut h = true≢false h.1.0
fine_forward l address bytes kinds.Closed h = true≢false h.1.0
fine_forward l address bytes kinds.BadAnswer h = true≢false h.1.0
fine_forward l address bytes kinds.TooLarge h = true≢false h.1.0

fine_effect : (e : Effect) (f : EffectFate) → NoEffectCallFailed (calls_of_effect e f) → EffectDidNotFail f
fine_effect e Carried h = tt
fine_effect e Passed h = tt
fine_effect (effects.Client n bytes replied) (Lost kind) h = true≢false h.0
fine_effect (effects.Close n) (Lost kind) h = true≢false h.0
fine_effect (effects.Forward l address bytes) (Lost kind) h = fine_forward l address bytes kind h
fine_effect (effects.Drop l) (Lost kind) h = true≢false h.0

fine_effects : (es : List Effect) (fs : List EffectFate) (s : EngineModel) (gone : List End) (t : EngineModel) (more : List End) → EffectsAreHandledWithFates s gone es fs t more → NoEffectCallFailed (calls_of_effects es fs) → AllByRecursion EffectDidNotFail fs
fine_effects [] [] s gone t more out h = tt
fine_effects [] (f ∷ fs) s gone t more out h = absurd out
fine_effects (e ∷ es) [] s gone t more out h = absurd out
fine_effects (e ∷ es) (f ∷ fs) s gone t more out h =
    let both = none_failed_in_two (calls_of_effect e f) (calls_of_effects es fs) h in
    (fine_effect e f both.0, fine_effects es fs out.0 out.1 t more out.3 both.1)

pub fine_rounds : (rs : List ActWithEffectFates) (now : ℕ) (s : EngineModel) (gone : List End) (t : EngineModel) (more : List End) → ActsAreDoneWithEffectFates now s gone rs t more → NoEffectCallFailed (calls_of_rounds rs) → NoCallOfRoundsFailed rs
fine_rounds [] now s gone t more works h = tt
fine_rounds (r ∷ rs) now s gone t more works h =
    let both = none_failed_in_two (calls_of_effects r.emitted r.fates) (calls_of_rounds rs) h in
    (fine_effects r.emitted r.fates works.0 gone works.1 works.2 works.5 both.0, fine_rounds rs now works.1 works.2 t more works.6 both.1)

abbrev GivesNothing : Call → Type 0
GivesNothing c = call_gave_something c ≡ false

none_given_joined : (a b : List Call) → AllByRecursion GivesNothing a → AllByRecursion GivesNothing b → AllByRecursion GivesNothing (a ++ b)
none_given_joined [] b h k = k
none_given_joined (c ∷ a) b h k = (h.0, none_given_joined a b h.1 k)

forward_gives : (l : ℕ) (address : SocketAddrV4) (bytes : List ℕ) (kind : FailKind) → AllByRecursion GivesNothing (calls_of_failed_forward l address bytes kind)
forward_gives l address bytes kinds.Refused = (refl, tt)
forward_gives l address bytes kinds.TimedOut = (refl, (refl, tt))
forward_gives l address bytes kinds.Closed = (refl, (refl, tt))
forward_gives l address bytes kinds.BadAnswer = (refl, (refl, tt))
forward_gives l address bytes kinds.TooLarge = (refl, (refl, tt))

effect_gives : (e : Effect) (f : EffectFate) → AllByRecursion GivesNothing (calls_of_effect e f)
effect_gives e Passed = tt
effect_gives (effects.Client n bytes replied) Carried = (refl, tt)
effect_gives (effects.Client n bytes replied) (Lost kind) = (refl, tt)
effect_gives (effects.Close n) Carried = (refl, tt)
effect_gives (effects.Close n) (Lost kind) = (refl, tt)
effect_gives (effects.Forward l address bytes) Carried = (refl, (refl, tt))
effect_gives (effects.Forward l address bytes) (Lost kind) = forward_gives l address bytes kind
effect_gives (effects.Drop l) Carried = (refl, tt)
effect_gives (effects.Drop l) (Lost kind) = (refl, tt)

effects_give : (es : List Effect) (fs : List EffectFate) → AllByRecursion GivesNothing (calls_of_effects es fs)
effects_give [] fs = tt
effects_give (e ∷ es) [] = tt
effects_give (e ∷ es) (f ∷ fs) = none_given_joined (calls_of_effect e f) (calls_of_effects es fs) (effect_gives e f) (effects_give es fs)

rounds_give : (rs : List ActWithEffectFates) → AllByRecursion GivesNothing (calls_of_rounds rs)
rounds_give [] = tt
rounds_give (r ∷ rs) = none_given_joined (calls_of_effects r.emitted r.fates) (calls_of_rounds rs) (effects_give r.emitted r.fates) (rounds_give rs)

none_taken : (cs : List Call) (taken later : Bool) → AllByRecursion GivesNothing cs → AtMostOneCallGaveSomething taken cs later → later ≡ taken
none_taken [] taken later none some = some
none_taken (c ∷ cs) taken later none some = none_taken cs (cond (call_gave_something c) true taken) later none.1 some.1 ∙ ap (λ (b : Bool). cond b true taken) none.0

-- ---- what the steps took

took_one : (o : Option Happening) (past : List ExecutionStep) (more : List Happening) → happenings_of_steps (step_of_happening_if_any o past) ++ more ≡ happenings_of_steps past ++ (happening_as_list o ++ more)
took_one None past more = refl
took_one (Some h) past more = append_assoc (happenings_of_steps past) (h ∷ []) more

took_accepts : (accepts : List AcceptOutcome) (n : ℕ) (past : List ExecutionStep) → happenings_of_steps (steps_of_accepts n accepts past) ≡ happenings_of_steps past ++ happenings_of_accepts n accepts
took_accepts [] n past = sym (append-nil (happenings_of_steps past))
took_accepts (a ∷ more) n past =
    took_accepts more (n + 1) (step_of_happening_if_any (happening_of_accept_outcome n a) past) ∙ took_one (happening_of_accept_outcome n a) past (happenings_of_accepts (n + 1) more)

took_reads : (reads : List EndRead) (past : List ExecutionStep) → happenings_of_steps (steps_of_reads reads past) ≡ happenings_of_steps past ++ happenings_of_reads reads
took_reads [] past = sym (append-nil (happenings_of_steps past))
took_reads (r ∷ rs) past =
    took_reads rs (step_of_happening_if_any (happening_of_read r.end r.given) past) ∙ took_one (happening_of_read r.end r.given) past (happenings_of_reads rs)

no_losses : (es : List Effect) (fs : List EffectFate) (past : List ExecutionStep) → AllByRecursion EffectDidNotFail fs → steps_of_lost_ends es fs past ≡ past
no_losses [] fs past fine = refl
no_losses (e ∷ es) [] past fine = refl
no_losses (e ∷ es) (Carried ∷ fs) past fine = no_losses es fs past fine.1
no_losses (e ∷ es) (Passed ∷ fs) past fine = no_losses es fs past fine.1
no_losses (e ∷ es) (Lost kind ∷ fs) past fine = absurd fine.0

took_rounds : (now : ℕ) (rs : List ActWithEffectFates) (past : List ExecutionStep) → NoCallOfRoundsFailed rs → happenings_of_steps (steps_of_rounds now rs past) ≡ happenings_of_steps past
took_rounds now [] past fine = refl
took_rounds now (r ∷ rs) past fine =
    took_rounds now rs (steps_of_lost_ends r.emitted r.fates (Worked now r.act r.emitted ∷ past)) fine.1 ∙ ap happenings_of_steps (no_losses r.emitted r.fates (Worked now r.act r.emitted ∷ past) fine.0)

-- ---- the turn

acts_behind : (taken later : Bool) (s read t : EngineModel) (now : ℕ) (hs : List Happening) (rs : List ActWithEffectFates) → Takes taken s hs read later → FirstDueActsAreDoneInOrder read now (done_acts_of_rounds rs) t → AtMostOneHappeningIsTaken taken s now hs (done_acts_of_rounds rs) t later
acts_behind taken later s read t now hs rs (inl a) works =
    inl (record { none = a.0; later_is = a.2; works = subst (λ (m : EngineModel). FirstDueActsAreDoneInOrder m now (done_acts_of_rounds rs) t) a.1 works })
acts_behind taken later s read t now hs rs (inr a) works = inr (record {
  happening = a.0;
  one = a.1;
  first = a.2;
  later_is = a.5;
  free = a.3;
  works = subst (λ (m : EngineModel). FirstDueActsAreDoneInOrder m now (done_acts_of_rounds rs) t) a.4 works;
})

pub turn_takes_one_thing : RoundsWithoutFailureAreActsInOrder → ATurnTakesAtMostOneHappening
turn_takes_one_thing in_order now bounds s given accepts reads rest rounds t taken later turn whole some =
    let number = length s.connections + 1 in
    let asked = calls_of_accepts number accepts in
    let read = calls_of_reads reads in
    let fine : NoCallOfRoundsFailed rounds =
    fine_rounds rounds now turn.read (failed_links turn.read) t turn.gone turn.works (none_failed_in_two read (calls_of_rounds rounds) (none_failed_in_two asked (read ++ calls_of_rounds rounds) whole).1).1 in
    let first = taken_in_two asked (read ++ calls_of_rounds rounds) taken later some in
    let second = taken_in_two read (calls_of_rounds rounds) first.0 later first.2 in
    let last : later ≡ second.0 = none_taken (calls_of_rounds rounds) second.0 later (rounds_give rounds) second.2 in
    let came = accepts_take bounds.most_open accepts number taken first.0 s turn.begun refl turn.accepts_are first.1 in
    let gave = reads_take reads first.0 second.0 turn.begun turn.read turn.reads_are second.1 in
    let all = takes_joined taken first.0 second.0 s turn.begun turn.read (happenings_of_accepts number accepts) (happenings_of_reads reads) came gave in
    let took : happenings_of_steps (steps_of_turn_over_given_ends now s accepts reads rounds []) ≡ happenings_of_accepts number accepts ++ happenings_of_reads reads =
    took_rounds now rounds (steps_of_reads reads (steps_of_accepts number accepts [])) fine
    ∙ (took_reads reads (steps_of_accepts number accepts []) ∙ ap (λ (hs : List Happening). hs ++ happenings_of_reads reads) (took_accepts accepts number [])) in
    let works : FirstDueActsAreDoneInOrder turn.read now (done_acts_of_rounds rounds) t = (in_order now turn.read t (failed_links turn.read) turn.gone rounds fine turn.works).0 in
    let here : Takes taken s (happenings_of_steps (steps_of_turn_over_given_ends now s accepts reads rounds [])) turn.read later =
    subst (λ (hs : List Happening). Takes taken s hs turn.read later) (sym took)
    (subst (λ (b : Bool). Takes taken s (happenings_of_accepts number accepts ++ happenings_of_reads reads) turn.read b) (sym last) all) in
    acts_behind taken later s turn.read t now (happenings_of_steps (steps_of_turn_over_given_ends now s accepts reads rounds [])) rounds here works

pub turn_takes_no_second_thing : RoundsWithoutFailureAreActsInOrder → ATurnTakesNoSecondHappening
turn_takes_no_second_thing in_order now bounds s given accepts reads rest rounds t taken later one other more turn whole some =
    let happens = turn_takes_one_thing in_order now bounds s given accepts reads rest rounds t taken later turn whole some in
    (no_second (happenings_of_steps (steps_of_turn_over_given_ends now s accepts reads rounds [])) happens, no_first (happenings_of_steps (steps_of_turn_over_given_ends now s accepts reads rounds [])) happens)
  where
    no_second : (hs : List Happening) → AtMostOneHappeningIsTaken taken s now hs (done_acts_of_rounds rounds) t later → hs ≢ one ∷ other ∷ more
    no_second hs (inl a) are = let none : ◌≡◌ {A = List Happening} [] (one ∷ other ∷ more) = sym a.none ∙ are in absurd (cc)
    no_second hs (inr a) are = let single : a.happening ∷ [] ≡ one ∷ other ∷ more = sym a.one ∙ are in absurd (cc)

    no_first : (hs : List Happening) → AtMostOneHappeningIsTaken taken s now hs (done_acts_of_rounds rounds) t later → taken ≡ true → hs ≢ one ∷ more
    no_first hs (inl a) is are = let none : ◌≡◌ {A = List Happening} [] (one ∷ more) = sym a.none ∙ are in absurd (cc)
    no_first hs (inr a) is are = false≢true (sym a.first ∙ is)
