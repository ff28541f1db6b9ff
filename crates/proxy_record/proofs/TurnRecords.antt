-- The happenings of a turn's steps are those that are recorded of its calls.
use Rattle.std.proofs.Common.{◌≡◌, ℕ, ◌+◌, List, [], ◌∷◌, ◌++◌, length, refl, sym, ap, ◌∙◌, subst, inl, inr, Bool, true, false, cond, Option, None, Some, append-nil, append_assoc, arith}
use Rattle.hx_status.specs.declared.cause.FailKind.{FailKind}
use Rattle.hx_status.specs.declared.cause.FailKind.TheVariants as kinds
use Rattle.proxy_script.specs.declared.effect_list.Effect.{Effect}
use Rattle.proxy_script.specs.declared.effect_list.Effect.TheVariants as effects
use Rattle.proxy_script.specs.Happenings.{HappeningModel as Happening}
use Rattle.proxy_engine.specs.EngineModel.{EngineModel}
use Rattle.proxy_engine.specs.Executions.{ExecutionStep, Took, Worked}
use Rattle.proxy_engine.specs.declared.work.End.{End}
use Rattle.proxy_engine.specs.declared.work.End.TheVariants as ends
use Rattle.proxy_turn.specs.Calls as call
use Rattle.proxy_turn.specs.Calls.{Call, AcceptOutcome, NoneCame, Failed, Came}
use Rattle.proxy_turn.specs.Turn.{EndRead, ActWithEffectFates, EffectFate, Carried, Passed, Lost, FailedEffectHasFailKind, EffectsAreHandledWithFates, ActsAreDoneWithEffectFates, happening_of_read, happening_of_loss, end_of_effect, calls_of_reads, calls_of_effect, calls_of_effects, calls_of_rounds}
use Rattle.proxy_turn.specs.Over.{happening_of_accept_outcome, calls_of_accepts, TurnOverGivenEndsIsDoneInOrder, calls_of_turn_over_given_ends}
use Rattle.proxy_turn.specs.OverSteps.{steps_of_accepts, steps_of_turn_over_given_ends}
use Rattle.proxy_turn.specs.declared.bounds.TurnAcceptBounds.{TurnAcceptBounds}
use Rattle.proxy_turn.specs.TurnSteps.{step_of_happening_if_any, steps_of_reads, steps_of_lost_ends, steps_of_rounds}
use Rattle.std.proofs.KnownBytes.{Appends-nil}
use Rattle.proxy_record.specs.Recorded.{happening_of_call, HappeningIfAnyIsRecorded, CallIsRecorded, CallsAreRecorded, record_ended_if_any}
use Rattle.proxy_record.specs.Records.{RecordSoFar, ended_record, HappeningIsRecorded, RecordedHappening, HappeningsAreRecordedOrRecordEnds}
use Rattle.proxy_record.specs.RecordedTurns.{happening_as_list, happenings_of_steps, happenings_of_calls, recorded_at_moment, TurnsAreRecorded}

said_both : (a b : List Call) → happenings_of_calls (a ++ b) ≡ happenings_of_calls a ++ happenings_of_calls b
said_both [] b = refl
said_both (made ∷ more) b = ap (λ (hs : List Happening). happening_as_list (happening_of_call made) ++ hs) (said_both more b) ∙ sym (append_assoc (happening_as_list (happening_of_call made)) (happenings_of_calls more) (happenings_of_calls b))

took_one : (o : Option Happening) (past : List ExecutionStep) → happenings_of_steps (step_of_happening_if_any o past) ≡ happenings_of_steps past ++ happening_as_list o
took_one None past = sym (append-nil (happenings_of_steps past))
took_one (Some h) past = refl

took_more : (o : Option Happening) (past : List ExecutionStep) (more : List Happening) → happenings_of_steps (step_of_happening_if_any o past) ++ more ≡ happenings_of_steps past ++ (happening_as_list o ++ more)
took_more o past more = ap (λ (hs : List Happening). hs ++ more) (took_one o past) ∙ append_assoc (happenings_of_steps past) (happening_as_list o) more

said_answer : (n : ℕ) (a : AcceptOutcome) → happening_as_list (happening_of_accept_outcome n a) ≡ happening_as_list (happening_of_call (call.Accept n a))
said_answer n Came = refl
said_answer n NoneCame = refl
said_answer n Failed = refl

took_accepts : (accepts : List AcceptOutcome) (n : ℕ) (past : List ExecutionStep) → happenings_of_steps (steps_of_accepts n accepts past) ≡ happenings_of_steps past ++ happenings_of_calls (calls_of_accepts n accepts)
took_accepts [] n past = sym (append-nil (happenings_of_steps past))
took_accepts (a ∷ accepts) n past =
    took_accepts accepts (n + 1) (step_of_happening_if_any (happening_of_accept_outcome n a) past) ∙ (took_more (happening_of_accept_outcome n a) past (happenings_of_calls (calls_of_accepts (n + 1) accepts))
    ∙ ap (λ (hs : List Happening). happenings_of_steps past ++ (hs ++ happenings_of_calls (calls_of_accepts (n + 1) accepts))) (said_answer n a))

took_reads : (reads : List EndRead) (past : List ExecutionStep) → happenings_of_steps (steps_of_reads reads past) ≡ happenings_of_steps past ++ happenings_of_calls (calls_of_reads reads)
took_reads [] past = sym (append-nil (happenings_of_steps past))
took_reads (r ∷ rs) past = took_reads rs (step_of_happening_if_any (happening_of_read r.end r.given) past) ∙ took_more (happening_of_read r.end r.given) past (happenings_of_calls (calls_of_reads rs))

said_carried : (e : Effect) (more : List Call) → happenings_of_calls (calls_of_effect e Carried ++ more) ≡ happenings_of_calls more
said_carried (effects.Client n bytes replied) more = refl
said_carried (effects.Forward l address bytes) more = refl
said_carried (effects.Close n) more = refl
said_carried (effects.Drop l) more = refl

said_passed : (e : Effect) (more : List Call) → happenings_of_calls (calls_of_effect e Passed ++ more) ≡ happenings_of_calls more
said_passed (effects.Client n bytes replied) more = refl
said_passed (effects.Forward l address bytes) more = refl
said_passed (effects.Close n) more = refl
said_passed (effects.Drop l) more = refl

abbrev IsSaid : Effect → List Call → FailKind → Type 0
IsSaid e more kind = happenings_of_calls (calls_of_effect e (Lost kind) ++ more) ≡ happening_as_list (happening_of_loss (end_of_effect e) kind) ++ happenings_of_calls more

said_lost : (e : Effect) (kind : FailKind) (more : List Call) → FailedEffectHasFailKind e kind → IsSaid e more kind
said_lost (effects.Client n bytes replied) kind more is = subst (IsSaid (effects.Client n bytes replied) more) (sym is) refl
said_lost (effects.Close n) kind more is = subst (IsSaid (effects.Close n) more) (sym is) refl
said_lost (effects.Drop l) kind more is = subst (IsSaid (effects.Drop l) more) (sym is) refl
said_lost (effects.Forward l address bytes) kind more (inl is) = subst (IsSaid (effects.Forward l address bytes) more) (sym is) refl
said_lost (effects.Forward l address bytes) kind more (inr is) = subst (IsSaid (effects.Forward l address bytes) more) (sym is) refl

took_losses : (s : EngineModel) (gone : List End) (es : List Effect) (fs : List EffectFate) (t : EngineModel) (then : List End) (past : List ExecutionStep) → EffectsAreHandledWithFates s gone es fs t then → happenings_of_steps (steps_of_lost_ends es fs past) ≡ happenings_of_steps past ++ happenings_of_calls (calls_of_effects es fs)
took_losses s gone [] [] t then past out = sym (append-nil (happenings_of_steps past))
took_losses s gone [] (f ∷ fs) t then past out = absurd out
took_losses s gone (e ∷ es) [] t then past out = absurd out
took_losses s gone (e ∷ es) (Carried ∷ fs) t then past out =
    took_losses out.0 out.1 es fs t then past out.3 ∙ ap (λ (hs : List Happening). happenings_of_steps past ++ hs) (sym (said_carried e (calls_of_effects es fs)))
took_losses s gone (e ∷ es) (Passed ∷ fs) t then past out =
    took_losses out.0 out.1 es fs t then past out.3 ∙ ap (λ (hs : List Happening). happenings_of_steps past ++ hs) (sym (said_passed e (calls_of_effects es fs)))
took_losses s gone (e ∷ es) (Lost kind ∷ fs) t then past out =
    took_losses out.0 out.1 es fs t then (step_of_happening_if_any (happening_of_loss (end_of_effect e) kind) past) out.3 ∙ (took_more (happening_of_loss (end_of_effect e) kind) past (happenings_of_calls (calls_of_effects es fs))
    ∙ ap (λ (hs : List Happening). happenings_of_steps past ++ hs) (sym (said_lost e kind (calls_of_effects es fs) out.2.1)))

took_rounds : (now : ℕ) (s : EngineModel) (gone : List End) (rs : List ActWithEffectFates) (t : EngineModel) (then : List End) (past : List ExecutionStep) → ActsAreDoneWithEffectFates now s gone rs t then → happenings_of_steps (steps_of_rounds now rs past) ≡ happenings_of_steps past ++ happenings_of_calls (calls_of_rounds rs)
took_rounds now s gone [] t then past works = sym (append-nil (happenings_of_steps past))
took_rounds now s gone (r ∷ rs) t then past works =
    took_rounds now works.1 works.2 rs t then (steps_of_lost_ends r.emitted r.fates (Worked now r.act r.emitted ∷ past)) works.6
    ∙ (ap (λ (hs : List Happening). hs ++ happenings_of_calls (calls_of_rounds rs)) (took_losses works.0 gone r.emitted r.fates works.1 works.2 (Worked now r.act r.emitted ∷ past) works.5)
    ∙ (append_assoc (happenings_of_steps past) (happenings_of_calls (calls_of_effects r.emitted r.fates)) (happenings_of_calls (calls_of_rounds rs))
    ∙ ap (λ (hs : List Happening). happenings_of_steps past ++ hs) (sym (said_both (calls_of_effects r.emitted r.fates) (calls_of_rounds rs)))))

took_turn : (now : ℕ) (bounds : TurnAcceptBounds) (s : EngineModel) (given : List End) (accepts : List AcceptOutcome) (reads : List EndRead) (rest : List End) (rounds : List ActWithEffectFates) (t : EngineModel) → TurnOverGivenEndsIsDoneInOrder now bounds s given accepts reads rest rounds t
    → happenings_of_steps (steps_of_turn_over_given_ends now s accepts reads rounds []) ≡ happenings_of_calls (calls_of_turn_over_given_ends s accepts reads rounds)
took_turn now bounds s given accepts reads rest rounds t turn =
    let first = steps_of_accepts (length s.connections + 1) accepts [] in
    let asked = calls_of_accepts (length s.connections + 1) accepts in
    took_rounds now turn.read _ rounds t turn.gone (steps_of_reads reads first) turn.works
    ∙ (ap (λ (hs : List Happening). hs ++ happenings_of_calls (calls_of_rounds rounds)) (took_reads reads first ∙ ap (λ (hs : List Happening). hs ++ happenings_of_calls (calls_of_reads reads)) (took_accepts accepts (length s.connections + 1) []))
    ∙ (append_assoc (happenings_of_calls asked) (happenings_of_calls (calls_of_reads reads)) (happenings_of_calls (calls_of_rounds rounds))
    ∙ (ap (λ (hs : List Happening). happenings_of_calls asked ++ hs) (sym (said_both (calls_of_reads reads) (calls_of_rounds rounds)))
    ∙ sym (said_both asked (calls_of_reads reads ++ calls_of_rounds rounds)))))

abbrev IsNotedAs : ℕ → List Happening → RecordSoFar → Option RecordSoFar → Type 0
IsNotedAs now hs r new = (later : RecordSoFar) × (new ≡ Some later) × HappeningsAreRecordedOrRecordEnds r (recorded_at_moment now hs) later

-- a record that has ended takes nothing
takes_nothing : (r : RecordSoFar) (now : ℕ) (h : Happening) → HappeningIsRecorded (ended_record r) now h (ended_record r)
takes_nothing r now h = record { written = Appends-nil r.held; len = omega arith; moment_is = refl; ends = refl }

ends_in_front : (r : RecordSoFar) (hs : List RecordedHappening) (later : RecordSoFar) → HappeningsAreRecordedOrRecordEnds (ended_record r) hs later → HappeningsAreRecordedOrRecordEnds r hs later
ends_in_front r [] later (inl same) = inr same
ends_in_front r [] later (inr ends) = inr ends
ends_in_front r (one ∷ more) later (begun, inl same, mid, happens, rest) = (begun, inr same, mid, happens, rest)
ends_in_front r (one ∷ more) later (begun, inr ends, mid, happens, rest) = (begun, inr ends, mid, happens, rest)

-- a call failed: the record ends, and what the engine takes of it isn't told
ended_behind : (now : ℕ) (hs : List Happening) (r : RecordSoFar) (new : Option RecordSoFar) → IsNotedAs now hs (ended_record r) new → (o : Option Happening) → IsNotedAs now (happening_as_list o ++ hs) r new
ended_behind now hs r new noted None = (noted.0, noted.1, ends_in_front r (recorded_at_moment now hs) noted.0 noted.2)
ended_behind now hs r new noted (Some h) = (noted.0, noted.1, (ended_record r, inr refl, ended_record r, takes_nothing r now h, noted.2))

noted_behind : (now : ℕ) (more : List Call) (r : RecordSoFar) (new : Option RecordSoFar) → ((k : RecordSoFar) → CallsAreRecorded now more (Some k) new → IsNotedAs now (happenings_of_calls more) k new) → (h : Option Happening) (mid : Option RecordSoFar) → HappeningIfAnyIsRecorded now h (Some r) mid → CallsAreRecorded now more mid new → IsNotedAs now (happening_as_list h ++ happenings_of_calls more) r new
noted_behind now more r new on None mid one rest = on r (subst (λ (m : Option RecordSoFar). CallsAreRecorded now more m new) one rest)
noted_behind now more r new on (Some h) mid one rest =
    let behind = on one.0 (subst (λ (m : Option RecordSoFar). CallsAreRecorded now more m new) one.1 rest) in
    (behind.0, behind.1, (r, inl refl, one.0, one.2, behind.2))

-- what a call that may fail told
told_behind : (now : ℕ) (more : List Call) (r : RecordSoFar) (new : Option RecordSoFar) → ((k : RecordSoFar) → CallsAreRecorded now more (Some k) new → IsNotedAs now (happenings_of_calls more) k new) → (done : Bool) (o : Option Happening) (mid : Option RecordSoFar) → mid ≡ cond done (Some r) (record_ended_if_any (Some r)) → CallsAreRecorded now more mid new → IsNotedAs now (happening_as_list (cond done None o) ++ happenings_of_calls more) r new
told_behind now more r new on true o mid is rest = on r (subst (λ (m : Option RecordSoFar). CallsAreRecorded now more m new) is rest)
told_behind now more r new on false o mid is rest =
    ended_behind now (happenings_of_calls more) r new (on (ended_record r) (subst (λ (m : Option RecordSoFar). CallsAreRecorded now more m new) is rest)) o

notes_in_order : (now : ℕ) (calls : List Call) (r : RecordSoFar) (new : Option RecordSoFar) → CallsAreRecorded now calls (Some r) new → IsNotedAs now (happenings_of_calls calls) r new
notes_in_order now [] r new noted = (r, noted, inl refl)
notes_in_order now (call.Accept n answer ∷ more) r new noted = noted_behind now more r new (λ k. notes_in_order now more k new) (happening_of_call (call.Accept n answer)) noted.0 noted.1 noted.2
notes_in_order now (call.Read end given ∷ more) r new noted = noted_behind now more r new (λ k. notes_in_order now more k new) (happening_of_read end given) noted.0 noted.1 noted.2
notes_in_order now (call.Write end bytes replied done ∷ more) r new noted = told_behind now more r new (λ k. notes_in_order now more k new) done (happening_of_loss end kinds.Closed) noted.0 noted.1 noted.2
notes_in_order now (call.Connect link address done ∷ more) r new noted = told_behind now more r new (λ k. notes_in_order now more k new) done (happening_of_loss (ends.Link link) kinds.Refused) noted.0 noted.1 noted.2
notes_in_order now (call.Shut end done ∷ more) r new noted = told_behind now more r new (λ k. notes_in_order now more k new) done (happening_of_loss end kinds.Closed) noted.0 noted.1 noted.2

pub turns_are_recorded : TurnsAreRecorded
turns_are_recorded now bounds s given accepts reads rest rounds t r new turn noted =
    subst (λ (hs : List Happening). IsNotedAs now hs r new) (sym (took_turn now bounds s given accepts reads rest rounds t turn)) (notes_in_order now (calls_of_turn_over_given_ends s accepts reads rounds) r new noted)
