-- What one call on sockets whose calls are recorded passes on, and that it is recorded.
use Rattle.std.proofs.Common.{◌≡◌, ℕ, [], ◌∷◌, refl, sym, ap, subst, inl, inr, ◌∙◌, Bool, true, false, cond, is_some, Ok, Option, None, Some}
use Rattle.std.proofs.lemmas.Bool.{false≢true, true≢false}
use Rattle.proxy_engine.specs.declared.work.End.{End}
use Rattle.proxy_turn.specs.Calls as call
use Rattle.proxy_turn.specs.Calls.{Call, ReadOutcome, accept_outcome_of}
use Rattle.proxy_script.specs.Happenings.{HappeningModel as Happening}
use Rattle.proxy_turn.specs.Turn.{happening_of_read}
use Rattle.proxy_record.specs.Records.{RecordSoFar}
use Rattle.proxy_record.specs.Recorded.{CallsArePassedOn, passed_on_of_one_call, happening_of_call, HappeningIfAnyIsRecorded, CallIsRecorded, record_ended_if_any, is_recording, call_gave_something, may_be_taken_while_recording, TurnIsRecorded, was_recording_before, call_was_recorded}

pub passes_it : (failed : Bool) (made : Call) → CallsArePassedOn failed (made ∷ []) (made ∷ [])
passes_it failed made = passed_on_of_one_call failed made (made ∷ []) (inl refl)

-- what it answers is told
pub passes_reported : (failed : Bool) (call : Bool → Call) (done reported : Bool) → reported ≡ done → CallsArePassedOn failed (call reported ∷ []) (call done ∷ [])
passes_reported failed call done reported is = subst (λ (b : Bool). CallsArePassedOn failed (call b ∷ []) (call done ∷ [])) (sym is) (passes_it failed (call done))

pub passes_came : (failed came reported : Bool) (n : ℕ) → came ≡ true → (reported ≡ false → failed ≡ true) → CallsArePassedOn failed (call.Accept n (accept_outcome_of (Ok reported)) ∷ []) (call.Accept n (accept_outcome_of (Ok came)) ∷ [])
passes_came failed false reported n is on = absurd cc
passes_came failed true true n is on = passes_it failed (call.Accept n call.Came)
passes_came failed true false n is on = passed_on_of_one_call failed (call.Accept n call.NoneCame) (call.Accept n call.Came ∷ []) (inr (inr (on refl, refl)))

pub passes_none : (failed came : Bool) (n : ℕ) → came ≡ false → CallsArePassedOn failed (call.Accept n call.NoneCame ∷ []) (call.Accept n (accept_outcome_of (Ok came)) ∷ [])
passes_none failed true n is = absurd cc
passes_none failed false n is = passes_it failed (call.Accept n call.NoneCame)

-- none was asked for
pub passes_nobody : (failed : Bool) (n : ℕ) → CallsArePassedOn failed (call.Accept n call.NoneCame ∷ []) []
passes_nobody failed n = passed_on_of_one_call failed (call.Accept n call.NoneCame) [] (inr (inl refl))

pub passes_unread : (failed : Bool) (end : End) → CallsArePassedOn failed (call.Read end call.Nothing ∷ []) []
passes_unread failed end = passed_on_of_one_call failed (call.Read end call.Nothing) [] (inr (inl refl))

pub passes_nothing : (failed : Bool) (end : End) (given : ReadOutcome) → failed ≡ true → CallsArePassedOn failed (call.Read end call.Nothing ∷ []) (call.Read end given ∷ [])
passes_nothing failed end given is = passed_on_of_one_call failed (call.Read end call.Nothing) (call.Read end given ∷ []) (inr (inr (is, given, refl)))

-- what may arrive while a record is written is the first
may_be_first : (failed taken recording : Bool) → may_be_taken_while_recording failed taken recording ≡ true → recording ≡ true → taken ≡ false
may_be_first false false recording may is = refl
may_be_first false true true may is = absurd (false≢true may)
may_be_first false true false may is = absurd (false≢true is)
may_be_first true taken recording may is = absurd (false≢true may)

noted_call : (now : ℕ) (old : Option RecordSoFar) (taken : Bool) (made : Call) (then : ℕ) (new : Option RecordSoFar) (later : Bool) → then ≡ now → CallIsRecorded now made old new → (is_recording new ≡ true → (call_gave_something made ≡ true → taken ≡ false)) → later ≡ cond (call_gave_something made) true taken → TurnIsRecorded now old taken (made ∷ []) then new later
noted_call now old taken made then new later stays noted first is = record {
  stays = stays;
  notes = (new, noted, refl);
  takes = λ writes. (first writes, is);
  whole = λ writes. ((call_was_recorded now made old new noted writes).0, tt);
}

-- a call by which nothing can arrive, as it is told
pub noted_reported : (now : ℕ) (old : Option RecordSoFar) (taken : Bool) (call : Bool → Call) (done reported : Bool) (then : ℕ) (new : Option RecordSoFar) (later : Bool) → ((b : Bool) → call_gave_something (call b) ≡ false) → ((b : Bool) → new ≡ cond b old (record_ended_if_any old) → CallIsRecorded now (call b) old new) → reported ≡ done → then ≡ now → new ≡ cond done old (record_ended_if_any old) → later ≡ taken → TurnIsRecorded now old taken (call reported ∷ []) then new later
noted_reported now old taken call done reported then new later gives ends is stays noted same =
    noted_call now old taken (call reported) then new later stays
    (ends reported (subst (λ (b : Bool). new ≡ cond b old (record_ended_if_any old)) (sym is) noted))
    (λ writes arrived. absurd (true≢false (sym arrived ∙ gives reported)))
    (subst (λ (b : Bool). later ≡ cond b true taken) (sym (gives reported)) same)

-- nothing came of it
pub noted_nothing : (now : ℕ) (old : Option RecordSoFar) (taken : Bool) (made : Call) → CallIsRecorded now made old old → call_gave_something made ≡ false → TurnIsRecorded now old taken (made ∷ []) now old taken
noted_nothing now old taken made noted gives =
    noted_call now old taken made now old taken refl noted
    (λ writes arrived. absurd (true≢false (sym arrived ∙ gives)))
    (subst (λ (b : Bool). taken ≡ cond b true taken) (sym gives) refl)

pub noted_read : (now : ℕ) (old : Option RecordSoFar) (failed taken : Bool) (end : End) (given : ReadOutcome) (then : ℕ) (new : Option RecordSoFar) (later : Bool) → then ≡ now → may_be_taken_while_recording failed taken (is_recording old) ≡ true → HappeningIfAnyIsRecorded now (happening_of_read end given) old new → later ≡ cond (is_some (happening_of_read end given)) true taken → TurnIsRecorded now old taken (call.Read end given ∷ []) then new later
noted_read now old failed taken end given then new later stays may noted is =
    noted_call now old taken (call.Read end given) then new later stays noted
    (λ writes arrived. may_be_first failed taken (is_recording old) may (was_recording_before now (happening_of_read end given) old new noted writes))
    is

pub noted_came : (now : ℕ) (old : Option RecordSoFar) (failed taken : Bool) (n : ℕ) (reported : Bool) (then : ℕ) (new : Option RecordSoFar) (later : Bool) → reported ≡ true → then ≡ now → may_be_taken_while_recording failed taken (is_recording old) ≡ true → HappeningIfAnyIsRecorded now (happening_of_call (call.Accept n call.Came)) old new → later ≡ true → TurnIsRecorded now old taken (call.Accept n (accept_outcome_of (Ok reported)) ∷ []) then new later
noted_came now old failed taken n false then new later reported stays may noted is = absurd (false≢true reported)
noted_came now old failed taken n true then new later reported stays may noted is =
    noted_call now old taken (call.Accept n call.Came) then new later stays noted
    (λ writes arrived. may_be_first failed taken (is_recording old) may (was_recording_before now (happening_of_call (call.Accept n call.Came)) old new noted writes))
    is

-- where recording hasn't failed, what came is told
pub is_reported : (reported failed : Bool) → (reported ≡ false → failed ≡ true) → failed ≡ false → reported ≡ true
is_reported true failed on is = refl
is_reported false failed on is = absurd (true≢false (sym (on refl) ∙ is))

-- a read gave something, and it was recorded
pub noted_some : (now : ℕ) (old mid : Option RecordSoFar) (taken failed : Bool) (end : End) (given : ReadOutcome) (h : Happening) (then : ℕ) (new : Option RecordSoFar) (later : Bool) → happening_of_read end given ≡ Some h → may_be_taken_while_recording failed taken (is_recording old) ≡ true → then ≡ now → new ≡ mid → later ≡ true → HappeningIfAnyIsRecorded now (Some h) old mid → TurnIsRecorded now old taken (call.Read end given ∷ []) then new later
noted_some now old mid taken failed end given h then new later says may stays same gives noted =
    noted_read now old failed taken end given then new later stays may
    (subst (λ (o : Option Happening). HappeningIfAnyIsRecorded now o old new) (sym says) (subst (λ (r : Option RecordSoFar). HappeningIfAnyIsRecorded now (Some h) old r) (sym same) noted))
    (subst (λ (o : Option Happening). later ≡ cond (is_some o) true taken) (sym says) gives)

-- a read gave nothing
pub noted_none_given : (now : ℕ) (old : Option RecordSoFar) (taken : Bool) (end : End) (given : ReadOutcome) (then : ℕ) (new : Option RecordSoFar) (later : Bool) → happening_of_read end given ≡ None → then ≡ now → new ≡ old → later ≡ taken → TurnIsRecorded now old taken (call.Read end given ∷ []) then new later
noted_none_given now old taken end given then new later says stays same is =
    noted_call now old taken (call.Read end given) then new later stays
    (subst (λ (o : Option Happening). HappeningIfAnyIsRecorded now o old new) (sym says) same)
    (λ writes arrived. absurd (true≢false (sym arrived ∙ ap is_some says)))
    (subst (λ (o : Option Happening). later ≡ cond (is_some o) true taken) (sym says) is)
