-- What sockets whose calls are recorded pass on, and what is recorded of their calls.
--
-- SocketCallGaveNothing, CallIsPassedOn: what a call on them is on the sockets below
-- CallsArePassedOn: calls, one after another
-- happening_of_call: what is recorded of a call
-- HappeningIfAnyIsRecorded, CallIsRecorded, CallsAreRecorded: calls are recorded, one after another
-- NoEffectCallFailed: no write, connect or shut failed, where a record ends
-- AtMostOneCallGaveSomething: at most one gives something      TurnIsRecorded: calls, while recording doesn't fail
-- passed_on_calls_concatenate, passed_on_of_one_call, was_recording_before, turn_with_no_call_is_recorded,
-- recorded_turns_concatenate,
-- recording_had_not_failed: laws
use Rattle.std.proofs.Common.{refl, sym, ap, ◌∙◌, subst, inl, inr}
use Rattle.std.proofs.lemmas.Bool.{false≢true, true≢false}
use Rattle.std.proofs.lemmas.List.{append-nil, append_assoc}
use Rattle.std.specs.Prelude.{◌≡◌, ℕ, ◌-◌, nat_le, length, List, [], ◌∷◌, ◌++◌, ◌⊎◌, Bool, true, false, not, ◌&&◌, ◌||◌}
use Rattle.std.specs.Prelude.{Option, None, Some, is_some, cond, option_map}
use Rattle.std.specs.List.{AllByRecursion}
use Rattle.hx_status.specs.declared.cause.FailKind.TheVariants.{Refused, Closed}
use Rattle.proxy_engine.specs.declared.work.End.TheVariants as ends
use Rattle.proxy_script.specs.Happenings.{HappeningModel as Happening, Accepts}
use Rattle.proxy_turn.specs.Calls as call
use Rattle.proxy_turn.specs.Calls.{Call, ReadOutcome}
use Rattle.proxy_turn.specs.Turn.{happening_of_read, happening_of_loss}
use Rattle.proxy_script.specs.declared.limits.TheConstants.{MOST_SCRIPT_BYTES}
use Rattle.proxy_record.specs.Records.{RecordSoFar, ended_record, HappeningIsRecorded}
use Rattle.proxy_record.specs.Records.{items_of_happening, text_of_items}

-- Nothing came, as it is told: none was made below, or, where recording has failed, what that gave isn't told.
abbrev pub SocketCallGaveNothing : Bool → Call → List Call → Type 0
SocketCallGaveNothing failed (call.Accept n call.NoneCame) below =
    (below ≡ []) ⊎ ((failed ≡ true) × (below ≡ call.Accept n call.Came ∷ []))
SocketCallGaveNothing failed (call.Read end call.Nothing) below =
    (below ≡ []) ⊎ ((failed ≡ true) × (given : ReadOutcome) × (below ≡ call.Read end given ∷ []))
SocketCallGaveNothing failed other below = ⊥

-- Each call as it is, but for what isn't to happen in this turn. `failed`: recording has failed.
abbrev pub CallIsPassedOn : Bool → Call → List Call → Type 0
CallIsPassedOn failed made below = (below ≡ made ∷ []) ⊎ SocketCallGaveNothing failed made below

abbrev pub CallsArePassedOn : Bool → List Call → List Call → Type 0
CallsArePassedOn failed [] below = below ≡ []
CallsArePassedOn failed (made ∷ more) below =
    (first : List Call) × (rest : List Call) × (below ≡ first ++ rest) × CallIsPassedOn failed made first
    × CallsArePassedOn failed more rest

came_later : (failed later : Bool) (made : Call) (below : List Call) → (failed ≡ true → later ≡ true)
    → SocketCallGaveNothing failed made below → SocketCallGaveNothing later made below
came_later failed later (call.Accept n call.NoneCame) below on (inl none) = inl none
came_later failed later (call.Accept n call.NoneCame) below on (inr came) = inr (on came.0, came.1)
came_later failed later (call.Accept n call.Came) below on came = absurd came
came_later failed later (call.Accept n call.Failed) below on came = absurd came
came_later failed later (call.Read end call.Nothing) below on (inl none) = inl none
came_later failed later (call.Read end call.Nothing) below on (inr came) = inr (on came.0, came.1, came.2)
came_later failed later (call.Read end call.Ended) below on came = absurd came
came_later failed later (call.Read end call.Broken) below on came = absurd came
came_later failed later (call.Read end (call.Bytes bytes)) below on came = absurd came
came_later failed later (call.Write end bytes replied done) below on came = absurd came
came_later failed later (call.Connect link address done) below on came = absurd came
came_later failed later (call.Shut end done) below on came = absurd came

later : (failed more : Bool) (made below : List Call) → (failed ≡ true → more ≡ true)
    → CallsArePassedOn failed made below
    → CallsArePassedOn more made below
later failed more [] below on is = is
later failed more (one ∷ rest) below on is = (is.0, is.1, is.2, passed is.3, later failed more rest is.1 on is.4)
  where
    passed : CallIsPassedOn failed one is.0 → CallIsPassedOn more one is.0
    passed (inl same) = inl same
    passed (inr came) = inr (came_later failed more one is.0 on came)

both : (failed : Bool) (a b c d : List Call) → CallsArePassedOn failed a c → CallsArePassedOn failed b d
    → CallsArePassedOn failed (a ++ b) (c ++ d)
both failed [] b c d one two = subst (λ (xs : List Call). CallsArePassedOn failed b (xs ++ d)) (sym one) two
both failed (made ∷ more) b c d one two = (
  one.0,
  one.1 ++ d,
  ap (λ (xs : List Call). xs ++ d) one.2 ∙ append_assoc one.0 one.1 d,
  one.3,
  both failed more b one.1 d one.4 two,
)

-- one after another
pub passed_on_calls_concatenate : (failed more : Bool) (a b c d : List Call) → (failed ≡ true → more ≡ true)
    → CallsArePassedOn failed a c
    → CallsArePassedOn more b d → CallsArePassedOn more (a ++ b) (c ++ d)
passed_on_calls_concatenate failed more a b c d on one two = both more a b c d (later failed more a c on one) two

-- one call
pub passed_on_of_one_call : (failed : Bool) (made : Call) (below : List Call) → CallIsPassedOn failed made below
    → CallsArePassedOn failed (made ∷ []) below
passed_on_of_one_call failed made below one = (below, [], sym (append-nil below), one, refl)

-- What is recorded of a call: what the engine takes of it. A connection came, a read gave something, or a call failed,
-- which loses its end.
abbrev pub happening_of_call : Call → Option Happening
happening_of_call (call.Accept n call.Came) = Some (Accepts n)
happening_of_call (call.Accept n call.NoneCame) = None
happening_of_call (call.Accept n call.Failed) = None
happening_of_call (call.Read end given) = happening_of_read end given
happening_of_call (call.Write end bytes replied done) = cond done None (happening_of_loss end Closed)
happening_of_call (call.Connect link address done) = cond done None (happening_of_loss (ends.Link link) Refused)
happening_of_call (call.Shut end done) = cond done None (happening_of_loss end Closed)

-- a write, a connect or a close that failed
abbrev pub effect_call_failed : Call → Bool
effect_call_failed (call.Write end bytes replied done) = not done
effect_call_failed (call.Connect link address done) = not done
effect_call_failed (call.Shut end done) = not done
effect_call_failed other = false

-- what happened is recorded at this moment, where there is something, and where a record is written
abbrev pub HappeningIfAnyIsRecorded : ℕ → Option Happening → Option RecordSoFar → Option RecordSoFar → Type 0
HappeningIfAnyIsRecorded now None old new = new ≡ old
HappeningIfAnyIsRecorded now (Some h) None new = new ≡ None
HappeningIfAnyIsRecorded now (Some h) (Some r) new = (later : RecordSoFar) × (new ≡ Some later)
    × HappeningIsRecorded r now h later

-- the record, if one is written, ends here
abbrev pub record_ended_if_any : Option RecordSoFar → Option RecordSoFar
record_ended_if_any old = option_map ended_record old

-- What came is recorded. At a write, a connect or a close that failed the record ends: the engine takes the loss amid
-- the acts of its turn, where a script can't tell of it.
abbrev pub CallIsRecorded : ℕ → Call → Option RecordSoFar → Option RecordSoFar → Type 0
CallIsRecorded now (call.Accept n answer) old new =
    HappeningIfAnyIsRecorded now (happening_of_call (call.Accept n answer)) old new
CallIsRecorded now (call.Read end given) old new = HappeningIfAnyIsRecorded now (happening_of_read end given) old new
CallIsRecorded now (call.Write end bytes replied done) old new = new ≡ cond done old (record_ended_if_any old)
CallIsRecorded now (call.Connect link address done) old new = new ≡ cond done old (record_ended_if_any old)
CallIsRecorded now (call.Shut end done) old new = new ≡ cond done old (record_ended_if_any old)

abbrev pub CallsAreRecorded : ℕ → List Call → Option RecordSoFar → Option RecordSoFar → Type 0
CallsAreRecorded now [] old new = new ≡ old
CallsAreRecorded now (made ∷ more) old new =
    (mid : Option RecordSoFar) × CallIsRecorded now made old mid × CallsAreRecorded now more mid new

-- no write, connect or close among them failed
abbrev pub NoEffectCallFailed : List Call → Type 0
NoEffectCallFailed made = AllByRecursion (λ (one : Call). effect_call_failed one ≡ false) made

-- a record is being written
abbrev pub is_recording : Option RecordSoFar → Bool
is_recording None = false
is_recording (Some r) = not r.over

-- a record has ended before the limit of a script
abbrev pub record_has_ended : Option RecordSoFar → Bool
record_has_ended None = false
record_has_ended (Some record_so_far) = record_so_far.over

-- Whether something may be taken: recording hasn't failed, and while a record is written nothing was.
abbrev pub may_be_taken_while_recording : Bool → Bool → Bool → Bool
may_be_taken_while_recording failed taken recording = not failed && (not taken || not recording)

-- a connection came, or a read gave something
abbrev pub call_gave_something : Call → Bool
call_gave_something (call.Accept n answer) = is_some (happening_of_call (call.Accept n answer))
call_gave_something (call.Read end given) = is_some (happening_of_read end given)
call_gave_something other = false

-- At most one of these calls gives something. `taken`: something was given before, or something is due.
abbrev pub AtMostOneCallGaveSomething : Bool → List Call → Bool → Type 0
AtMostOneCallGaveSomething taken [] later = later ≡ taken
AtMostOneCallGaveSomething taken (made ∷ more) later =
    (call_gave_something made ≡ true → taken ≡ false) × AtMostOneCallGaveSomething
    (cond (call_gave_something made) true taken) more later

-- All of these calls were recorded, in order and at this moment; and while a record is written, they took one thing at
-- most, and none of them failed.
pub record TurnIsRecorded (now : ℕ) (old : Option RecordSoFar) (taken : Bool) (made : List Call) (then : ℕ)
    (new : Option RecordSoFar)
    (later : Bool) : Type 0 where
  pub stays : then ≡ now
  pub notes : CallsAreRecorded now made old new
  pub takes : is_recording new ≡ true → AtMostOneCallGaveSomething taken made later
  pub whole : is_recording new ≡ true → NoEffectCallFailed made

open_before : (over fits later : Bool) → later ≡ not (not over && fits) → not later ≡ true → not over ≡ true
open_before false fits later ends is = refl
open_before true fits later ends is = absurd (false≢true (sym (ap not ends) ∙ is))

-- a record that is being written was so before
pub was_recording_before : (now : ℕ) (h : Option Happening) (old new : Option RecordSoFar)
    → HappeningIfAnyIsRecorded now h old new
    → is_recording new ≡ true → is_recording old ≡ true
was_recording_before now None old new noted is = subst (λ (r : Option RecordSoFar). is_recording r ≡ true) noted is
was_recording_before now (Some h) None new noted is = subst (λ (r : Option RecordSoFar). is_recording r ≡ true) noted is
was_recording_before now (Some h) (Some r) new noted is =
    open_before r.over (nat_le (length (text_of_items (items_of_happening r.moment now h)))
    (MOST_SCRIPT_BYTES - r.len)) noted.0.over noted.2.ends
    (subst (λ (r : Option RecordSoFar). is_recording r ≡ true) noted.1 is)

ended_is_over : (old : Option RecordSoFar) → is_recording (record_ended_if_any old) ≡ false
ended_is_over None = refl
ended_is_over (Some r) = refl

still_done : (done : Bool) (old new : Option RecordSoFar) → new ≡ cond done old (record_ended_if_any old)
    → is_recording new ≡ true → (done ≡ true) × (is_recording old ≡ true)
still_done true old new same is = (refl, subst (λ (r : Option RecordSoFar). is_recording r ≡ true) same is)
still_done false old new ends is =
    absurd (false≢true (sym (ended_is_over old) ∙ subst (λ (r : Option RecordSoFar). is_recording r ≡ true) ends is))

-- a record that is being written behind a call was so before it, and the call hasn't failed
pub call_was_recorded : (now : ℕ) (made : Call) (old new : Option RecordSoFar) → CallIsRecorded now made old new
    → is_recording new ≡ true → (effect_call_failed made ≡ false) × (is_recording old ≡ true)
call_was_recorded now (call.Accept n answer) old new noted is =
    (refl, was_recording_before now (happening_of_call (call.Accept n answer)) old new noted is)
call_was_recorded now (call.Read end given) old new noted is =
    (refl, was_recording_before now (happening_of_read end given) old new noted is)
call_was_recorded now (call.Write end bytes replied done) old new noted is =
    let still = still_done done old new noted is in (ap not still.0, still.1)
call_was_recorded now (call.Connect link address done) old new noted is =
    let still = still_done done old new noted is in (ap not still.0, still.1)
call_was_recorded now (call.Shut end done) old new noted is =
    let still = still_done done old new noted is in (ap not still.0, still.1)

was_recording_before_calls : (now : ℕ) (made : List Call) (old new : Option RecordSoFar)
    → CallsAreRecorded now made old new
    → is_recording new ≡ true → is_recording old ≡ true
was_recording_before_calls now [] old new noted is = subst (λ (r : Option RecordSoFar). is_recording r ≡ true) noted is
was_recording_before_calls now (one ∷ more) old new noted is =
    (call_was_recorded now one old noted.0 noted.1 (was_recording_before_calls now more noted.0 new noted.2 is)).1

-- with no call
pub turn_with_no_call_is_recorded : (now : ℕ) (old : Option RecordSoFar) (taken : Bool)
    → TurnIsRecorded now old taken [] now old taken
turn_with_no_call_is_recorded now old taken =
    record { stays = refl; notes = refl; takes = λ is. refl; whole = λ is. tt }

notes_on : (now : ℕ) (a b : List Call) (old mid new : Option RecordSoFar) → CallsAreRecorded now a old mid
    → CallsAreRecorded now b mid new → CallsAreRecorded now (a ++ b) old new
notes_on now [] b old mid new one two = subst (λ (r : Option RecordSoFar). CallsAreRecorded now b r new) one two
notes_on now (made ∷ more) b old mid new one two = (one.0, one.1, notes_on now more b one.0 mid new one.2 two)

takes_on : (taken mid later : Bool) (a b : List Call) → AtMostOneCallGaveSomething taken a mid
    → AtMostOneCallGaveSomething mid b later
    → AtMostOneCallGaveSomething taken (a ++ b) later
takes_on taken mid later [] b one two = subst (λ (t : Bool). AtMostOneCallGaveSomething t b later) one two
takes_on taken mid later (made ∷ more) b one two =
    (one.0, takes_on (cond (call_gave_something made) true taken) mid later more b one.1 two)

none_failed : (a b : List Call) → NoEffectCallFailed a → NoEffectCallFailed b → NoEffectCallFailed (a ++ b)
none_failed [] b one two = two
none_failed (made ∷ more) b one two = (one.0, none_failed more b one.1 two)

-- one after another
pub recorded_turns_concatenate : (now then last : ℕ) (old mid new : Option RecordSoFar) (taken some later : Bool)
    (a b : List Call)
    → TurnIsRecorded now old taken a then mid some → TurnIsRecorded then mid some b last new later
    → TurnIsRecorded now old taken (a ++ b) last new later
recorded_turns_concatenate now then last old mid new taken some later a b one two =
    let same : CallsAreRecorded now b mid new = subst (λ (m : ℕ). CallsAreRecorded m b mid new) one.stays two.notes in
    record {
      stays = two.stays ∙ one.stays;
      notes = notes_on now a b old mid new one.notes same;
      takes = λ is. takes_on taken some later a b (one.takes (was_recording_before_calls now b mid new same is))
          (two.takes is);
      whole = λ is. none_failed a b (one.whole (was_recording_before_calls now b mid new same is)) (two.whole is);
    }

-- where recording hasn't failed later, it hadn't before
pub recording_had_not_failed : (failed later : Bool) → (failed ≡ true → later ≡ true) → later ≡ false → failed ≡ false
recording_had_not_failed false later on is = refl
recording_had_not_failed true later on is = absurd (true≢false (sym (on refl) ∙ is))
