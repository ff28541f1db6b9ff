-- A turn over the ends from which bytes may come, with one call of accept at most.
use Rattle.std.proofs.Common.{◌≡◌, inl, inr, ℕ, ◌+◌, ◌≤◌, List, [], ◌∷◌, ◌++◌, length, filter, refl, sym, ap, ◌∙◌, subst, arith, Bool, true, cond, Result, Ok, Err}
use Rattle.std.proofs.lemmas.List.{append-nil}
use Rattle.std.specs.List.{AllByRecursion}
use Rattle.proxy_engine.specs.EngineModel.{EngineModel}
use Rattle.proxy_engine.specs.Reading.{end_may_send, readable_ends_of, failed_links}
use Rattle.proxy_engine.specs.SendingEnds.{ReadableEndsMaySend, AcceptAddsReadableEnd}
use Rattle.proxy_engine.specs.State.{State, EngineRepresents}
use Rattle.proxy_engine.specs.declared.work.End.{End}
use Rattle.proxy_turn.specs.Calls as call
use Rattle.proxy_turn.specs.Calls.{Call, AcceptOutcome}
use Rattle.proxy_turn.specs.Counts.{Calls}
use Rattle.proxy_turn.specs.Turn.{AcceptOutcomeIfCalled, NotAsked, Failed, NoneCame, Came, may_accept_below_256, accept_was_called, happening_of_accept, HappeningIfAnyIsTaken, calls_of_accept, calls_of_reads, calls_of_rounds, count_of_accept_calls, count_of_accepted_if_called, count_of_failed_accepts, count_of_failed_reads, count_of_failed_in_rounds, TurnIsReported, EngineTurnsWithCalls}
use Rattle.proxy_turn.specs.Over.{AcceptsAreTaken, LastAcceptOutcomeIs, AcceptsAreComplete, may_accept_more, accepted_ends, ends_to_read, calls_of_accepts, count_of_accepted_connections, count_of_failed_accept_outcomes, TurnOverGivenEndsIsReported, EngineTurnsOverGivenEndsWithCalls}
use Rattle.proxy_turn.specs.declared.bounds.TurnAcceptBounds.{TurnAcceptBounds}
use Rattle.proxy_turn.specs.declared.report.Report.{Report}
use Rattle.proxy_turn.specs.declared.report.TurnFault.{TurnFault}
use Rattle.proxy_turn.specs.declared.report.TurnFault.TheVariants as faults
use Rattle.proxy_turn.proofs.Counting.{raises_none, raises_same}

abbrev one_accept : TurnAcceptBounds
one_accept = record { most_open = 256; most_accepts = 1 }

abbrev asked_of_answer : AcceptOutcome → AcceptOutcomeIfCalled
asked_of_answer call.Came = Came
asked_of_answer call.NoneCame = NoneCame
asked_of_answer call.Failed = Failed

abbrev asked_of : List AcceptOutcome → AcceptOutcomeIfCalled
asked_of [] = NotAsked
asked_of (a ∷ more) = asked_of_answer a

-- ---- one call at most

was_called : (a : AcceptOutcome) → accept_was_called (asked_of_answer a) ≡ true
was_called call.Came = refl
was_called call.NoneCame = refl
was_called call.Failed = refl

too_many : {A : Type 0} (a b : AcceptOutcome) (more : List AcceptOutcome) → length (a ∷ b ∷ more) ≤ 1 → A
too_many a b more few = absurd (omega (arith, few))

same_calls : (s : EngineModel) (xs : List AcceptOutcome) → length xs ≤ 1 → calls_of_accepts (length s.connections + 1) xs ≡ calls_of_accept s (asked_of xs)
same_calls s [] few = refl
same_calls s (call.Came ∷ []) few = refl
same_calls s (call.NoneCame ∷ []) few = refl
same_calls s (call.Failed ∷ []) few = refl
same_calls s (a ∷ b ∷ more) few = too_many a b more few

same_number : (xs : List AcceptOutcome) → length xs ≤ 1 → length xs ≡ count_of_accept_calls (asked_of xs)
same_number [] few = refl
same_number (call.Came ∷ []) few = refl
same_number (call.NoneCame ∷ []) few = refl
same_number (call.Failed ∷ []) few = refl
same_number (a ∷ b ∷ more) few = too_many a b more few

same_failed : (xs : List AcceptOutcome) → length xs ≤ 1 → count_of_failed_accept_outcomes xs ≡ count_of_failed_accepts (asked_of xs)
same_failed [] few = refl
same_failed (call.Came ∷ []) few = refl
same_failed (call.NoneCame ∷ []) few = refl
same_failed (call.Failed ∷ []) few = refl
same_failed (a ∷ b ∷ more) few = too_many a b more few

same_accepted : (xs : List AcceptOutcome) → length xs ≤ 1 → count_of_accepted_connections xs ≡ count_of_accepted_if_called (asked_of xs)
same_accepted [] few = refl
same_accepted (call.Came ∷ []) few = refl
same_accepted (call.NoneCame ∷ []) few = refl
same_accepted (call.Failed ∷ []) few = refl
same_accepted (a ∷ b ∷ more) few = too_many a b more few

only_where : (s : EngineModel) (xs : List AcceptOutcome) (t : EngineModel) → AcceptsAreTaken 256 s xs t → accept_was_called (asked_of xs) ≡ true → may_accept_below_256 s ≡ true
only_where s [] t taken called = absurd cc
only_where s (a ∷ more) t taken called = taken.1

takes_one : (s : EngineModel) (xs : List AcceptOutcome) (t : EngineModel) → length xs ≤ 1 → AcceptsAreTaken 256 s xs t → HappeningIfAnyIsTaken s (happening_of_accept s (asked_of xs)) t
takes_one s [] t few taken = taken
takes_one s (call.Came ∷ []) t few taken = subst (HappeningIfAnyIsTaken s (happening_of_accept s Came)) (sym taken.4) taken.2
takes_one s (call.NoneCame ∷ []) t few taken = subst (HappeningIfAnyIsTaken s (happening_of_accept s NoneCame)) (sym taken.4) taken.2
takes_one s (call.Failed ∷ []) t few taken = subst (HappeningIfAnyIsTaken s (happening_of_accept s Failed)) (sym taken.4) taken.2
takes_one s (a ∷ b ∷ more) t few taken = too_many a b more few

pub never_last : {A : Type 0} (front : List AcceptOutcome) (a : AcceptOutcome) → [] ≡ front ++ a ∷ [] → A
never_last [] a is = absurd cc
never_last (x ∷ front) a is = absurd cc

-- whether it was called is whether it could be
called_where : (s : EngineModel) (xs : List AcceptOutcome) (t : EngineModel) → AcceptsAreTaken 256 s xs t → AcceptsAreComplete one_accept xs t → accept_was_called (asked_of xs) ≡ may_accept_below_256 s
called_where s [] t taken (inl all) = absurd (omega (arith, all))
called_where s [] t taken (inr (inl none)) = sym none ∙ ap (may_accept_more 256) taken
called_where s [] t taken (inr (inr last)) = never_last last.0 call.NoneCame last.1
called_where s (a ∷ more) t taken last = was_called a ∙ sym taken.1

failed_last : (xs : List AcceptOutcome) → length xs ≤ 1 → LastAcceptOutcomeIs call.Failed xs → asked_of xs ≡ Failed
failed_last [] few last = never_last last.0 call.Failed last.1
failed_last (a ∷ []) few last = by last.0 last.1
  where
    by : (front : List AcceptOutcome) → a ∷ [] ≡ front ++ call.Failed ∷ [] → asked_of_answer a ≡ Failed
    by [] is = let same : a ≡ call.Failed = cc in ap asked_of_answer same
    by (x ∷ front) is = let none : [] ≡ front ++ call.Failed ∷ [] = cc in never_last front call.Failed none
failed_last (a ∷ b ∷ more) few last = too_many a b more few

-- ---- the ends

passes_all : (test : End → Bool) (es : List End) → AllByRecursion (λ end. test end ≡ true) es → filter test es ≡ es
passes_all test [] h = refl
passes_all test (end ∷ es) h = ap (λ (b : Bool). cond b (end ∷ filter test es) (filter test es)) h.0 ∙ ap (λ (rest : List End). end ∷ rest) (passes_all test es h.1)

module _ (each : ReadableEndsMaySend) (adds : AcceptAddsReadableEnd) where
  one_more : (s : EngineModel) (xs : List AcceptOutcome) (t : EngineModel) → length xs ≤ 1 → AcceptsAreTaken 256 s xs t → readable_ends_of s ++ accepted_ends (length s.connections + 1) xs ≡ readable_ends_of t
  one_more s [] t few taken = append-nil (readable_ends_of s) ∙ ap readable_ends_of (sym taken)
  one_more s (call.Came ∷ []) t few taken = sym (adds s) ∙ ap readable_ends_of (sym taken.2.1 ∙ sym taken.4)
  one_more s (call.NoneCame ∷ []) t few taken = append-nil (readable_ends_of s) ∙ ap readable_ends_of (sym taken.2 ∙ sym taken.4)
  one_more s (call.Failed ∷ []) t few taken = append-nil (readable_ends_of s) ∙ ap readable_ends_of (sym taken.2 ∙ sym taken.4)
  one_more s (a ∷ b ∷ more) t few taken = too_many a b more few

  -- each of them is read
  all_are_read : (s : EngineModel) (given : List End) (xs : List AcceptOutcome) (t : EngineModel) → given ≡ readable_ends_of s → length xs ≤ 1 → AcceptsAreTaken 256 s xs t → ends_to_read s given xs t ≡ readable_ends_of t
  all_are_read s given xs t is few taken =
      ap (λ (es : List End). filter (end_may_send t) es) (ap (λ (es : List End). es ++ accepted_ends (length s.connections + 1) xs) is ∙ one_more s xs t few taken)
      ∙ passes_all (end_may_send t) (readable_ends_of t) (each t)

  -- ---- a turn

  pub one_turn : (now : ℕ) (s : EngineModel) (given : List End) (e : State) (left : List End) (did : List Call → Type 0) (a b : Calls) (result : Result Report TurnFault) → given ≡ readable_ends_of s → EngineTurnsOverGivenEndsWithCalls now one_accept s given e left did a b result → EngineTurnsWithCalls now s e did a b result
  one_turn now s given e left did a b result is whole = record {
    turns = record {
      asked = asked_of whole.turns.accepts;
      reads = whole.turns.reads;
      rest = whole.turns.rest;
      rounds = whole.turns.rounds;
      last = whole.turns.last;
      turn = record {
        begun = whole.turns.turn.begun;
        read = whole.turns.turn.read;
        gone = whole.turns.turn.gone;
        only = only_where s whole.turns.accepts whole.turns.turn.begun whole.turns.turn.accepts_are;
        accepts = takes_one s whole.turns.accepts whole.turns.turn.begun few whole.turns.turn.accepts_are;
        ends = whole.turns.turn.ends ∙ all_are_read s given whole.turns.accepts whole.turns.turn.begun is few whole.turns.turn.accepts_are;
        reads_are = whole.turns.turn.reads_are;
        works = whole.turns.turn.works;
        bound = whole.turns.turn.bound;
        behind = whole.turns.turn.reads_come_before_acts;
      };
      represents = whole.turns.represents;
      reports = reports result whole.turns.reports;
      raises = raises_same a b (length whole.turns.accepts) (length whole.turns.reads) (count_of_failed_accept_outcomes whole.turns.accepts + (count_of_failed_reads whole.turns.reads + count_of_failed_in_rounds whole.turns.rounds)) (count_of_accept_calls (asked_of whole.turns.accepts)) (length whole.turns.reads) (count_of_failed_accepts (asked_of whole.turns.accepts) + (count_of_failed_reads whole.turns.reads + count_of_failed_in_rounds whole.turns.rounds))
          (same_number whole.turns.accepts few) refl (ap (λ (n : ℕ). n + (count_of_failed_reads whole.turns.reads + count_of_failed_in_rounds whole.turns.rounds)) (same_failed whole.turns.accepts few)) whole.turns.raises;
    };
    calls = subst (λ (xs : List Call). did (xs ++ (calls_of_reads whole.turns.reads ++ calls_of_rounds whole.turns.rounds))) (same_calls s whole.turns.accepts few) whole.calls;
  }
    where
      few : length whole.turns.accepts ≤ 1
      few = whole.turns.turn.few

      unbroken : count_of_failed_accept_outcomes whole.turns.accepts ≡ 0 → count_of_failed_accepts (asked_of whole.turns.accepts) ≡ 0
      unbroken none = sym (same_failed whole.turns.accepts few) ∙ none

      reports : (result : Result Report TurnFault) → TurnOverGivenEndsIsReported one_accept whole.turns.accepts whole.turns.turn.begun whole.turns.reads whole.turns.rest whole.turns.rounds whole.turns.last result → TurnIsReported s (asked_of whole.turns.accepts) whole.turns.reads whole.turns.rest whole.turns.rounds whole.turns.last result
      reports (Ok report) t = record {
        asked_is = called_where s whole.turns.accepts whole.turns.turn.begun whole.turns.turn.accepts_are t.accepts_are;
        unbroken = unbroken t.unbroken;
        rest_is = t.rest_is;
        worked = t.worked;
        accepted = t.accepted ∙ same_accepted whole.turns.accepts few;
        reads_are = t.reads_are;
        works = t.works;
        faults = t.faults;
      }
      reports (Err faults.Listener) t = (failed_last whole.turns.accepts few t.0, t.1, t.2)
      reports (Err faults.NoMemory) t = unbroken t
      reports (Err faults.Spent) t = (unbroken t.0, called_where s whole.turns.accepts whole.turns.turn.begun whole.turns.turn.accepts_are t.1, t.2, t.3)

-- nothing was called
pub not_begun : (now : ℕ) (s : EngineModel) (e : State) (did : List Call → Type 0) (here : Calls) → EngineRepresents e s → did [] → EngineTurnsWithCalls now s e did here here (Err faults.NoMemory)
not_begun now s e did here represents none = record {
  turns = record {
    asked = NotAsked;
    reads = [];
    rest = readable_ends_of s;
    rounds = [];
    last = s;
    turn = record {
      begun = s;
      read = s;
      gone = failed_links s;
      only = λ called. absurd cc;
      accepts = refl;
      ends = refl;
      reads_are = refl;
      works = (refl, refl);
      bound = omega arith;
      behind = inr refl;
    };
    represents = represents;
    reports = refl;
    raises = raises_none here;
  };
  calls = none;
}
