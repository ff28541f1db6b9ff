-- Calls of accept, one after another.
use Rattle.std.proofs.Common.{◌≡◌, inl, inr, ℕ, suc, ◌+◌, ◌<◌, ◌≤◌, List, [], ◌∷◌, ◌++◌, length, refl, sym, ap, ◌∙◌, subst, arith, Bool, true, false, Result, Ok, Err, ◌⊎◌}
use Rattle.std.proofs.lemmas.List.{append-nil, append_assoc, length-append}
use Rattle.std.proofs.lemmas.List.Sums.{sum_by-append, sum_by-cons}
use Rattle.proxy_engine.specs.EngineModel.{EngineModel, new_connection_model}
use Rattle.proxy_engine.specs.Orderly.{ModelIsConsistent, HappeningKeepsModelConsistent}
use Rattle.proxy_engine.specs.State.{State, EngineRepresents}
use Rattle.proxy_engine.specs.declared.work.End.{End}
use Rattle.proxy_turn.specs.Calls as call
use Rattle.proxy_turn.specs.Calls.{Call, AcceptOutcome, Came, NoneCame, Failed}
use Rattle.proxy_turn.specs.Counts.{Calls, CallCountsRiseBy}
use Rattle.proxy_turn.specs.Turn.{HappeningIfAnyIsTaken}
use Rattle.proxy_turn.specs.Over.{may_accept_more, happening_of_accept_outcome, AcceptsAreTaken, ends_of_accept_outcome, accepted_ends, calls_of_accepts, count_of_accepted_connection, count_of_failed_accept_outcome, count_of_accepted_connections, count_of_failed_accept_outcomes}
use Rattle.proxy_turn.specs.OverParts.{OneAcceptMatchesResult, ListenerIsAskedAtMostOnce, AcceptsMatchResult, ConnectionsAreAccepted}
use Rattle.proxy_turn.specs.declared.bounds.TurnAcceptBounds.{TurnAcceptBounds}
use Rattle.proxy_turn.specs.declared.report.TurnFault.{TurnFault}
use Rattle.proxy_turn.specs.declared.report.TurnFault.TheVariants as faults
use Rattle.proxy_turn.proofs.Called.{Joins}
use Rattle.proxy_turn.proofs.Counting.{raises_none, raises_on, raises_same}
use Rattle.proxy_turn.proofs.Turning.{if_orderly}

-- each call gave a connection
abbrev pub AllCame : List AcceptOutcome → Type 0
AllCame [] = Unit {0}
AllCame (a ∷ more) = (a ≡ Came) × AllCame more

all_came : (xs ys : List AcceptOutcome) → AllCame xs → AllCame ys → AllCame (xs ++ ys)
all_came [] ys came more = more
all_came (x ∷ xs) ys came more = (came.0, all_came xs ys came.1 more)

-- ---- behind connections that came

accepts_on : (most : ℕ) (xs ys : List AcceptOutcome) (s t u : EngineModel) → AllCame xs → AcceptsAreTaken most s xs t → AcceptsAreTaken most t ys u → AcceptsAreTaken most s (xs ++ ys) u
accepts_on most [] ys s t u came here rest = subst (λ (x : EngineModel). AcceptsAreTaken most x ys u) here rest
accepts_on most (x ∷ xs) ys s t u came before rest = (before.0, before.1, before.2, inl came.0, accepts_on most xs ys before.0 t u came.1 before.4 rest)

-- one that came is one more
pub one_long : (s : EngineModel) (x : AcceptOutcome) (after : EngineModel) → x ≡ Came → HappeningIfAnyIsTaken s (happening_of_accept_outcome (length s.connections + 1) x) after → length after.connections ≡ length s.connections + 1
one_long s Came after is takes = ap (λ (u : EngineModel). length u.connections) takes.1 ∙ length-append s.connections (new_connection_model s.core.table.max_body ∷ [])
one_long s NoneCame after is takes = absurd cc
one_long s Failed after is takes = absurd cc

-- each was one more
came_long : (most : ℕ) (xs : List AcceptOutcome) (s t : EngineModel) → AllCame xs → AcceptsAreTaken most s xs t → length t.connections ≡ length s.connections + length xs
came_long most [] s t came here = let same = ap (λ (u : EngineModel). length u.connections) here in omega (arith, same)
came_long most (x ∷ xs) s t came before =
    let rest = came_long most xs before.0 t came.1 before.4 in
    let first = one_long s x before.0 came.0 before.2 in
    omega (arith, rest, first)

calls_on : (xs ys : List AcceptOutcome) (n : ℕ) → calls_of_accepts n (xs ++ ys) ≡ calls_of_accepts n xs ++ calls_of_accepts (n + length xs) ys
calls_on [] ys n = ap (λ (m : ℕ). calls_of_accepts m ys) (omega arith)
calls_on (x ∷ xs) ys n =
    let next : n + 1 + length xs ≡ n + suc (length xs) = omega arith in
    ap (λ (cs : List Call). call.Accept n x ∷ cs) (calls_on xs ys (n + 1) ∙ ap (λ (m : ℕ). calls_of_accepts (n + 1) xs ++ calls_of_accepts m ys) next)

ends_on : (xs ys : List AcceptOutcome) (n : ℕ) → accepted_ends n (xs ++ ys) ≡ accepted_ends n xs ++ accepted_ends (n + length xs) ys
ends_on [] ys n = ap (λ (m : ℕ). accepted_ends m ys) (omega arith)
ends_on (x ∷ xs) ys n =
    let next : n + 1 + length xs ≡ n + suc (length xs) = omega arith in
    ap (λ (es : List End). ends_of_accept_outcome n x ++ es) (ends_on xs ys (n + 1) ∙ ap (λ (m : ℕ). accepted_ends (n + 1) xs ++ accepted_ends m ys) next)
    ∙ sym (append_assoc (ends_of_accept_outcome n x) (accepted_ends (n + 1) xs) (accepted_ends (n + suc (length xs)) ys))

none_failed : (xs : List AcceptOutcome) → AllCame xs → count_of_failed_accept_outcomes xs ≡ 0
none_failed [] came = refl
none_failed (x ∷ xs) came =
    let here : count_of_failed_accept_outcome x ≡ 0 = ap count_of_failed_accept_outcome came.0 in
    let rest = none_failed xs came.1 in
    let sum = sum_by-cons count_of_failed_accept_outcome x xs in
    omega (arith, here, rest, sum)

each_counts : (xs : List AcceptOutcome) → AllCame xs → count_of_accepted_connections xs ≡ length xs
each_counts [] came = refl
each_counts (x ∷ xs) came =
    let here : count_of_accepted_connection x ≡ 1 = ap count_of_accepted_connection came.0 in
    let rest = each_counts xs came.1 in
    let sum = sum_by-cons count_of_accepted_connection x xs in
    omega (arith, here, rest, sum)

-- ---- the calls so far

pub record SoFar (most : ℕ) (s : EngineModel) (given : List End) (e : State) (more : List End) (did : List Call → Type 0) (a b : Calls) (number : ℕ) : Type 0 where
  pub came : List AcceptOutcome
  pub mid : EngineModel
  pub all : AllCame came
  pub are : AcceptsAreTaken most s came mid
  pub represents : EngineRepresents e mid
  pub listed : more ≡ given ++ accepted_ends (length s.connections + 1) came
  pub long : length came ≡ number
  pub calls : did (calls_of_accepts (length s.connections + 1) came)
  pub raises : CallCountsRiseBy a b (length came) 0 0

pub so_far_none : (most : ℕ) (s : EngineModel) (given : List End) (e : State) (did : List Call → Type 0) (here : Calls) → EngineRepresents e s → did [] → SoFar most s given e given did here here 0
so_far_none most s given e did here represents none =
    record { came = []; mid = s; all = tt; are = refl; represents = represents; listed = sym (append-nil given); long = refl; calls = none; raises = raises_none here }

module _ (bounds : TurnAcceptBounds) (s : EngineModel) (given : List End) (e : State) (more : List End) (did : List Call → Type 0) (a b : Calls) (number : ℕ) (done : SoFar bounds.most_open s given e more did a b number) where
  -- as many calls were made as there may be
  pub full : (count : ℕ) → number ≡ bounds.most_accepts → count ≡ number → ConnectionsAreAccepted bounds s given e more did a b (Ok count)
  full count is same = record {
    accepts = done.came;
    begun = done.mid;
    few = let long = done.long in omega (arith, is, long);
    are = done.are;
    represents = done.represents;
    listed = done.listed;
    reports = (inl (done.long ∙ is), none_failed done.came done.all, same ∙ (sym done.long ∙ sym (each_counts done.came done.all)));
    calls = done.calls;
    raises = raises_same a b (length done.came) 0 0 (length done.came) 0 (count_of_failed_accept_outcomes done.came) refl refl (sym (none_failed done.came done.all)) done.raises;
  }

  -- one more call, or none
  module _ (new : State) (later : List End) (then : List Call → Type 0) (c : Calls) (result : Result Bool TurnFault) (one : ListenerIsAskedAtMostOnce bounds.most_open done.mid more new later then b c result) (all : List Call → Type 0) (join : Joins did then all) where
    abbrev both : List AcceptOutcome
    both = done.came ++ one.asked

    behind : length s.connections + 1 + length done.came ≡ length done.mid.connections + 1
    behind = let long = came_long bounds.most_open done.came s done.mid done.all done.are in omega (arith, long)

    both_are : AcceptsAreTaken bounds.most_open s both one.begun
    both_are = accepts_on bounds.most_open done.came one.asked s done.mid one.begun done.all done.are one.takes

    both_listed : later ≡ given ++ accepted_ends (length s.connections + 1) both
    both_listed =
        one.listed
        ∙ (ap (λ (es : List End). es ++ accepted_ends (length done.mid.connections + 1) one.asked) done.listed
        ∙ (append_assoc given (accepted_ends (length s.connections + 1) done.came) (accepted_ends (length done.mid.connections + 1) one.asked)
        ∙ ap (λ (es : List End). given ++ es) (ap (λ (n : ℕ). accepted_ends (length s.connections + 1) done.came ++ accepted_ends n one.asked) (sym behind) ∙ sym (ends_on done.came one.asked (length s.connections + 1)))))

    both_called : all (calls_of_accepts (length s.connections + 1) both)
    both_called = subst all
        (ap (λ (n : ℕ). calls_of_accepts (length s.connections + 1) done.came ++ calls_of_accepts n one.asked) (sym behind) ∙ sym (calls_on done.came one.asked (length s.connections + 1)))
        (join (calls_of_accepts (length s.connections + 1) done.came) (calls_of_accepts (length done.mid.connections + 1) one.asked) done.calls one.calls)

    both_failed : count_of_failed_accept_outcomes both ≡ count_of_failed_accept_outcomes one.asked
    both_failed = let none = none_failed done.came done.all in let sum = sum_by-append count_of_failed_accept_outcome done.came one.asked in omega (arith, none, sum)

    both_raised : CallCountsRiseBy a c (length both) 0 (count_of_failed_accept_outcomes both)
    both_raised = raises_same a c (length done.came + length one.asked) 0 (0 + count_of_failed_accept_outcomes one.asked) (length both) 0 (count_of_failed_accept_outcomes both)
        (sym (length-append done.came one.asked)) refl (let same = both_failed in omega (arith, same))
        (raises_on a b c (length done.came) 0 0 (length one.asked) 0 (count_of_failed_accept_outcomes one.asked) done.raises one.raises)

    -- one more came
    pub came_more : result ≡ Ok true → SoFar bounds.most_open s given new later all a c (number + 1)
    came_more came_is = record {
      came = both;
      mid = one.begun;
      all = came;
      are = both_are;
      represents = one.represents;
      listed = both_listed;
      long = let first = done.long in let second = ap (λ (xs : List AcceptOutcome). length xs) is in let sum = length-append done.came one.asked in omega (arith, first, second, sum);
      calls = both_called;
      raises = raises_same a c (length both) 0 (count_of_failed_accept_outcomes both) (length both) 0 0 refl refl (none_failed both came) both_raised;
    }
      where
        is : one.asked ≡ Came ∷ []
        is = subst (OneAcceptMatchesResult bounds.most_open done.mid one.asked) came_is one.reports

        came : AllCame both
        came = all_came done.came one.asked done.all (subst AllCame (sym is) (refl, tt))

    -- it was the last
    pub ends_by : (answer : Result ℕ TurnFault) → number < bounds.most_accepts → length one.asked ≤ 1 → AcceptsMatchResult bounds both one.begun answer → ConnectionsAreAccepted bounds s given new later all a c answer
    ends_by answer left small reports = record {
      accepts = both;
      begun = one.begun;
      few = let first = done.long in let sum = length-append done.came one.asked in omega (arith, left, small, first, sum);
      are = both_are;
      represents = one.represents;
      listed = both_listed;
      reports = reports;
      calls = both_called;
      raises = both_raised;
    }

    -- no connection came
    pub ends_with_none : result ≡ Ok false → (count : ℕ) → count ≡ number → number < bounds.most_accepts → ConnectionsAreAccepted bounds s given new later all a c (Ok count)
    ends_with_none is count same left = by (subst (OneAcceptMatchesResult bounds.most_open done.mid one.asked) is one.reports)
      where
        sums : count_of_accepted_connections one.asked ≡ 0 → count ≡ count_of_accepted_connections both
        sums none = let long = done.long in let each = each_counts done.came done.all in let sum = sum_by-append count_of_accepted_connection done.came one.asked in omega (arith, same, long, each, sum, none)

        by : (((one.asked ≡ []) × (may_accept_more bounds.most_open done.mid ≡ false)) ⊎ (one.asked ≡ NoneCame ∷ [])) → ConnectionsAreAccepted bounds s given new later all a c (Ok count)
        by (inl none) =
            let same_model : one.begun ≡ done.mid = subst (λ (xs : List AcceptOutcome). AcceptsAreTaken bounds.most_open done.mid xs one.begun) none.0 one.takes in
            ends_by (Ok count) left (let small = ap (λ (xs : List AcceptOutcome). length xs) none.0 in omega (arith, small))
            (inr (inl (ap (may_accept_more bounds.most_open) same_model ∙ none.1)), both_failed ∙ ap count_of_failed_accept_outcomes none.0, sums (ap count_of_accepted_connections none.0))
        by (inr last) =
            ends_by (Ok count) left (let small = ap (λ (xs : List AcceptOutcome). length xs) last in omega (arith, small))
            (inr (inr (done.came, ap (λ (xs : List AcceptOutcome). done.came ++ xs) last)), both_failed ∙ ap count_of_failed_accept_outcomes last, sums (ap count_of_accepted_connections last))

    -- a fault
    pub ends_by_fault : (fault : TurnFault) → result ≡ Err fault → number < bounds.most_accepts → ConnectionsAreAccepted bounds s given new later all a c (Err fault)
    ends_by_fault fault is left = by fault (subst (OneAcceptMatchesResult bounds.most_open done.mid one.asked) is one.reports)
      where
        by : (fault : TurnFault) → OneAcceptMatchesResult bounds.most_open done.mid one.asked (Err fault) → ConnectionsAreAccepted bounds s given new later all a c (Err fault)
        by faults.Listener last =
            ends_by (Err faults.Listener) left (let small = ap (λ (xs : List AcceptOutcome). length xs) last in omega (arith, small)) (done.came, ap (λ (xs : List AcceptOutcome). done.came ++ xs) last)
        by faults.NoMemory none =
            ends_by (Err faults.NoMemory) left (let small = ap (λ (xs : List AcceptOutcome). length xs) none in omega (arith, small)) (both_failed ∙ ap count_of_failed_accept_outcomes none)
        by faults.Spent never = absurd never

-- ---- what they keep

pub accepts_orderly : HappeningKeepsModelConsistent → (most : ℕ) (xs : List AcceptOutcome) (s t : EngineModel) → AcceptsAreTaken most s xs t → ModelIsConsistent s → ModelIsConsistent t
accepts_orderly takes most [] s t here h = subst ModelIsConsistent (sym here) h
accepts_orderly takes most (a ∷ xs) s t before h =
    accepts_orderly takes most xs before.0 t before.4 (if_orderly takes s (happening_of_accept_outcome (length s.connections + 1) a) before.0 before.2 h)
