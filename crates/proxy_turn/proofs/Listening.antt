-- The listener: when it is asked, and what it gives is taken.
use Rattle.std.proofs.Common.{◌≡◌, rules, inl, inr, ℕ, suc, ◌+◌, ◌<◌, ◌^◌, ◌==◌, nat_lt, List, [], ◌∷◌, ◌++◌, length, refl, sym, ap, ◌∙◌, subst, arith, Bool, true, false, cond, ◌&&◌, Option, None, Some, is_some, Result}
use Rattle.std.proofs.lemmas.List.{append-nil}
use Rattle.proxy_engine.specs.Happenings.{Accepts}
use Rattle.proxy_engine.specs.EngineModel.{EngineModel, happening_fault}
use Rattle.proxy_engine.specs.State.{State, ListsAreRelated, EngineRepresents}
use Rattle.proxy_engine.specs.Reading.{open_connection_count, next_connection_number}
use Rattle.proxy_engine.specs.Room.{NextHappeningFindsMemory, HappeningFindsMemory}
use Rattle.proxy_engine.specs.declared.work.EngineFault.TheVariants.{WrongNumber}
use Rattle.proxy_engine.specs.declared.work.End.{End}
use Rattle.proxy_engine.specs.declared.work.End.TheVariants as ends
use Rattle.proxy_turn.specs.Calls as call
use Rattle.proxy_turn.specs.Calls.{Call, AcceptOutcome}
use Rattle.proxy_turn.specs.Counts.{Calls, CallCountsRiseBy}
use Rattle.proxy_turn.specs.Turn.{HappeningIfAnyIsTaken}
use Rattle.proxy_turn.specs.Over.{may_accept_more, happening_of_accept_outcome, ends_of_accept_outcome, count_of_failed_accept_outcome}
use Rattle.proxy_turn.specs.OverParts.{OneAcceptMatchesResult, ListenerIsAskedAtMostOnce}
use Rattle.proxy_turn.specs.declared.report.TurnFault.{TurnFault}
use Rattle.proxy_turn.proofs.Counting.{raises_none, raises_same}

both_long : {A B : Type 0} (R : A → B → Type 0) (xs : List A) (ys : List B) → ListsAreRelated R xs ys → length xs ≡ length ys
both_long R [] [] h = refl
both_long R [] (y ∷ ys) h = absurd h
both_long R (x ∷ xs) [] h = absurd h
both_long R (x ∷ xs) (y ∷ ys) h = ap suc (both_long R xs ys h.1)

-- a number is left
number_left : (b : Bool) (m n : ℕ) → cond b (Some m) None ≡ Some n → (b ≡ true) × (n ≡ m)
number_left true m n e = (refl, by_value e)
  where
    by_value : ◌≡◌ {A = Option ℕ} (Some m) (Some n) → n ≡ m
    by_value e = search (rules, e)
number_left false m n e = absurd cc

pub number_is : (s : EngineModel) (o : Option ℕ) (n : ℕ) → o ≡ next_connection_number s → o ≡ Some n → (length s.connections + 1 < 2 ^ 64) × (n ≡ length s.connections + 1)
number_is s o n is some =
    let left = number_left (nat_lt (length s.connections + 1) (2 ^ 64)) (length s.connections + 1) n (sym is ∙ some) in
    (less (length s.connections + 1) (2 ^ 64) left.0, left.1)
  where
    less : (a b : ℕ) → nat_lt a b ≡ true → a < b
    less a b e = search (arith, e)

pub accept_free : (s : EngineModel) (n : ℕ) → n ≡ length s.connections + 1 → happening_fault s (Accepts n) ≡ None
accept_free s n is = ap (λ (b : Bool). cond b None (Some WrongNumber)) (same n (length s.connections + 1) is)
  where
    same : (a b : ℕ) → a ≡ b → (a == b) ≡ true
    same a b e = search (arith, e)

pub accept_found : (e : State) (s : EngineModel) (n : ℕ) → EngineRepresents e s → NextHappeningFindsMemory e ends.Listener → length s.connections + 1 < 2 ^ 64 → HappeningFindsMemory e (Accepts n)
accept_found e s n represents (inl room) left = room
accept_found e s n represents (inr full) left = let long = both_long _ e.connections s.connections represents.connections in absurd (omega (arith, full, left, long))

both : (a b : Bool) → a ≡ true → b ≡ true → a && b ≡ true
both true b e f = f
both false b e f = absurd cc

not_both : (a b : Bool) → a ≡ false → a && b ≡ false
not_both true b e = absurd cc
not_both false b e = refl

not_second : (a b : Bool) → b ≡ false → a && b ≡ false
not_second true b e = e
not_second false b e = refl

-- it may be asked
pub does_ask : (most : ℕ) (s : EngineModel) (o : Option ℕ) (n : ℕ) → o ≡ next_connection_number s → o ≡ Some n → nat_lt (open_connection_count s) most ≡ true → may_accept_more most s ≡ true
does_ask most s o n is some fewer = both (nat_lt (open_connection_count s) most) (is_some (next_connection_number s)) fewer (ap (λ (x : Option ℕ). is_some x) (sym is ∙ some))

-- it may not: as many are open as may be, or no number is left
pub not_fewer : (most : ℕ) (s : EngineModel) → nat_lt (open_connection_count s) most ≡ false → may_accept_more most s ≡ false
not_fewer most s full = not_both (nat_lt (open_connection_count s) most) (is_some (next_connection_number s)) full

pub none_left : (most : ℕ) (s : EngineModel) (o : Option ℕ) → o ≡ next_connection_number s → o ≡ None → may_accept_more most s ≡ false
none_left most s o is none = not_second (nat_lt (open_connection_count s) most) (is_some (next_connection_number s)) (ap (λ (x : Option ℕ). is_some x) (sym is ∙ none))

-- ---- what asking it gives

-- nothing was called
pub not_asked : (most : ℕ) (s : EngineModel) (given : List End) (e : State) (more : List End) (did : List Call → Type 0) (here : Calls) (result : Result Bool TurnFault) → EngineRepresents e s → more ≡ given → did [] → OneAcceptMatchesResult most s [] result → ListenerIsAskedAtMostOnce most s given e more did here here result
not_asked most s given e more did here result represents same none reports = record {
  asked = [];
  begun = s;
  takes = refl;
  represents = represents;
  listed = same ∙ sym (append-nil given);
  reports = reports;
  calls = none;
  raises = raises_none here;
}

-- it was called once
pub asked_once : (most : ℕ) (s : EngineModel) (given : List End) (e : State) (more : List End) (did : List Call → Type 0) (a b : Calls) (result : Result Bool TurnFault) (answer : AcceptOutcome) (n : ℕ) (begun : EngineModel) → n ≡ length s.connections + 1 → may_accept_more most s ≡ true → HappeningIfAnyIsTaken s (happening_of_accept_outcome n answer) begun → EngineRepresents e begun → more ≡ given ++ ends_of_accept_outcome n answer → did (call.Accept n answer ∷ []) → CallCountsRiseBy a b 1 0 (count_of_failed_accept_outcome answer) → OneAcceptMatchesResult most s (answer ∷ []) result → ListenerIsAskedAtMostOnce most s given e more did a b result
asked_once most s given e more did a b result answer n begun is asks takes represents same called raises reports = record {
  asked = answer ∷ [];
  begun = begun;
  takes = (begun, asks, subst (λ (m : ℕ). HappeningIfAnyIsTaken s (happening_of_accept_outcome m answer) begun) is takes, inr refl, refl);
  represents = represents;
  listed = same ∙ ap (λ (es : List End). given ++ es) (ap (λ (m : ℕ). ends_of_accept_outcome m answer) is ∙ sym (append-nil (ends_of_accept_outcome (length s.connections + 1) answer)));
  reports = reports;
  calls = subst (λ (m : ℕ). did (call.Accept m answer ∷ [])) is called;
  raises = raises_same a b 1 0 (count_of_failed_accept_outcome answer) 1 0 (0 + count_of_failed_accept_outcome answer) refl refl (omega arith) raises;
}
