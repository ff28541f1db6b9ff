-- Ends that are read, one after another.
use Rattle.std.proofs.Common.{◌≡◌, ℕ, zero, suc, ◌+◌, ◌-◌, ◌<◌, ◌≤◌, List, [], ◌∷◌, ◌++◌, length, take, drop, get_or, refl, sym, ap, ◌∙◌, subst, arith, Option, None, Some, Ok, Err}
use Rattle.std.proofs.Math.Seq.{take-suc}
use Rattle.std.proofs.lemmas.List.{map-append, length-append, length-map, append-nil, take_all, take-append-drop}
use Rattle.hx_status.specs.declared.cause.FailKind.{FailKind}
use Rattle.proxy_engine.specs.EngineModel.{EngineModel}
use Rattle.proxy_engine.specs.Orderly.{EndedEndsStayEndedAfterHappening}
use Rattle.proxy_engine.specs.Room.{ConnectionReaderHasRoomFor, LinkReaderHasRoomFor, NextHappeningFindsMemory}
use Rattle.proxy_engine.specs.State.{State, EngineRepresents}
use Rattle.proxy_engine.specs.declared.endpoints.ends.Connection.{Connection}
use Rattle.proxy_engine.specs.declared.endpoints.ends.Link.{Link}
use Rattle.proxy_engine.specs.declared.work.End.{End}
use Rattle.proxy_engine.specs.declared.work.End.TheVariants as ends
use Rattle.proxy_turn.specs.Calls as call
use Rattle.proxy_turn.specs.Calls.{Call}
use Rattle.proxy_turn.specs.Counts.{Calls, CallCountsRiseBy}
use Rattle.proxy_turn.specs.Turn.{happening_of_bytes, happening_of_input_end, happening_of_loss, one_if_read_failed, EndRead, ends_of_reads, count_of_failed_reads, calls_of_reads}
use Rattle.proxy_turn.specs.Parts.{HappeningIfAnyFindsMemory, EndNumberWasGiven, EndNumbersWereGiven, OneEndIsRead, OutOfMemoryBeforeRead, EndsAreReadOnceEach}
use Rattle.proxy_turn.specs.OverParts.{EndsOfListAreRead}
use Rattle.proxy_turn.specs.declared.report.TurnFault.{TurnFault}
use Rattle.proxy_turn.proofs.Called.{Joins, read_more}
use Rattle.proxy_turn.proofs.Counting.{raises_none, raises_on}
use Rattle.proxy_turn.proofs.There.{all_there_later, there_at}
use Rattle.proxy_turn.proofs.Turning.{reads_more, reads_stay, sum_more}

roomy_less : (o : Option Connection) (n m : ℕ) → m ≤ n → ConnectionReaderHasRoomFor o n → ConnectionReaderHasRoomFor o m
roomy_less None n m l room = tt
roomy_less (Some c) n m l room = omega (arith, l, room)

roomy_link_less : (o : Option Link) (n m : ℕ) → m ≤ n → LinkReaderHasRoomFor o n → LinkReaderHasRoomFor o m
roomy_link_less None n m l room = tt
roomy_link_less (Some k) n m l room = omega (arith, l, room)

pub arrived_found : (e : State) (end : End) (bytes : List ℕ) → NextHappeningFindsMemory e end → length bytes ≤ 4096 → HappeningIfAnyFindsMemory e (happening_of_bytes end bytes)
arrived_found e ends.Listener bytes room l = tt
arrived_found e (ends.Client n) bytes room l = roomy_less (get_or e.connections (n - 1) None) 4096 (length bytes) l room
arrived_found e (ends.Link k) bytes room l = roomy_link_less (get_or e.links (k - e.first) None) 4096 (length bytes) l room

pub ended_found : (e : State) (end : End) → HappeningIfAnyFindsMemory e (happening_of_input_end end)
ended_found e ends.Listener = tt
ended_found e (ends.Client n) = tt
ended_found e (ends.Link k) = tt

pub lost_found : (e : State) (end : End) (kind : FailKind) → HappeningIfAnyFindsMemory e (happening_of_loss end kind)
lost_found e ends.Listener kind = tt
lost_found e (ends.Client n) kind = tt
lost_found e (ends.Link k) kind = tt

pub reads_none : (s : EngineModel) (e : State) (did : List Call → Type 0) (here : Calls) → EngineRepresents e s → did [] → EndsAreReadOnceEach s [] e did here here
reads_none s e did here represents none = record { last = s; are = refl; represents = represents; calls = none; raises = raises_none here }

-- an end that was there is there behind the reads
pub read_later : (stay : EndedEndsStayEndedAfterHappening) (s : EngineModel) (es : List End) (reads : List EndRead) (i : ℕ) (end : End) (e : State) (did : List Call → Type 0) (a b : Calls) → end ≡ get_or es i end → i < length es → EndNumbersWereGiven s es → (done : EndsAreReadOnceEach s reads e did a b) → EndNumberWasGiven done.last end
read_later stay s es reads i end e did a b is l there done = there_at done.last es i end (all_there_later s done.last es (reads_stay stay reads s done.last done.are) there) l is

-- one more
pub reads_one : (s : EngineModel) (reads : List EndRead) (end : End) (e new : State) (did then all : List Call → Type 0) (a b c : Calls) (count : ℕ) → (done : EndsAreReadOnceEach s reads e did a b) → (one : OneEndIsRead done.last end new then b c count) → Joins did then all
    → EndsAreReadOnceEach s (reads ++ record { end = end; given = one.given } ∷ []) new all a c
reads_one s reads end e new did then all a b c count done one join =
    let r : EndRead = record { end = end; given = one.given } in
    record {
      last = one.took.after;
      are = reads_more reads s done.last one.took.after r done.are one.took.takes one.piece;
      represents = one.took.represents;
      calls = subst all (sym (read_more reads r)) (join (calls_of_reads reads) (call.Read end one.given ∷ []) done.calls one.calls);
      raises = subst (λ (n : ℕ). CallCountsRiseBy a c 0 n (count_of_failed_reads (reads ++ r ∷ []))) (sym (length-append reads (r ∷ [])))
          (subst (λ (n : ℕ). CallCountsRiseBy a c 0 (length reads + 1) n) (sym (sum_more (λ (x : EndRead). one_if_read_failed x.given) reads r)) (raises_on a b c 0 (length reads) (count_of_failed_reads reads) 0 1 (one_if_read_failed one.given) done.raises one.raises));
    }

-- these ends were read
pub record SoFar (s : EngineModel) (es : List End) (e : State) (did : List Call → Type 0) (a b : Calls) (faults : ℕ) : Type 0 where
  pub reads : List EndRead
  pub ends : ends_of_reads reads ≡ es
  pub some : EndsAreReadOnceEach s reads e did a b
  pub counted : faults ≡ count_of_failed_reads reads

pub so_far_none : (s : EngineModel) (e : State) (did : List Call → Type 0) (here : Calls) → EngineRepresents e s → did [] → SoFar s [] e did here here 0
so_far_none s e did here represents none = record { reads = []; ends = refl; some = reads_none s e did here represents none; counted = refl }

pub so_far_more : (s : EngineModel) (es : List End) (i : ℕ) (end : End) (e new : State) (did then all : List Call → Type 0) (a b c : Calls) (faults count : ℕ) → end ≡ get_or es i end → i < length es → (done : SoFar s (take i es) e did a b faults) → OneEndIsRead done.some.last end new then b c count
    → Joins did then all → SoFar s (take (i + 1) es) new all a c (faults + count)
so_far_more s es i end e new did then all a b c faults count is l done one join =
    let r : EndRead = record { end = end; given = one.given } in
    record {
      reads = done.reads ++ r ∷ [];
      ends = map-append (λ (x : EndRead). x.end) done.reads (r ∷ []) ∙ (ap (λ (xs : List End). xs ++ end ∷ []) done.ends ∙ sym next);
      some = reads_one s done.reads end e new did then all a b c count done.some one join;
      counted = let before = done.counted in let here = one.counted in let sum = sum_more (λ (x : EndRead). one_if_read_failed x.given) done.reads r in omega (arith, before, here, sum);
    }
  where
    next : take (i + 1) es ≡ take i es ++ end ∷ []
    next =
        let same : i + 1 ≡ suc i = omega arith in
        ap (λ (n : ℕ). take n es) same ∙ (take-suc es i end l ∙ ap (λ (x : End). take i es ++ x ∷ []) (sym is))

pub so_far_later : (stay : EndedEndsStayEndedAfterHappening) (s : EngineModel) (es : List End) (i : ℕ) (end : End) (e : State) (did : List Call → Type 0) (a b : Calls) (faults : ℕ) → end ≡ get_or es i end → i < length es → EndNumbersWereGiven s es → (done : SoFar s (take i es) e did a b faults) → EndNumberWasGiven done.some.last end
so_far_later stay s es i end e did a b faults is l there done = read_later stay s es done.reads i end e did a b is l there done.some

pub read_whole : (s : EngineModel) (es : List End) (n : ℕ) (e : State) (did : List Call → Type 0) (a b : Calls) (faults : ℕ) (counts : ℕ × ℕ) → length es ≤ n → SoFar s (take n es) e did a b faults → counts.0 ≡ length es → counts.1 ≡ faults → EndsOfListAreRead s es e did a b (Ok counts)
read_whole s es n e did a b faults counts l done number more =
    let all = done.ends ∙ take_all n es l in
    record {
      reads = done.reads;
      rest = [];
      ends = append-nil (ends_of_reads done.reads) ∙ all;
      some = done.some;
      reports = (refl, number ∙ (sym (ap length all) ∙ length-map done.reads (λ (x : EndRead). x.end)), more ∙ done.counted);
    }

pub read_partly : (s : EngineModel) (es : List End) (i : ℕ) (e new : State) (did then all : List Call → Type 0) (a b c : Calls) (faults : ℕ) (fault : TurnFault) → (done : SoFar s (take i es) e did a b faults) → OutOfMemoryBeforeRead done.some.last new then b c fault → Joins did then all → EndsOfListAreRead s es new all a c (Err fault)
read_partly s es i e new did then all a b c faults fault done none join = record {
  reads = done.reads;
  rest = drop i es;
  ends = ap (λ (xs : List End). xs ++ drop i es) done.ends ∙ take-append-drop i es;
  some = record { last = done.some.last; are = done.some.are; represents = none.represents; calls = subst all (append-nil (calls_of_reads done.reads)) (join (calls_of_reads done.reads) [] done.some.calls none.calls); raises = subst (λ (x : Calls). CallCountsRiseBy a x 0 (length done.reads) (count_of_failed_reads done.reads)) none.same done.some.raises };
  reports = none.fault_is;
}

-- an element is itself at its place
pub read_at : {A : Type 0} (d : A) (xs : List A) (i : ℕ) → i < length xs → get_or xs i d ≡ get_or xs i (get_or xs i d)
read_at d [] i l = absurd (omega (arith, l))
read_at d (x ∷ xs) zero l = refl
read_at d (x ∷ xs) (suc i) l = read_at d xs i (omega (arith, l))
