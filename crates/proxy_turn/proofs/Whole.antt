-- A turn of its parts.
use Rattle.std.proofs.Common.{◌≡◌, inl, inr, ℕ, ◌+◌, ◌≤◌, List, [], ◌∷◌, ◌++◌, length, filter, refl, sym, ap, ◌∙◌, subst, arith, Bool, true, false, cond, Result, Ok, Err}
use Rattle.proxy_engine.specs.EngineModel.{EngineModel}
use Rattle.proxy_engine.specs.Orderly.{ModelIsConsistent, HappeningKeepsModelConsistent}
use Rattle.proxy_engine.specs.Reading.{end_may_send, failed_links}
use Rattle.proxy_engine.specs.SendingEnds.{EndWasAcceptedOrOpened, EndWhosePeerMaySendHasNumber}
use Rattle.proxy_engine.specs.State.{State, EngineRepresents}
use Rattle.proxy_engine.specs.declared.work.End.{End}
use Rattle.proxy_engine.specs.declared.work.End.TheVariants as ends
use Rattle.proxy_turn.specs.Calls.{Call}
use Rattle.proxy_turn.specs.Counts.{Calls, CallCountsRiseBy}
use Rattle.proxy_turn.specs.Turn.{count_of_failed_reads, count_of_failed_in_rounds, calls_of_reads, calls_of_rounds}
use Rattle.proxy_turn.specs.Parts.{EndNumberWasGiven, EndNumbersWereGiven, ActsAreReported, DueActsAreDone}
use Rattle.proxy_turn.specs.Over.{ends_to_read, calls_of_accepts, calls_of_turn_over_given_ends, count_of_failed_accept_outcomes, TurnOverGivenEndsIsDoneInOrder, TurnOverGivenEndsIsReported, EngineTurnsOverGivenEndsWithCalls}
use Rattle.proxy_turn.specs.OverParts.{AcceptsMatchResult, ConnectionsAreAccepted, EndsOfListAreRead}
use Rattle.proxy_turn.specs.declared.bounds.TurnAcceptBounds.{TurnAcceptBounds}
use Rattle.proxy_turn.specs.declared.report.Report.{Report}
use Rattle.proxy_turn.specs.declared.report.TurnFault.{TurnFault}
use Rattle.proxy_turn.specs.declared.report.TurnFault.TheVariants as faults
use Rattle.proxy_turn.proofs.Accepting.{accepts_orderly}
use Rattle.proxy_turn.proofs.Called.{Joins, accepted_alone, accepted_read}
use Rattle.proxy_turn.proofs.Counting.{raises_on, raises_same}
use Rattle.proxy_turn.proofs.Turning.{reads_orderly}

numbered : (s : EngineModel) (end : End) → EndWasAcceptedOrOpened s end → EndNumberWasGiven s end
numbered s ends.Listener there = there
numbered s (ends.Client n) there = there
numbered s (ends.Link l) there = there

-- an end that may send is there
sending_there : EndWhosePeerMaySendHasNumber → (s : EngineModel) (es : List End) → EndNumbersWereGiven s (filter (end_may_send s) es)
sending_there number s [] = tt
sending_there number s (end ∷ es) = by (end_may_send s end) refl (sending_there number s es)
  where
    by : (b : Bool) → end_may_send s end ≡ b → EndNumbersWereGiven s (filter (end_may_send s) es) → EndNumbersWereGiven s (cond b (end ∷ filter (end_may_send s) es) (filter (end_may_send s) es))
    by true e rest = (numbered s end (number s end e), rest)
    by false e rest = rest

-- the same list under another name
pub same_list : (t : EngineModel) (es left : List End) (e f : State) (did : List Call → Type 0) (a b : Calls) (result : Result (ℕ × ℕ) TurnFault) → es ≡ left → EndNumbersWereGiven t left → ((s : EngineModel) → EngineRepresents e s → EndNumbersWereGiven s es → EndsOfListAreRead s es f did a b result) → EngineRepresents e t → EndsOfListAreRead t left f did a b result
same_list t es left e f did a b result is there reads represents = subst (λ (xs : List End). EndsOfListAreRead t xs f did a b result) is (reads t represents (subst (EndNumbersWereGiven t) (sym is) there))

module _ (now : ℕ) (bounds : TurnAcceptBounds) (s : EngineModel) (given : List End) (e : State) (more : List End) (did : List Call → Type 0) (a b : Calls) (answer : Result ℕ TurnFault) (first : ConnectionsAreAccepted bounds s given e more did a b answer) (left : List End) (kept : left ≡ filter (end_may_send first.begun) more) where
  listed : left ≡ ends_to_read s given first.accepts first.begun
  listed = kept ∙ ap (λ (es : List End). filter (end_may_send first.begun) es) first.listed

  pub listed_there : EndWhosePeerMaySendHasNumber → EndNumbersWereGiven first.begun left
  listed_there number = subst (EndNumbersWereGiven first.begun) (sym kept) (sending_there number first.begun more)

  -- the listener was the last
  pub asks_alone : (fault : TurnFault) → answer ≡ Err fault → EngineTurnsOverGivenEndsWithCalls now bounds s given e left did a b (Err fault)
  asks_alone fault is = record {
    turns = record {
      accepts = first.accepts;
      reads = [];
      rest = left;
      rounds = [];
      last = first.begun;
      turn = record {
        begun = first.begun;
        read = first.begun;
        gone = failed_links first.begun;
        few = first.few;
        accepts_are = first.are;
        ends = listed;
        reads_are = refl;
        works = (refl, refl);
        bound = omega arith;
        accepts_come_first = inr (refl, refl);
        reads_come_before_acts = inr refl;
      };
      represents = first.represents;
      listed = listed;
      reports = reports fault (subst (AcceptsMatchResult bounds first.accepts first.begun) is first.reports);
      raises = raises_same a b (length first.accepts) 0 (count_of_failed_accept_outcomes first.accepts) (length first.accepts) 0 (count_of_failed_accept_outcomes first.accepts + (0 + 0)) refl refl (omega arith) first.raises;
    };
    calls = subst did (accepted_alone s first.accepts) first.calls;
  }
    where
      reports : (fault : TurnFault) → AcceptsMatchResult bounds first.accepts first.begun (Err fault) → TurnOverGivenEndsIsReported bounds first.accepts first.begun [] left [] first.begun (Err fault)
      reports faults.Listener t = (t, refl, refl)
      reports faults.NoMemory t = t
      reports faults.Spent t = absurd t

  module _ (accepted : ℕ) (is : answer ≡ Ok accepted) (f : State) (read : List Call → Type 0) (c : Calls) where
    answered : AcceptsMatchResult bounds first.accepts first.begun (Ok accepted)
    answered = subst (AcceptsMatchResult bounds first.accepts first.begun) is first.reports

    -- the ends were the last
    pub reads_last : (fault : TurnFault) → EndsOfListAreRead first.begun left f read b c (Err fault) → (both : List Call → Type 0) → Joins did read both → EngineTurnsOverGivenEndsWithCalls now bounds s given f left both a c (Err fault)
    reads_last fault part both join = record {
      turns = record {
        accepts = first.accepts;
        reads = part.reads;
        rest = part.rest;
        rounds = [];
        last = part.some.last;
        turn = record {
          begun = first.begun;
          read = part.some.last;
          gone = failed_links part.some.last;
          few = first.few;
          accepts_are = first.are;
          ends = part.ends ∙ listed;
          reads_are = part.some.are;
          works = (refl, refl);
          bound = omega arith;
          accepts_come_first = inl answered.0;
          reads_come_before_acts = inr refl;
        };
        represents = part.some.represents;
        listed = listed;
        reports = reports fault part.reports;
        raises = raises_same a c (length first.accepts + 0) (0 + length part.reads) (count_of_failed_accept_outcomes first.accepts + count_of_failed_reads part.reads) (length first.accepts) (length part.reads) (count_of_failed_accept_outcomes first.accepts + (count_of_failed_reads part.reads + 0))
            (omega arith) (omega arith) (omega arith) (raises_on a b c (length first.accepts) 0 (count_of_failed_accept_outcomes first.accepts) 0 (length part.reads) (count_of_failed_reads part.reads) first.raises part.some.raises);
      };
      calls = subst both (accepted_read s first.accepts part.reads) (join (calls_of_accepts (length s.connections + 1) first.accepts) (calls_of_reads part.reads) first.calls part.some.calls);
    }
      where
        reports : (fault : TurnFault) → fault ≡ faults.NoMemory → TurnOverGivenEndsIsReported bounds first.accepts first.begun part.reads part.rest [] part.some.last (Err fault)
        reports faults.NoMemory t = answered.1
        reports faults.Listener t = absurd cc
        reports faults.Spent t = absurd cc

    module _ (counts : ℕ × ℕ) (second : EndsOfListAreRead first.begun left f read b c (Ok counts)) where
      pub read_orderly : HappeningKeepsModelConsistent → ModelIsConsistent s → ModelIsConsistent second.some.last
      read_orderly takes h = reads_orderly takes second.reads first.begun second.some.last second.some.are (accepts_orderly takes bounds.most_open first.accepts s first.begun first.are h)

      module _ (g : State) (worked : List Call → Type 0) (d : Calls) where
        turned : (result : Result (ℕ × ℕ) TurnFault) → (third : DueActsAreDone now second.some.last g worked c d result) → TurnOverGivenEndsIsDoneInOrder now bounds s given first.accepts second.reads second.rest third.rounds third.some.last
        turned result third = record {
          begun = first.begun;
          read = second.some.last;
          gone = third.gone;
          few = first.few;
          accepts_are = first.are;
          ends = second.ends ∙ listed;
          reads_are = second.some.are;
          works = third.some.works;
          bound = third.bound;
          accepts_come_first = inl answered.0;
          reads_come_before_acts = inl second.reports.0;
        }

        raised : (result : Result (ℕ × ℕ) TurnFault) → (third : DueActsAreDone now second.some.last g worked c d result)
            → CallCountsRiseBy a d (length first.accepts) (length second.reads) (count_of_failed_accept_outcomes first.accepts + (count_of_failed_reads second.reads + count_of_failed_in_rounds third.rounds))
        raised result third = raises_same a d (length first.accepts + 0 + 0) (0 + length second.reads + 0) (count_of_failed_accept_outcomes first.accepts + count_of_failed_reads second.reads + count_of_failed_in_rounds third.rounds)
            (length first.accepts) (length second.reads) (count_of_failed_accept_outcomes first.accepts + (count_of_failed_reads second.reads + count_of_failed_in_rounds third.rounds))
            (omega arith) (omega arith) (omega arith)
            (raises_on a c d (length first.accepts + 0) (0 + length second.reads) (count_of_failed_accept_outcomes first.accepts + count_of_failed_reads second.reads) 0 0 (count_of_failed_in_rounds third.rounds)
            (raises_on a b c (length first.accepts) 0 (count_of_failed_accept_outcomes first.accepts) 0 (length second.reads) (count_of_failed_reads second.reads) first.raises second.some.raises) third.some.raises)

        called : (result : Result (ℕ × ℕ) TurnFault) → (third : DueActsAreDone now second.some.last g worked c d result) → (later all : List Call → Type 0) → Joins read worked later → Joins did later all → all (calls_of_turn_over_given_ends s first.accepts second.reads third.rounds)
        called result third later all join onto =
            onto (calls_of_accepts (length s.connections + 1) first.accepts) (calls_of_reads second.reads ++ calls_of_rounds third.rounds) first.calls (join (calls_of_reads second.reads) (calls_of_rounds third.rounds) second.some.calls third.some.calls)

        -- an act was the last
        pub works_last : (fault : TurnFault) → DueActsAreDone now second.some.last g worked c d (Err fault) → (later all : List Call → Type 0) → Joins read worked later → Joins did later all → EngineTurnsOverGivenEndsWithCalls now bounds s given g left all a d (Err fault)
        unfolding turned
        works_last fault third later all join onto = record {
          turns = record {
            accepts = first.accepts;
            reads = second.reads;
            rest = second.rest;
            rounds = third.rounds;
            last = third.some.last;
            turn = turned (Err fault) third;
            represents = third.some.represents;
            listed = listed;
            reports = reports fault third.reports;
            raises = raised (Err fault) third;
          };
          calls = called (Err fault) third later all join onto;
        }
          where
            reports : (fault : TurnFault) → ActsAreReported third.rounds third.some.last (Err fault) → TurnOverGivenEndsIsReported bounds first.accepts first.begun second.reads second.rest third.rounds third.some.last (Err fault)
            reports faults.Listener t = absurd t
            reports faults.NoMemory t = answered.1
            reports faults.Spent t = (answered.1, answered.0, second.reports.0, t)

        -- whole
        pub whole : (done : ℕ × ℕ) → (third : DueActsAreDone now second.some.last g worked c d (Ok done)) → (report : Report) → report.accepted ≡ accepted → report.reads ≡ counts.0 → report.works ≡ done.0 → report.faults ≡ counts.1 + done.1 → (later all : List Call → Type 0) → Joins read worked later → Joins did later all
            → EngineTurnsOverGivenEndsWithCalls now bounds s given g left all a d (Ok report)
        unfolding turned
        whole done third report accepted_is reads works faults later all join onto = record {
          turns = record {
            accepts = first.accepts;
            reads = second.reads;
            rest = second.rest;
            rounds = third.rounds;
            last = third.some.last;
            turn = turned (Ok done) third;
            represents = third.some.represents;
            listed = listed;
            reports = record {
              accepts_are = answered.0;
              unbroken = answered.1;
              rest_is = second.reports.0;
              worked = third.reports.0;
              accepted = accepted_is ∙ answered.2;
              reads_are = reads ∙ second.reports.1;
              works = works ∙ third.reports.1;
              faults = let m = second.reports.2 in let n = third.reports.2 in omega (arith, faults, m, n);
            };
            raises = raised (Ok done) third;
          };
          calls = called (Ok done) third later all join onto;
        }

        pub few_works : (done : ℕ × ℕ) → DueActsAreDone now second.some.last g worked c d (Ok done) → done.1 ≤ 3000
        few_works done third = let n = third.reports.2 in let few = third.few in omega (arith, n, few)
