-- Out of memory never hides that no link number is left.
use Rattle.std.proofs.Common.{◌≡◌, ◌≢◌, ◌⊎◌, inl, inr, ℕ, ◌+◌, ◌<◌, ◌≤◌, ◌^◌, List, length, get_or, refl, sym, ap, ◌∙◌, subst, arith, true, Option, None, Some, nat_le, Result, Err}
use Rattle.std.proofs.lemmas.Bool.{cases_lt, leb-false}
use Rattle.proxy_engine.specs.EngineModel.{EngineModel, no_connection, no_link}
use Rattle.proxy_engine.specs.Due.{Abandons, Finishes, Wakes, Serves, LinkResult, Gives, Breaks, IsFirstAtWhich, IsFirstDueAct, IsGoneWhileBusy, IsDueLinkResult, first_wakeable_id}
use Rattle.proxy_engine.specs.Acts.{ActMayForward, next_link_number}
use Rattle.proxy_engine.specs.State.{State, EngineRepresents, LinkRepresents}
use Rattle.proxy_engine.specs.Exhausted.{IsOpenWithFlag, lookahead_is_unknown, link_lookahead_is_unknown, LookaheadRanOutOfMemory, LinkNumberIsLeftIfActMayForward, OutOfMemoryNeverHidesNoLinkNumberForWake, ExhaustedNumbersAreReportedAtAnswer}
use Rattle.proxy_engine.specs.Actions.{IsFaultOfFinishingExchange}
use Rattle.proxy_engine.specs.Marked.{end_if_open_at, NoOpenEndBelowHasFlag, link_may_be_due}
use Rattle.proxy_engine.specs.declared.endpoints.lookahead.Lookahead.{Lookahead}
use Rattle.proxy_engine.specs.declared.endpoints.lookahead.Lookahead.TheVariants.{Unknown, Quiet, Due}
use Rattle.proxy_engine.specs.declared.endpoints.ends.Link.{Link}
use Rattle.proxy_engine.specs.declared.work.EngineFault.{EngineFault}
use Rattle.proxy_engine.specs.declared.work.EngineFault.TheVariants.{OutOfMemory}
use Rattle.proxy_engine.proofs.Parts.{both_length}
use Rattle.proxy_engine.proofs.Searching.{before_none}
use Rattle.proxy_engine.proofs.Marking.{no_finish_due, no_finish_due_over}
use Rattle.proxy_engine.proofs.Once.{due_first_once, finish_due_same, finish_due_once}

some_same : {B : Type 0} {x y : B} → Some x ≡ Some y → x ≡ y
some_same h = cc

none_some : {B : Type 0} {b : B} → ◌≡◌ {A = Option B} None (Some b) → ⊥
none_some h = cc

-- the same fault, of another answer
pub err_at : {A B E : Type 0} (a b : E) → ◌≡◌ {A = Result A E} (Err a) (Err b) → ◌≡◌ {A = Result B E} (Err a) (Err b)
err_at a b h = ap (λ e. Err e) same
  where
    same : a ≡ b
    same = cc

-- where a number is left, no more is to be said
pub number_left : (e new : State) (s : EngineModel) → EngineRepresents e s → e.first + length e.links < 2 ^ 64 → LinkNumberIsLeftIfActMayForward s new
number_left e new s h left act due may seen =
    let same = both_length LinkRepresents e.links s.links h.links in
    let first_is : e.first ≡ s.first = h.first in
    omega (arith, left, same)

-- the client with an exchange that is gone comes first, for which no link is needed
pub lost_first : (e : State) (s : EngineModel) (i : ℕ) (l : Option ℕ) → IsFirstAtWhich IsGoneWhileBusy no_connection s.connections (Some (i, l)) → LinkNumberIsLeftIfActMayForward s e
lost_first e s i l first act due may seen = absurd (subst ActMayForward (some_same (due_first_once s (Some act) (Some (Abandons i l)) due first)) may)

-- a request that arrives is judged first
pub served_unseen : (e : State) (s : EngineModel) → IsFirstAtWhich IsGoneWhileBusy no_connection s.connections None → IsFirstAtWhich IsDueLinkResult no_link s.links None → first_wakeable_id s.core ≡ None → LinkNumberIsLeftIfActMayForward s e
served_unseen e s lost finish_due ready (Abandons i l) due may seen = absurd may
served_unseen e s lost finish_due ready (Finishes j f) due may seen = absurd (none_some (finish_due_same s None (Some (j, f)) finish_due due.1))
served_unseen e s lost finish_due ready (Wakes i) due may seen = absurd (none_some (sym ready ∙ due.2))
served_unseen e s lost finish_due ready (Serves i action) due may seen = absurd seen

-- the look stopped at a link of which nothing is known, at the one on which the first answer stands or before it
pub look_stopped : (e : State) (s : EngineModel) → LookaheadRanOutOfMemory e.links → EngineRepresents e s → LinkNumberIsLeftIfActMayForward s e
look_stopped e s stops h (Abandons i l) due may seen = absurd may
look_stopped e s stops h (Finishes j f) due may seen = by_place (cases_lt j stops.place)
  where
    by_place : (j < stops.place) ⊎ (stops.place ≤ j) → next_link_number s < 2 ^ 64
    by_place (inl less) = absurd (none_some (finish_due_once (get_or s.links j no_link) None (Some f) (stops.before s.links h.links j less) due.1.1))
    by_place (inr no_less) = absurd (seen stops.place no_less stops.unknown)
look_stopped e s stops h (Wakes i) due may seen = absurd (seen stops.place stops.unknown)
look_stopped e s stops h (Serves i action) due may seen = absurd seen

-- the exchange wasn't finished, because memory ran out
end_memory : (e new : State) (s : EngineModel) (j : ℕ) (f : LinkResult) → EngineRepresents e s → IsFaultOfFinishingExchange (nat_le (2 ^ 64) (e.first + length e.links)) f OutOfMemory → IsFirstDueAct s (Some (Finishes j f)) → LinkNumberIsLeftIfActMayForward s new
end_memory e new s j (Gives r) h fault first =
    let few = leb-false (2 ^ 64) (e.first + length e.links) fault in
    number_left e new s h (omega (arith, few))
end_memory e new s j (Breaks kind) h fault first = λ act due may seen. absurd (subst ActMayForward (some_same (due_first_once s (Some act) (Some (Finishes j (Breaks kind))) due first)) may)

pub end_found : {A : Type 0} (e new : State) (s : EngineModel) (j : ℕ) (f : LinkResult) (fault : EngineFault) → EngineRepresents e s → IsFaultOfFinishingExchange (nat_le (2 ^ 64) (e.first + length e.links)) f fault
    → ◌≡◌ {A = Result A EngineFault} (Err fault) (Err OutOfMemory) → IsFirstDueAct s (Some (Finishes j f)) → LinkNumberIsLeftIfActMayForward s new
end_found e new s j f fault h emitted memory first = end_memory e new s j f h (subst (λ (g : EngineFault). IsFaultOfFinishingExchange (nat_le (2 ^ 64) (e.first + length e.links)) f g) same emitted) first
  where
    same : fault ≡ OutOfMemory
    same = cc

-- what a search over the open links tells where it stopped
pub stops_at : (xs : List (Option Link)) → (place : ℕ) × IsOpenWithFlag link_lookahead_is_unknown (end_if_open_at xs place) × NoOpenEndBelowHasFlag link_may_be_due (end_if_open_at xs) place × (place < length xs) → LookaheadRanOutOfMemory xs
stops_at xs h = record {
  place = h.0;
  unknown = h.1;
  before = before_none LinkRepresents IsDueLinkResult link_may_be_due no_link xs no_finish_due no_finish_due_over h.0 h.3 h.2;
}

-- ---- what isn't so

unknown_is : {M : Type 0} (ahead : Lookahead M) → lookahead_is_unknown ahead ≡ true → ahead ≡ Unknown
unknown_is Unknown is = refl
unknown_is Quiet is = absurd cc
unknown_is (Due a) is = absurd cc

-- where each link that is kept is known, none is unknown
known_there : (o : Option Link) → ((link : Link) → o ≡ Some link → link.reader.ahead ≢ Unknown) → IsOpenWithFlag link_lookahead_is_unknown o → ⊥
known_there None known has = has
known_there (Some link) known has = known link refl (unknown_is link.reader.ahead has)

pub hides_no_wake : OutOfMemoryNeverHidesNoLinkNumberForWake
hides_no_wake s e i due known exhausted has_trace =
    let left = has_trace (Wakes i) due tt (λ k has. known_there (get_or e.links k None) (known k) has) in
    omega (arith, exhausted, left)

pub hides_no_answer : ExhaustedNumbersAreReportedAtAnswer
hides_no_answer s e j response due known exhausted has_trace =
    let left = has_trace (Finishes j (Gives response)) due tt (λ k upto has. known_there (get_or e.links k None) (λ link is. known k link upto is) has) in
    omega (arith, exhausted, left)
