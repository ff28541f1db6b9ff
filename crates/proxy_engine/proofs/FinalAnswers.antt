-- Each answer that acts ask the core about is one that an origin's stream spells, and so has a final status.
use Rattle.std.proofs.Common.{◌≡◌, ◌≤◌, inl, inr, ℕ, Bool, true, false, List, [], ◌∷◌, refl, sym, ◌∙◌, subst}
use Rattle.std.specs.Prelude.{Option, Some, None}
use Rattle.std.specs.List.{AllByRecursion}
use Rattle.hx_framing.specs.declared.messages.Request.{Request}
use Rattle.hx_framing.specs.declared.messages.Response.{Response}
use Rattle.hx_framing.specs.declared.messages.Next.{Next}
use Rattle.hx_framing.specs.declared.messages.Next.TheVariants as next
use Rattle.hx_framing.specs.Progress.{Progress, next_answer_of_reading}
use Rattle.hx_framing.specs.Reading.{StreamReadResult, Incomplete, Continue, Over, Spelled, Faulty}
use Rattle.hx_framing.specs.RequestReading.{ReadsAs as ReadsRequest}
use Rattle.hx_framing.specs.ResponseReading.{ReadsAs}
use Rattle.hx_framing.specs.ResponseStream.{Answers, IsReadAnswerThenEnd}
use Rattle.hx_status.specs.declared.cause.FailKind.{FailKind}
use Rattle.proxy_core.specs.declared.event.Event.{Event}
use Rattle.proxy_core.specs.declared.event.Event.TheVariants as events
use Rattle.proxy_core.specs.ReadAnswers.{ResponseWasReadFromAStream, EventIsReadFromAStream}
use Rattle.proxy_core.specs.Traces.{Item}
use Rattle.proxy_engine.specs.EngineModel.{EngineModel, ConnectionModel, LinkModel, connection_at, link_at}
use Rattle.proxy_engine.specs.Due.{Act, Abandons, Finishes, Wakes, Serves, Gives, Breaks, IsFirstDueAct, LinkResultUnlessDropped, IsDueRequestActionUnlessBusy, link_result_of_next, accepts_no_request, due_request_action}
use Rattle.proxy_engine.specs.Executions.{Took, Worked, IsCoreEventOfAct}
use Rattle.proxy_engine.specs.FinalAnswers.{EachDueActIsSpelledByItsStream, EachAnswerHasFinalStatus, EachAnswerWasReadFromAStream, EventHasFinalStatus, LinkSpellsAnswer, ConnectionSpellsRequest}
use Rattle.proxy_engine.proofs.Asking.{taking_adds}

-- ---- what an act is about is what a stream spells

next_spelled : {M : Type 0} (m : M) (reading : StreamReadResult M) → next.Message m ≡ next_answer_of_reading reading → (rest : List ℕ) × (reading ≡ Spelled m rest)
next_spelled m Incomplete e = absurd cc
next_spelled m Continue e = absurd cc
next_spelled m Over e = absurd cc
next_spelled m (Faulty f) e = absurd cc
next_spelled m (Spelled n rest) e = (rest, cc)

abbrev IsAnswer : Progress Response → Response → Type 0
IsAnswer p r = (p.given ≡ []) × ((rest : List ℕ) × ReadsAs p.max_body p.to_head p.ended p.stream (Spelled r rest))

answered : (p : Progress Response) (r : Response) (given : List Response) → p.given ≡ given → IsReadAnswerThenEnd p given (next.Message r) → IsAnswer p r
answered p r [] none h =
    let is = next_spelled r h.0 h.2 in
    (none, (is.0, subst (λ (reading : StreamReadResult Response). ReadsAs p.max_body p.to_head p.ended p.stream reading) is.1 h.1))
answered p r (g ∷ more) some h = absurd cc

finished : (p : Progress Response) (r : Response) (a : Next Response) (kind : Option FailKind) → Answers p a → Some (Gives r) ≡ link_result_of_next a kind → IsAnswer p r
finished p r next.More None h e = absurd cc
finished p r next.More (Some k) h e = absurd cc
finished p r next.NeedsContinue kind h e = absurd cc
finished p r (next.Refused f) kind h e = absurd cc
finished p r next.End kind h e = absurd cc
finished p r (next.Message m) kind h e = subst (λ (q : Response). IsAnswer p q) (sym same) (answered p m p.given refl h.by)
  where
    same : r ≡ m
    same = cc

finish_due : (k : LinkModel) (r : Response) (dropped : Bool) → k.dropped ≡ dropped → LinkResultUnlessDropped dropped k (Some (Gives r)) → LinkSpellsAnswer k r
finish_due k r true is h = absurd cc
finish_due k r false is h =
    let answer = finished k.progress r h.0 k.failed h.1 h.2 in
    record { still = is; none_given = answer.0; rest = answer.1.0; reads = answer.1.1 }

action_is : (r : Request) (a : Next Request) → Some (next.Message r) ≡ due_request_action a → next.Message r ≡ a
action_is r next.More e = absurd cc
action_is r next.NeedsContinue e = absurd cc
action_is r (next.Message m) e = cc
action_is r (next.Refused f) e = absurd cc
action_is r next.End e = absurd cc

wanted : (c : ConnectionModel) (r : Request) (busy : Bool) → accepts_no_request c.gone c.closed c.activity ≡ busy → IsDueRequestActionUnlessBusy busy c (Some (next.Message r)) → ConnectionSpellsRequest c r
wanted c r true is h = absurd cc
wanted c r false is h =
    let answer = h.1 in
    let read = next_spelled r answer.reading (action_is r h.0 h.2 ∙ answer.answer_is) in
    record {
      free = is;
      behind = answer.rest;
      given = answer.spells;
      rest = read.0;
      reads = subst (λ (reading : StreamReadResult Request). ReadsRequest c.progress.max_body c.progress.ended c.progress.continue_sent answer.rest reading) read.1 answer.reads;
    }

pub acts_are_spelled : EachDueActIsSpelledByItsStream
acts_are_spelled s (Abandons i l) due = tt
acts_are_spelled s (Finishes j (Gives r)) due = finish_due (link_at s j) r (link_at s j).dropped refl due.1.1
acts_are_spelled s (Finishes j (Breaks kind)) due = tt
acts_are_spelled s (Wakes i) due = tt
acts_are_spelled s (Serves i (next.Message r)) due =
    wanted (connection_at s i) r (accepts_no_request (connection_at s i).gone (connection_at s i).closed (connection_at s i).activity) refl due.3.1
acts_are_spelled s (Serves i next.More) due = tt
acts_are_spelled s (Serves i next.NeedsContinue) due = tt
acts_are_spelled s (Serves i (next.Refused fault)) due = tt
acts_are_spelled s (Serves i next.End) due = tt

read_of : (k : LinkModel) (r : Response) → LinkSpellsAnswer k r → ResponseWasReadFromAStream r
read_of k r is = record { max_body = k.progress.max_body; to_head = k.progress.to_head; ended = k.progress.ended; bytes = k.progress.stream; rest = is.rest; reads = is.reads }

event_read : (s : EngineModel) (now : ℕ) (act : Act) (event : Event) → IsFirstDueAct s (Some act) → IsCoreEventOfAct s now act event → EventIsReadFromAStream event
event_read s now (Abandons i l) event due is = subst EventIsReadFromAStream (sym is) tt
event_read s now (Finishes j (Gives r)) event due is = subst EventIsReadFromAStream (sym is) (read_of (link_at s j) r (acts_are_spelled s (Finishes j (Gives r)) due))
event_read s now (Finishes j (Breaks kind)) event due is = subst EventIsReadFromAStream (sym is) tt
event_read s now (Wakes i) event due is = subst EventIsReadFromAStream (sym is) tt
event_read s now (Serves i (next.Message r)) event due is = subst EventIsReadFromAStream (sym is.2) tt
event_read s now (Serves i next.More) event due is = absurd is
event_read s now (Serves i next.NeedsContinue) event due is = absurd is
event_read s now (Serves i (next.Refused fault)) event due is = absurd is
event_read s now (Serves i next.End) event due is = absurd is

-- ---- so was each that a life tells of

abbrev AreRead : List Item → Type 0
AreRead = AllByRecursion (λ item. EventIsReadFromAStream item.event)

pub answers_are_read : EachAnswerWasReadFromAStream
answers_are_read table begin last [] trace h = subst AreRead (sym h.1) tt
answers_are_read table begin last (Took happening ∷ steps) trace (before, past, has_trace, leads, adds) =
    taking_adds (λ item. EventIsReadFromAStream item.event) (λ n item e. subst EventIsReadFromAStream (sym e) tt) before last happening past trace adds (answers_are_read table begin before steps past has_trace)
answers_are_read table begin last (Worked now act emitted ∷ steps) trace (before, past, has_trace, leads, inl (item, is, one)) =
    subst AreRead (sym is) (event_read before now act item.event leads.0 one.event_is, answers_are_read table begin before steps past has_trace)
answers_are_read table begin last (Worked now act emitted ∷ steps) trace (before, past, has_trace, leads, inr (same, none, own)) =
    subst AreRead (sym same) (answers_are_read table begin before steps past has_trace)

-- ---- what is read has a final status

abbrev pub ReadsFinal : Type 0
ReadsFinal =
    (max_body : ℕ) → (to_head : Bool) → (ended : Bool) → (bytes : List ℕ) → (response : Response) → (rest : List ℕ) →
    ReadsAs max_body to_head ended bytes (Spelled response rest) → (200 ≤ response.status) × (response.status ≤ 599)

module _ (read : ReadsFinal) where
  final : (event : Event) → EventIsReadFromAStream event → EventHasFinalStatus event
  final (events.Answer now id r) is = read is.max_body is.to_head is.ended is.bytes r is.rest is.reads
  final (events.Arrive now id asked) is = tt
  final (events.Fail now id kind) is = tt
  final (events.Wake now id) is = tt
  final (events.Abandon id) is = tt
  final (events.Overdue id) is = tt

  all_final : (trace : List Item) → AreRead trace → AllByRecursion (λ item. EventHasFinalStatus item.event) trace
  all_final [] h = tt
  all_final (item ∷ past) h = (final item.event h.0, all_final past h.1)

  pub answers_have_a_final_status : EachAnswerHasFinalStatus
  answers_have_a_final_status table begin last steps trace h = all_final trace (answers_are_read table begin last steps trace h)
