-- What a core is handed was read.
use Rattle.std.proofs.Common.{◌≡◌, inl, inr, ℕ, Bool, ◌||◌, [], ◌∷◌, sym, ap, ◌∙◌, subst}
use Rattle.std.specs.Prelude.{Some, Result, Ok, Err, codes}
use Rattle.hx_fields.specs.FieldLines.{values_of}
use Rattle.hx_framing.specs.declared.messages.Request.{Request}
use Rattle.hx_framing.specs.declared.messages.Response.{Response}
use Rattle.hx_framing.specs.declared.messages.Next.TheVariants as next
use Rattle.hx_target.specs.declared.target_fault.TargetFault.{TargetFault}
use Rattle.hx_target.specs.declared.targets.Target.{Target}
use Rattle.hx_target.specs.Judgement.{TargetIsJudged}
use Rattle.hx_hop.specs.declared.request_view.Asked.{Asked}
use Rattle.hx_hop.specs.Asking.{asked_with_judged_target, asked_with_target}
use Rattle.proxy_core.specs.declared.event.Event.{Event}
use Rattle.proxy_core.specs.ReadAnswers.{ResponseWasReadFromAStream}
use Rattle.proxy_core_laws.specs.SentMessages.{MessagesOfTraceWereRead, MessageOfEventWasRead, RequestWasRead}
use Rattle.proxy_engine.specs.Admitted.{asked_closing_if_retired}
use Rattle.proxy_engine.specs.EngineModel.{EngineModel, ConnectionModel, LinkModel, connection_at, link_at}
use Rattle.proxy_engine.specs.Due.{Act, Abandons, Finishes, Wakes, Serves, Gives, Breaks, IsFirstDueAct}
use Rattle.proxy_engine.specs.FinalAnswers.{LinkSpellsAnswer, ConnectionSpellsRequest}
use Rattle.proxy_engine.specs.Executions.{Took, Worked, IsCoreEventOfAct}
use Rattle.proxy_engine.proofs.FinalAnswers.{acts_are_spelled}
use Rattle.proxy_engine_laws.specs.OneMessageEach.{CoreIsHandedReadMessages}
use Rattle.proxy_engine.proofs.Asking.{taking_adds}

read_answer : (k : LinkModel) (r : Response) → LinkSpellsAnswer k r → ResponseWasReadFromAStream r
read_answer k r is = record { max_body = k.progress.max_body; to_head = k.progress.to_head; ended = k.progress.ended; bytes = k.progress.stream; rest = is.rest; reads = is.reads }

pub read_request : (c : ConnectionModel) (r : Request) (asked sent : Asked) (judged : Result Target TargetFault) (retired : Bool) → ConnectionSpellsRequest c r → TargetIsJudged r.target (values_of r.fields (codes "Host")) judged → Ok sent ≡ asked_with_judged_target r judged
    → asked ≡ asked_closing_if_retired retired sent → RequestWasRead asked
read_request c r asked sent (Ok target) retired is named same handed = record {
  max_body = c.progress.max_body;
  ended = c.progress.ended;
  continue_sent = c.progress.continue_sent;
  bytes = is.behind;
  rest = is.rest;
  request = r;
  target = target;
  closes = (asked_with_target r target).close || retired;
  reads = is.reads;
  judged = named;
  asked_is = handed ∙ ap (asked_closing_if_retired retired) one;
}
  where
    one : sent ≡ asked_with_target r target
    one = cc
read_request c r asked sent (Err fault) retired is named same handed = absurd cc

pub event_read : (s : EngineModel) (now : ℕ) (act : Act) (event : Event) → IsFirstDueAct s (Some act) → IsCoreEventOfAct s now act event → MessageOfEventWasRead event
event_read s now (Abandons i l) event due is = subst MessageOfEventWasRead (sym is) tt
event_read s now (Finishes j (Gives r)) event due is = subst MessageOfEventWasRead (sym is) (read_answer (link_at s j) r (acts_are_spelled s (Finishes j (Gives r)) due))
event_read s now (Finishes j (Breaks kind)) event due is = subst MessageOfEventWasRead (sym is) tt
event_read s now (Wakes i) event due is = subst MessageOfEventWasRead (sym is) tt
event_read s now (Serves i (next.Message r)) event due (asked, (sent, (judged, named, same), handed), is) =
    subst MessageOfEventWasRead (sym is) (read_request (connection_at s i) r asked sent judged (connection_at s i).retired (acts_are_spelled s (Serves i (next.Message r)) due) named same handed)
event_read s now (Serves i next.More) event due is = absurd is
event_read s now (Serves i next.NeedsContinue) event due is = absurd is
event_read s now (Serves i (next.Refused fault)) event due is = absurd is
event_read s now (Serves i next.End) event due is = absurd is

pub hands_what_was_read : CoreIsHandedReadMessages
hands_what_was_read table begin last [] trace h = subst MessagesOfTraceWereRead (sym h.1) tt
hands_what_was_read table begin last (Took happening ∷ steps) trace (before, past, has_trace, leads, adds) =
    taking_adds (λ item. MessageOfEventWasRead item.event) (λ n item e. subst MessageOfEventWasRead (sym e) tt) before last happening past trace adds (hands_what_was_read table begin before steps past has_trace)
hands_what_was_read table begin last (Worked now act emitted ∷ steps) trace (before, past, has_trace, leads, inl (item, is, one)) =
    subst MessagesOfTraceWereRead (sym is) (event_read before now act item.event leads.0 one.event_is, hands_what_was_read table begin before steps past has_trace)
hands_what_was_read table begin last (Worked now act emitted ∷ steps) trace (before, past, has_trace, leads, inr (same, none, own)) =
    subst MessagesOfTraceWereRead (sym same) (hands_what_was_read table begin before steps past has_trace)
