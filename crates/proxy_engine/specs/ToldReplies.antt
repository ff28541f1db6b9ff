-- What is told of the bytes that clients get.
--
-- IsReplyOfStep, IsRefusalOfEngine: a reply of the core, or the proxy's own answer to what is no request, and what its
-- client asked for
-- BytesToClientAreReported: either is told as what it is, and nothing of an interim response
-- EachReplyIsReportedTruthfully, EachRunReportsRepliesTruthfully: the laws
-- NoReplyReportsAnotherRequest, EachReplyReportsARequest: what they refuse
use Rattle.std.specs.Prelude.{◌≡◌, ◌≢◌, ◌⊎◌, ℕ, List, ◌∷◌, Bool, true, Contains, Option, None, Some}
use Rattle.hx_allow.specs.TableLines.{Table}
use Rattle.hx_framing.specs.Text.{continue_text}
use Rattle.hx_hop.specs.declared.request_view.Asked.{Asked}
use Rattle.hx_hop.specs.Moments.{date_text_of}
use Rattle.proxy_core.specs.Abouts.{report_of_refusal_reply}
use Rattle.hx_status.specs.declared.about.ReplyData.{ReplyData}
use Rattle.hx_status.specs.declared.cause.Cause.{Cause}
use Rattle.proxy_core.specs.Replies.{refusal_reply_text}
use Rattle.proxy_core.specs.Starts.{StoreAtStart}
use Rattle.proxy_core.specs.Traces.{Item}
use Rattle.proxy_core.specs.declared.open.exchange.Exchange.{Exchange}
use Rattle.proxy_core.specs.declared.outcome.Outcome.TheVariants as outcomes
use Rattle.proxy_core.specs.declared.outcome.Reply.{Reply}
use Rattle.proxy_script.specs.declared.effect_list.Effect.{Effect}
use Rattle.proxy_script.specs.declared.effect_list.Effect.TheVariants as effects
use Rattle.proxy_engine.specs.ConnectionNumbers.{connection_number_of_place}
use Rattle.proxy_engine.specs.EngineModel.{EngineModel}
use Rattle.proxy_engine.specs.Due.{Act}
use Rattle.proxy_engine.specs.Executions.{ExecutionStep, Worked, StepAddsItsItemIfAnyToTrace, StepsAreAGoodRun}
use Rattle.proxy_engine.specs.Executions.{CoreItemIsDoneByAct}
use Rattle.proxy_engine.specs.Executions.{connection_place_of_act, method_and_target_of_refused_act}
use Rattle.proxy_engine.specs.Questions.{question_of_request, request_of_event}

-- the core gave a reply at this step, where these exchanges were open: its bytes, what it is, and what the request
-- asked for that it answers, the one that arrived or that of the exchange which the step ended
pub record IsReplyOfStep (exchanges : List Exchange) (past trace : List Item) (bytes : List ℕ) (replied : ReplyData)
    : Type 0 where
  pub item : Item
  pub reply : Reply
  pub added : trace ≡ item ∷ past
  pub outcome_is : item.outcome ≡ outcomes.Reply reply
  pub bytes_are : bytes ≡ reply.bytes
  pub about_is : replied.about ≡ reply.about
  pub request : Asked
  pub request_is : request_of_event exchanges item.event ≡ Some request
  pub question_is : replied.question ≡ Some (question_of_request request)

-- the core was asked nothing, and the proxy answers for this cause what the act's client asked for, if that could be
-- read
pub record IsRefusalOfEngine (now : ℕ) (act : Act) (past trace : List Item) (bytes : List ℕ) (replied : ReplyData)
    : Type 0 where
  pub why : Cause
  pub head : Bool
  pub added : trace ≡ past
  pub bytes_are : bytes ≡ refusal_reply_text (date_text_of now) why true head
  pub about_is : replied.about ≡ report_of_refusal_reply why head
  pub question_is : replied.question ≡ method_and_target_of_refused_act act

-- Bytes to a client, and what is told of them, where an act led from the trace `past` to `trace`, and these exchanges
-- were open before it. Nothing is told of an interim response, which is no reply (RFC 9110, section 15.2), and of
-- nothing else.
abbrev pub BytesToClientAreReported : ℕ → Act → List Exchange → List Item → List Item → List ℕ → Option ReplyData
    → Type 0
BytesToClientAreReported now act exchanges past trace bytes None = (trace ≡ past) × (bytes ≡ continue_text)
BytesToClientAreReported now act exchanges past trace bytes (Some replied) =
    IsReplyOfStep exchanges past trace bytes replied ⊎ IsRefusalOfEngine now act past trace bytes replied

-- whatever goes to a client goes to the one that the act is about, and is told as what it is
abbrev pub EachReplyIsReportedTruthfully : Type 0
EachReplyIsReportedTruthfully =
    (table : Table) (s after : EngineModel) (now : ℕ) (act : Act) (emitted : List Effect) (past trace : List Item)
    → StepAddsItsItemIfAnyToTrace table s (Worked now act emitted) after past trace
    → (n : ℕ) (bytes : List ℕ) (replied : Option ReplyData)
    → Contains emitted (effects.Client n bytes replied)
    → (n ≡ connection_number_of_place (connection_place_of_act s act))
    × BytesToClientAreReported now act s.core.exchanges past trace bytes replied

-- so it is of each step of a run: behind it stands the trace of the run, before it that of the steps before
abbrev pub EachRunReportsRepliesTruthfully : Type 0
EachRunReportsRepliesTruthfully =
    (table : Table) (start : StoreAtStart) (first now : ℕ) (begin last : EngineModel) (steps : List ExecutionStep)
    (act : Act)
    (emitted : List Effect) → (run : StepsAreAGoodRun table start first begin (Worked now act emitted ∷ steps) last)
    → (n : ℕ) (bytes : List ℕ) (replied : Option ReplyData)
    → Contains emitted (effects.Client n bytes replied)
    → BytesToClientAreReported now act run.has_trace.0.core.exchanges run.has_trace.1 run.trace bytes replied

-- no step of the core has a reply that is told with another question than that of the request which it answers
abbrev pub NoReplyReportsAnotherRequest : Type 0
NoReplyReportsAnotherRequest =
    (table : Table) (s after : EngineModel) (now : ℕ) (act : Act) (item : Item) (emitted : List Effect)
    → CoreItemIsDoneByAct table s now act item emitted after
    → (n : ℕ) (bytes : List ℕ) (replied : ReplyData) (request : Asked)
    → request_of_event s.core.exchanges item.event ≡ Some request
    → replied.question ≢ Some (question_of_request request)
    → Contains emitted (effects.Client n bytes (Some replied)) → ⊥

-- nor one that is told with none
abbrev pub EachReplyReportsARequest : Type 0
EachReplyReportsARequest =
    (table : Table) (s after : EngineModel) (now : ℕ) (act : Act) (item : Item) (emitted : List Effect)
    → CoreItemIsDoneByAct table s now act item emitted after
    → (n : ℕ) (bytes : List ℕ) (replied : ReplyData) → replied.question ≡ None
    → Contains emitted (effects.Client n bytes (Some replied)) → ⊥
