-- Whatever an engine sends is one message (RFC 9112, sections 6.3, 11.1 and 11.2): each request that it forwards, and
-- each answer to a client. The messages themselves, `BytesAreOneRequest` and `BytesAreOneResponse`, stand in
-- `proxy_core_laws/specs/SentMessages.antt`.
--
-- ActsAreBeforeYear10000: moments that `work` takes          act_is_of_head_request: an act answers a HEAD
-- ForwardIsOneRequest, ReplyIsOneResponse: an effect that is one message
-- CoreIsHandedReadMessages: what its core is handed
-- EachForwardIsOneRequest, EachReplyIsOneResponse, EachTextToClientIsOneResponse: the statements
use Rattle.std.specs.Prelude.{◌≡◌, ◌⊎◌, ℕ, ◌+◌, ◌<◌, Bool, false, bytes_eq, List, [], ◌∷◌, codes, All, Contains}
use Rattle.std.specs.Prelude.{Option, Some}
use Rattle.std.specs.declared.net.socket_addr.SocketAddrV4.{SocketAddrV4}
use Rattle.hx_fields.specs.declared.limits.TheConstants.{START_OF_YEAR_10000}
use Rattle.hx_allow.specs.TableLines.{Table}
use Rattle.hx_framing.specs.declared.messages.Next.TheVariants as next
use Rattle.hx_framing.specs.Text.{continue_text}
use Rattle.hx_status.specs.declared.about.ReplyData.{ReplyData}
use Rattle.proxy_core.specs.AnsweredRequests.{request_of_exchange}
use Rattle.proxy_core.specs.Outcomes.{find_exchange}
use Rattle.proxy_core.specs.State.{bounds_of}
use Rattle.proxy_core.specs.Traces.{Item, initial_state as core_begun}
use Rattle.proxy_core.specs.Starts.{StoreAtStart, StoreAtStartIsValid, HoldsForEachResponseAtStart}
use Rattle.proxy_core_laws.specs.SentMessages.{StartResponseCanBeSent, MessagesOfTraceWereRead, BytesAreOneRequest}
use Rattle.proxy_core_laws.specs.SentMessages.{BytesAreOneResponse}
use Rattle.hx_allow.specs.Tables.{TableWasRead}
use Rattle.proxy_script.specs.declared.effect_list.Effect.{Effect}
use Rattle.proxy_script.specs.declared.effect_list.Effect.TheVariants as effects
use Rattle.proxy_engine.specs.EngineModel.{EngineModel, link_at}
use Rattle.proxy_engine.specs.Due.{Act, Abandons, Finishes, Wakes, Serves}
use Rattle.proxy_engine.specs.Acts.{request_is_head}
use Rattle.proxy_engine.specs.State.{new_engine_model}
use Rattle.proxy_engine.specs.Executions.{ExecutionStep, Took, Worked, StepLeadsToModel, StepsLeadToModel}
use Rattle.proxy_engine.specs.Executions.{StepsHaveTrace}
use Rattle.proxy_engine.specs.Executions.{effects_of_steps}

-- each act was done before the year 10000, as `work` asks
abbrev pub ActsAreBeforeYear10000 : List ExecutionStep → Type 0
ActsAreBeforeYear10000 [] = Unit {0}
ActsAreBeforeYear10000 (Took happening ∷ past) = ActsAreBeforeYear10000 past
ActsAreBeforeYear10000 (Worked now act emitted ∷ past) = (now < START_OF_YEAR_10000) × ActsAreBeforeYear10000 past

-- the request that an act is about is a HEAD: that of the exchange that is open on its connection, or the one that its
-- stream spells
abbrev pub act_is_of_head_request : EngineModel → Act → Bool
act_is_of_head_request s (Abandons i l) = request_is_head (request_of_exchange (find_exchange (i + 1) s.core.exchanges))
act_is_of_head_request s (Finishes j finish) =
    request_is_head (request_of_exchange (find_exchange ((link_at s j).connection + 1) s.core.exchanges))
act_is_of_head_request s (Wakes i) = request_is_head (request_of_exchange (find_exchange (i + 1) s.core.exchanges))
act_is_of_head_request s (Serves i (next.Message request)) = bytes_eq request.method (codes "HEAD")
act_is_of_head_request s (Serves i next.More) = false
act_is_of_head_request s (Serves i next.NeedsContinue) = false
act_is_of_head_request s (Serves i (next.Refused fault)) = false
act_is_of_head_request s (Serves i next.End) = false

-- a forward is one request, by a proxy of this name
abbrev pub ForwardIsOneRequest : List ℕ → Effect → Type 0
ForwardIsOneRequest name (effects.Forward l address bytes) = BytesAreOneRequest name bytes
ForwardIsOneRequest name (effects.Client n bytes replied) = Unit {0}
ForwardIsOneRequest name (effects.Close n) = Unit {0}
ForwardIsOneRequest name (effects.Drop l) = Unit {0}

-- what a client gets is the 25 bytes of a continue, or one response
abbrev pub ReplyIsOneResponse : Bool → Effect → Type 0
ReplyIsOneResponse to_head (effects.Client n bytes replied) =
    (bytes ≡ continue_text) ⊎ BytesAreOneResponse to_head bytes
ReplyIsOneResponse to_head (effects.Forward l address bytes) = Unit {0}
ReplyIsOneResponse to_head (effects.Close n) = Unit {0}
ReplyIsOneResponse to_head (effects.Drop l) = Unit {0}

-- what its store may hold at first, and can be sent
pub record StoreAtStartCanBeServed (table : Table) (start : StoreAtStart) (first : ℕ) : Type 0 where
  pub stands : StoreAtStartIsValid (bounds_of table start.limit) (Some first) start.entries
  pub can_be_sent : HoldsForEachResponseAtStart StartResponseCanBeSent start

-- ---- the statements

-- whatever an engine lives through, its core is handed requests and answers that were read
abbrev pub CoreIsHandedReadMessages : Type 0
CoreIsHandedReadMessages =
    (table : Table) (begin last : EngineModel) (steps : List ExecutionStep) (trace : List Item)
    → StepsHaveTrace table begin steps last trace → MessagesOfTraceWereRead trace

-- Whatever an engine with a table that was read lives through, each request that it forwards is one: within the limits
-- of a reader it is read back as it was sent, and what stands behind it is left.
abbrev pub EachForwardIsOneRequest : Type 0
EachForwardIsOneRequest =
    (table : Table) (start : StoreAtStart) (first link : ℕ) (steps : List ExecutionStep) (t : EngineModel)
    → TableWasRead table
    → StoreAtStartCanBeServed table start first
    → StepsLeadToModel (new_engine_model (core_begun table start first) link) steps t
    → (l : ℕ) (address : SocketAddrV4) (bytes : List ℕ)
    → Contains (effects_of_steps steps) (effects.Forward l address bytes)
    → BytesAreOneRequest table.name bytes

-- And whatever act it does then, what a client gets for it is a continue or one response, for a client that knows
-- whether it asked by HEAD.
abbrev pub EachReplyIsOneResponse : Type 0
EachReplyIsOneResponse =
    (table : Table) (start : StoreAtStart) (first link now : ℕ) (past : List ExecutionStep) (s t : EngineModel)
    (act : Act)
    (emitted : List Effect)
    → TableWasRead table → StoreAtStartCanBeServed table start first
    → StepsLeadToModel (new_engine_model (core_begun table start first) link) past s → now < START_OF_YEAR_10000
    → StepLeadsToModel s (Worked now act emitted) t
    → All (ReplyIsOneResponse (act_is_of_head_request s act)) emitted

-- so it is of all that clients ever got
abbrev pub EachTextToClientIsOneResponse : Type 0
EachTextToClientIsOneResponse =
    (table : Table) (start : StoreAtStart) (first link : ℕ) (steps : List ExecutionStep) (t : EngineModel)
    → TableWasRead table
    → StoreAtStartCanBeServed table start first
    → StepsLeadToModel (new_engine_model (core_begun table start first) link) steps t
    → ActsAreBeforeYear10000 steps
    → (n : ℕ) (bytes : List ℕ) (replied : Option ReplyData)
    → Contains (effects_of_steps steps) (effects.Client n bytes replied)
    → (bytes ≡ continue_text) ⊎ ((to_head : Bool) × BytesAreOneResponse to_head bytes)
