-- What an engine hands to its core as an answer was read from an origin's stream, and so has a final status (RFC 9110,
-- section 15): interim responses end no exchange.
--
-- LinkSpellsAnswer, ConnectionSpellsRequest: what a link's and a connection's stream spells next
-- ActIsSpelledByStreams: what an act is about
-- EventHasFinalStatus: of an answer     EachDueActIsSpelledByItsStream, EachAnswerWasReadFromAStream,
-- EachAnswerHasFinalStatus: the statements
use Rattle.std.specs.Prelude.{◌≡◌, ℕ, ◌≤◌, false, List, [], Some}
use Rattle.std.specs.List.{AllByRecursion}
use Rattle.hx_allow.specs.TableLines.{Table}
use Rattle.hx_framing.specs.declared.messages.Request.{Request}
use Rattle.hx_framing.specs.declared.messages.Response.{Response}
use Rattle.hx_framing.specs.declared.messages.Next.TheVariants as next
use Rattle.hx_framing.specs.Reading.{Spelled}
use Rattle.hx_framing.specs.RequestReading.{ReadsAs as ReadsRequest}
use Rattle.hx_framing.specs.RequestStream.{StreamSpells}
use Rattle.hx_framing.specs.ResponseReading.{ReadsAs as ReadsResponse}
use Rattle.proxy_core.specs.declared.event.Event.{Event}
use Rattle.proxy_core.specs.declared.event.Event.TheVariants as events
use Rattle.proxy_core.specs.ReadAnswers.{EventIsReadFromAStream}
use Rattle.proxy_core.specs.Traces.{Item}
use Rattle.proxy_engine.specs.EngineModel.{EngineModel, ConnectionModel, LinkModel, connection_at, link_at}
use Rattle.proxy_engine.specs.Due.{Act, Abandons, Finishes, Wakes, Serves, Gives, Breaks, IsFirstDueAct}
use Rattle.proxy_engine.specs.Due.{accepts_no_request}
use Rattle.proxy_engine.specs.Executions.{ExecutionStep, StepsHaveTrace}

-- the link isn't dropped, and this is the response that its stream spells: none was given of it
pub record LinkSpellsAnswer (k : LinkModel) (response : Response) : Type 0 where
  pub still : k.dropped ≡ false
  pub none_given : k.progress.given ≡ []
  pub rest : List ℕ
  pub reads : ReadsResponse k.progress.max_body k.progress.to_head k.progress.ended k.progress.stream
      (Spelled response rest)

-- the connection is open and has no open exchange, and this is the request that its stream spells behind those that
-- were given of it
pub record ConnectionSpellsRequest (c : ConnectionModel) (request : Request) : Type 0 where
  pub free : accepts_no_request c.gone c.closed c.activity ≡ false
  pub behind : List ℕ
  pub given : StreamSpells c.progress.max_body c.progress.stream c.progress.given behind
  pub rest : List ℕ
  pub reads : ReadsRequest c.progress.max_body c.progress.ended c.progress.continue_sent behind (Spelled request rest)

-- the message that an act is about is what the stream of its own end spells next
abbrev pub ActIsSpelledByStreams : EngineModel → Act → Type 0
ActIsSpelledByStreams s (Abandons i l) = Unit {0}
ActIsSpelledByStreams s (Finishes j (Gives response)) = LinkSpellsAnswer (link_at s j) response
ActIsSpelledByStreams s (Finishes j (Breaks kind)) = Unit {0}
ActIsSpelledByStreams s (Wakes i) = Unit {0}
ActIsSpelledByStreams s (Serves i (next.Message request)) = ConnectionSpellsRequest (connection_at s i) request
ActIsSpelledByStreams s (Serves i next.More) = Unit {0}
ActIsSpelledByStreams s (Serves i next.NeedsContinue) = Unit {0}
ActIsSpelledByStreams s (Serves i (next.Refused fault)) = Unit {0}
ActIsSpelledByStreams s (Serves i next.End) = Unit {0}

-- an event that is no answer, or an answer with a status from 200 to 599
abbrev pub EventHasFinalStatus : Event → Type 0
EventHasFinalStatus (events.Answer now id response) = (200 ≤ response.status) × (response.status ≤ 599)
EventHasFinalStatus (events.Arrive now id asked) = Unit {0}
EventHasFinalStatus (events.Fail now id kind) = Unit {0}
EventHasFinalStatus (events.Wake now id) = Unit {0}
EventHasFinalStatus (events.Abandon id) = Unit {0}
EventHasFinalStatus (events.Overdue id) = Unit {0}

-- whatever act is due
abbrev pub EachDueActIsSpelledByItsStream : Type 0
EachDueActIsSpelledByItsStream = (s : EngineModel) (act : Act) → IsFirstDueAct s (Some act)
    → ActIsSpelledByStreams s act

-- from whatever model steps lead on, so is each event that their acts ask the core about
abbrev pub HoldsForEachCoreEvent : (Event → Type 0) → Type 0
HoldsForEachCoreEvent Is =
    (table : Table) (begin last : EngineModel) (steps : List ExecutionStep) (trace : List Item)
    → StepsHaveTrace table begin steps last trace →
    AllByRecursion (λ item. Is item.event) trace

abbrev pub EachAnswerWasReadFromAStream : Type 0
EachAnswerWasReadFromAStream = HoldsForEachCoreEvent EventIsReadFromAStream

abbrev pub EachAnswerHasFinalStatus : Type 0
EachAnswerHasFinalStatus = HoldsForEachCoreEvent EventHasFinalStatus
