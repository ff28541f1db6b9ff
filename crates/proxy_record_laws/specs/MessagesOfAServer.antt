-- What a server writes, and to whom: the laws of turns, for the turns of a server.
--
-- EachWriteOfAServerIsOneMessage: each write of its turns is one message
-- EachWriteOfALifeIsOneMessage: the same of a server that began with a table that was read
-- RepliesOfAServerFollowRequests: on each connection each reply follows its own request
use Rattle.std.specs.Prelude.{ℕ, ◌<◌, List, Result}
use Rattle.std.specs.List.{All}
use Rattle.hx_fields.specs.declared.limits.TheConstants.{START_OF_YEAR_10000}
use Rattle.hx_allow.specs.TableLines.{Table}
use Rattle.hx_store.specs.Stored.{Stored}
use Rattle.proxy_core.specs.Outcomes.{find_exchange}
use Rattle.proxy_core.specs.Starts.{HoldsForEachResponseAtStart}
use Rattle.proxy_core_laws.specs.SentMessages.{StartResponseCanBeSent}
use Rattle.proxy_engine.specs.Beginnings.{store_holding}
use Rattle.hx_allow.specs.Tables.{TableWasRead}
use Rattle.proxy_engine.specs.EngineModel.{EngineModel}
use Rattle.proxy_engine.specs.Executions.{ExecutionStep}
use Rattle.proxy_engine.specs.ConnectionNumbers.{connection_number_of_place}
use Rattle.proxy_turn.specs.Over.{calls_of_turn_over_given_ends}
use Rattle.proxy_turn.specs.Served.{EngineLivedThroughSteps}
use Rattle.proxy_turn.specs.declared.report.Report.{Report}
use Rattle.proxy_turn.specs.declared.report.TurnFault.{TurnFault}
use Rattle.proxy_turn_laws.specs.WritesOfATurn.{CallWritesOneMessage}
use Rattle.proxy_turn_laws.specs.Dialogue.{DialogueState, DialogueIsInState, LastRequestIsOpen, dialogue_of_steps}
use Rattle.proxy_server.specs.ServerState.{ServerState}
use Rattle.proxy_server.specs.Serving.{ServerTurn}
use Rattle.proxy_record_laws.specs.LivesOfAServer.{ServerLife, ServerBegins, LifeContinuesByTurn, TurnsLeadToLife}

-- Where the engine of a server, whose table was read, has lived by some steps, each write on the server's own
-- sockets in its next turn is one message (RFC 9112, sections 11.1 and 11.2): whatever was lost in front of the turn.
abbrev pub EachWriteOfAServerIsOneMessage : Type 0
EachWriteOfAServerIsOneMessage =
    (a b : ServerState) (held : List Stored) (first link : ℕ) (steps : List ExecutionStep) (s : EngineModel)
    (reported : Result Report TurnFault)
    → TableWasRead a.engine.core.table
    → HoldsForEachResponseAtStart StartResponseCanBeSent (store_holding a.engine.core.table held)
    → EngineLivedThroughSteps a.engine held first link steps s → a.moment < START_OF_YEAR_10000
    → (served : ServerTurn s a b reported)
    → All (CallWritesOneMessage a.engine.core.table.name)
    (calls_of_turn_over_given_ends served.handed_in.losses.after served.turn.turns.accepts served.turn.turns.reads
    served.turn.turns.rounds)

-- So a server that began with a table that was read, over a store whose responses can be sent, has written one message
-- each, in each turn that it served.
abbrev pub EachWriteOfALifeIsOneMessage : Type 0
EachWriteOfALifeIsOneMessage =
    (bytes : List ℕ) (table : Table) (kept : List Stored) (serial : ℕ) (begin l m : ServerLife)
    (turns : List (Result Report TurnFault)) (reported : Result Report TurnFault)
    → HoldsForEachResponseAtStart StartResponseCanBeSent (store_holding table kept)
    → ServerBegins bytes table kept serial begin → TurnsLeadToLife begin turns l
    → (on : LifeContinuesByTurn l reported m)
    → All (CallWritesOneMessage table.name)
    (calls_of_turn_over_given_ends on.served.handed_in.losses.after on.served.turn.turns.accepts
    on.served.turn.turns.reads
    on.served.turn.turns.rounds)

-- Whatever a server lives through, on each connection each reply follows its own request (RFC 9112, section 9.3.2).
abbrev pub RepliesOfAServerFollowRequests : Type 0
RepliesOfAServerFollowRequests =
    (bytes : List ℕ) (table : Table) (kept : List Stored) (serial : ℕ) (begin l : ServerLife)
    (turns : List (Result Report TurnFault)) (i : ℕ)
    → ServerBegins bytes table kept serial begin → TurnsLeadToLife begin turns l
    → (standing : DialogueState) × DialogueIsInState standing (dialogue_of_steps i l.steps)
    × LastRequestIsOpen standing (dialogue_of_steps i l.steps)
    (find_exchange (connection_number_of_place i) l.model.core.exchanges)
