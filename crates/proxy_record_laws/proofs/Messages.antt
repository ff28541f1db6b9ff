-- The laws of turns, behind what was lost in front of them.
use Rattle.std.proofs.Common.{◌≡◌, ℕ, List, [], ◌∷◌, refl, sym, ap, ◌∙◌, subst, Result}
use Rattle.std.specs.Prelude.{◌<◌}
use Rattle.std.specs.List.{All}
use Rattle.hx_fields.specs.declared.limits.TheConstants.{START_OF_YEAR_10000}
use Rattle.hx_allow.specs.TableLines.{Table}
use Rattle.hx_store.specs.Stored.{Stored}
use Rattle.proxy_core.specs.State.{State as CoreState}
use Rattle.proxy_core.specs.Starts.{HoldsForEachResponseAtStart}
use Rattle.proxy_core_laws.specs.SentMessages.{StartResponseCanBeSent}
use Rattle.hx_allow.specs.Tables.{TableWasRead}
use Rattle.proxy_engine.specs.Happenings.{HappeningModel, Accepts, Sends, Hears, Ends, Leaves, Retires, Overdues, Shuts, Fails}
use Rattle.proxy_engine.specs.EngineModel.{EngineModel, model_after_happening}
use Rattle.proxy_engine.specs.Executions.{ExecutionStep, Took, StepsLeadToModel}
use Rattle.proxy_engine.specs.Beginnings.{ResponsesMayBeHeldAtStart, engine_model_at_start, store_holding}
use Rattle.proxy_turn.specs.Calls.{Call}
use Rattle.proxy_turn.specs.Over.{calls_of_turn_over_given_ends}
use Rattle.proxy_turn.specs.Served.{EngineLivedThroughSteps, EngineServesTurn, EngineContinuesByTurn, EngineKeepsItsTable, steps_taking_happenings, initial_model_of}
use Rattle.proxy_turn.specs.declared.report.Report.{Report}
use Rattle.proxy_turn.specs.declared.report.TurnFault.{TurnFault}
use Rattle.proxy_turn_laws.specs.WritesOfATurn.{CallWritesOneMessage, EachWriteOfATurnIsOneMessage}
use Rattle.proxy_turn_laws.specs.Dialogue.{RepliesFollowRequests}
use Rattle.proxy_server.specs.ServerState.{ServerState, state_at_turn_start}
use Rattle.proxy_server.specs.Serving.{server_accept_bounds, ServerTurn}
use Rattle.proxy_record_laws.specs.LivesOfAServer.{ALifeIsAnExecution, ServerLife, ServerBegins, LifeContinuesByTurn, TurnsLeadToLife}
use Rattle.proxy_record_laws.proofs.Replaying.{turn_of_engine}
use Rattle.proxy_record_laws.specs.MessagesOfAServer.{EachWriteOfAServerIsOneMessage, EachWriteOfALifeIsOneMessage, RepliesOfAServerFollowRequests}

table_heard : (s : EngineModel) (h : HappeningModel) → (model_after_happening s h).core.table ≡ s.core.table
table_heard s (Accepts n) = refl
table_heard s (Sends n bytes) = refl
table_heard s (Hears l bytes) = refl
table_heard s (Ends n) = refl
table_heard s (Leaves n) = refl
table_heard s (Retires n) = refl
table_heard s (Overdues n) = refl
table_heard s (Shuts l) = refl
table_heard s (Fails l kind) = refl

-- what is taken leaves the table
table_stays : (hs : List HappeningModel) (past : List ExecutionStep) (s t : EngineModel) → ((m : EngineModel) → StepsLeadToModel s past m → m.core.table ≡ s.core.table) → StepsLeadToModel s (steps_taking_happenings hs past) t → t.core.table ≡ s.core.table
table_stays [] past s t before leads = before t leads
table_stays (h ∷ hs) past s t before leads =
    table_stays hs (Took h ∷ past) s t (λ m (took : StepsLeadToModel s (Took h ∷ past) m). ap (λ (x : EngineModel). x.core.table) took.2.1 ∙ (table_heard took.0 h ∙ before took.0 took.1)) leads

-- it is taken behind what was lived
taken_behind : (hs : List HappeningModel) (begin s t : EngineModel) (past other : List ExecutionStep) → ((m : EngineModel) → StepsLeadToModel s past m → StepsLeadToModel begin other m) → StepsLeadToModel s (steps_taking_happenings hs past) t → StepsLeadToModel begin (steps_taking_happenings hs other) t
taken_behind [] begin s t past other before leads = before t leads
taken_behind (h ∷ hs) begin s t past other before leads =
    taken_behind hs begin s t (Took h ∷ past) (Took h ∷ other) (λ m (took : StepsLeadToModel s (Took h ∷ past) m). (took.0, before took.0 took.1, took.2)) leads

pub writes_messages : EachWriteOfATurnIsOneMessage → EachWriteOfAServerIsOneMessage
writes_messages messages a b held first link steps s reported read begins executed early served =
    let losses = served.handed_in.losses in
    let turns = served.turn.turns in
    let mid = served.mid.engine in
    let lost = steps_taking_happenings losses.lost steps in
    let same : a.engine.core.table ≡ mid.core.table =
    ap (λ (k : CoreState). k.table) executed.represents.core ∙ (sym (table_stays losses.lost [] s losses.after (λ m here. ap (λ (x : EngineModel). x.core.table) here) losses.takes) ∙ ap (λ (k : CoreState). k.table) (sym losses.represents.core)) in
    let leads = taken_behind losses.lost (initial_model_of a.engine held first link) s losses.after [] steps (λ m here. subst (StepsLeadToModel (initial_model_of a.engine held first link) steps) (sym here) executed.executes) losses.takes in
    let lived : EngineLivedThroughSteps mid held first link lost losses.after = record {
      begins = subst (λ (table : Table). ResponsesMayBeHeldAtStart table held first) same executed.begins;
      executes = subst (λ (table : Table). StepsLeadToModel (engine_model_at_start table held first link) lost losses.after) same leads;
      represents = losses.represents;
    } in
    let all = messages mid held first link lost a.moment server_accept_bounds losses.after served.given turns.accepts turns.reads turns.rest turns.rounds turns.last (subst TableWasRead same read)
    (subst (λ (table : Table). HoldsForEachResponseAtStart StartResponseCanBeSent (store_holding table held)) same begins) lived early turns.turn in
    subst (λ (table : Table). All (CallWritesOneMessage table.name) (calls_of_turn_over_given_ends losses.after turns.accepts turns.reads turns.rounds)) (sym same) all

pub replies_follow : RepliesFollowRequests → ALifeIsAnExecution → RepliesOfAServerFollowRequests
replies_follow follow executed bytes table kept serial begin l turns i begins leads =
    let e = l.server.engine in
    follow e.core.table (store_holding e.core.table kept) serial 1 l.steps l.model i (executed bytes table kept serial begin l turns begins leads).executes

-- ---- of a life

-- its table stays
life_keeps_table : EngineContinuesByTurn → EngineKeepsItsTable → ALifeIsAnExecution → (bytes : List ℕ) (table : Table) (kept : List Stored) (serial : ℕ) (begin l : ServerLife) (turns : List (Result Report TurnFault)) → ServerBegins bytes table kept serial begin → TurnsLeadToLife begin turns l → l.server.engine.core.table ≡ table
life_keeps_table by_turn keeps executed bytes table kept serial begin l [] begins same = ap (λ (k : ServerLife). k.server.engine.core.table) same ∙ begins.table_is
life_keeps_table by_turn keeps executed bytes table kept serial begin l (reported ∷ past) begins leads =
    let before = leads.0 in
    let on = leads.2 in
    let begun = state_at_turn_start on.now before.server in
    let serves : EngineServesTurn begun.moment server_accept_bounds before.server.engine on.last.engine reported =
    λ s represents orderly. turn_of_engine s begun on.last reported (on.serves s represents orderly) in
    let goes_on = by_turn before.server.engine on.last.engine begun.moment server_accept_bounds reported serves in
    let lived = executed bytes table kept serial begin before past begins leads.1 in
    let stays = (keeps before.server.engine on.last.engine goes_on (record { held = kept; first = serial; link = 1; steps = before.steps; last = before.model; executed = lived })).0 in
    ap (λ (a : ServerState). a.engine.core.table) on.server ∙ (stays ∙ life_keeps_table by_turn keeps executed bytes table kept serial begin before past begins leads.1)

pub life_writes_messages : EachWriteOfATurnIsOneMessage → EngineContinuesByTurn → EngineKeepsItsTable → ALifeIsAnExecution → EachWriteOfALifeIsOneMessage
life_writes_messages messages by_turn keeps executed bytes table kept serial begin l m turns reported can begins leads on =
    let begun = state_at_turn_start on.now l.server in
    let same : table ≡ begun.engine.core.table = sym (life_keeps_table by_turn keeps executed bytes table kept serial begin l turns begins leads) in
    let made = calls_of_turn_over_given_ends on.served.handed_in.losses.after on.served.turn.turns.accepts on.served.turn.turns.reads on.served.turn.turns.rounds in
    let lived = executed bytes table kept serial begin l turns begins leads in
    let all = writes_messages messages begun on.last kept serial 1 l.steps l.model reported (subst TableWasRead same (bytes, begins.reads)) (subst (λ (t : Table). HoldsForEachResponseAtStart StartResponseCanBeSent (store_holding t kept)) same can) lived on.early on.served in
    subst (λ (t : Table). All (CallWritesOneMessage t.name) made) (sym same) all
