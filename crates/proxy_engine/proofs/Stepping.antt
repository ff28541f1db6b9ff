-- The core's steps, done on both sides.
use Rattle.std.proofs.Common.{◌≡◌, ℕ, ◌+◌, ◌<◌, ◌≤◌, ◌^◌, List, [], ◌∷◌, length, refl, sym, ap, ◌∙◌, subst, arith, Bool, true, false, Option, Some, None, is_some, Ok}
use Rattle.std.specs.Option.{option_map}
use Rattle.hx_framing.specs.declared.messages.Request.{Request}
use Rattle.hx_framing.specs.declared.messages.Next.TheVariants as next
use Rattle.hx_hop.specs.declared.request_view.Asked.{Asked}
use Rattle.proxy_engine.specs.Admitted.{RequestIsAdmittedOrRefused, asked_closing_if_retired}
use Rattle.hx_allow.specs.TableLines.{Table}
use Rattle.hx_store.specs.Stored.{Stored}
use Rattle.hx_status.specs.declared.question.MethodAndTarget.{MethodAndTarget}
use Rattle.proxy_core.specs.AnsweredRequests.{request_of_exchange, request_answered}
use Rattle.proxy_core.specs.Outcomes.{outcome_of_event_at_exchange, find_exchange}
use Rattle.proxy_core.specs.declared.open.exchange.Exchange.{Exchange}
use Rattle.proxy_core.specs.declared.event.Event.{Event}
use Rattle.proxy_core.specs.Replies.{is_head}
use Rattle.proxy_core.specs.State.{State as CoreState, StepIsAccepted}
use Rattle.proxy_core.specs.declared.outcome.Outcome.{Outcome}
use Rattle.proxy_core.specs.declared.outcome.Outcome.TheVariants as outcomes
use Rattle.proxy_core.specs.declared.event.Event.TheVariants as events
use Rattle.proxy_script.specs.declared.effect_list.Effect.{Effect}
use Rattle.proxy_script.specs.declared.effect_list.Effect.TheVariants as effects
use Rattle.hx_framing.specs.declared.messages.Response.{Response}
use Rattle.hx_status.specs.declared.cause.FailKind.{FailKind}
use Rattle.proxy_engine.specs.declared.endpoints.lookahead.Lookahead.{Lookahead}
use Rattle.proxy_engine.specs.declared.endpoints.lookahead.Lookahead.TheVariants.{Unknown, Quiet, Due}
use Rattle.proxy_engine.specs.declared.endpoints.activities.Activity.TheVariants.{Free}
use Rattle.proxy_engine.specs.Questions.{question_of_request}
use Rattle.proxy_engine.specs.EngineModel.{EngineModel, connection_at, link_at, with_changed_connection, model_with_core}
use Rattle.proxy_engine.specs.Due.{Abandons, LinkResult, Gives, Breaks, Finishes, Wakes, Serves, IsFirstDueAct}
use Rattle.proxy_engine.specs.Acts.{OutcomeOnConnection, CoreIsStepped, ExchangeOnLinkIsFinished, request_is_head, outcome_with_origin_address, connection_with_activity, connection_with_due_answer_used, model_after_link_freed, effects_of_outcome, model_after_outcome, next_link_number}
use Rattle.proxy_engine.specs.State.{LinkRepresents, EngineRepresents, engine_state_of_parts, link_result_of_lookahead, link_result_at, work_left_of_link_result, work_left_of_link, EngineDoesAct, NoActWasDoneBecauseOf}
use Rattle.proxy_engine.specs.Actions.{link_result_is_answer, ExchangeIsFinishedBy, IsFaultOfFinishingExchange}
use Rattle.proxy_engine.specs.declared.work.EngineFault.TheVariants.{OutOfMemory, Spent}
use Rattle.proxy_engine.specs.declared.endpoints.ends.Connection.{Connection}
use Rattle.proxy_engine.specs.declared.endpoints.ends.Link.{Link}
use Rattle.proxy_engine.proofs.Parts.{both_length}
use Rattle.proxy_engine.proofs.Changes.{changed_core}

-- a request has arrived
pub arrived_done : (s : EngineModel) (cs1 cs2 : List (Option Connection)) (ks1 ks2 : List (Option Link)) (core core1 : CoreState) (first now i : ℕ) (r : Request) (asked : Asked) (o : Outcome) (table : Table) (to_head : Bool) (question : Option MethodAndTarget) (emitted : List Effect)
    → RequestIsAdmittedOrRefused r (Ok asked) → StepIsAccepted core (events.Arrive now (i + 1) (asked_closing_if_retired (connection_at s i).retired asked)) o core1 → first + length ks1 < 2 ^ 64
    → table ≡ core.table → to_head ≡ is_head asked → question ≡ Some (question_of_request asked)
    → emitted ≡ effects_of_outcome i (first + length ks1) question (outcome_with_origin_address table o)
    → ((t : EngineModel) (k : CoreState) → k.table.max_body ≡ table.max_body → EngineRepresents (engine_state_of_parts cs1 ks1 k first) t → EngineRepresents (engine_state_of_parts cs2 ks2 k first) (model_after_outcome i to_head (outcome_with_origin_address table o) t))
    → EngineRepresents (engine_state_of_parts cs1 ks1 core first) (with_changed_connection s i (connection_with_due_answer_used (next.Message r))) → EngineDoesAct s now (Serves i (next.Message r)) emitted (engine_state_of_parts cs2 ks2 core1 first)
arrived_done s cs1 cs2 ks1 ks2 core core1 first now i r asked o table to_head question emitted is_asked steps small same head asks has_trace applies before =
    let upstream : outcome_with_origin_address table o ≡ outcome_with_origin_address core.table o = ap (λ (t : Table). outcome_with_origin_address t o) same in
    let most : table.max_body ≡ core.table.max_body = ap (λ (t : Table). t.max_body) same in
    let passed = with_changed_connection s i (connection_with_due_answer_used (next.Message r)) in
    let core_is : core ≡ s.core = before.core in
    let stepped : EngineRepresents (engine_state_of_parts cs1 ks1 core1 first) (model_with_core passed core1) = changed_core cs1 ks1 core first core1 passed before in
    let coming : outcome_with_origin_address table o ≡ outcome_with_origin_address s.core.table o = upstream ∙ ap (λ (k : CoreState). outcome_with_origin_address k.table o) core_is in
    let links : length ks1 ≡ length s.links = both_length LinkRepresents ks1 s.links before.links in
    let first_is : first ≡ s.first = before.first in
    let number : first + length ks1 ≡ next_link_number s = omega (arith, links, first_is) in
    let most_after : core1.table.max_body ≡ table.max_body = ap (λ (k : CoreState). k.table.max_body) steps.leaves ∙ sym most in
    let done = applies (model_with_core passed core1) core1 most_after stepped in
    record {
      after = model_after_outcome i (is_head asked) (outcome_with_origin_address s.core.table o) (model_with_core passed core1);
      does = (
        Ok asked,
        is_asked,
        (
          omega (arith, number, small),
          record {
            outcome = o;
            core = core1;
            steps = subst (λ (k : CoreState). StepIsAccepted k (events.Arrive now (i + 1) (asked_closing_if_retired (connection_at s i).retired asked)) o core1) core_is steps;
            emitted_is = has_trace
                ∙ (ap (λ n. effects_of_outcome i n question (outcome_with_origin_address table o)) number
                ∙ (ap (effects_of_outcome i (next_link_number s) question) coming
                ∙ ap (λ (q : Option MethodAndTarget). effects_of_outcome i (next_link_number s) q (outcome_with_origin_address s.core.table o)) asks));
            after_is = refl;
          },
        ),
      );
      represents = subst (λ (b : Bool). EngineRepresents (engine_state_of_parts cs2 ks2 core1 first) (model_after_outcome i b (outcome_with_origin_address s.core.table o) (model_with_core passed core1))) head
          (subst (λ (q : OutcomeOnConnection). EngineRepresents (engine_state_of_parts cs2 ks2 core1 first) (model_after_outcome i to_head q (model_with_core passed core1))) coming done);
    }

abandoned_by : (table : Table) (es : List Stored) (xs : List Exchange) (x : Option Exchange) (next : Option ℕ) (id : ℕ) → outcome_of_event_at_exchange table es xs x next (events.Abandon id) ≡ outcomes.Ended
abandoned_by table es xs None next id = refl
abandoned_by table es xs (Some x) next id = refl

-- a link whose connection is gone is dropped
pub abandoned_done : (s : EngineModel) (cs1 : List (Option Connection)) (ks1 : List (Option Link)) (core core1 : CoreState) (first now i l : ℕ) (o : Outcome) (emitted : List Effect) → StepIsAccepted core (events.Abandon (i + 1)) o core1
    → emitted ≡ effects.Drop (first + l) ∷ [] → first ≡ s.first → core ≡ s.core → EngineRepresents (engine_state_of_parts cs1 ks1 core first) (model_after_link_freed s l i) → EngineDoesAct s now (Abandons i (Some l)) emitted (engine_state_of_parts cs1 ks1 core1 first)
abandoned_done s cs1 ks1 core core1 first now i l o emitted steps is first_is core_is h =
    let ends : o ≡ outcomes.Ended = steps.outcome_is ∙ abandoned_by core.table core.entries core.exchanges (find_exchange (i + 1) core.exchanges) core.next (i + 1) in
    record {
      after = model_after_outcome i false (outcome_with_origin_address s.core.table o) (model_with_core (model_after_link_freed s l i) core1);
      does = record {
        outcome = o;
        core = core1;
        steps = subst (λ (k : CoreState). StepIsAccepted k (events.Abandon (i + 1)) o core1) core_is steps;
        emitted_is = is ∙ (ap (λ n. effects.Drop (n + l) ∷ []) first_is ∙ sym (ap (λ (q : Outcome). effects.Drop (s.first + l) ∷ effects_of_outcome i (next_link_number s) None (outcome_with_origin_address s.core.table q)) ends));
        after_is = refl;
      };
      represents = subst (λ (q : Outcome). EngineRepresents (engine_state_of_parts cs1 ks1 core1 first) (model_after_outcome i false (outcome_with_origin_address s.core.table q) (model_with_core (model_after_link_freed s l i) core1))) (sym ends) (changed_core cs1 ks1 core first core1 (model_after_link_freed s l i) h);
    }

-- one whose request waits has no link
pub given_up_done : (s : EngineModel) (cs1 : List (Option Connection)) (ks1 : List (Option Link)) (core core1 : CoreState) (first now i : ℕ) (o : Outcome) (emitted : List Effect) → StepIsAccepted core (events.Abandon (i + 1)) o core1
    → emitted ≡ [] → core ≡ s.core → EngineRepresents (engine_state_of_parts cs1 ks1 core first) (with_changed_connection s i (connection_with_activity Free)) → EngineDoesAct s now (Abandons i None) emitted (engine_state_of_parts cs1 ks1 core1 first)
given_up_done s cs1 ks1 core core1 first now i o emitted steps is core_is h =
    let ends : o ≡ outcomes.Ended = steps.outcome_is ∙ abandoned_by core.table core.entries core.exchanges (find_exchange (i + 1) core.exchanges) core.next (i + 1) in
    let free = with_changed_connection s i (connection_with_activity Free) in
    record {
      after = model_after_outcome i false (outcome_with_origin_address s.core.table o) (model_with_core free core1);
      does = record {
        outcome = o;
        core = core1;
        steps = subst (λ (k : CoreState). StepIsAccepted k (events.Abandon (i + 1)) o core1) core_is steps;
        emitted_is = is ∙ sym (ap (λ (q : Outcome). effects_of_outcome i (next_link_number s) None (outcome_with_origin_address s.core.table q)) ends);
        after_is = refl;
      };
      represents = subst (λ (q : Outcome). EngineRepresents (engine_state_of_parts cs1 ks1 core1 first) (model_after_outcome i false (outcome_with_origin_address s.core.table q) (model_with_core free core1))) (sym ends) (changed_core cs1 ks1 core first core1 free h);
    }

-- a reply answers the request of its exchange, and nothing else says what it answers
answer_said : (i n : ℕ) (table : Table) (x : Option Exchange) (o : Outcome)
    → effects_of_outcome i n (option_map question_of_request (request_answered x o)) (outcome_with_origin_address table o) ≡ effects_of_outcome i n (option_map question_of_request (request_of_exchange x)) (outcome_with_origin_address table o)
answer_said i n table x (outcomes.Reply r) = refl
answer_said i n table x (outcomes.Forward line bytes) = refl
answer_said i n table x (outcomes.Waits leader) = refl
answer_said i n table x outcomes.Ended = refl
answer_said i n table x outcomes.WaitsNoMore = refl

said_in_model : (s : EngineModel) (core : CoreState) (i n : ℕ) (table : Table) (o : Outcome) (question : Option MethodAndTarget) → question ≡ option_map question_of_request (request_answered (find_exchange (i + 1) core.exchanges) o) → core ≡ s.core
    → effects_of_outcome i n question (outcome_with_origin_address table o) ≡ effects_of_outcome i n (option_map question_of_request (request_of_exchange (find_exchange (i + 1) s.core.exchanges))) (outcome_with_origin_address table o)
said_in_model s core i n table o question asks core_is =
    ap (λ (q : Option MethodAndTarget). effects_of_outcome i n q (outcome_with_origin_address table o)) asks
    ∙ (answer_said i n table (find_exchange (i + 1) core.exchanges) o
    ∙ ap (λ (k : CoreState). effects_of_outcome i n (option_map question_of_request (request_of_exchange (find_exchange (i + 1) k.exchanges))) (outcome_with_origin_address table o)) core_is)

-- a request that waited was judged anew
pub woken_done : (s : EngineModel) (cs1 cs2 : List (Option Connection)) (ks1 ks2 : List (Option Link)) (core core1 : CoreState) (first now i : ℕ) (o : Outcome) (table : Table) (to_head : Bool) (question : Option MethodAndTarget) (emitted : List Effect)
    → StepIsAccepted core (events.Wake now (i + 1)) o core1 → first + length ks1 < 2 ^ 64
    → table ≡ core.table → to_head ≡ request_is_head (request_of_exchange (find_exchange (i + 1) core.exchanges))
    → question ≡ option_map question_of_request (request_answered (find_exchange (i + 1) core.exchanges) o)
    → emitted ≡ effects_of_outcome i (first + length ks1) question (outcome_with_origin_address table o)
    → ((t : EngineModel) (k : CoreState) → k.table.max_body ≡ table.max_body → EngineRepresents (engine_state_of_parts cs1 ks1 k first) t → EngineRepresents (engine_state_of_parts cs2 ks2 k first) (model_after_outcome i to_head (outcome_with_origin_address table o) t))
    → EngineRepresents (engine_state_of_parts cs1 ks1 core first) (with_changed_connection s i (connection_with_activity Free)) → EngineDoesAct s now (Wakes i) emitted (engine_state_of_parts cs2 ks2 core1 first)
woken_done s cs1 cs2 ks1 ks2 core core1 first now i o table to_head question emitted steps small same head asks has_trace applies before =
    let upstream : outcome_with_origin_address table o ≡ outcome_with_origin_address core.table o = ap (λ (t : Table). outcome_with_origin_address t o) same in
    let most : table.max_body ≡ core.table.max_body = ap (λ (t : Table). t.max_body) same in
    let free = with_changed_connection s i (connection_with_activity Free) in
    let core_is : core ≡ s.core = before.core in
    let stepped : EngineRepresents (engine_state_of_parts cs1 ks1 core1 first) (model_with_core free core1) = changed_core cs1 ks1 core first core1 free before in
    let coming : outcome_with_origin_address table o ≡ outcome_with_origin_address s.core.table o = upstream ∙ ap (λ (k : CoreState). outcome_with_origin_address k.table o) core_is in
    let heads : to_head ≡ request_is_head (request_of_exchange (find_exchange (i + 1) s.core.exchanges)) = head ∙ ap (λ (k : CoreState). request_is_head (request_of_exchange (find_exchange (i + 1) k.exchanges))) core_is in
    let links : length ks1 ≡ length s.links = both_length LinkRepresents ks1 s.links before.links in
    let first_is : first ≡ s.first = before.first in
    let number : first + length ks1 ≡ next_link_number s = omega (arith, links, first_is) in
    let most_after : core1.table.max_body ≡ table.max_body = ap (λ (k : CoreState). k.table.max_body) steps.leaves ∙ sym most in
    let done = applies (model_with_core free core1) core1 most_after stepped in
    record {
      after = model_after_outcome i (request_is_head (request_of_exchange (find_exchange (i + 1) s.core.exchanges))) (outcome_with_origin_address s.core.table o) (model_with_core free core1);
      does = (
        omega (arith, number, small),
        record {
          outcome = o;
          core = core1;
          steps = subst (λ (k : CoreState). StepIsAccepted k (events.Wake now (i + 1)) o core1) core_is steps;
          emitted_is = has_trace
              ∙ (ap (λ n. effects_of_outcome i n question (outcome_with_origin_address table o)) number
              ∙ (ap (effects_of_outcome i (next_link_number s) question) coming ∙ said_in_model s core i (next_link_number s) s.core.table o question asks core_is));
          after_is = refl;
        },
      );
      represents = subst (λ (b : Bool). EngineRepresents (engine_state_of_parts cs2 ks2 core1 first) (model_after_outcome i b (outcome_with_origin_address s.core.table o) (model_with_core free core1))) heads
          (subst (λ (q : OutcomeOnConnection). EngineRepresents (engine_state_of_parts cs2 ks2 core1 first) (model_after_outcome i to_head q (model_with_core free core1))) coming done);
    }

-- what stands on a link, where it goes
finished_steps : (s : EngineModel) (core core1 : CoreState) (first now i j : ℕ) (event : Event) (o : Outcome) (asked : Option Asked) (emitted : List Effect) → StepIsAccepted core event o core1 → emitted ≡ effects.Drop (first + j) ∷ effects_of_outcome i (next_link_number s) (option_map question_of_request asked) (outcome_with_origin_address core.table o)
    → first ≡ s.first → core ≡ s.core → CoreIsStepped s (model_after_link_freed s j i) i asked event (effects.Drop (s.first + j) ∷ []) emitted (model_after_outcome i (request_is_head asked) (outcome_with_origin_address s.core.table o) (model_with_core (model_after_link_freed s j i) core1))
finished_steps s core core1 first now i j event o asked emitted steps is first_is core_is = record {
  outcome = o;
  core = core1;
  steps = subst (λ (k : CoreState). StepIsAccepted k event o core1) core_is steps;
  emitted_is = is ∙ (ap (λ n. effects.Drop (n + j) ∷ effects_of_outcome i (next_link_number s) (option_map question_of_request asked) (outcome_with_origin_address core.table o)) first_is ∙ ap (λ (k : CoreState). effects.Drop (s.first + j) ∷ effects_of_outcome i (next_link_number s) (option_map question_of_request asked) (outcome_with_origin_address k.table o)) core_is);
  after_is = refl;
}

finished_by : (s : EngineModel) (core core1 : CoreState) (first now i j : ℕ) (f : LinkResult) (o : Outcome) (emitted : List Effect) → (link_result_is_answer f ≡ true → next_link_number s < 2 ^ 64)
    → ExchangeIsFinishedBy core now (i + 1) f o core1 → emitted ≡ effects.Drop (first + j) ∷ effects_of_outcome i (next_link_number s) (option_map question_of_request (request_of_exchange (find_exchange (i + 1) s.core.exchanges))) (outcome_with_origin_address core.table o) → first ≡ s.first → core ≡ s.core
    → ExchangeOnLinkIsFinished s now j i f emitted (model_after_outcome i (request_is_head (request_of_exchange (find_exchange (i + 1) s.core.exchanges))) (outcome_with_origin_address s.core.table o) (model_with_core (model_after_link_freed s j i) core1))
finished_by s core core1 first now i j (Gives r) o emitted left steps is first_is core_is =
    (left refl, finished_steps s core core1 first now i j (events.Answer now (i + 1) r) o (request_of_exchange (find_exchange (i + 1) s.core.exchanges)) emitted steps is first_is core_is)
finished_by s core core1 first now i j (Breaks kind) o emitted left steps is first_is core_is =
    finished_steps s core core1 first now i j (events.Fail now (i + 1) kind) o (request_of_exchange (find_exchange (i + 1) s.core.exchanges)) emitted steps is first_is core_is

pub ends_table : (core core1 : CoreState) (now id : ℕ) (f : LinkResult) (o : Outcome) → ExchangeIsFinishedBy core now id f o core1 → core1.table ≡ core.table
ends_table core core1 now id (Gives r) o h = ap (λ (k : CoreState). k.table) h.leaves
ends_table core core1 now id (Breaks kind) o h = ap (λ (k : CoreState). k.table) h.leaves

-- an exchange was finished, or goes forward once more
pub finished_done : (s : EngineModel) (cs1 cs2 : List (Option Connection)) (ks1 ks2 : List (Option Link)) (core core1 : CoreState) (first now i j : ℕ) (f : LinkResult) (o : Outcome) (table : Table) (to_head : Bool) (question : Option MethodAndTarget) (emitted : List Effect)
    → is_some (find_exchange (i + 1) core.exchanges) ≡ true → (link_result_is_answer f ≡ true → next_link_number s < 2 ^ 64) → ExchangeIsFinishedBy core now (i + 1) f o core1 → table ≡ core.table
    → to_head ≡ request_is_head (request_of_exchange (find_exchange (i + 1) core.exchanges)) → question ≡ option_map question_of_request (request_answered (find_exchange (i + 1) core.exchanges) o) → first + length ks1 ≡ next_link_number s → emitted ≡ effects.Drop (first + j) ∷ effects_of_outcome i (first + length ks1) question (outcome_with_origin_address table o) → first ≡ s.first → core ≡ s.core → i ≡ (link_at s j).connection
    → EngineRepresents (engine_state_of_parts cs1 ks1 core first) (model_after_link_freed s j i) → ((t : EngineModel) (k : CoreState) → k.table.max_body ≡ table.max_body → EngineRepresents (engine_state_of_parts cs1 ks1 k first) t → EngineRepresents (engine_state_of_parts cs2 ks2 k first) (model_after_outcome i to_head (outcome_with_origin_address table o) t))
    → EngineDoesAct s now (Finishes j f) emitted (engine_state_of_parts cs2 ks2 core1 first)
finished_done s cs1 cs2 ks1 ks2 core core1 first now i j f o table to_head question emitted there left steps same head asks number is first_is core_is owner gone applies =
    let upstream : outcome_with_origin_address table o ≡ outcome_with_origin_address core.table o = ap (λ (t : Table). outcome_with_origin_address t o) same in
    let most : table.max_body ≡ core.table.max_body = ap (λ (t : Table). t.max_body) same in
    let behind = model_with_core (model_after_link_freed s j i) core1 in
    let has_trace : emitted ≡ effects.Drop (first + j) ∷ effects_of_outcome i (next_link_number s) (option_map question_of_request (request_of_exchange (find_exchange (i + 1) s.core.exchanges))) (outcome_with_origin_address core.table o) =
    is
    ∙ (ap (λ n. effects.Drop (first + j) ∷ effects_of_outcome i n question (outcome_with_origin_address table o)) number
    ∙ (ap (λ (q : OutcomeOnConnection). effects.Drop (first + j) ∷ effects_of_outcome i (next_link_number s) question q) upstream
    ∙ ap (λ (es : List Effect). effects.Drop (first + j) ∷ es) (said_in_model s core i (next_link_number s) core.table o question asks core_is))) in
    let most_after : core1.table.max_body ≡ table.max_body = ap (λ (t : Table). t.max_body) (ends_table core core1 now (i + 1) f o steps) ∙ sym most in
    let stepped = applies behind core1 most_after (changed_core cs1 ks1 core first core1 (model_after_link_freed s j i) gone) in
    let emitted_way : EngineRepresents (engine_state_of_parts cs2 ks2 core1 first) (model_after_outcome i to_head (outcome_with_origin_address s.core.table o) behind) =
    subst (λ (q : OutcomeOnConnection). EngineRepresents (engine_state_of_parts cs2 ks2 core1 first) (model_after_outcome i to_head q behind)) (upstream ∙ ap (λ (k : CoreState). outcome_with_origin_address k.table o) core_is) stepped in
    let emitted_head : EngineRepresents (engine_state_of_parts cs2 ks2 core1 first) (model_after_outcome i (request_is_head (request_of_exchange (find_exchange (i + 1) s.core.exchanges))) (outcome_with_origin_address s.core.table o) behind) =
    subst (λ (b : Bool). EngineRepresents (engine_state_of_parts cs2 ks2 core1 first) (model_after_outcome i b (outcome_with_origin_address s.core.table o) behind)) (head ∙ ap (λ (k : CoreState). request_is_head (request_of_exchange (find_exchange (i + 1) k.exchanges))) core_is) emitted_way in
    let after = model_after_outcome i (request_is_head (request_of_exchange (find_exchange (i + 1) s.core.exchanges))) (outcome_with_origin_address s.core.table o) behind in
    record {
      after = after;
      does = subst (λ (n : ℕ). ExchangeOnLinkIsFinished s now j n f emitted after) owner (finished_by s core core1 first now i j f o emitted left steps has_trace first_is core_is);
      represents = emitted_head;
    }

-- an exchange that isn't finished, since no number is left
pub exhausted_failed : (s : EngineModel) (j : ℕ) (f : LinkResult) → link_result_is_answer f ≡ true → 2 ^ 64 ≤ next_link_number s → IsFirstDueAct s (Some (Finishes j f)) → NoActWasDoneBecauseOf s Spent
exhausted_failed s j (Gives r) may many due = (Finishes j (Gives r), due, tt, many)
exhausted_failed s j (Breaks kind) may many due = absurd (cc)

pub exhausted_found : (exhausted : Bool) (f : LinkResult) → exhausted ≡ true → link_result_is_answer f ≡ true → IsFaultOfFinishingExchange exhausted f Spent
exhausted_found exhausted (Gives r) none may = none
exhausted_found exhausted (Breaks kind) none may = absurd (cc)

-- one that isn't finished because memory ran out, where a number is left or none is asked for
pub memory_found : (exhausted : Bool) (f : LinkResult) → (link_result_is_answer f ≡ true → exhausted ≡ false) → IsFaultOfFinishingExchange exhausted f OutOfMemory
memory_found exhausted (Gives r) left = left refl
memory_found exhausted (Breaks kind) left = tt

-- a link on which something stands counts two
pub link_counts : (k : Option Link) (f : LinkResult) → link_result_at k ≡ Some f → work_left_of_link k ≡ 2
link_counts None f h = absurd (cc)
link_counts (Some k) f h = ap (λ n. 1 + n) (by_look k.reader.ahead k.failed h)
  where
    by_look : (l : Lookahead Response) (failed : Option FailKind) → link_result_of_lookahead l failed ≡ Some f → work_left_of_link_result l failed ≡ 1
    by_look Unknown None h = absurd (cc)
    by_look Unknown (Some kind) h = refl
    by_look Quiet None h = absurd (cc)
    by_look Quiet (Some kind) h = refl
    by_look (Due a) None h = refl
    by_look (Due a) (Some kind) h = refl
