-- Each write of a turn is one message.
use Rattle.std.proofs.Common.{◌≡◌, ◌⊎◌, inl, inr, ℕ, ◌+◌, ◌<◌, Bool, true, false, List, [], ◌∷◌, ◌++◌, length, refl, sym, ◌∙◌, subst, append-nil, arith, Option, None, Some}
use Rattle.std.specs.Prelude.{All, Contains}
use Rattle.std.specs.List.{AllByRecursion}
use Rattle.std.proofs.lemmas.List.Elements.{All-from_recursion, recursion_from_All, All-contains_itself}
use Rattle.hx_fields.specs.declared.limits.TheConstants.{START_OF_YEAR_10000}
use Rattle.hx_allow.specs.TableLines.{Table}
use Rattle.hx_framing.specs.Text.{continue_text, request_text, request_line_text, field_lines_text, content_length_line, length_of_content, connection_close_line, crlf, content_bytes}
use Rattle.hx_framing.specs.declared.messages.Request.{Request}
use Rattle.hx_framing.specs.Reading.{Spelled}
use Rattle.hx_framing.specs.RequestReading.{ReadsAs as ReadsRequest}
use Rattle.hx_framing.specs.Written.{request_as_read_back}
use Rattle.hx_hop.specs.Forwarding.{forwarded_of}
use Rattle.hx_status.specs.declared.about.ReplyData.{ReplyData}
use Rattle.hx_status.specs.declared.cause.FailKind.{FailKind}
use Rattle.hx_status.specs.declared.cause.FailKind.TheVariants as kinds
use Rattle.std.specs.declared.net.socket_addr.SocketAddrV4.{SocketAddrV4}
use Rattle.proxy_core.specs.Starts.{StoreAtStart}
use Rattle.proxy_core.specs.Traces.{initial_state as core_begun}
use Rattle.proxy_core_laws.specs.SentMessages.{BytesAreOneRequest, BytesAreOneResponse, OneRequestIsNeitherTwoNorAPart}
use Rattle.hx_allow.specs.Tables.{TableWasRead}
use Rattle.proxy_script.specs.declared.effect_list.Effect.{Effect}
use Rattle.proxy_script.specs.declared.effect_list.Effect.TheVariants as effects
use Rattle.proxy_engine.specs.Happenings.{HappeningModel}
use Rattle.proxy_engine.specs.EngineModel.{EngineModel}
use Rattle.proxy_engine.specs.Reading.{failed_links}
use Rattle.proxy_engine.specs.Beginnings.{engine_model_at_start, store_holding}
use Rattle.proxy_engine.specs.State.{new_engine_model}
use Rattle.proxy_engine.specs.Executions.{ExecutionStep, Worked, StepsLeadToModel, effects_of_steps}
use Rattle.proxy_engine.specs.declared.work.End.{End}
use Rattle.proxy_engine_laws.specs.OneMessageEach.{StoreAtStartCanBeServed, EachForwardIsOneRequest, EachReplyIsOneResponse, ForwardIsOneRequest, ReplyIsOneResponse, act_is_of_head_request}
use Rattle.proxy_turn.specs.Calls.{Call, AcceptOutcome}
use Rattle.proxy_turn.specs.Turn.{AcceptOutcomeIfCalled, NotAsked, Failed, NoneCame, Came, EndRead, EffectFate, Carried, Passed, Lost, ActWithEffectFates, HappeningIfAnyIsTaken, happening_of_loss, end_of_effect, EffectsAreHandledWithFates, ActsAreDoneWithEffectFates, TurnIsDoneInOrder, calls_of_accept, calls_of_reads, calls_of_failed_forward, calls_of_effect, calls_of_effects, calls_of_rounds, calls_of_turn}
use Rattle.proxy_turn.specs.TurnSteps.{step_of_happening_if_any, steps_of_lost_ends, steps_of_turn, TurnStepsAreExecuted}
use Rattle.proxy_turn.specs.Over.{TurnOverGivenEndsIsDoneInOrder, calls_of_accepts, calls_of_turn_over_given_ends}
use Rattle.proxy_turn.specs.OverSteps.{steps_of_turn_over_given_ends, TurnOverGivenEndsStepsAreExecuted}
use Rattle.proxy_turn_laws.specs.WritesOfATurn.{CallWritesOneMessage, EachWriteOfATurnIsOneMessage, EachWriteOfATurnOverAllIsOneMessage, ATurnWritesOnlyWholeMessages, NoRequestIsEmpty, NoWriteHoldsTwoRequests, NothingIsWrittenToTheListener}

-- ---- lists

pub both_all : {X : Type 0} (P : X → Type 0) (xs ys : List X) → AllByRecursion P xs → AllByRecursion P ys → AllByRecursion P (xs ++ ys)
both_all P [] ys h k = k
both_all P (x ∷ xs) ys h k = (h.0, both_all P xs ys h.1 k)

behind_all : {X : Type 0} (P : X → Type 0) (xs ys : List X) → AllByRecursion P (xs ++ ys) → AllByRecursion P ys
behind_all P [] ys h = h
behind_all P (x ∷ xs) ys h = behind_all P xs ys h.1

weaker_all : {X : Type 0} (P Q : X → Type 0) (xs : List X) → ((x : X) → P x → Q x) → AllByRecursion P xs → AllByRecursion Q xs
weaker_all P Q [] f h = tt
weaker_all P Q (x ∷ xs) f h = (f x h.0, weaker_all P Q xs f h.1)

-- ---- what was lived, behind the effects of an act

module _ (begin : EngineModel) where
  loss_executed : (past : List ExecutionStep) (s : EngineModel) (o : Option HappeningModel) (t : EngineModel) → StepsLeadToModel begin past s → HappeningIfAnyIsTaken s o t → StepsLeadToModel begin (step_of_happening_if_any o past) t
  loss_executed past s None t executed takes = subst (StepsLeadToModel begin past) (sym takes) executed
  loss_executed past s (Some h) t executed takes = (s, executed, takes)

  pub losses_executed : (es : List Effect) (fs : List EffectFate) (past : List ExecutionStep) (s : EngineModel) (gone : List End) (t : EngineModel) (more : List End) → StepsLeadToModel begin past s → EffectsAreHandledWithFates s gone es fs t more → StepsLeadToModel begin (steps_of_lost_ends es fs past) t
  losses_executed [] [] past s gone t more executed here = subst (StepsLeadToModel begin past) (sym here.0) executed
  losses_executed [] (f ∷ fs) past s gone t more executed out = absurd out
  losses_executed (e ∷ es) [] past s gone t more executed out = absurd out
  losses_executed (e ∷ es) (Carried ∷ fs) past s gone t more executed out =
      losses_executed es fs past out.0 out.1 t more (subst (StepsLeadToModel begin past) (sym out.2.1) executed) out.3
  losses_executed (e ∷ es) (Passed ∷ fs) past s gone t more executed out =
      losses_executed es fs past out.0 out.1 t more (subst (StepsLeadToModel begin past) (sym out.2.1) executed) out.3
  losses_executed (e ∷ es) (Lost kind ∷ fs) past s gone t more executed out =
      losses_executed es fs (step_of_happening_if_any (happening_of_loss (end_of_effect e) kind) past) out.0 out.1 t more (loss_executed past s (happening_of_loss (end_of_effect e) kind) out.0 executed out.2.2) out.3

-- ---- the calls of effects that are one message each

module _ (name : List ℕ) where
  abbrev Writes : Call → Type 0
  Writes c = CallWritesOneMessage name c

  reply : (h : Bool) (n : ℕ) (bytes : List ℕ) (replied : Option ReplyData) → ReplyIsOneResponse h (effects.Client n bytes replied) → (bytes ≡ continue_text) ⊎ ((to_head : Bool) × BytesAreOneResponse to_head bytes)
  reply h n bytes replied (inl is) = inl is
  reply h n bytes replied (inr is) = inr (h, is)

  failed_forward : (l : ℕ) (address : SocketAddrV4) (bytes : List ℕ) (kind : FailKind) → BytesAreOneRequest name bytes → AllByRecursion Writes (calls_of_failed_forward l address bytes kind)
  failed_forward l address bytes kinds.Refused one = (tt, tt)
  failed_forward l address bytes kinds.TimedOut one = (tt, (one, tt))
  failed_forward l address bytes kinds.Closed one = (tt, (one, tt))
  failed_forward l address bytes kinds.BadAnswer one = (tt, (one, tt))
  failed_forward l address bytes kinds.TooLarge one = (tt, (one, tt))

  effect_written : (h : Bool) (e : Effect) (f : EffectFate) → ForwardIsOneRequest name e → ReplyIsOneResponse h e → AllByRecursion Writes (calls_of_effect e f)
  effect_written h (effects.Client n bytes replied) Carried one is = (reply h n bytes replied is, tt)
  effect_written h (effects.Client n bytes replied) Passed one is = tt
  effect_written h (effects.Client n bytes replied) (Lost kind) one is = (reply h n bytes replied is, tt)
  effect_written h (effects.Close n) Carried one is = (tt, tt)
  effect_written h (effects.Close n) Passed one is = tt
  effect_written h (effects.Close n) (Lost kind) one is = (tt, tt)
  effect_written h (effects.Forward l address bytes) Carried one is = (tt, (one, tt))
  effect_written h (effects.Forward l address bytes) Passed one is = tt
  effect_written h (effects.Forward l address bytes) (Lost kind) one is = failed_forward l address bytes kind one
  effect_written h (effects.Drop l) Carried one is = (tt, tt)
  effect_written h (effects.Drop l) Passed one is = tt
  effect_written h (effects.Drop l) (Lost kind) one is = (tt, tt)

  effects_written : (h : Bool) (es : List Effect) (fs : List EffectFate) → AllByRecursion (ForwardIsOneRequest name) es → AllByRecursion (ReplyIsOneResponse h) es → AllByRecursion Writes (calls_of_effects es fs)
  effects_written h [] fs one is = tt
  effects_written h (e ∷ es) [] one is = tt
  effects_written h (e ∷ es) (f ∷ fs) one is =
      both_all Writes (calls_of_effect e f) (calls_of_effects es fs) (effect_written h e f one.0 is.0) (effects_written h es fs one.1 is.1)

  accepts_written : (n : ℕ) (xs : List AcceptOutcome) → AllByRecursion Writes (calls_of_accepts n xs)
  accepts_written n [] = tt
  accepts_written n (a ∷ xs) = (tt, accepts_written (n + 1) xs)

  accept_written : (s : EngineModel) (asked : AcceptOutcomeIfCalled) → AllByRecursion Writes (calls_of_accept s asked)
  accept_written s NotAsked = tt
  accept_written s Failed = (tt, tt)
  accept_written s NoneCame = (tt, tt)
  accept_written s Came = (tt, tt)

  reads_written : (rs : List EndRead) → AllByRecursion Writes (calls_of_reads rs)
  reads_written [] = tt
  reads_written (r ∷ rs) = (tt, reads_written rs)

  forward_of : (e : Effect) → ((l : ℕ) (address : SocketAddrV4) (bytes : List ℕ) → e ≡ effects.Forward l address bytes → BytesAreOneRequest name bytes) → ForwardIsOneRequest name e
  forward_of (effects.Forward l address bytes) f = f l address bytes refl
  forward_of (effects.Client n bytes replied) f = tt
  forward_of (effects.Close n) f = tt
  forward_of (effects.Drop l) f = tt

-- ---- the rounds of a turn

module _ (forwards : EachForwardIsOneRequest) (replies : EachReplyIsOneResponse) (table : Table) (start : StoreAtStart) (first link now : ℕ) (read : TableWasRead table) (sound : StoreAtStartCanBeServed table start first) (early : now < START_OF_YEAR_10000) where
  abbrev begin_of : EngineModel
  begin_of = new_engine_model (core_begun table start first) link

  forwarded_each : (past : List ExecutionStep) (emitted : List Effect) (step : ExecutionStep) (t : EngineModel) → StepsLeadToModel begin_of (step ∷ past) t → effects_of_steps (step ∷ past) ≡ effects_of_steps past ++ emitted → AllByRecursion (ForwardIsOneRequest table.name) emitted
  forwarded_each past emitted step t executed all_are =
      let all = effects_of_steps (step ∷ past) in
      let each : AllByRecursion (ForwardIsOneRequest table.name) all = weaker_all (Contains all) (ForwardIsOneRequest table.name) all
      (λ e has. forward_of table.name e (λ l address bytes is. forwards table start first link (step ∷ past) t read sound executed l address bytes (subst (Contains all) is has)))
      (recursion_from_All (Contains all) all (All-contains_itself all)) in
      behind_all (ForwardIsOneRequest table.name) (effects_of_steps past) emitted (subst (AllByRecursion (ForwardIsOneRequest table.name)) all_are each)

  rounds_written : (rs : List ActWithEffectFates) (past : List ExecutionStep) (s : EngineModel) (gone : List End) (t : EngineModel) (more : List End) → StepsLeadToModel begin_of past s → ActsAreDoneWithEffectFates now s gone rs t more → AllByRecursion (CallWritesOneMessage table.name) (calls_of_rounds rs)
  rounds_written [] past s gone t more executed here = tt
  rounds_written (r ∷ rs) past s gone t more executed w =
      let step = Worked now r.act r.emitted in
      let worked : StepsLeadToModel begin_of (step ∷ past) w.0 = (s, executed, (w.3, w.4)) in
      both_all (CallWritesOneMessage table.name) (calls_of_effects r.emitted r.fates) (calls_of_rounds rs)
      (effects_written table.name (act_is_of_head_request s r.act) r.emitted r.fates (forwarded_each past r.emitted step w.0 worked refl)
      (recursion_from_All (ReplyIsOneResponse (act_is_of_head_request s r.act)) r.emitted (replies table start first link now past s w.0 r.act r.emitted read sound executed early (w.3, w.4))))
      (rounds_written rs (steps_of_lost_ends r.emitted r.fates (step ∷ past)) w.1 w.2 t more (losses_executed begin_of r.emitted r.fates (step ∷ past) w.0 gone w.1 w.2 worked w.5) w.6)

pub without_rounds : {A : Type 0} (reads : List EndRead) (rounds : List ActWithEffectFates) → A ⊎ ((reads ≡ []) × (rounds ≡ [])) → A ⊎ ((reads ≡ []) × (◌≡◌ {A = List ActWithEffectFates} [] []))
without_rounds reads rounds (inl is) = inl is
without_rounds reads rounds (inr are) = inr (are.0, refl)

pub writes_one_message_each : EachForwardIsOneRequest → EachReplyIsOneResponse → TurnOverGivenEndsStepsAreExecuted → EachWriteOfATurnIsOneMessage
writes_one_message_each forwards replies lives e held first link steps now bounds s given accepts reads rest rounds t read begins executed early turn =
    let name = e.core.table.name in
    let begin = engine_model_at_start e.core.table held first link in
    let before : TurnOverGivenEndsIsDoneInOrder now bounds s given accepts reads rest [] turn.read = record {
      begun = turn.begun;
      read = turn.read;
      gone = failed_links turn.read;
      few = turn.few;
      accepts_are = turn.accepts_are;
      ends = turn.ends;
      reads_are = turn.reads_are;
      works = (refl, refl);
      bound = omega arith;
      accepts_come_first = without_rounds reads rounds turn.accepts_come_first;
      reads_come_before_acts = inr refl;
    } in
    let lived : StepsLeadToModel begin (steps_of_turn_over_given_ends now s accepts reads [] steps) turn.read = lives begin steps now bounds s given accepts reads rest [] turn.read executed.executes before in
    All-from_recursion (CallWritesOneMessage name) (calls_of_turn_over_given_ends s accepts reads rounds)
    (both_all (CallWritesOneMessage name) (calls_of_accepts (length s.connections + 1) accepts) (calls_of_reads reads ++ calls_of_rounds rounds) (accepts_written name (length s.connections + 1) accepts)
    (both_all (CallWritesOneMessage name) (calls_of_reads reads) (calls_of_rounds rounds) (reads_written name reads)
    (rounds_written forwards replies e.core.table (store_holding e.core.table held) first link now read (record { stands = executed.begins; can_be_sent = begins }) early rounds (steps_of_turn_over_given_ends now s accepts reads [] steps) turn.read (failed_links turn.read) t turn.gone lived turn.works)))

pub whole_turns_write_one_message_each : EachForwardIsOneRequest → EachReplyIsOneResponse → TurnStepsAreExecuted → EachWriteOfATurnOverAllIsOneMessage
whole_turns_write_one_message_each forwards replies lives e held first link steps now s asked reads rest rounds t read begins executed early turn =
    let name = e.core.table.name in
    let begin = engine_model_at_start e.core.table held first link in
    let before : TurnIsDoneInOrder now s asked reads rest [] turn.read = record {
      begun = turn.begun;
      read = turn.read;
      gone = failed_links turn.read;
      only = turn.only;
      accepts = turn.accepts;
      ends = turn.ends;
      reads_are = turn.reads_are;
      works = (refl, refl);
      bound = omega arith;
      behind = inr refl;
    } in
    let lived : StepsLeadToModel begin (steps_of_turn now s asked reads [] steps) turn.read = lives begin steps now s asked reads rest [] turn.read executed.executes before in
    All-from_recursion (CallWritesOneMessage name) (calls_of_turn s asked reads rounds)
    (both_all (CallWritesOneMessage name) (calls_of_accept s asked) (calls_of_reads reads ++ calls_of_rounds rounds) (accept_written name s asked)
    (both_all (CallWritesOneMessage name) (calls_of_reads reads) (calls_of_rounds rounds) (reads_written name reads)
    (rounds_written forwards replies e.core.table (store_holding e.core.table held) first link now read (record { stands = executed.begins; can_be_sent = begins }) early rounds (steps_of_turn now s asked reads [] steps) turn.read (failed_links turn.read) t turn.gone lived turn.works)))

-- ---- what a turn doesn't write

contained : {X : Type 0} (P : X → Type 0) (xs : List X) (x : X) → All P xs → Contains xs x → P x
contained P xs x all has = subst P has.2 (all has.0 x has.1)

pub nothing_else_is_written : EachWriteOfATurnIsOneMessage → ATurnWritesOnlyWholeMessages
nothing_else_is_written each e held first link steps now bounds s given accepts reads rest rounds t other read begins executed early none has turn =
    none (contained (CallWritesOneMessage e.core.table.name) (calls_of_turn_over_given_ends s accepts reads rounds) other (each e held first link steps now bounds s given accepts reads rest rounds t read begins executed early turn) has)

left_empty : (xs ys : List ℕ) → [] ≡ xs ++ ys → [] ≡ xs
left_empty [] ys h = refl
left_empty (x ∷ xs) ys h = absurd (cc)

right_empty : (xs ys : List ℕ) → [] ≡ xs ++ ys → [] ≡ ys
right_empty [] ys h = h
right_empty (x ∷ xs) ys h = absurd (cc)

no_line : (x : ℕ) (xs : List ℕ) → ◌≡◌ {A = List ℕ} [] (x ∷ xs) → ⊥
no_line x xs h = absurd (cc)

-- a request has an empty line
text_not_empty : (r : Request) → [] ≡ request_text r → ⊥
text_not_empty r h =
    let front = request_line_text r ++ field_lines_text r.fields ++ content_length_line (length_of_content r.content) ++ connection_close_line true in
    no_line 13 (10 ∷ []) (right_empty front crlf (left_empty (front ++ crlf) (content_bytes r.content) h))

pub no_request_is_empty : NoRequestIsEmpty
no_request_is_empty name l replied done one = text_not_empty (forwarded_of one.keeps one.asked name one.conditions) one.text_is

pub two_are_not_one : OneRequestIsNeitherTwoNorAPart → NoWriteHoldsTwoRequests
two_are_not_one no_more name one other l most replied done first second small within both within_both =
    let reading = subst (λ (bytes : List ℕ). ReadsRequest most false false bytes (Spelled (request_as_read_back (forwarded_of both.keeps both.asked name both.conditions)) [])) (append-nil (one ++ other)) (both.alone most small within_both false false []) in
    let found = no_more name one other first most false false (request_as_read_back (forwarded_of both.keeps both.asked name both.conditions)) [] small within reading in
    text_not_empty (forwarded_of second.keeps second.asked name second.conditions) (found.1 ∙ second.text_is)

pub none_to_the_listener : NothingIsWrittenToTheListener
none_to_the_listener name bytes replied done h = h
