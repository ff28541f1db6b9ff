-- What is told of the bytes that clients get.
use Rattle.std.proofs.Common.{◌≡◌, ◌⊎◌, inl, inr, ℕ, ◌+◌, List, [], ◌∷◌, refl, sym, ap, ◌∙◌, subst, Bool, true, false, cond, Option, None, Some}
use Rattle.std.specs.Prelude.{All, Contains}
use Rattle.std.proofs.lemmas.List.Elements.{All-nil, All-cons, All-append}
use Rattle.std.specs.Option.{option_map}
use Rattle.hx_allow.specs.TableLines.{Table}
use Rattle.hx_framing.specs.Text.{continue_text}
use Rattle.hx_hop.specs.Moments.{date_text_of}
use Rattle.hx_store.specs.Stored.{Stored}
use Rattle.hx_hop.specs.declared.request_view.Asked.{Asked}
use Rattle.proxy_core.specs.Abouts.{report_of_refusal_reply}
use Rattle.hx_status.specs.declared.about.ReplyData.{ReplyData}
use Rattle.proxy_core.specs.AnsweredRequests.{request_of_exchange}
use Rattle.proxy_core.specs.Outcomes.{outcome_of_event_at_exchange, find_exchange, exchange_id_of_event}
use Rattle.proxy_core.specs.declared.event.Event.{Event}
use Rattle.proxy_core.specs.declared.event.Event.TheVariants as events
use Rattle.proxy_core.specs.declared.open.exchange.Exchange.{Exchange}
use Rattle.proxy_core.specs.Replies.{refusal_reply_text}
use Rattle.proxy_core.specs.Traces.{Item}
use Rattle.proxy_core.specs.declared.outcome.Outcome.{Outcome}
use Rattle.proxy_core.specs.declared.outcome.Outcome.TheVariants as outcomes
use Rattle.proxy_core.specs.declared.outcome.Reply.{Reply}
use Rattle.proxy_script.specs.declared.effect_list.Effect.{Effect}
use Rattle.proxy_script.specs.declared.effect_list.Effect.TheVariants as effects
use Rattle.proxy_engine.specs.Questions.{question_of_request, request_of_event}
use Rattle.proxy_engine.specs.EngineModel.{EngineModel}
use Rattle.proxy_engine.specs.Due.{Act, Abandons, Finishes, Wakes, Serves}
use Rattle.proxy_engine.specs.Acts.{origin_address_of_line, outcome_with_origin_address, effects_of_link_drop, effects_of_outcome, next_link_number}
use Rattle.proxy_engine.specs.Executions.{Worked, StepAddsItsItemIfAnyToTrace, CoreItemIsDoneByAct, IsEffectsWithoutCoreStep, Continues, Refuses, Closes, connection_place_of_act, link_drop_effects_of_act, method_and_target_of_refused_act}
use Rattle.proxy_engine.specs.ToldReplies.{BytesToClientAreReported, EachReplyIsReportedTruthfully, EachRunReportsRepliesTruthfully, NoReplyReportsAnotherRequest, EachReplyReportsARequest}

-- a step that gives a reply answers a request: the one that arrives, or that of the exchange of its id
reply_answers : (table : Table) (es : List Stored) (xs : List Exchange) (x : Option Exchange) (next : Option ℕ) (event : Event) (r : Reply)
    → outcomes.Reply r ≡ outcome_of_event_at_exchange table es xs x next event → x ≡ find_exchange (exchange_id_of_event event) xs → (request : Asked) × (request_of_event xs event ≡ Some request)
reply_answers table es xs x next (events.Arrive now id asked) r is here = (asked, refl)
reply_answers table es xs None next (events.Answer now id response) r is here = absurd (cc)
reply_answers table es xs (Some x) next (events.Answer now id response) r is here = (x.asked, ap request_of_exchange (sym here))
reply_answers table es xs None next (events.Fail now id kind) r is here = absurd (cc)
reply_answers table es xs (Some x) next (events.Fail now id kind) r is here = (x.asked, ap request_of_exchange (sym here))
reply_answers table es xs None next (events.Wake now id) r is here = absurd (cc)
reply_answers table es xs (Some x) next (events.Wake now id) r is here = (x.asked, ap request_of_exchange (sym here))
reply_answers table es xs None next (events.Abandon id) r is here = absurd (cc)
reply_answers table es xs (Some x) next (events.Abandon id) r is here = absurd (cc)
reply_answers table es xs None next (events.Overdue id) r is here = absurd (cc)
reply_answers table es xs (Some x) next (events.Overdue id) r is here = absurd (cc)

module _ (now : ℕ) (act : Act) (place : ℕ) (exchanges : List Exchange) (past trace : List Item) where
  abbrev IsTold : Effect → Type 0
  IsTold (effects.Client n bytes replied) = (n ≡ place + 1) × BytesToClientAreReported now act exchanges past trace bytes replied
  IsTold (effects.Forward l address bytes) = Unit {0}
  IsTold (effects.Close n) = Unit {0}
  IsTold (effects.Drop l) = Unit {0}

  drops_told : (first : ℕ) (o : Option ℕ) → All IsTold (effects_of_link_drop first o)
  drops_told first None = All-nil IsTold
  drops_told first (Some l) = All-cons IsTold (effects.Drop (first + l)) [] tt (All-nil IsTold)

  drops_of_act_told : (s : EngineModel) (act : Act) → All IsTold (link_drop_effects_of_act s act)
  drops_of_act_told s (Abandons i l) = drops_told s.first l
  drops_of_act_told s (Finishes j finish) = drops_told s.first (Some j)
  drops_of_act_told s (Wakes i) = All-nil IsTold
  drops_of_act_told s (Serves i action) = All-nil IsTold

  close_told : (n : ℕ) → All IsTold (effects.Close n ∷ [])
  close_told n = All-cons IsTold (effects.Close n) [] tt (All-nil IsTold)

  close_or_none_told : (n : ℕ) (close : Bool) → All IsTold (cond close (effects.Close n ∷ []) [])
  close_or_none_told n true = close_told n
  close_or_none_told n false = All-nil IsTold

  outcome_told : (table : Table) (number : ℕ) (item : Item) (outcome : Outcome) → item.outcome ≡ outcome → trace ≡ item ∷ past
      → ((r : Reply) → outcome ≡ outcomes.Reply r → (request : Asked) × (request_of_event exchanges item.event ≡ Some request))
      → All IsTold (effects_of_outcome place number (option_map question_of_request (request_of_event exchanges item.event)) (outcome_with_origin_address table outcome))
  outcome_told table number item (outcomes.Reply r) is added answers =
      let question = option_map question_of_request (request_of_event exchanges item.event) in
      let request = answers r refl in
      All-cons IsTold (effects.Client (place + 1) r.bytes (Some (record { about = r.about; question = question }))) (cond r.close (effects.Close (place + 1) ∷ []) []) (
        refl,
        inl
            (record {
              item = item;
              reply = r;
              added = added;
              outcome_is = is;
              bytes_are = refl;
              about_is = refl;
              request = request.0;
              request_is = request.1;
              question_is = ap (option_map question_of_request) request.1;
            }),
      )
      (close_or_none_told (place + 1) r.close)
  outcome_told table number item (outcomes.Forward line bytes) is added answers =
      All-cons IsTold (effects.Forward number (origin_address_of_line table line) bytes) [] tt (All-nil IsTold)
  outcome_told table number item (outcomes.Waits leader) is added answers = All-nil IsTold
  outcome_told table number item outcomes.Ended is added answers = All-nil IsTold
  outcome_told table number item outcomes.WaitsNoMore is added answers = All-nil IsTold

  own_told : (emitted : List Effect) → trace ≡ past → IsEffectsWithoutCoreStep now place (method_and_target_of_refused_act act) emitted → All IsTold emitted
  own_told emitted added (Continues is) =
      subst (All IsTold) (sym is) (All-cons IsTold (effects.Client (place + 1) continue_text None) [] (refl, (added, refl)) (All-nil IsTold))
  own_told emitted added (Refuses why head is) =
      subst (All IsTold) (sym is)
      (All-cons IsTold (effects.Client (place + 1) (refusal_reply_text (date_text_of now) why true head) (Some (record { about = report_of_refusal_reply why head; question = method_and_target_of_refused_act act }))) (effects.Close (place + 1) ∷ [])
      (refl, inr (record { why = why; head = head; added = added; bytes_are = refl; about_is = refl; question_is = refl })) (close_told (place + 1)))
  own_told emitted added (Closes is) = subst (All IsTold) (sym is) (close_told (place + 1))

contained : {X : Type 0} (P : X → Type 0) (xs : List X) (x : X) → All P xs → Contains xs x → P x
contained P xs x all has = subst P has.2 (all has.0 x has.1)

pub told_as_it_is : EachReplyIsReportedTruthfully
told_as_it_is table s after now act emitted past trace adds n bytes replied has =
    contained Told emitted (effects.Client n bytes replied) (all_told adds) has
  where
    place : ℕ
    place = connection_place_of_act s act

    Told : Effect → Type 0
    Told = IsTold now act place s.core.exchanges past trace

    all_told : StepAddsItsItemIfAnyToTrace table s (Worked now act emitted) after past trace → All Told emitted
    all_told (inl (item, added, done)) =
        let core = s.core in
        subst (All Told) (sym done.emitted_is)
        (All-append Told (link_drop_effects_of_act s act) (effects_of_outcome place (next_link_number s) (option_map question_of_request (request_of_event core.exchanges item.event)) (outcome_with_origin_address table item.outcome))
        (drops_of_act_told now act place core.exchanges past trace s act)
        (outcome_told now act place core.exchanges past trace table (next_link_number s) item item.outcome refl added
        (λ r is. reply_answers core.table core.entries core.exchanges (find_exchange (exchange_id_of_event item.event) core.exchanges) core.next item.event r (sym is ∙ done.steps.outcome_is) refl)))
    all_told (inr (added, none, own)) = own_told now act place s.core.exchanges past trace emitted added own

pub run_tells : EachRunReportsRepliesTruthfully
run_tells table start first now begin last steps act emitted run n bytes replied has =
    let h = run.has_trace in
    (told_as_it_is table h.0 last now act emitted h.1 run.trace h.4 n bytes replied has).1

one_item : (item other : Item) → item ∷ [] ≡ other ∷ [] → item ≡ other
one_item item other h = cc

-- what a reply of the core is told to answer is the request of its step
reply_tells_request : (table : Table) (s after : EngineModel) (now : ℕ) (act : Act) (item : Item) (emitted : List Effect) → CoreItemIsDoneByAct table s now act item emitted after
    → (n : ℕ) (bytes : List ℕ) (replied : ReplyData) → Contains emitted (effects.Client n bytes (Some replied)) → (request : Asked) × (request_of_event s.core.exchanges item.event ≡ Some request) × (replied.question ≡ Some (question_of_request request))
reply_tells_request table s after now act item emitted is n bytes replied has =
    by_told (told_as_it_is table s after now act emitted [] (item ∷ []) (inl (item, refl, is)) n bytes (Some replied) has).1
  where
    by_told : BytesToClientAreReported now act s.core.exchanges [] (item ∷ []) bytes (Some replied) → (request : Asked) × (request_of_event s.core.exchanges item.event ≡ Some request) × (replied.question ≡ Some (question_of_request request))
    by_told (inl told) =
        (told.request, ap (λ (i : Item). request_of_event s.core.exchanges i.event) (one_item item told.item told.added) ∙ told.request_is, told.question_is)
    by_told (inr told) = let no : item ∷ [] ≡ [] = told.added in absurd (cc)

same_request : (a b : Asked) → Some a ≡ Some b → a ≡ b
same_request a b h = cc

pub tells_no_other : NoReplyReportsAnotherRequest
tells_no_other table s after now act item emitted is n bytes replied request here other has =
    let told = reply_tells_request table s after now act item emitted is n bytes replied has in
    other (told.2 ∙ ap (λ (a : Asked). Some (question_of_request a)) (same_request told.0 request (sym told.1 ∙ here)))

pub tells_some : EachReplyReportsARequest
tells_some table s after now act item emitted is n bytes replied none has =
    let told = reply_tells_request table s after now act item emitted is n bytes replied has in
    let no : None ≡ Some (question_of_request told.0) = sym none ∙ told.2 in
    absurd (cc)
