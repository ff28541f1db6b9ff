-- Models keep their order, and effects name ends that are unshut.
use Rattle.std.proofs.Common.{◌≡◌, ◌⊎◌, inl, inr, ℕ, zero, suc, ◌+◌, ◌-◌, ◌<◌, List, [], ◌∷◌, ◌++◌, length, get_or, set, refl, sym, ap, ◌∙◌, subst, arith, Bool, true, false, ◌||◌, ◌&&◌, cond, Option, None, Some, is_some, map, Result, Ok, Err}
use Rattle.std.proofs.lemmas.List.{append-nil, map-set, get_or-set_same}
use Rattle.std.proofs.Math.ListN.{get_or-append, length-map, length-set}
use Rattle.std.proofs.Math.Seq.{map-set_same}
use Rattle.std.specs.Option.{option_map}
use Rattle.hx_framing.specs.declared.messages.Request.{Request}
use Rattle.hx_framing.specs.declared.frame_fault.FrameFault.TheVariants as frame
use Rattle.hx_framing.specs.declared.messages.Next.{Next}
use Rattle.hx_framing.specs.declared.messages.Next.TheVariants as next
use Rattle.hx_framing.specs.Progress.{progress_after_piece, progress_after_end}
use Rattle.hx_hop.specs.declared.request_view.Asked.{Asked}
use Rattle.proxy_engine.specs.Admitted.{Refusal, asked_closing_if_retired}
use Rattle.hx_status.specs.declared.about.StatusAndReason.{StatusAndReason}
use Rattle.hx_status.specs.declared.cause.Cause.{Cause}
use Rattle.hx_status.specs.declared.question.MethodAndTarget.{MethodAndTarget}
use Rattle.proxy_core.specs.AnsweredRequests.{request_of_exchange}
use Rattle.proxy_core.specs.declared.open.exchange.Exchange.{Exchange}
use Rattle.proxy_core.specs.declared.event.Event.TheVariants as events
use Rattle.proxy_core.specs.declared.outcome.Outcome.{Outcome}
use Rattle.proxy_core.specs.declared.outcome.Outcome.TheVariants as outcomes
use Rattle.proxy_core.specs.Outcomes.{find_exchange}
use Rattle.proxy_core.specs.Replies.{is_head}
use Rattle.proxy_core.specs.Scopes.{Scope}
use Rattle.hx_allow.specs.TableLines.{Table}
use Rattle.proxy_core.specs.LeadingOn.{exchanges_after_abandon}
use Rattle.proxy_core.specs.State.{State as CoreState, StepIsAccepted, exchanges_after_end_and_release, exchanges_after_exchange_end, forwarded_exchange as opened_exchange, exchange_begun_waiting as queued_exchange, line_of_verdict, exchanges_overtaken_in_scope, scope_purged}
use Rattle.proxy_core.specs.Allowing.{verdict_of_asked}
use Rattle.proxy_core.specs.Leading.{is_forwarded}
use Rattle.proxy_core.specs.Waiting.{ExchangeMayBeWoken}
use Rattle.proxy_core.proofs.Waits.{ready_by}
use Rattle.proxy_script.specs.declared.effect_list.Effect.{Effect}
use Rattle.proxy_script.specs.declared.effect_list.Effect.TheVariants as effects
use Rattle.proxy_engine.specs.Questions.{question_of_request}
use Rattle.proxy_engine.specs.Happenings.{Accepts, Sends, Hears, Ends, Leaves, Retires, Overdues, Shuts, Fails}
use Rattle.proxy_engine.specs.EngineModel.{EngineModel, ConnectionModel, LinkModel, no_connection, no_link, new_connection_model, new_link_model, connection_at, link_at, with_changed_connection, model_with_core, model_after_happening}
use Rattle.proxy_engine.specs.Due.{Abandons, Finishes, Wakes, Serves, LinkResult, Gives, Breaks, LinkResultUnlessDropped, IsDueRequestActionUnlessBusy, accepts_no_request, IsFirstDueAct}
use Rattle.proxy_engine.specs.Acts.{ActIsDone, ConnectionRequestIsServed, ExchangeOnLinkIsFinished, RequestIsWoken, RequestArrivesOrIsRefused, RequestIsRefusedAndClosed, ConnectionIsClosedWithEffect, Replies, outcome_with_origin_address, request_is_head, effects_of_outcome, model_after_outcome, model_after_link_freed, connection_with_activity, connection_with_closed, link_model_dropped, connection_with_due_answer_used, next_link_number}
use Rattle.proxy_engine.specs.Activities.{link_place_of_activity, has_exchange}
use Rattle.proxy_engine.specs.Pairing.{ConnectionsLinksAndExchangesMatch, activity_at, owner_at}
use Rattle.proxy_engine.specs.Orderly.{ModelIsConsistent, ConnectionIsOpen, LinkIsDropped, EffectsNameOpenEnds, activity_of_model, owner_of_link_model, NewModelIsConsistent, HappeningKeepsModelConsistent, ActKeepsModelConsistent}
use Rattle.proxy_engine.specs.declared.endpoints.activities.Activity.{Activity}
use Rattle.proxy_engine.specs.declared.endpoints.activities.Activity.TheVariants.{Free, Forwarded, Waiting}
use Rattle.proxy_engine.proofs.ActivityCases.{free_from, open_from, forwarded_from, waiting_from}
use Rattle.proxy_engine.proofs.Shown.{lost_by}
use Rattle.proxy_engine.proofs.Ending.{Remains, Renews, renewed, remains, woken_remains}
use Rattle.proxy_engine.proofs.Pairs.{within, has_place, waits_inside, some_out, ready_waits, paired_more, paired_freed, paired_unqueued, paired_opened, paired_queued, paired_left, paired_abandoned, paired_again, paired_awake, paired_purged, paired_overdue}

-- what stands at a place of either list
doing_here : (cs : List ConnectionModel) (i : ℕ) → activity_at (map activity_of_model cs) i ≡ (get_or cs i no_connection).activity
doing_here [] i = refl
doing_here (c ∷ cs) zero = refl
doing_here (c ∷ cs) (suc i) = doing_here cs i

owners_here : (ks : List LinkModel) (j : ℕ) → owner_at (map owner_of_link_model ks) j ≡ owner_of_link_model (get_or ks j no_link)
owners_here [] j = refl
owners_here (k ∷ ks) zero = refl
owners_here (k ∷ ks) (suc j) = owners_here ks j

at_set : {A : Type 0} (xs : List A) (i : ℕ) (y : A) (k : ℕ) (d : A) → (get_or (set xs i y) k d ≡ y) ⊎ (get_or (set xs i y) k d ≡ get_or xs k d)
at_set [] i y k d = inr refl
at_set (x ∷ xs) zero y zero d = inl refl
at_set (x ∷ xs) zero y (suc k) d = inr refl
at_set (x ∷ xs) (suc i) y zero d = inr refl
at_set (x ∷ xs) (suc i) y (suc k) d = at_set xs i y k d

at_pushed : {A : Type 0} (xs : List A) (y : A) (k : ℕ) (d : A) → (get_or (xs ++ y ∷ []) k d ≡ y) ⊎ (get_or (xs ++ y ∷ []) k d ≡ get_or xs k d)
at_pushed [] y zero d = inl refl
at_pushed [] y (suc k) d = inr refl
at_pushed (x ∷ xs) y zero d = inr refl
at_pushed (x ∷ xs) y (suc k) d = at_pushed xs y k d

map_more : {A B : Type 0} (f : A → B) (xs : List A) (y : A) → map f (xs ++ y ∷ []) ≡ map f xs ++ f y ∷ []
map_more f [] y = refl
map_more f (x ∷ xs) y = ap (λ ys. f x ∷ ys) (map_more f xs y)

-- a connection that is closed has no unshut exchange
abbrev IsFree : ConnectionModel → Type 0
IsFree c = c.closed ≡ true → c.activity ≡ Free

abbrev AllFree : List ConnectionModel → Type 0
AllFree cs = (i : ℕ) → IsFree (get_or cs i no_connection)

free_set : (cs : List ConnectionModel) (i : ℕ) (y : ConnectionModel) → IsFree y → AllFree cs → AllFree (set cs i y)
free_set cs i y fine h k = by_case (at_set cs i y k no_connection)
  where
    by_case : (get_or (set cs i y) k no_connection ≡ y) ⊎ (get_or (set cs i y) k no_connection ≡ get_or cs k no_connection) → IsFree (get_or (set cs i y) k no_connection)
    by_case (inl e) = subst (λ (c : ConnectionModel). IsFree c) (sym e) fine
    by_case (inr e) = subst (λ (c : ConnectionModel). IsFree c) (sym e) (h k)

free_more : (cs : List ConnectionModel) (y : ConnectionModel) → IsFree y → AllFree cs → AllFree (cs ++ y ∷ [])
free_more cs y fine h k = by_case (at_pushed cs y k no_connection)
  where
    by_case : (get_or (cs ++ y ∷ []) k no_connection ≡ y) ⊎ (get_or (cs ++ y ∷ []) k no_connection ≡ get_or cs k no_connection) → IsFree (get_or (cs ++ y ∷ []) k no_connection)
    by_case (inl e) = subst (λ (c : ConnectionModel). IsFree c) (sym e) fine
    by_case (inr e) = subst (λ (c : ConnectionModel). IsFree c) (sym e) (h k)

abbrev Order : List ConnectionModel → List LinkModel → List Exchange → Type 0
Order cs ks xs = ConnectionsLinksAndExchangesMatch (map activity_of_model cs) (map owner_of_link_model ks) xs × AllFree cs

order_of : (s : EngineModel) → ModelIsConsistent s → Order s.connections s.links s.core.exchanges
order_of s h = (h.paired, h.free)

orderly : (s : EngineModel) → Order s.connections s.links s.core.exchanges → ModelIsConsistent s
orderly s h = record { paired = h.0; free = h.1 }

-- a connection or a link that changes and names the same
connection_changed : (cs : List ConnectionModel) (ks : List LinkModel) (xs : List Exchange) (i : ℕ) (y : ConnectionModel) → y.activity ≡ (get_or cs i no_connection).activity → IsFree y → Order cs ks xs → Order (set cs i y) ks xs
connection_changed cs ks xs i y same fine h =
    (subst (λ (ds : List Activity). ConnectionsLinksAndExchangesMatch ds (map owner_of_link_model ks) xs) (sym (map-set_same activity_of_model cs i y no_connection same)) h.0, free_set cs i y fine h.1)

link_changed : (cs : List ConnectionModel) (ks : List LinkModel) (xs : List Exchange) (j : ℕ) (y : LinkModel) → owner_of_link_model y ≡ owner_of_link_model (get_or ks j no_link) → Order cs ks xs → Order cs (set ks j y) xs
link_changed cs ks xs j y same h =
    (subst (λ (os : List (Option ℕ)). ConnectionsLinksAndExchangesMatch (map activity_of_model cs) os xs) (sym (map-set_same owner_of_link_model ks j y no_link same)) h.0, h.1)

doing_by : (b : Bool) (c d : ConnectionModel) → d.activity ≡ c.activity → (cond b c d).activity ≡ c.activity
doing_by true c d e = refl
doing_by false c d e = e

closed_by : (b : Bool) (c d : ConnectionModel) → d.closed ≡ c.closed → (cond b c d).closed ≡ c.closed
closed_by true c d e = refl
closed_by false c d e = e

owner_by : (b : Bool) (k d : LinkModel) → owner_of_link_model d ≡ owner_of_link_model k → owner_of_link_model (cond b k d) ≡ owner_of_link_model k
owner_by true k d e = refl
owner_by false k d e = e

marked : (s : EngineModel) (i : ℕ) (b : Bool) (d : ConnectionModel) → d.activity ≡ (connection_at s i).activity → d.closed ≡ (connection_at s i).closed → ModelIsConsistent s
    → Order (set s.connections i (cond b (connection_at s i) d)) s.links s.core.exchanges
marked s i b d l k h =
    let c = connection_at s i in
    connection_changed s.connections s.links s.core.exchanges i (cond b c d) (doing_by b c d l) (λ e. doing_by b c d l ∙ h.free i (sym (closed_by b c d k) ∙ e)) (order_of s h)

marked_link : (s : EngineModel) (j : ℕ) (b : Bool) (d : LinkModel) → owner_of_link_model d ≡ owner_of_link_model (link_at s j) → ModelIsConsistent s → Order s.connections (set s.links j (cond b (link_at s j) d)) s.core.exchanges
marked_link s j b d e h = link_changed s.connections s.links s.core.exchanges j (cond b (link_at s j) d) (owner_by b (link_at s j) d e) (order_of s h)

pub begins_orderly : NewModelIsConsistent
begins_orderly core first none = record {
  paired = subst (λ (xs : List Exchange). ConnectionsLinksAndExchangesMatch [] [] xs) (sym none) record { owned = λ i j e. cc; linked = λ i j e. cc; opened = λ i. refl; numbered = refl };
  free = λ i e. refl;
}

pub takes_in_order : HappeningKeepsModelConsistent
takes_in_order s (Accepts n) h = record {
  paired = subst (λ (ds : List Activity). ConnectionsLinksAndExchangesMatch ds (map owner_of_link_model s.links) s.core.exchanges) (sym (map_more activity_of_model s.connections (new_connection_model s.core.table.max_body))) (paired_more (map activity_of_model s.connections) (map owner_of_link_model s.links) s.core.exchanges h.paired);
  free = free_more s.connections (new_connection_model s.core.table.max_body) (λ e. refl) h.free;
}
takes_in_order s (Sends n bytes) h = orderly (model_after_happening s (Sends n bytes)) (let c = connection_at s (n - 1) in marked s (n - 1) (c.gone || (c.closed || c.progress.ended)) (record c { progress = progress_after_piece c.progress bytes }) refl refl h)
takes_in_order s (Ends n) h = orderly (model_after_happening s (Ends n)) (let c = connection_at s (n - 1) in marked s (n - 1) (c.gone || c.closed) (record c { progress = progress_after_end c.progress }) refl refl h)
takes_in_order s (Leaves n) h = orderly (model_after_happening s (Leaves n)) (let c = connection_at s (n - 1) in marked s (n - 1) c.closed (record c { gone = true }) refl refl h)
takes_in_order s (Retires n) h = orderly (model_after_happening s (Retires n)) (let c = connection_at s (n - 1) in marked s (n - 1) false (record c { retired = true }) refl refl h)
takes_in_order s (Overdues n) h = orderly (model_after_happening s (Overdues n)) (paired_overdue (map activity_of_model s.connections) (map owner_of_link_model s.links) s.core.exchanges n h.paired, h.free)
takes_in_order s (Hears l bytes) h = orderly (model_after_happening s (Hears l bytes)) (let k = link_at s (l - s.first) in marked_link s (l - s.first) (k.dropped || (is_some k.failed || k.progress.ended)) (record k { progress = progress_after_piece k.progress bytes }) refl h)
takes_in_order s (Shuts l) h = orderly (model_after_happening s (Shuts l)) (let k = link_at s (l - s.first) in marked_link s (l - s.first) (k.dropped || is_some k.failed) (record k { progress = progress_after_end k.progress }) refl h)
takes_in_order s (Fails l kind) h = orderly (model_after_happening s (Fails l kind)) (let k = link_at s (l - s.first) in marked_link s (l - s.first) (k.dropped || is_some k.failed) (record k { failed = Some kind }) refl h)

-- ---- acts

freed_order : (cs : List ConnectionModel) (ks : List LinkModel) (xs : List Exchange) (i j : ℕ) (c : ConnectionModel) (k : LinkModel) → link_place_of_activity (activity_at (map activity_of_model cs) i) ≡ Some j → Order cs ks xs → Order (set cs i (connection_with_activity Free c)) (set ks j (link_model_dropped k)) (exchanges_after_end_and_release (i + 1) xs)
freed_order cs ks xs i j c k here h = (
  subst (λ (ds : List Activity). ConnectionsLinksAndExchangesMatch ds (map owner_of_link_model (set ks j (link_model_dropped k))) (exchanges_after_end_and_release (i + 1) xs)) (sym (map-set activity_of_model cs i (connection_with_activity Free c)))
      (subst (λ (os : List (Option ℕ)). ConnectionsLinksAndExchangesMatch (set (map activity_of_model cs) i Free) os (exchanges_after_end_and_release (i + 1) xs)) (sym (map-set owner_of_link_model ks j (link_model_dropped k))) (paired_freed (map activity_of_model cs) (map owner_of_link_model ks) xs i j here h.0)),
  free_set cs i (connection_with_activity Free c) (λ e. refl) h.1,
)

-- the exchanges that an invalidation marks stay open
left_order : (cs : List ConnectionModel) (ks : List LinkModel) (xs : List Exchange) (key : Option Scope) (id : ℕ) → Order cs ks (exchanges_after_end_and_release id xs) → Order cs ks (exchanges_after_exchange_end key id xs)
left_order cs ks xs key id h = (paired_left (map activity_of_model cs) (map owner_of_link_model ks) xs key id h.0, h.1)

-- nor does it close any where another leads on
abandoned_order : (cs : List ConnectionModel) (ks : List LinkModel) (xs : List Exchange) (table : Table) (id : ℕ) → Order cs ks (exchanges_after_end_and_release id xs) → Order cs ks (exchanges_after_abandon table id xs)
abandoned_order cs ks xs table id h = (paired_abandoned (map activity_of_model cs) (map owner_of_link_model ks) xs table id h.0, h.1)

closing_order : (cs : List ConnectionModel) (ks : List LinkModel) (xs : List Exchange) (i : ℕ) (close : Bool) → (get_or cs i no_connection).activity ≡ Free → Order cs ks xs → Order (set cs i (connection_with_closed close (get_or cs i no_connection))) ks xs
closing_order cs ks xs i close none h = connection_changed cs ks xs i (connection_with_closed close (get_or cs i no_connection)) refl (λ e. none) h

opened_order : (cs : List ConnectionModel) (ks : List LinkModel) (xs : List Exchange) (x : Exchange) (i max_body : ℕ) (to_head : Bool) → i < length cs → (get_or cs i no_connection).activity ≡ Free → (get_or cs i no_connection).closed ≡ false → x.id ≡ i + 1 → is_forwarded x.stage ≡ true → Order cs ks xs
    → Order (set cs i (connection_with_activity (Forwarded (length ks)) (get_or cs i no_connection))) (ks ++ new_link_model max_body to_head i ∷ []) (xs ++ x ∷ [])
opened_order cs ks xs x i max_body to_head here none unshut id staged h =
    let y = connection_with_activity (Forwarded (length ks)) (get_or cs i no_connection) in
    let size : length (map owner_of_link_model ks) ≡ length ks = length-map ks owner_of_link_model in
    let most : length (map activity_of_model cs) ≡ length cs = length-map cs activity_of_model in
    let opens = paired_opened (map activity_of_model cs) (map owner_of_link_model ks) xs x i (omega (arith, here, most)) (doing_here cs i ∙ none) id staged h.0 in
    let sized = subst (λ (n : ℕ). ConnectionsLinksAndExchangesMatch (set (map activity_of_model cs) i (Forwarded n)) (map owner_of_link_model ks ++ Some i ∷ []) (xs ++ x ∷ [])) size opens in (
      subst (λ (ds : List Activity). ConnectionsLinksAndExchangesMatch ds (map owner_of_link_model (ks ++ new_link_model max_body to_head i ∷ [])) (xs ++ x ∷ [])) (sym (map-set activity_of_model cs i y))
          (subst (λ (os : List (Option ℕ)). ConnectionsLinksAndExchangesMatch (set (map activity_of_model cs) i (Forwarded (length ks))) os (xs ++ x ∷ [])) (sym (map_more owner_of_link_model ks (new_link_model max_body to_head i))) sized),
      free_set cs i y (λ e. let shut = sym unshut ∙ e in cc) h.1,
    )

-- the request of the connection at i waits
queued_order : (cs : List ConnectionModel) (ks : List LinkModel) (xs : List Exchange) (x : Exchange) (i : ℕ) → i < length cs → (get_or cs i no_connection).activity ≡ Free → (get_or cs i no_connection).closed ≡ false → x.id ≡ i + 1 → is_forwarded x.stage ≡ false → Order cs ks xs
    → Order (set cs i (connection_with_activity Waiting (get_or cs i no_connection))) ks (xs ++ x ∷ [])
queued_order cs ks xs x i here none unshut id staged h =
    let y = connection_with_activity Waiting (get_or cs i no_connection) in
    let most : length (map activity_of_model cs) ≡ length cs = length-map cs activity_of_model in (
      subst (λ (ds : List Activity). ConnectionsLinksAndExchangesMatch ds (map owner_of_link_model ks) (xs ++ x ∷ [])) (sym (map-set activity_of_model cs i y))
          (paired_queued (map activity_of_model cs) (map owner_of_link_model ks) xs x i (omega (arith, here, most)) (doing_here cs i ∙ none) id staged h.0),
      free_set cs i y (λ e. let shut = sym unshut ∙ e in cc) h.1,
    )

-- the exchange of one that waited ends
unqueued_order : (cs : List ConnectionModel) (ks : List LinkModel) (xs : List Exchange) (i : ℕ) (c : ConnectionModel) → activity_at (map activity_of_model cs) i ≡ Waiting → Order cs ks xs → Order (set cs i (connection_with_activity Free c)) ks (exchanges_after_end_and_release (i + 1) xs)
unqueued_order cs ks xs i c here h = (
  subst (λ (ds : List Activity). ConnectionsLinksAndExchangesMatch ds (map owner_of_link_model ks) (exchanges_after_end_and_release (i + 1) xs)) (sym (map-set activity_of_model cs i (connection_with_activity Free c))) (paired_unqueued (map activity_of_model cs) (map owner_of_link_model ks) xs i here h.0),
  free_set cs i (connection_with_activity Free c) (λ e. refl) h.1,
)

or_true : (b c : Bool) → c ≡ true → (b || c) ≡ true
or_true true c e = refl
or_true false c e = e

-- the connection at i, in a list that has it, is closed
shut_there : (cs : List ConnectionModel) (i : ℕ) (c : ConnectionModel) (close : Bool) → i < length cs → close ≡ true → (get_or (set cs i (connection_with_closed close c)) i no_connection).closed ≡ true
shut_there cs i c close here e = ap (λ (c : ConnectionModel). c.closed) (get_or-set_same cs i (connection_with_closed close c) no_connection here) ∙ or_true c.closed close e

names_reply : (s after : EngineModel) (i n : ℕ) (question : Option MethodAndTarget) (bytes : List ℕ) (about : StatusAndReason) (close : Bool) → ConnectionIsOpen s (i + 1) → (close ≡ true → (connection_at after i).closed ≡ true) → EffectsNameOpenEnds s after (effects_of_outcome i n question (Replies bytes about close))
names_reply s after i n question bytes about true unshut shut = (unshut, (unshut, (i, refl, shut refl), refl))
names_reply s after i n question bytes about false unshut shut = (unshut, tt)

both_moved : (s now after : EngineModel) (emitted said : List Effect) → after ≡ now → emitted ≡ said → ModelIsConsistent now → EffectsNameOpenEnds s now said → ModelIsConsistent after × EffectsNameOpenEnds s after emitted
both_moved s now after emitted said a t h names =
    (subst (λ (x : EngineModel). ModelIsConsistent x) (sym a) h, subst (λ (x : EngineModel). EffectsNameOpenEnds s x emitted) (sym a) (subst (λ (es : List Effect). EffectsNameOpenEnds s now es) (sym t) names))

-- the connection at i has a new link for its exchange
again_order : (cs : List ConnectionModel) (ks : List LinkModel) (xs : List Exchange) (i j max_body : ℕ) (g : Exchange → Exchange) → Renews g → (to_head : Bool) (c : ConnectionModel) (k : LinkModel) → link_place_of_activity (activity_at (map activity_of_model cs) i) ≡ Some j → c.closed ≡ false → is_some (find_exchange (i + 1) xs) ≡ true → Order cs ks xs
    → Order (set (set cs i (connection_with_activity Free c)) i (connection_with_activity (Forwarded (length (set ks j (link_model_dropped k)))) (get_or (set cs i (connection_with_activity Free c)) i no_connection))) (set ks j (link_model_dropped k) ++ new_link_model max_body to_head i ∷ []) (map (renewed (i + 1) g) xs)
again_order cs ks xs i j max_body g r to_head c k here unshut there h = (
  subst (λ (ds : List Activity). ConnectionsLinksAndExchangesMatch ds (map owner_of_link_model (free ++ new_link_model max_body to_head i ∷ [])) ys) (sym pairing)
      (subst (λ (os : List (Option ℕ)). ConnectionsLinksAndExchangesMatch (set (set (map activity_of_model cs) i Free) i (Forwarded (length free))) os ys) (sym owners) sized),
  free_set (set cs i (connection_with_activity Free c)) i y (λ e. let shut = sym (still ∙ unshut) ∙ e in cc) (free_set cs i (connection_with_activity Free c) (λ e. refl) h.1),
)
  where
    ys : List Exchange
    ys = map (renewed (i + 1) g) xs

    free : List LinkModel
    free = set ks j (link_model_dropped k)

    y : ConnectionModel
    y = connection_with_activity (Forwarded (length free)) (get_or (set cs i (connection_with_activity Free c)) i no_connection)

    inside : i < length cs
    inside = subst (λ n. i < n) (length-map cs activity_of_model) (has_place (map activity_of_model cs) i j here)

    still : y.closed ≡ c.closed
    still = ap (λ (d : ConnectionModel). d.closed) (get_or-set_same cs i (connection_with_activity Free c) no_connection inside)

    dropped : map owner_of_link_model free ≡ set (map owner_of_link_model ks) j None
    dropped = map-set owner_of_link_model ks j (link_model_dropped k)

    size : length (set (map owner_of_link_model ks) j None) ≡ length free
    size = sym (ap length dropped) ∙ length-map free owner_of_link_model

    sized : ConnectionsLinksAndExchangesMatch (set (set (map activity_of_model cs) i Free) i (Forwarded (length free))) (set (map owner_of_link_model ks) j None ++ Some i ∷ []) ys
    sized = subst (λ (n : ℕ). ConnectionsLinksAndExchangesMatch (set (set (map activity_of_model cs) i Free) i (Forwarded n)) (set (map owner_of_link_model ks) j None ++ Some i ∷ []) ys) size
        (paired_again (map activity_of_model cs) (map owner_of_link_model ks) xs i j g r here there h.0)

    pairing : map activity_of_model (set (set cs i (connection_with_activity Free c)) i y) ≡ set (set (map activity_of_model cs) i Free) i (Forwarded (length free))
    pairing = map-set activity_of_model (set cs i (connection_with_activity Free c)) i y ∙ ap (λ (ds : List Activity). set ds i (Forwarded (length free))) (map-set activity_of_model cs i (connection_with_activity Free c))

    owners : map owner_of_link_model (free ++ new_link_model max_body to_head i ∷ []) ≡ set (map owner_of_link_model ks) j None ++ Some i ∷ []
    owners = map_more owner_of_link_model free (new_link_model max_body to_head i) ∙ ap (λ (os : List (Option ℕ)). os ++ Some i ∷ []) dropped

-- the connection at i, whose request waited, has a link for its exchange
awake_order : (cs : List ConnectionModel) (ks : List LinkModel) (xs : List Exchange) (i max_body : ℕ) (g : Exchange → Exchange) → Renews g → (to_head : Bool) (c : ConnectionModel) → activity_at (map activity_of_model cs) i ≡ Waiting → c.closed ≡ false → is_some (find_exchange (i + 1) xs) ≡ true → Order cs ks xs
    → Order (set (set cs i (connection_with_activity Free c)) i (connection_with_activity (Forwarded (length ks)) (get_or (set cs i (connection_with_activity Free c)) i no_connection))) (ks ++ new_link_model max_body to_head i ∷ []) (map (renewed (i + 1) g) xs)
awake_order cs ks xs i max_body g r to_head c here unshut there h = (
  subst (λ (ds : List Activity). ConnectionsLinksAndExchangesMatch ds (map owner_of_link_model (ks ++ new_link_model max_body to_head i ∷ [])) ys) (sym pairing)
      (subst (λ (os : List (Option ℕ)). ConnectionsLinksAndExchangesMatch (set (set (map activity_of_model cs) i Free) i (Forwarded (length ks))) os ys) (sym (map_more owner_of_link_model ks (new_link_model max_body to_head i))) sized),
  free_set (set cs i (connection_with_activity Free c)) i y (λ e. let shut = sym (still ∙ unshut) ∙ e in cc) (free_set cs i (connection_with_activity Free c) (λ e. refl) h.1),
)
  where
    ys : List Exchange
    ys = map (renewed (i + 1) g) xs

    y : ConnectionModel
    y = connection_with_activity (Forwarded (length ks)) (get_or (set cs i (connection_with_activity Free c)) i no_connection)

    inside : i < length cs
    inside = subst (λ n. i < n) (length-map cs activity_of_model) (waits_inside (map activity_of_model cs) i here)

    still : y.closed ≡ c.closed
    still = ap (λ (d : ConnectionModel). d.closed) (get_or-set_same cs i (connection_with_activity Free c) no_connection inside)

    sized : ConnectionsLinksAndExchangesMatch (set (set (map activity_of_model cs) i Free) i (Forwarded (length ks))) (map owner_of_link_model ks ++ Some i ∷ []) ys
    sized = subst (λ (n : ℕ). ConnectionsLinksAndExchangesMatch (set (set (map activity_of_model cs) i Free) i (Forwarded n)) (map owner_of_link_model ks ++ Some i ∷ []) ys) (length-map ks owner_of_link_model)
        (paired_awake (map activity_of_model cs) (map owner_of_link_model ks) xs i g r here there h.0)

    pairing : map activity_of_model (set (set cs i (connection_with_activity Free c)) i y) ≡ set (set (map activity_of_model cs) i Free) i (Forwarded (length ks))
    pairing = map-set activity_of_model (set cs i (connection_with_activity Free c)) i y ∙ ap (λ (ds : List Activity). set ds i (Forwarded (length ks))) (map-set activity_of_model cs i (connection_with_activity Free c))

finished_order : (s : EngineModel) (i j : ℕ) (o : Outcome) (core : CoreState) (to_head : Bool) (question : Option MethodAndTarget) (emitted : List Effect) (after : EngineModel) → ModelIsConsistent s → j < length s.links → link_place_of_activity (activity_at (map activity_of_model s.connections) i) ≡ Some j → (link_at s j).dropped ≡ false → ConnectionIsOpen s (i + 1) → (connection_at s i).closed ≡ false
    → is_some (find_exchange (i + 1) s.core.exchanges) ≡ true → Remains o (i + 1) s.core.exchanges core.exchanges → emitted ≡ effects.Drop (s.first + j) ∷ effects_of_outcome i (next_link_number s) question (outcome_with_origin_address s.core.table o) → after ≡ model_after_outcome i to_head (outcome_with_origin_address s.core.table o) (model_with_core (model_after_link_freed s j i) core)
    → ModelIsConsistent after × EffectsNameOpenEnds s after emitted
finished_order s i j o core to_head question emitted after h within_links here link_open unshut unclosed there left emitted_is after_is = by_outcome o left emitted_is after_is
  where
    cs : List ConnectionModel
    cs = set s.connections i (connection_with_activity Free (connection_at s i))

    ks : List LinkModel
    ks = set s.links j (link_model_dropped (link_at s j))

    inside : i < length s.connections
    inside = subst (λ n. i < n) (length-map s.connections activity_of_model) (has_place (map activity_of_model s.connections) i j here)

    inside_now : i < length cs
    inside_now = subst (λ n. i < n) (sym (length-set s.connections i (connection_with_activity Free (connection_at s i)))) inside

    none : (get_or cs i no_connection).activity ≡ Free
    none = ap (λ (c : ConnectionModel). c.activity) (get_or-set_same s.connections i (connection_with_activity Free (connection_at s i)) no_connection inside)

    base : EngineModel
    base = model_with_core (model_after_link_freed s j i) core

    free : (key : Option Scope) → core.exchanges ≡ exchanges_after_exchange_end key (i + 1) s.core.exchanges → Order cs ks core.exchanges
    free key xs = subst (λ (xs : List Exchange). Order cs ks xs) (sym xs) (left_order cs ks s.core.exchanges key (i + 1) (freed_order s.connections s.links s.core.exchanges i j (connection_at s i) (link_at s j) here (order_of s h)))

    drops : (t : EngineModel) (more : List LinkModel) → t.links ≡ ks ++ more → LinkIsDropped s t (s.first + j)
    drops t more e =
        let first_of : get_or (ks ++ more) j no_link ≡ get_or ks j no_link = get_or-append ks more no_link j (subst (λ n. j < n) (sym (length-set s.links j (link_model_dropped (link_at s j)))) within_links) in
        let link : link_at t j ≡ link_model_dropped (link_at s j) = ap (λ (ls : List LinkModel). get_or ls j no_link) e ∙ (first_of ∙ get_or-set_same s.links j (link_model_dropped (link_at s j)) no_link within_links) in
        record { place = j; number = refl; still = link_open; dropped = ap (λ (k : LinkModel). k.dropped) link }

    by_outcome : (o : Outcome) → Remains o (i + 1) s.core.exchanges core.exchanges → emitted ≡ effects.Drop (s.first + j) ∷ effects_of_outcome i (next_link_number s) question (outcome_with_origin_address s.core.table o) → after ≡ model_after_outcome i to_head (outcome_with_origin_address s.core.table o) base → ModelIsConsistent after × EffectsNameOpenEnds s after emitted
    by_outcome (outcomes.Reply r) left emitted_is after_is =
        let now = with_changed_connection base i (connection_with_closed r.close) in
        both_moved s now after emitted (effects.Drop (s.first + j) ∷ effects_of_outcome i (next_link_number s) question (Replies r.bytes r.about r.close)) after_is emitted_is
        (orderly now (closing_order cs ks core.exchanges i r.close none (free left.0 left.1)))
        (drops now [] (sym (append-nil ks)), names_reply s now i (next_link_number s) question r.bytes r.about r.close unshut (λ shut. shut_there cs i (get_or cs i no_connection) r.close inside_now shut))
    by_outcome (outcomes.Forward line bytes) left emitted_is after_is =
        let behind = model_after_outcome i to_head (outcome_with_origin_address s.core.table (outcomes.Forward line bytes)) base in
        both_moved s behind after emitted (effects.Drop (s.first + j) ∷ effects_of_outcome i (next_link_number s) question (outcome_with_origin_address s.core.table (outcomes.Forward line bytes))) after_is emitted_is
        (orderly behind (subst (λ (xs : List Exchange). Order behind.connections behind.links xs) (sym left.2) (again_order s.connections s.links s.core.exchanges i j core.table.max_body left.0 left.1 to_head (connection_at s i) (link_at s j) here unclosed there (order_of s h))))
        (drops behind (new_link_model core.table.max_body to_head i ∷ []) refl, (refl, tt))
    by_outcome (outcomes.Waits leader) left emitted_is after_is = absurd left
    by_outcome outcomes.Ended left emitted_is after_is =
        both_moved s base after emitted (effects.Drop (s.first + j) ∷ []) after_is emitted_is (orderly base (free left.0 left.1)) (drops base [] (sym (append-nil ks)), tt)
    by_outcome outcomes.WaitsNoMore left emitted_is after_is =
        both_moved s base after emitted (effects.Drop (s.first + j) ∷ []) after_is emitted_is (orderly base (free left.0 left.1)) (drops base [] (sym (append-nil ks)), tt)

-- ---- what is known where an act is due

gone_by : (b held : Bool) (o : Option ℕ) → None ≡ cond (b && held) (Some o) None → held ≡ true → b ≡ false
gone_by true true o e l = absurd (cc)
gone_by true false o e l = absurd (cc)
gone_by false held o e l = refl

closed_of : (b : Bool) (a : Activity) (j : ℕ) → (b ≡ true → a ≡ Free) → link_place_of_activity a ≡ Some j → b ≡ false
closed_of true a j f l = let none : None ≡ Some j = sym (ap link_place_of_activity (f refl)) ∙ l in cc
closed_of false a j f l = refl

dropped_of : (b : Bool) (n i : ℕ) → ◌≡◌ {A = Option ℕ} (cond b None (Some n)) (Some i) → b ≡ false
dropped_of true n i e = cc
dropped_of false n i e = refl

owner_is : (b : Bool) (n : ℕ) → b ≡ false → ◌≡◌ {A = Option ℕ} (cond b None (Some n)) (Some n)
owner_is true n e = cc
owner_is false n e = refl

finish_open : (b : Bool) (k : LinkModel) (f : LinkResult) → LinkResultUnlessDropped b k (Some f) → b ≡ false
finish_open true k f h = cc
finish_open false k f h = refl

not_busy : (b : Bool) (c : ConnectionModel) (w : Next Request) → IsDueRequestActionUnlessBusy b c (Some w) → b ≡ false
not_busy true c w h = cc
not_busy false c w h = refl

busy_parts : (gone shut : Bool) (a : Activity) → accepts_no_request gone shut a ≡ false → (gone ≡ false) × (shut ≡ false) × (a ≡ Free)
busy_parts true shut a e = cc
busy_parts false true a e = cc
busy_parts false false a e = (refl, refl, free_from a e)

-- the exchange on the link at j is finished
finishes_order : (s : EngineModel) (now j : ℕ) (f : LinkResult) (emitted : List Effect) (after : EngineModel) → ModelIsConsistent s → IsFirstDueAct s (Some (Finishes j f)) → ExchangeOnLinkIsFinished s now j (link_at s j).connection f emitted after → ModelIsConsistent after × EffectsNameOpenEnds s after emitted
finishes_order s now j f emitted after h due done = by_finish f done
  where
    i : ℕ
    i = (link_at s j).connection

    xs : List Exchange
    xs = s.core.exchanges

    link_open : (link_at s j).dropped ≡ false
    link_open = finish_open (link_at s j).dropped (link_at s j) f due.1.1

    here : link_place_of_activity (activity_at (map activity_of_model s.connections) i) ≡ Some j
    here = h.paired.linked i j (owners_here s.links j ∙ owner_is (link_at s j).dropped i link_open)

    linked_here : link_place_of_activity (connection_at s i).activity ≡ Some j
    linked_here = sym (ap link_place_of_activity (doing_here s.connections i)) ∙ here

    inside : i < length s.connections
    inside = subst (λ n. i < n) (length-map s.connections activity_of_model) (has_place (map activity_of_model s.connections) i j here)

    unclosed : (connection_at s i).closed ≡ false
    unclosed = closed_of (connection_at s i).closed (connection_at s i).activity j (h.free i) linked_here

    unshut : ConnectionIsOpen s (i + 1)
    unshut = record { place = i; number = refl; closed = unclosed; gone = gone_by (connection_at s i).gone (has_exchange (connection_at s i).activity) (link_place_of_activity (connection_at s i).activity) (due.0 i inside) (open_from (connection_at s i).activity j linked_here) }

    is_there : is_some (find_exchange (i + 1) xs) ≡ true
    is_there = some_out (find_exchange (i + 1) xs) true (h.paired.opened i ∙ forwarded_from (activity_at (map activity_of_model s.connections) i) j here)

    by_finish : (f : LinkResult) → ExchangeOnLinkIsFinished s now j i f emitted after → ModelIsConsistent after × EffectsNameOpenEnds s after emitted
    by_finish (Gives r) d =
        finished_order s i j d.1.outcome d.1.core (request_is_head (request_of_exchange (find_exchange (i + 1) xs))) (option_map question_of_request (request_of_exchange (find_exchange (i + 1) xs))) emitted after h due.1.0 here link_open unshut unclosed is_there
        (remains s.core d.1.core now (i + 1) (Gives r) d.1.outcome is_there d.1.steps) d.1.emitted_is d.1.after_is
    by_finish (Breaks kind) d =
        finished_order s i j d.outcome d.core (request_is_head (request_of_exchange (find_exchange (i + 1) xs))) (option_map question_of_request (request_of_exchange (find_exchange (i + 1) xs))) emitted after h due.1.0 here link_open unshut unclosed is_there
        (remains s.core d.core now (i + 1) (Breaks kind) d.outcome is_there d.steps) d.emitted_is d.after_is

-- the exchange of the connection at i is abandoned, and its link
abandons_order : (s : EngineModel) (now i l : ℕ) (emitted : List Effect) (after : EngineModel) → ModelIsConsistent s → link_place_of_activity (connection_at s i).activity ≡ Some l → ActIsDone s now (Abandons i (Some l)) emitted after → ModelIsConsistent after × EffectsNameOpenEnds s after emitted
abandons_order s now i l emitted after h linked_here done =
    let here : link_place_of_activity (activity_at (map activity_of_model s.connections) i) ≡ Some l = ap link_place_of_activity (doing_here s.connections i) ∙ linked_here in
    let owner : owner_at (map owner_of_link_model s.links) l ≡ Some i = h.paired.owned i l here in
    let link_open : (link_at s l).dropped ≡ false = dropped_of (link_at s l).dropped (link_at s l).connection i (sym (owners_here s.links l) ∙ owner) in
    let inside : l < length s.links = subst (λ n. l < n) (length-map s.links owner_of_link_model) (within (map owner_of_link_model s.links) l i owner) in
    let cs = set s.connections i (connection_with_activity Free (connection_at s i)) in
    let ks = set s.links l (link_model_dropped (link_at s l)) in
    let free : Order cs ks done.core.exchanges = subst (λ (xs : List Exchange). Order cs ks xs) (sym (ap (λ (k : CoreState). k.exchanges) done.steps.leaves))
    (abandoned_order cs ks s.core.exchanges s.core.table (i + 1) (freed_order s.connections s.links s.core.exchanges i l (connection_at s i) (link_at s l) here (order_of s h))) in
    let behind = model_with_core (model_after_link_freed s l i) done.core in
    let ended : done.outcome ≡ outcomes.Ended = done.steps.outcome_is in
    both_moved s behind after emitted (effects.Drop (s.first + l) ∷ [])
    (done.after_is ∙ ap (λ (o : Outcome). model_after_outcome i false (outcome_with_origin_address s.core.table o) behind) ended)
    (done.emitted_is ∙ ap (λ (o : Outcome). effects.Drop (s.first + l) ∷ effects_of_outcome i (next_link_number s) None (outcome_with_origin_address s.core.table o)) ended)
    (orderly behind free)
    (record { place = l; number = refl; still = link_open; dropped = ap (λ (k : LinkModel). k.dropped) (get_or-set_same s.links l (link_model_dropped (link_at s l)) no_link inside) }, tt)

-- or its request waits
gives_up_order : (s : EngineModel) (now i : ℕ) (emitted : List Effect) (after : EngineModel) → ModelIsConsistent s → (connection_at s i).activity ≡ Waiting → ActIsDone s now (Abandons i None) emitted after → ModelIsConsistent after × EffectsNameOpenEnds s after emitted
gives_up_order s now i emitted after h waiting done =
    let here : activity_at (map activity_of_model s.connections) i ≡ Waiting = doing_here s.connections i ∙ waiting in
    let cs = set s.connections i (connection_with_activity Free (connection_at s i)) in
    let free : Order cs s.links done.core.exchanges = subst (λ (xs : List Exchange). Order cs s.links xs) (sym (ap (λ (k : CoreState). k.exchanges) done.steps.leaves))
    (abandoned_order cs s.links s.core.exchanges s.core.table (i + 1) (unqueued_order s.connections s.links s.core.exchanges i (connection_at s i) here (order_of s h))) in
    let behind = model_with_core (with_changed_connection s i (connection_with_activity Free)) done.core in
    let ended : done.outcome ≡ outcomes.Ended = done.steps.outcome_is in
    both_moved s behind after emitted []
    (done.after_is ∙ ap (λ (o : Outcome). model_after_outcome i false (outcome_with_origin_address s.core.table o) behind) ended)
    (done.emitted_is ∙ ap (λ (o : Outcome). effects_of_outcome i (next_link_number s) None (outcome_with_origin_address s.core.table o)) ended)
    (orderly behind free) tt

-- the request of the connection at i, which waited, is judged anew
wakes_order : (s : EngineModel) (now i : ℕ) (emitted : List Effect) (after : EngineModel) → ModelIsConsistent s → IsFirstDueAct s (Some (Wakes i)) → RequestIsWoken s now i emitted after → ModelIsConsistent after × EffectsNameOpenEnds s after emitted
wakes_order s now i emitted after h due d = by_outcome d.1.outcome (woken_remains s.core d.1.core now (i + 1) d.1.outcome is_there d.1.steps) d.1.emitted_is d.1.after_is
  where
    xs : List Exchange
    xs = s.core.exchanges

    ready : ExchangeMayBeWoken (i + 1) xs
    ready = ready_by xs now (i + 1) d.1.steps.allowed

    here : activity_at (map activity_of_model s.connections) i ≡ Waiting
    here = ready_waits (map activity_of_model s.connections) (map owner_of_link_model s.links) xs i ready h.paired

    waiting : (connection_at s i).activity ≡ Waiting
    waiting = sym (doing_here s.connections i) ∙ here

    is_there : is_some (find_exchange (i + 1) xs) ≡ true
    is_there = ap is_some ready.is_open

    inside : i < length s.connections
    inside = subst (λ n. i < n) (length-map s.connections activity_of_model) (waits_inside (map activity_of_model s.connections) i here)

    unclosed : (connection_at s i).closed ≡ false
    unclosed = closed_waiting (connection_at s i).closed (connection_at s i).activity (h.free i) waiting
      where
        closed_waiting : (b : Bool) (a : Activity) → (b ≡ true → a ≡ Free) → a ≡ Waiting → b ≡ false
        closed_waiting true a f w = let no : Free ≡ Waiting = sym (f refl) ∙ w in cc
        closed_waiting false a f w = refl

    unshut : ConnectionIsOpen s (i + 1)
    unshut = record { place = i; number = refl; closed = unclosed; gone = gone_by (connection_at s i).gone (has_exchange (connection_at s i).activity) (link_place_of_activity (connection_at s i).activity) (due.0 i inside) (ap has_exchange waiting) }

    cs : List ConnectionModel
    cs = set s.connections i (connection_with_activity Free (connection_at s i))

    inside_now : i < length cs
    inside_now = subst (λ n. i < n) (sym (length-set s.connections i (connection_with_activity Free (connection_at s i)))) inside

    none : (get_or cs i no_connection).activity ≡ Free
    none = ap (λ (c : ConnectionModel). c.activity) (get_or-set_same s.connections i (connection_with_activity Free (connection_at s i)) no_connection inside)

    base : EngineModel
    base = model_with_core (with_changed_connection s i (connection_with_activity Free)) d.1.core

    to_head : Bool
    to_head = request_is_head (request_of_exchange (find_exchange (i + 1) xs))

    question : Option MethodAndTarget
    question = option_map question_of_request (request_of_exchange (find_exchange (i + 1) xs))

    free : (key : Option Scope) → d.1.core.exchanges ≡ exchanges_after_exchange_end key (i + 1) xs → Order cs s.links d.1.core.exchanges
    free key es = subst (λ (es : List Exchange). Order cs s.links es) (sym es) (left_order cs s.links xs key (i + 1) (unqueued_order s.connections s.links xs i (connection_at s i) here (order_of s h)))

    by_outcome : (o : Outcome) → Remains o (i + 1) xs d.1.core.exchanges → emitted ≡ effects_of_outcome i (next_link_number s) question (outcome_with_origin_address s.core.table o) → after ≡ model_after_outcome i to_head (outcome_with_origin_address s.core.table o) base → ModelIsConsistent after × EffectsNameOpenEnds s after emitted
    by_outcome (outcomes.Reply r) left emitted_is after_is =
        let behind = with_changed_connection base i (connection_with_closed r.close) in
        both_moved s behind after emitted (effects_of_outcome i (next_link_number s) question (Replies r.bytes r.about r.close)) after_is emitted_is
        (orderly behind (closing_order cs s.links d.1.core.exchanges i r.close none (free left.0 left.1)))
        (names_reply s behind i (next_link_number s) question r.bytes r.about r.close unshut (λ shut. shut_there cs i (get_or cs i no_connection) r.close inside_now shut))
    by_outcome (outcomes.Forward line bytes) left emitted_is after_is =
        let behind = model_after_outcome i to_head (outcome_with_origin_address s.core.table (outcomes.Forward line bytes)) base in
        both_moved s behind after emitted (effects_of_outcome i (next_link_number s) question (outcome_with_origin_address s.core.table (outcomes.Forward line bytes))) after_is emitted_is
        (orderly behind (subst (λ (es : List Exchange). Order behind.connections behind.links es) (sym left.2) (awake_order s.connections s.links xs i d.1.core.table.max_body left.0 left.1 to_head (connection_at s i) here unclosed is_there (order_of s h))))
        (refl, tt)
    by_outcome (outcomes.Waits leader) left emitted_is after_is = absurd left
    by_outcome outcomes.Ended left emitted_is after_is =
        both_moved s base after emitted [] after_is emitted_is (orderly base (free left.0 left.1)) tt
    by_outcome outcomes.WaitsNoMore left emitted_is after_is =
        both_moved s base after emitted [] after_is emitted_is (orderly base (free left.0 left.1)) tt

-- a request arrived on the connection at i
arrived_order : (s : EngineModel) (now i : ℕ) (m : Next Request) (asked : Asked) (o : Outcome) (core : CoreState) (to_head : Bool) (question : Option MethodAndTarget) (emitted : List Effect) (after : EngineModel) → ModelIsConsistent s → i < length s.connections → ConnectionIsOpen s (i + 1) → (connection_at s i).closed ≡ false → (connection_at s i).activity ≡ Free
    → StepIsAccepted s.core (events.Arrive now (i + 1) asked) o core → emitted ≡ effects_of_outcome i (next_link_number s) question (outcome_with_origin_address s.core.table o) → after ≡ model_after_outcome i to_head (outcome_with_origin_address s.core.table o) (model_with_core (with_changed_connection s i (connection_with_due_answer_used m)) core) → ModelIsConsistent after × EffectsNameOpenEnds s after emitted
arrived_order s now i m asked o core to_head question emitted after h inside unshut unclosed none steps emitted_is after_is = by_outcome o steps emitted_is after_is
  where
    cs : List ConnectionModel
    cs = set s.connections i (connection_with_due_answer_used m (connection_at s i))

    here : get_or cs i no_connection ≡ connection_with_due_answer_used m (connection_at s i)
    here = get_or-set_same s.connections i (connection_with_due_answer_used m (connection_at s i)) no_connection inside

    none_now : (get_or cs i no_connection).activity ≡ Free
    none_now = ap (λ (c : ConnectionModel). c.activity) here ∙ none

    unclosed_now : (get_or cs i no_connection).closed ≡ false
    unclosed_now = ap (λ (c : ConnectionModel). c.closed) here ∙ unclosed

    inside_now : i < length cs
    inside_now = subst (λ n. i < n) (sym (length-set s.connections i (connection_with_due_answer_used m (connection_at s i)))) inside

    passed : Order cs s.links s.core.exchanges
    passed = connection_changed s.connections s.links s.core.exchanges i (connection_with_due_answer_used m (connection_at s i)) refl (λ e. none) (order_of s h)

    base : EngineModel
    base = model_with_core (with_changed_connection s i (connection_with_due_answer_used m)) core

    by_outcome : (o : Outcome) → StepIsAccepted s.core (events.Arrive now (i + 1) asked) o core → emitted ≡ effects_of_outcome i (next_link_number s) question (outcome_with_origin_address s.core.table o) → after ≡ model_after_outcome i to_head (outcome_with_origin_address s.core.table o) base → ModelIsConsistent after × EffectsNameOpenEnds s after emitted
    by_outcome (outcomes.Reply r) steps emitted_is after_is =
        let key = scope_purged asked (outcomes.Reply r) in
        let same : core.exchanges ≡ exchanges_overtaken_in_scope key s.core.exchanges = ap (λ (k : CoreState). k.exchanges) steps.leaves in
        let purged : Order cs s.links (exchanges_overtaken_in_scope key s.core.exchanges) = (paired_purged (map activity_of_model cs) (map owner_of_link_model s.links) s.core.exchanges key passed.0, passed.1) in
        both_moved s (with_changed_connection base i (connection_with_closed r.close)) after emitted (effects_of_outcome i (next_link_number s) question (Replies r.bytes r.about r.close)) after_is emitted_is
        (orderly (with_changed_connection base i (connection_with_closed r.close)) (closing_order cs s.links core.exchanges i r.close none_now (subst (λ (xs : List Exchange). Order cs s.links xs) (sym same) purged)))
        (names_reply s (with_changed_connection base i (connection_with_closed r.close)) i (next_link_number s) question r.bytes r.about r.close unshut (λ shut. shut_there cs i (get_or cs i no_connection) r.close inside_now shut))
    by_outcome (outcomes.Forward line bytes) steps emitted_is after_is =
        let x = opened_exchange s.core.table s.core.entries now (i + 1) asked line in
        let more : core.exchanges ≡ s.core.exchanges ++ x ∷ [] = ap (λ (k : CoreState). k.exchanges) steps.leaves in
        let behind = model_after_outcome i to_head (outcome_with_origin_address s.core.table (outcomes.Forward line bytes)) base in
        both_moved s behind after emitted (effects_of_outcome i (next_link_number s) question (outcome_with_origin_address s.core.table (outcomes.Forward line bytes))) after_is emitted_is
        (orderly behind (subst (λ (xs : List Exchange). Order behind.connections behind.links xs) (sym more) (opened_order cs s.links s.core.exchanges x i core.table.max_body to_head inside_now none_now unclosed_now refl refl passed)))
        (refl, tt)
    by_outcome (outcomes.Waits leader) steps emitted_is after_is =
        let x = queued_exchange s.core.table s.core.entries now (i + 1) asked (line_of_verdict (verdict_of_asked s.core.table asked)) leader in
        let more : core.exchanges ≡ s.core.exchanges ++ x ∷ [] = ap (λ (k : CoreState). k.exchanges) steps.leaves in
        let behind = model_after_outcome i to_head (outcome_with_origin_address s.core.table (outcomes.Waits leader)) base in
        both_moved s behind after emitted [] after_is emitted_is
        (orderly behind (subst (λ (xs : List Exchange). Order behind.connections behind.links xs) (sym more) (queued_order cs s.links s.core.exchanges x i inside_now none_now unclosed_now refl refl passed))) tt
    by_outcome outcomes.Ended steps emitted_is after_is =
        let same : core.exchanges ≡ s.core.exchanges = ap (λ (k : CoreState). k.exchanges) steps.leaves in
        both_moved s base after emitted [] after_is emitted_is (orderly base (subst (λ (xs : List Exchange). Order cs s.links xs) (sym same) passed)) tt
    by_outcome outcomes.WaitsNoMore steps emitted_is after_is =
        let same : core.exchanges ≡ s.core.exchanges = ap (λ (k : CoreState). k.exchanges) steps.leaves in
        both_moved s base after emitted [] after_is emitted_is (orderly base (subst (λ (xs : List Exchange). Order cs s.links xs) (sym same) passed)) tt

-- the connection at i is closed, behind an answer of the proxy or without one
shuts_order : (s : EngineModel) (i : ℕ) (emitted said : List Effect) (after : EngineModel) → ModelIsConsistent s → i < length s.connections → (connection_at s i).activity ≡ Free → emitted ≡ said → after ≡ with_changed_connection s i (connection_with_closed true)
    → ((t : EngineModel) → (connection_at t i).closed ≡ true → EffectsNameOpenEnds s t said) → ModelIsConsistent after × EffectsNameOpenEnds s after emitted
shuts_order s i emitted said after h inside none emitted_is after_is names =
    let now = with_changed_connection s i (connection_with_closed true) in
    both_moved s now after emitted said after_is emitted_is (orderly now (closing_order s.connections s.links s.core.exchanges i true none (order_of s h)))
    (names now (shut_there s.connections i (connection_at s i) true inside refl))

serves_order : (s : EngineModel) (now i : ℕ) (w : Next Request) (emitted : List Effect) (after : EngineModel) → ModelIsConsistent s → IsFirstDueAct s (Some (Serves i w)) → ConnectionRequestIsServed s now i w emitted after → ModelIsConsistent after × EffectsNameOpenEnds s after emitted
serves_order s now i w emitted after h due done = by_action w done
  where
    parts : ((connection_at s i).gone ≡ false) × ((connection_at s i).closed ≡ false) × ((connection_at s i).activity ≡ Free)
    parts = busy_parts (connection_at s i).gone (connection_at s i).closed (connection_at s i).activity (not_busy (accepts_no_request (connection_at s i).gone (connection_at s i).closed (connection_at s i).activity) (connection_at s i) w due.3.1)

    inside : i < length s.connections
    inside = due.3.0

    unshut : ConnectionIsOpen s (i + 1)
    unshut = record { place = i; number = refl; closed = parts.1; gone = parts.0 }

    refuses : (why : Cause) (head : Bool) (question : Option MethodAndTarget) → RequestIsRefusedAndClosed s now i why head question emitted after → ModelIsConsistent after × EffectsNameOpenEnds s after emitted
    refuses why head question d = shuts_order s i emitted _ after h inside parts.2 d.emitted_is d.after_is (λ t shut. (unshut, (unshut, (i, refl, shut), refl)))

    closes : ConnectionIsClosedWithEffect s i emitted after → ModelIsConsistent after × EffectsNameOpenEnds s after emitted
    closes d = shuts_order s i emitted _ after h inside parts.2 d.0 d.1 (λ t shut. (unshut, (i, refl, shut), refl))

    arrives : (r : Request) (judged : Result Asked Refusal) → RequestArrivesOrIsRefused s now i r judged emitted after → ModelIsConsistent after × EffectsNameOpenEnds s after emitted
    arrives r (Ok asked) d = arrived_order s now i (next.Message r) (asked_closing_if_retired (connection_at s i).retired asked) d.1.outcome d.1.core (is_head asked) (Some (question_of_request asked)) emitted after h inside unshut parts.1 parts.2 d.1.steps d.1.emitted_is d.1.after_is
    arrives r (Err fault) d = refuses _ _ _ d

    by_action : (w : Next Request) → ConnectionRequestIsServed s now i w emitted after → ModelIsConsistent after × EffectsNameOpenEnds s after emitted
    by_action next.More d = absurd d
    by_action next.NeedsContinue d =
        let going = with_changed_connection s i (connection_with_due_answer_used next.NeedsContinue) in
        both_moved s going after emitted _ d.1 d.0
        (orderly going (connection_changed s.connections s.links s.core.exchanges i (connection_with_due_answer_used next.NeedsContinue (connection_at s i)) refl (λ e. parts.2) (order_of s h))) (unshut, tt)
    by_action (next.Message r) d = arrives r d.0 d.2
    by_action (next.Refused frame.Truncated) d = closes d
    by_action (next.Refused frame.Head) d = refuses _ _ _ d
    by_action (next.Refused frame.Version) d = refuses _ _ _ d
    by_action (next.Refused frame.BothLengths) d = refuses _ _ _ d
    by_action (next.Refused frame.Length) d = refuses _ _ _ d
    by_action (next.Refused frame.Coding) d = refuses _ _ _ d
    by_action (next.Refused frame.Chunk) d = refuses _ _ _ d
    by_action (next.Refused frame.TooLarge) d = refuses _ _ _ d
    by_action (next.Refused frame.Expect) d = refuses _ _ _ d
    by_action (next.Refused frame.Status) d = refuses _ _ _ d
    by_action next.End d = closes d

pub acts_in_order : ActKeepsModelConsistent
acts_in_order s now (Abandons i (Some l)) emitted after h due done =
    abandons_order s now i l emitted after h (lost_by (connection_at s i).gone (has_exchange (connection_at s i).activity) (link_place_of_activity (connection_at s i).activity) (Some l) (sym due.1)).2 done
acts_in_order s now (Abandons i None) emitted after h due done =
    let parts = lost_by (connection_at s i).gone (has_exchange (connection_at s i).activity) (link_place_of_activity (connection_at s i).activity) None (sym due.1) in
    gives_up_order s now i emitted after h (waiting_from (connection_at s i).activity parts.1 parts.2) done
acts_in_order s now (Finishes j f) emitted after h due done = finishes_order s now j f emitted after h due done
acts_in_order s now (Wakes i) emitted after h due done = wakes_order s now i emitted after h due done
acts_in_order s now (Serves i w) emitted after h due done = serves_order s now i w emitted after h due done
