-- What is closed, gone, to end or dropped stays so.
use Rattle.std.proofs.Common.{◌≡◌, ℕ, zero, suc, ◌-◌, ◌<◌, List, [], ◌∷◌, ◌++◌, length, get_or, set, refl, sym, ◌∙◌, subst, arith, Bool, Option, true, false, ◌||◌, cond, Some, is_some, Result, Ok, Err, None}
use Rattle.std.proofs.lemmas.List.{length_push}
use Rattle.std.proofs.Math.ListN.{length-set}
use Rattle.hx_framing.specs.declared.messages.Request.{Request}
use Rattle.hx_framing.specs.declared.frame_fault.FrameFault.TheVariants as frame
use Rattle.hx_framing.specs.declared.messages.Next.{Next}
use Rattle.hx_framing.specs.declared.messages.Next.TheVariants as next
use Rattle.hx_framing.specs.Progress.{progress_after_piece, progress_after_end}
use Rattle.hx_hop.specs.declared.request_view.Asked.{Asked}
use Rattle.proxy_engine.specs.Admitted.{Refusal}
use Rattle.proxy_core.specs.State.{State as CoreState, state_after_event}
use Rattle.proxy_core.specs.declared.event.Event.TheVariants.{Overdue}
use Rattle.proxy_core.specs.declared.outcome.Outcome.TheVariants.{WaitsNoMore}
use Rattle.proxy_core.specs.declared.event.Event.{Event}
use Rattle.proxy_script.specs.declared.effect_list.Effect.{Effect}
use Rattle.proxy_engine.specs.Happenings.{Accepts, Sends, Hears, Ends, Leaves, Retires, Overdues, Shuts, Fails}
use Rattle.proxy_engine.specs.EngineModel.{EngineModel, ConnectionModel, LinkModel, no_connection, no_link, new_connection_model, new_link_model, connection_at, with_changed_connection, with_changed_link, model_with_core, connection_after_bytes, connection_after_end, connection_after_disconnect, connection_after_retirement, link_after_bytes, link_after_end, link_after_its_failure}
use Rattle.proxy_engine.specs.Due.{Abandons, Finishes, Wakes, Serves, Gives, Breaks}
use Rattle.proxy_engine.specs.Acts.{request_is_head, OutcomeOnConnection, Replies, Forwards, Nothing, ConnectionRequestIsServed, RequestArrivesOrIsRefused, CoreIsStepped, outcome_with_origin_address, model_after_outcome, model_after_link_freed, connection_with_activity, connection_with_closed, link_model_dropped, connection_with_due_answer_used, model_with_opened_link, Queues}
use Rattle.proxy_engine.specs.Orderly.{EndedEndsStayEnded, EndedEndsStayEndedAfterHappening, EndedEndsStayEndedAfterAct}
use Rattle.proxy_engine.specs.declared.endpoints.activities.Activity.TheVariants.{Free, Forwarded, Waiting}

stays_set : {A : Type 0} (P : A → Type 0) (d : A) (xs : List A) (i : ℕ) (y : A) (k : ℕ) → (P (get_or xs i d) → P y) → P (get_or xs k d) → P (get_or (set xs i y) k d)
stays_set P d [] i y k keep e = e
stays_set P d (x ∷ xs) zero y zero keep e = keep e
stays_set P d (x ∷ xs) zero y (suc k) keep e = e
stays_set P d (x ∷ xs) (suc i) y zero keep e = e
stays_set P d (x ∷ xs) (suc i) y (suc k) keep e = stays_set P d xs i y k keep e

stays_push : {A : Type 0} (P : A → Type 0) (d : A) (xs : List A) (y : A) (k : ℕ) → k < length xs → P (get_or xs k d) → P (get_or (xs ++ y ∷ []) k d)
stays_push P d [] y k l e = absurd (omega (arith, l))
stays_push P d (x ∷ xs) y zero l e = e
stays_push P d (x ∷ xs) y (suc k) l e = stays_push P d xs y k (omega (arith, l)) e

abbrev IsShut : ConnectionModel → Type 0
IsShut c = c.closed ≡ true

abbrev IsGone : ConnectionModel → Type 0
IsGone c = c.gone ≡ true

abbrev IsRetired : ConnectionModel → Type 0
IsRetired c = c.retired ≡ true

abbrev IsDropped : LinkModel → Type 0
IsDropped k = k.dropped ≡ true

-- the same lists, under another core or none
stays_here : (s : EngineModel) (core : CoreState) → EndedEndsStayEnded s (model_with_core s core)
stays_here s core = record { closed = λ i l e. e; gone = λ i l e. e; retired = λ i l e. e; dropped = λ j l e. e; connections = omega arith; links = omega arith; first = refl }

stays_on : (r s t : EngineModel) → EndedEndsStayEnded r s → EndedEndsStayEnded s t → EndedEndsStayEnded r t
stays_on r s t f g = record {
  closed = λ i l e. g.closed i (omega (arith, l, f.connections)) (f.closed i l e);
  gone = λ i l e. g.gone i (omega (arith, l, f.connections)) (f.gone i l e);
  retired = λ i l e. g.retired i (omega (arith, l, f.connections)) (f.retired i l e);
  dropped = λ j l e. g.dropped j (omega (arith, l, f.links)) (f.dropped j l e);
  connections = omega (arith, f.connections, g.connections);
  links = omega (arith, f.links, g.links);
  first = g.first ∙ f.first;
}

stays_connection : (s : EngineModel) (i : ℕ) (f : ConnectionModel → ConnectionModel) → ((c : ConnectionModel) → IsShut c → IsShut (f c)) → ((c : ConnectionModel) → IsGone c → IsGone (f c))
    → ((c : ConnectionModel) → IsRetired c → IsRetired (f c)) → EndedEndsStayEnded s (with_changed_connection s i f)
stays_connection s i f shuts goes retires = record {
  closed = λ k l e. stays_set IsShut no_connection s.connections i (f (connection_at s i)) k (shuts (connection_at s i)) e;
  gone = λ k l e. stays_set IsGone no_connection s.connections i (f (connection_at s i)) k (goes (connection_at s i)) e;
  retired = λ k l e. stays_set IsRetired no_connection s.connections i (f (connection_at s i)) k (retires (connection_at s i)) e;
  dropped = λ j l e. e;
  connections = let same = length-set s.connections i (f (connection_at s i)) in omega (arith, same);
  links = omega arith;
  first = refl;
}

stays_link : (s : EngineModel) (j : ℕ) (f : LinkModel → LinkModel) → ((k : LinkModel) → IsDropped k → IsDropped (f k)) → EndedEndsStayEnded s (with_changed_link s j f)
stays_link s j f drops = record {
  closed = λ k l e. e;
  gone = λ k l e. e;
  retired = λ k l e. e;
  dropped = λ k l e. stays_set IsDropped no_link s.links j (f (get_or s.links j no_link)) k (drops (get_or s.links j no_link)) e;
  connections = omega arith;
  links = let same = length-set s.links j (f (get_or s.links j no_link)) in omega (arith, same);
  first = refl;
}

shut_by : (b : Bool) (c d : ConnectionModel) → d.closed ≡ c.closed → IsShut c → IsShut (cond b c d)
shut_by true c d e h = h
shut_by false c d e h = e ∙ h

gone_by : (b : Bool) (c d : ConnectionModel) → (IsGone c → IsGone d) → IsGone c → IsGone (cond b c d)
gone_by true c d e h = h
gone_by false c d e h = e h

retired_by : (b : Bool) (c d : ConnectionModel) → d.retired ≡ c.retired → IsRetired c → IsRetired (cond b c d)
retired_by true c d e h = h
retired_by false c d e h = e ∙ h

dropped_by : (b : Bool) (k d : LinkModel) → d.dropped ≡ k.dropped → IsDropped k → IsDropped (cond b k d)
dropped_by true k d e h = h
dropped_by false k d e h = e ∙ h

pub takes_stay : EndedEndsStayEndedAfterHappening
takes_stay s (Accepts n) = record {
  closed = λ i l e. stays_push IsShut no_connection s.connections (new_connection_model s.core.table.max_body) i l e;
  gone = λ i l e. stays_push IsGone no_connection s.connections (new_connection_model s.core.table.max_body) i l e;
  retired = λ i l e. stays_push IsRetired no_connection s.connections (new_connection_model s.core.table.max_body) i l e;
  dropped = λ j l e. e;
  connections = let more = length_push s.connections (new_connection_model s.core.table.max_body) in omega (arith, more);
  links = omega arith;
  first = refl;
}
takes_stay s (Sends n bytes) = stays_connection s (n - 1) (connection_after_bytes bytes) (λ c e. shut_by (c.gone || (c.closed || c.progress.ended)) c (record c { progress = progress_after_piece c.progress bytes }) refl e) (λ c e. gone_by (c.gone || (c.closed || c.progress.ended)) c (record c { progress = progress_after_piece c.progress bytes }) (λ g. g) e) (λ c e. retired_by (c.gone || (c.closed || c.progress.ended)) c (record c { progress = progress_after_piece c.progress bytes }) refl e)
takes_stay s (Ends n) = stays_connection s (n - 1) connection_after_end (λ c e. shut_by (c.gone || c.closed) c (record c { progress = progress_after_end c.progress }) refl e) (λ c e. gone_by (c.gone || c.closed) c (record c { progress = progress_after_end c.progress }) (λ g. g) e) (λ c e. retired_by (c.gone || c.closed) c (record c { progress = progress_after_end c.progress }) refl e)
takes_stay s (Leaves n) = stays_connection s (n - 1) connection_after_disconnect (λ c e. shut_by c.closed c (record c { gone = true }) refl e) (λ c e. gone_by c.closed c (record c { gone = true }) (λ g. refl) e) (λ c e. retired_by c.closed c (record c { gone = true }) refl e)
takes_stay s (Retires n) = stays_connection s (n - 1) connection_after_retirement (λ c e. e) (λ c e. e) (λ c e. refl)
takes_stay s (Overdues n) = stays_here s (state_after_event s.core (Overdue n) WaitsNoMore)
takes_stay s (Hears l bytes) = stays_link s (l - s.first) (link_after_bytes bytes) (λ k e. dropped_by (k.dropped || (is_some k.failed || k.progress.ended)) k (record k { progress = progress_after_piece k.progress bytes }) refl e)
takes_stay s (Shuts l) = stays_link s (l - s.first) link_after_end (λ k e. dropped_by (k.dropped || is_some k.failed) k (record k { progress = progress_after_end k.progress }) refl e)
takes_stay s (Fails l kind) = stays_link s (l - s.first) (link_after_its_failure kind) (λ k e. dropped_by (k.dropped || is_some k.failed) k (record k { failed = Some kind }) refl e)

-- ---- acts

shut_or : (b c : Bool) → b ≡ true → (b || c) ≡ true
shut_or true c e = refl
shut_or false c e = cc

stays_closing : (s : EngineModel) (i : ℕ) (close : Bool) → EndedEndsStayEnded s (with_changed_connection s i (connection_with_closed close))
stays_closing s i close = stays_connection s i (connection_with_closed close) (λ c e. shut_or c.closed close e) (λ c e. e) (λ c e. e)

stays_opened : (s : EngineModel) (i : ℕ) (to_head : Bool) → EndedEndsStayEnded s (model_with_opened_link s i to_head)
stays_opened s i to_head =
    let y = connection_with_activity (Forwarded (length s.links)) (connection_at s i) in
    record {
      closed = λ k l e. stays_set IsShut no_connection s.connections i y k (λ e. e) e;
      gone = λ k l e. stays_set IsGone no_connection s.connections i y k (λ e. e) e;
      retired = λ k l e. stays_set IsRetired no_connection s.connections i y k (λ e. e) e;
      dropped = λ j l e. stays_push IsDropped no_link s.links (new_link_model s.core.table.max_body to_head i) j l e;
      connections = let same = length-set s.connections i y in omega (arith, same);
      links = let more = length_push s.links (new_link_model s.core.table.max_body to_head i) in omega (arith, more);
      first = refl;
    }

stays_after : (s : EngineModel) (i : ℕ) (to_head : Bool) (o : OutcomeOnConnection) → EndedEndsStayEnded s (model_after_outcome i to_head o s)
stays_after s i to_head (Replies bytes about close) = stays_closing s i close
stays_after s i to_head (Forwards address bytes) = stays_opened s i to_head
stays_after s i to_head Queues = stays_connection s i (connection_with_activity Waiting) (λ c e. e) (λ c e. e) (λ c e. e)
stays_after s i to_head Nothing = stays_here s s.core

stays_freed : (s : EngineModel) (j i : ℕ) → EndedEndsStayEnded s (model_after_link_freed s j i)
stays_freed s j i = stays_on s (with_changed_link s j link_model_dropped) (model_after_link_freed s j i) (stays_link s j link_model_dropped (λ k e. refl)) (stays_connection (with_changed_link s j link_model_dropped) i (connection_with_activity Free) (λ c e. e) (λ c e. e) (λ c e. e))

stays_equal : (s t after : EngineModel) → after ≡ t → EndedEndsStayEnded s t → EndedEndsStayEnded s after
stays_equal s t after e h = subst (λ (x : EngineModel). EndedEndsStayEnded s x) (sym e) h

stays_stepped : (s t : EngineModel) (i : ℕ) (asked : Option Asked) (event : Event) (before emitted : List Effect) (after : EngineModel) → EndedEndsStayEnded s t → CoreIsStepped s t i asked event before emitted after → EndedEndsStayEnded s after
stays_stepped s t i asked event before emitted after h d =
    let now = model_with_core t d.core in
    stays_equal s (model_after_outcome i (request_is_head asked) (outcome_with_origin_address s.core.table d.outcome) now) after d.after_is
    (stays_on s t (model_after_outcome i (request_is_head asked) (outcome_with_origin_address s.core.table d.outcome) now) h (stays_on t now (model_after_outcome i (request_is_head asked) (outcome_with_origin_address s.core.table d.outcome) now) (stays_here t d.core) (stays_after now i (request_is_head asked) (outcome_with_origin_address s.core.table d.outcome))))

stays_passed : (s : EngineModel) (i : ℕ) (m : Next Request) → EndedEndsStayEnded s (with_changed_connection s i (connection_with_due_answer_used m))
stays_passed s i m = stays_connection s i (connection_with_due_answer_used m) (λ c e. e) (λ c e. e) (λ c e. e)

stays_arrived : (s : EngineModel) (now i : ℕ) (r : Request) (judged : Result Asked Refusal) (emitted : List Effect) (after : EngineModel) → RequestArrivesOrIsRefused s now i r judged emitted after → EndedEndsStayEnded s after
stays_arrived s now i r (Ok asked) emitted after d = stays_stepped s (with_changed_connection s i (connection_with_due_answer_used (next.Message r))) i _ _ _ emitted after (stays_passed s i (next.Message r)) d.1
stays_arrived s now i r (Err fault) emitted after d = stays_equal s _ after d.after_is (stays_closing s i true)

stays_served : (s : EngineModel) (now i : ℕ) (w : Next Request) (emitted : List Effect) (after : EngineModel) → ConnectionRequestIsServed s now i w emitted after → EndedEndsStayEnded s after
stays_served s now i next.More emitted after d = absurd d
stays_served s now i next.NeedsContinue emitted after d = stays_equal s _ after d.1 (stays_passed s i next.NeedsContinue)
stays_served s now i (next.Message r) emitted after d = stays_arrived s now i r d.0 emitted after d.2
stays_served s now i (next.Refused frame.Truncated) emitted after d = stays_equal s _ after d.1 (stays_closing s i true)
stays_served s now i (next.Refused frame.Head) emitted after d = stays_equal s _ after d.after_is (stays_closing s i true)
stays_served s now i (next.Refused frame.Version) emitted after d = stays_equal s _ after d.after_is (stays_closing s i true)
stays_served s now i (next.Refused frame.BothLengths) emitted after d = stays_equal s _ after d.after_is (stays_closing s i true)
stays_served s now i (next.Refused frame.Length) emitted after d = stays_equal s _ after d.after_is (stays_closing s i true)
stays_served s now i (next.Refused frame.Coding) emitted after d = stays_equal s _ after d.after_is (stays_closing s i true)
stays_served s now i (next.Refused frame.Chunk) emitted after d = stays_equal s _ after d.after_is (stays_closing s i true)
stays_served s now i (next.Refused frame.TooLarge) emitted after d = stays_equal s _ after d.after_is (stays_closing s i true)
stays_served s now i (next.Refused frame.Expect) emitted after d = stays_equal s _ after d.after_is (stays_closing s i true)
stays_served s now i (next.Refused frame.Status) emitted after d = stays_equal s _ after d.after_is (stays_closing s i true)
stays_served s now i next.End emitted after d = stays_equal s _ after d.1 (stays_closing s i true)

pub acts_stay : EndedEndsStayEndedAfterAct
acts_stay s now (Abandons i (Some l)) emitted after d = stays_stepped s (model_after_link_freed s l i) i _ _ _ emitted after (stays_freed s l i) d
acts_stay s now (Abandons i None) emitted after d = stays_stepped s (with_changed_connection s i (connection_with_activity Free)) i _ _ _ emitted after (stays_connection s i (connection_with_activity Free) (λ c e. e) (λ c e. e) (λ c e. e)) d
acts_stay s now (Finishes j (Gives r)) emitted after d = stays_stepped s (model_after_link_freed s j _) _ _ _ _ emitted after (stays_freed s j _) d.1
acts_stay s now (Finishes j (Breaks kind)) emitted after d = stays_stepped s (model_after_link_freed s j _) _ _ _ _ emitted after (stays_freed s j _) d
acts_stay s now (Wakes i) emitted after d = stays_stepped s (with_changed_connection s i (connection_with_activity Free)) i _ _ _ emitted after (stays_connection s i (connection_with_activity Free) (λ c e. e) (λ c e. e) (λ c e. e)) d.1
acts_stay s now (Serves i w) emitted after d = stays_served s now i w emitted after d
