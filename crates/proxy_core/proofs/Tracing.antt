-- Traces of runs.
use Rattle.std.proofs.Common.{◌≡◌, ◌≢◌, inl, inr, ℕ, ◌<◌, false, Option, None, Some, List, [], ◌∷◌, ◌++◌, length, refl, sym, ◌∙◌, ap, subst, get_or}
use Rattle.std.specs.Prelude.{slice_get, unwrap_or}
use Rattle.std.proofs.lemmas.Option.{same_Some, slice_get_read}
use Rattle.hx_allow.specs.TableLines.{Table}
use Rattle.proxy_core.specs.Allowing.{verdict_of_asked, is_purge_verdict}
use Rattle.hx_allow.specs.declared.verdicts.Verdict.{Verdict}
use Rattle.hx_allow.specs.declared.verdicts.Verdict.TheVariants.{Allowed, DeniedBy, NoLine, Looped, Purged}
use Rattle.hx_allow.specs.declared.verdicts.RouteOverLine.{RouteOverLine}
use Rattle.hx_hop.specs.declared.request_view.Asked.{Asked}
use Rattle.hx_store.specs.Stored.{Stored}
use Rattle.proxy_core.specs.declared.outcome.Outcome.{Outcome}
use Rattle.proxy_core.specs.declared.open.exchange.Exchange.{Exchange}
use Rattle.proxy_core.specs.declared.event.Event.{Event}
use Rattle.proxy_core.specs.declared.event.Event.TheVariants.{Arrive, Answer, Fail, Wake, Abandon, Overdue}
use Rattle.proxy_core.specs.declared.core_fault.CoreFault.{CoreFault}
use Rattle.proxy_core.specs.declared.core_fault.CoreFault.TheVariants.{OutOfMemory}
use Rattle.proxy_core.specs.Outcomes.{outcome_of_arrival, step_fault}
use Rattle.proxy_core.specs.State.{State, StepIsAccepted, StepIsRefusedWith, state_after_event}
use Rattle.proxy_core.specs.Traces.{Item, trace_extended_by_events, trace_of_events, state_after_trace, ItemIsAccepted, TraceIsGood, RunStopsWithFault, ArrivalIsDenied, OutcomeIsReplyWithoutStoreUse, DeniedRequestsLeaveNoTrace}

pub trace_on-push : (past : List Item) (outcomes : List Outcome) (events : List Event) (e : Event) (o : Outcome) → slice_get events (length outcomes) ≡ Some e
    → trace_extended_by_events past (outcomes ++ o ∷ []) events ≡ record { event = e; outcome = o } ∷ trace_extended_by_events past outcomes events
trace_on-push past [] [] e o h = absurd (cc)
trace_on-push past [] (f ∷ events) e o h =
    let k : f ≡ e = same_Some f e h in
    ap (λ (x : Event). record { event = x; outcome = o } ∷ past) k
trace_on-push past (p ∷ outcomes) [] e o h = absurd (cc)
trace_on-push past (p ∷ outcomes) (f ∷ events) e o h = trace_on-push (record { event = f; outcome = p } ∷ past) outcomes events e o h

-- one step more
pub left-push : (start : State) (events : List Event) (outcomes : List Outcome) (e : Event) (o : Outcome) (s t : State) → slice_get events (length outcomes) ≡ Some e → s ≡ state_after_trace start (trace_of_events events outcomes) → StepIsAccepted s e o t
    → t ≡ state_after_trace start (trace_of_events events (outcomes ++ o ∷ []))
left-push start events outcomes e o s t h l k =
    k.leaves ∙ (ap (λ (u : State). state_after_event u e o) l ∙ sym (ap (state_after_trace start) (trace_on-push [] outcomes events e o h)))

-- the table stays
pub same_table : (start : State) (trace : List Item) → (state_after_trace start trace).table ≡ start.table
same_table start [] = refl
same_table start (item ∷ past) = same_table start past

pub same_limit : (start : State) (trace : List Item) → (state_after_trace start trace).limit ≡ start.limit
same_limit start [] = refl
same_limit start (item ∷ past) = same_limit start past

pub good-push : (start : State) (events : List Event) (outcomes : List Outcome) (e : Event) (o : Outcome) (s t : State) → slice_get events (length outcomes) ≡ Some e → s ≡ state_after_trace start (trace_of_events events outcomes) → StepIsAccepted s e o t
    → TraceIsGood start (trace_of_events events outcomes) → TraceIsGood start (trace_of_events events (outcomes ++ o ∷ []))
good-push start events outcomes e o s t h l k g =
    let past = trace_of_events events outcomes in
    let here = subst (λ (u : State). StepIsAccepted u e o t) l k in
    let accepts : ItemIsAccepted start.table (state_after_trace start past).entries (state_after_trace start past).exchanges (state_after_trace start past).next (record { event = e; outcome = o }) =
    subst (λ (table : Table). ItemIsAccepted table (state_after_trace start past).entries (state_after_trace start past).exchanges (state_after_trace start past).next (record { event = e; outcome = o })) (same_table start past)
    record { allowed = here.allowed; outcome_is = here.outcome_is } in
    subst (TraceIsGood start) (sym (trace_on-push [] outcomes events e o h)) (accepts, g)

pub at_index : (events : List Event) (outcomes : List Outcome) (i : ℕ) (e : Event) → length outcomes ≡ i → i < length events → e ≡ get_or events i e → slice_get events (length outcomes) ≡ Some e
at_index events outcomes i e l h k = ap (slice_get events) l ∙ slice_get_read events (length events) i e refl h k

pub stops_at : (start : State) (events : List Event) (outcomes more : List Outcome) (e : Event) (s : State) (fault : CoreFault) → more ≡ outcomes → slice_get events (length outcomes) ≡ Some e → s ≡ state_after_trace start (trace_of_events events outcomes) → StepIsRefusedWith s e fault
    → RunStopsWithFault (state_after_trace start (trace_of_events events more)) (slice_get events (length more)) fault
stops_at start events outcomes more e s fault m h l r =
    let refused : StepIsRefusedWith (state_after_trace start (trace_of_events events outcomes)) e fault = subst (λ (u : State). StepIsRefusedWith u e fault) l r in
    let stops = subst (λ (o : Option Event). RunStopsWithFault (state_after_trace start (trace_of_events events outcomes)) o fault) (sym h) refused in
    subst (λ (os : List Outcome). RunStopsWithFault (state_after_trace start (trace_of_events events os)) (slice_get events (length os)) fault) (sym m) stops

pub refuses_or : (s : State) (e : Event) (fault : CoreFault) (r : Option CoreFault) → r ≡ step_fault s.exchanges e → fault ≡ unwrap_or r OutOfMemory → StepIsRefusedWith s e fault
refuses_or s e fault None k f = inr (sym k, f)
refuses_or s e fault (Some w) k f = inl (sym k ∙ ap (λ (x : CoreFault). Some x) (sym f))

pub same_good : (start : State) (events : List Event) (outcomes more : List Outcome) → more ≡ outcomes → TraceIsGood start (trace_of_events events outcomes) → TraceIsGood start (trace_of_events events more)
same_good start events outcomes more m g = subst (λ (os : List Outcome). TraceIsGood start (trace_of_events events os)) (sym m) g

-- ---- a denied request leaves no trace

denied_by : (table : Table) (es : List Stored) (xs : List Exchange) (now : ℕ) (asked : Asked) (v : Verdict) → ((line : RouteOverLine) → v ≢ Allowed line) → is_purge_verdict v ≡ false → OutcomeIsReplyWithoutStoreUse (outcome_of_arrival table es xs now asked v)
denied_by table es xs now asked (Allowed line) n p = absurd (n line refl)
denied_by table es xs now asked (DeniedBy line) n p = (refl, refl, refl, refl)
denied_by table es xs now asked NoLine n p = (refl, refl, refl, refl)
denied_by table es xs now asked (Looped line) n p = (refl, refl, refl, refl)
denied_by table es xs now asked (Purged line) n p = absurd (cc)

denied_item : (table : Table) (s : State) (event : Event) (outcome : Outcome) → ItemIsAccepted table s.entries s.exchanges s.next (record { event = event; outcome = outcome }) → ArrivalIsDenied table event → OutcomeIsReplyWithoutStoreUse outcome
denied_item table s (Arrive now id asked) outcome a d = subst OutcomeIsReplyWithoutStoreUse (sym a.outcome_is) (denied_by table s.entries s.exchanges now asked (verdict_of_asked table asked) d.0 d.1)
denied_item table s (Answer now id r) outcome a d = absurd d
denied_item table s (Fail now id kind) outcome a d = absurd d
denied_item table s (Wake now id) outcome a d = absurd d
denied_item table s (Abandon id) outcome a d = absurd d
denied_item table s (Overdue id) outcome a d = absurd d

pub denied_requests_leave_no_trace : (start : State) (trace : List Item) → TraceIsGood start trace → DeniedRequestsLeaveNoTrace start.table trace
denied_requests_leave_no_trace start [] g = tt
denied_requests_leave_no_trace start (i ∷ past) g =
    (λ d. denied_item start.table (state_after_trace start past) i.event i.outcome g.0 d, denied_requests_leave_no_trace start past g.1)
