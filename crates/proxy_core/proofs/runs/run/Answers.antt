use Rattle.std.proofs.Common.{rules, arith, ◌≡◌, ◌<◌, ◌+◌, ◌++◌, ◌∷◌, [], ℕ, List, length, ap, ◌∙◌, sym, subst, length-append}
use Rattle.hx_allow.specs.TableLines.{Table}
use Rattle.proxy_core.specs.declared.event.Event.{Event}
use Rattle.proxy_core.specs.declared.outcome.Outcome.{Outcome}
use Rattle.proxy_core.specs.Traces.{trace_of_events, initial_state, state_after_trace, TraceIsGood}
use Rattle.proxy_core.specs.Histories.{IsGoodHistory}
use Rattle.proxy_core.specs.Headline.{Headline}
use Rattle.proxy_core.proofs.Tracing.{left-push, good-push, at_index, stops_at, refuses_or, same_good}
use Rattle.proxy_core.proofs.HeldLaw.{good_held, stops_held}
use Rattle.proxy_core.proofs.Headlines.{headline}
use Rattle.proxy_core.proofs.runs.run.Goals as goal
use Rattle.proxy_core.specs.Starts.{StoreAtStart, empty_store}

-- the trace so far is good over the bounded list, also where its outcomes are the same ones after room was found
module _ (table : Table) (start : StoreAtStart) (first : ℕ) (events : List Event) (outcomes more : List Outcome) (same : more ≡ outcomes)
    (g : TraceIsGood (initial_state table start first) (trace_of_events events outcomes)) where
  plain : TraceIsGood (initial_state table start first) (trace_of_events events more)
  plain = same_good (initial_state table start first) events outcomes more same g

  good : IsGoodHistory table start first (trace_of_events events more)
  good = good_held table start first (trace_of_events events more) plain

  has_it : Headline table start first (trace_of_events events more)
  has_it = headline table start first (trace_of_events events more) good

pub returns-clause-good : goal.returns-clause-good
returns-clause-good g c = good_held c.args.config _ _ _ c.loop-event.invariant.good

pub returns-in-Err-clause-good : goal.returns-in-Err-clause-good
returns-in-Err-clause-good g c =
    good c.args.config (empty_store (g.S.Shelf.limit c.args.shelf)) c.args.first_serial c.args.events.now c.loop-event.outcomes.items _ c.reserve.ensures.items c.loop-event.invariant.good

pub returns-then-is_err-clause-good : goal.returns-then-is_err-clause-good
returns-then-is_err-clause-good g c =
    good c.args.config (empty_store (g.S.Shelf.limit c.args.shelf)) c.args.first_serial c.args.events.now c.loop-event.outcomes.items _ c.reserve.ensures.items c.loop-event.invariant.good

pub returns-clause-headline : goal.returns-clause-headline
returns-clause-headline g c =
    headline c.args.config (empty_store (g.S.Shelf.limit c.args.shelf)) c.args.first_serial _ (good_held c.args.config (empty_store (g.S.Shelf.limit c.args.shelf)) c.args.first_serial _ c.loop-event.invariant.good)

pub returns-in-Err-clause-headline : goal.returns-in-Err-clause-headline
returns-in-Err-clause-headline g c =
    has_it c.args.config (empty_store (g.S.Shelf.limit c.args.shelf)) c.args.first_serial c.args.events.now c.loop-event.outcomes.items _ c.reserve.ensures.items c.loop-event.invariant.good

pub returns-then-is_err-clause-headline : goal.returns-then-is_err-clause-headline
returns-then-is_err-clause-headline g c =
    has_it c.args.config (empty_store (g.S.Shelf.limit c.args.shelf)) c.args.first_serial c.args.events.now c.loop-event.outcomes.items _ c.reserve.ensures.items c.loop-event.invariant.good

pub returns-in-Err-clause-stopped : goal.returns-in-Err-clause-stopped
returns-in-Err-clause-stopped g c =
    let i = c.loop-event.invariant in
    let start = empty_store (g.S.Shelf.limit c.args.shelf) in
    let n : c.loop-event.event-index < length c.args.events.now = omega arith in
    stops_held c.args.config start c.args.first_serial _ _ _
    (plain c.args.config start c.args.first_serial c.args.events.now c.loop-event.outcomes.items _ c.reserve.ensures.items i.good)
    (stops_at (initial_state c.args.config start c.args.first_serial) c.args.events.now c.loop-event.outcomes.items _ c.event-item.result c.loop-event.core _ c.reserve.ensures.items
    (at_index c.args.events.now _ _ c.event-item.result i.long n c.event-item.is) i.applies c.in-Err.ensures.err)

pub returns-then-is_err-clause-stopped : goal.returns-then-is_err-clause-stopped
returns-then-is_err-clause-stopped g c =
    let i = c.loop-event.invariant in
    let start = empty_store (g.S.Shelf.limit c.args.shelf) in
    let n : c.loop-event.event-index < length c.args.events.now = omega arith in
    stops_held c.args.config start c.args.first_serial _ _ _
    (plain c.args.config start c.args.first_serial c.args.events.now c.loop-event.outcomes.items _ c.reserve.ensures.items i.good)
    (stops_at (initial_state c.args.config start c.args.first_serial) c.args.events.now c.loop-event.outcomes.items _ c.event-item.result c.loop-event.core _ c.reserve.ensures.items
    (at_index c.args.events.now _ _ c.event-item.result i.long n c.event-item.is) i.applies (refuses_or c.loop-event.core c.event-item.result _ c.fault.result c.fault.ensures c.unwrap_or-fault.ensures))

pub loop-event-preserved : goal.loop-event-preserved
loop-event-preserved g c =
    let i = c.loop-event.invariant in
    let os = c.loop-event.outcomes.items in
    let es = c.args.events.now in
    let begun = initial_state c.args.config (empty_store (g.S.Shelf.limit c.args.shelf)) c.args.first_serial in
    let n : c.loop-event.event-index < length es = omega arith in
    let at = at_index es os _ c.event-item.result i.long n c.event-item.is in
    let p : c.push.new.self.items ≡ os ++ c.in-Ok.outcome ∷ [] = search rules in
    let k = c.in-Ok.ensures.ok in
    record {
      long = ap length p ∙ (length-append os (c.in-Ok.outcome ∷ []) ∙ ap (λ m. m + 1) i.long);
      applies = left-push begun es os c.event-item.result c.in-Ok.outcome c.loop-event.core _ at i.applies k ∙ ap (λ (zs : List Outcome). state_after_trace begun (trace_of_events es zs)) (sym p);
      good = subst (λ (zs : List Outcome). TraceIsGood begun (trace_of_events es zs)) (sym p) (good-push begun es os c.event-item.result c.in-Ok.outcome c.loop-event.core _ at i.applies k i.good);
    }
