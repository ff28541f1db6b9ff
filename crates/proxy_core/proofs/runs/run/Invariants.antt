use Rattle.std.proofs.Common.{◌≡◌, length}
use Rattle.proxy_core.specs.Starts.{empty_store}
use Rattle.proxy_core.specs.Traces.{trace_of_events, initial_state, state_after_trace, TraceIsGood}
use Rattle.proxy_core.proofs.runs.run.Given as goal

-- so many outcomes as events, a good trace, and the core that it leaves
abbrev pub invariant-loop-event : goal.invariant-loop-event
invariant-loop-event g l = record {
  long : length l.outcomes.items ≡ l.event-index;
  applies : l.core ≡ state_after_trace (initial_state l.fn.config (empty_store (g.S.Shelf.limit l.fn.shelf)) l.first_serial) (trace_of_events l.events l.outcomes.items);
  good : TraceIsGood (initial_state l.fn.config (empty_store (g.S.Shelf.limit l.fn.shelf)) l.first_serial) (trace_of_events l.events l.outcomes.items);
}
