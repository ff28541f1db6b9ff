-- A trace up to where nothing is open, and one over what was held then, are one.
use Rattle.std.proofs.Common.{◌≡◌, ℕ, Option, Some, List, [], ◌∷◌, ◌++◌, refl, sym, ◌∙◌, ap, subst}
use Rattle.hx_allow.specs.TableLines.{Table}
use Rattle.hx_store.specs.Stored.{Stored}
use Rattle.proxy_core.specs.declared.open.exchange.Exchange.{Exchange}
use Rattle.proxy_core.specs.State.{State, state_after_event, bounds_of, NoSerialIsHeldFrom}
use Rattle.proxy_core.specs.Starts.{StoreAtStart, StoreAtStartIsValid}
use Rattle.proxy_core.specs.Traces.{Item, initial_state, state_after_trace, ItemIsAccepted, TraceIsGood}
use Rattle.proxy_core.specs.Histories.{held_entries, IsGoodHistory}
use Rattle.proxy_core.specs.Restarts.{NoExchangeIsOpenAfter, store_after_trace, TracesAroundARestartJoin, TraceSplitsAtARestart, SplitTraceLeavesSameStateAsWhole, RestartedTraceLeavesSameState}
use Rattle.proxy_core.proofs.HeldLaw.{good_held, good_plain, stands_for, entries_are_held, exchanges_are_open, next_is_counted}
use Rattle.proxy_core.proofs.FirstRules.{held_distinct}
use Rattle.proxy_core.proofs.HeldWithin.{held_is_within}
use Rattle.proxy_core.proofs.Headlines.{headline}
use Rattle.proxy_core.proofs.OneOutcome.{no_other_trace_has_it}
use Rattle.proxy_core.proofs.Stepping.{st}
use Rattle.proxy_core.proofs.Tracing.{same_table}
use Rattle.proxy_core.proofs.TwiceForward.{part}

-- what a trace leaves of a core, and another after it
leaves_on : (begun : State) (before after : List Item) → state_after_trace begun (after ++ before) ≡ state_after_trace (state_after_trace begun before) after
leaves_on begun before [] = refl
leaves_on begun before (i ∷ after) = ap (λ (s : State). state_after_event s i.event i.outcome) (leaves_on begun before after)

-- the other trace is good from what the first leaves
good_on : (begun : State) (before after : List Item) → TraceIsGood begun before → TraceIsGood (state_after_trace begun before) after → TraceIsGood begun (after ++ before)
good_on begun before [] g h = g
good_on begun before (i ∷ after) g h = (
  subst (λ (s : State). ItemIsAccepted begun.table s.entries s.exchanges s.next i) (sym (leaves_on begun before after))
      (subst (λ (t : Table). ItemIsAccepted t (state_after_trace (state_after_trace begun before) after).entries (state_after_trace (state_after_trace begun before) after).exchanges (state_after_trace (state_after_trace begun before) after).next i)
      (same_table begun before) h.0),
  good_on begun before after g h.1,
)

-- and the other way round, where what the first leaves may be held at first
good_back : (begun : State) (before after : List Item) → StoreAtStartIsValid (bounds_of (state_after_trace begun before).table (state_after_trace begun before).limit) (state_after_trace begun before).next (state_after_trace begun before).entries →
    TraceIsGood begun (after ++ before) → TraceIsGood (state_after_trace begun before) after
good_back begun before [] stands g = stands
good_back begun before (i ∷ after) stands g = (
  subst (λ (t : Table). ItemIsAccepted t (state_after_trace (state_after_trace begun before) after).entries (state_after_trace (state_after_trace begun before) after).exchanges (state_after_trace (state_after_trace begun before) after).next i)
      (sym (same_table begun before))
      (subst (λ (s : State). ItemIsAccepted begun.table s.entries s.exchanges s.next i) (leaves_on begun before after) g.0),
  good_back begun before after stands g.1,
)

-- ---- what the first leaves is what the second begins with

left_is : (s : State) (table : Table) (limit : ℕ) (es : List Stored) (next : ℕ) → s.table ≡ table → s.limit ≡ limit → s.entries ≡ es → s.exchanges ≡ [] → s.next ≡ Some next →
    s ≡ initial_state table (record { limit = limit; entries = es }) next
left_is s table limit es next a b c d e =
    ap (λ (t : Table). st t s.limit s.entries s.exchanges s.next) a
    ∙ ap (λ (l : ℕ). st table l s.entries s.exchanges s.next) b
    ∙ ap (λ (zs : List Stored). st table limit zs s.exchanges s.next) c
    ∙ ap (λ (xs : List Exchange). st table limit es xs s.next) d
    ∙ ap (λ (n : Option ℕ). st table limit es [] n) e

module _ (table : Table) (start : StoreAtStart) (first next : ℕ) (before : List Item) (quiet : NoExchangeIsOpenAfter table start first next before)
    (good : IsGoodHistory table start first before) where
  abbrev begun : State
  begun = initial_state table start first

  abbrev again : State
  again = initial_state table (store_after_trace table start before) next

  begins_again : state_after_trace begun before ≡ again
  begins_again =
      let plain = good_plain table start first before good in
      let p = stands_for table start first before plain in
      left_is (state_after_trace begun before) table start.limit (held_entries table start before) next p.table_is p.limit_is
      (entries_are_held table start first before plain) (p.exchanges_are ∙ quiet.none_open) (p.next_is ∙ quiet.next_is)

  may_begin : StoreAtStartIsValid (bounds_of table start.limit) (Some next) (held_entries table start before)
  may_begin =
      let plain = good_plain table start first before good in
      let p = stands_for table start first before plain in
      record {
        distinct = held_distinct table start first before good;
        below_next = subst (NoSerialIsHeldFrom (Some next)) (entries_are_held table start first before plain)
            (subst (λ (n : Option ℕ). NoSerialIsHeldFrom n (state_after_trace begun before).entries) (p.next_is ∙ quiet.next_is) p.fresh);
        within = held_is_within table start first before good;
      }

  whole_is_good : (after : List Item) → IsGoodHistory table (store_after_trace table start before) next after → IsGoodHistory table start first (after ++ before)
  whole_is_good after g =
      good_held table start first (after ++ before)
      (good_on begun before after (good_plain table start first before good)
      (subst (λ (s : State). TraceIsGood s after) (sym begins_again) (good_plain table (store_after_trace table start before) next after g)))

  rest_is_plain : (after : List Item) → TraceIsGood begun (after ++ before) → TraceIsGood again after
  rest_is_plain after g =
      subst (λ (s : State). TraceIsGood s after) begins_again
      (good_back begun before after (subst (λ (s : State). TraceIsGood s []) (sym begins_again) may_begin) g)

  leaves_same : (after : List Item) → TraceIsGood begun (after ++ before) → SplitTraceLeavesSameStateAsWhole table start first next before after
  leaves_same after g =
      let rest = rest_is_plain after g in
      let same : state_after_trace begun (after ++ before) ≡ state_after_trace again after =
      leaves_on begun before after ∙ ap (λ (s : State). state_after_trace s after) begins_again
      in
      record {
        held = sym (entries_are_held table (store_after_trace table start before) next after rest)
            ∙ ap (λ (s : State). s.entries) (sym same) ∙ entries_are_held table start first (after ++ before) g;
        exchanges = sym (exchanges_are_open table (store_after_trace table start before) next after rest)
            ∙ ap (λ (s : State). s.exchanges) (sym same) ∙ exchanges_are_open table start first (after ++ before) g;
        next_is = sym (next_is_counted table (store_after_trace table start before) next after rest)
            ∙ ap (λ (s : State). s.next) (sym same) ∙ next_is_counted table start first (after ++ before) g;
      }

pub those_are_one : TracesAroundARestartJoin
those_are_one table start first next before after quiet final finals one other =
    let good = no_other_trace_has_it table start first before one final in
    let rest = no_other_trace_has_it table (store_after_trace table start before) next after other finals in
    headline table start first (after ++ before) (whole_is_good table start first next before quiet good after rest)

-- the trace before is good where the whole is
good_before : (table : Table) (start : StoreAtStart) (first : ℕ) (before after : List Item) → IsGoodHistory table start first (after ++ before) → IsGoodHistory table start first before
good_before table start first before after g =
    good_held table start first before
    (part (initial_state table start first) after before (good_plain table start first (after ++ before) g))

pub one_is_those : TraceSplitsAtARestart
one_is_those table start first next before after quiet final whole =
    let good = no_other_trace_has_it table start first (after ++ before) whole final in
    let first_good = good_before table start first before after good in
    let rest = rest_is_plain table start first next before quiet first_good after (good_plain table start first (after ++ before) good) in (
      headline table start first before first_good,
      headline table (store_after_trace table start before) next after (good_held table (store_after_trace table start before) next after rest),
    )

pub leaves_the_same : RestartedTraceLeavesSameState
leaves_the_same table start first next before after quiet final whole =
    let good = no_other_trace_has_it table start first (after ++ before) whole final in
    leaves_same table start first next before quiet (good_before table start first before after good) after (good_plain table start first (after ++ before) good)
