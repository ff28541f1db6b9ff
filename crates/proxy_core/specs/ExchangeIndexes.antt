-- What stands beside the open exchanges.
use Rattle.std.specs.Prelude.{ℕ, List, Option}
use Rattle.proxy_core.specs.declared.open.arrivals_by_key.ArrivalsByKey.{ArrivalsByKey}
use Rattle.proxy_core.specs.declared.open.exchange.Exchange.{Exchange}
use Rattle.proxy_core.specs.declared.open.released.Released.{Released}
use Rattle.proxy_core.specs.declared.open.wait_index.WaitIndex.{WaitIndex}
use Rattle.proxy_core.specs.Arrivals.{IndexesMatchExchanges}
use Rattle.proxy_core.specs.ByKey.{ArrivalsByKeyAreExact, NoIndexOfArrivalsHasEmptySet}
use Rattle.proxy_core.specs.Releases.{ReleasedStatesFirstReleasedArrival}
use Rattle.proxy_core.specs.Waiters.{arrival_is_in_wait_index, WaitIndexHasNoEmptySet}

-- the indexes are right, and what is known of the released ones: of what is over nothing is kept
pub record ExchangeIndexesAreExact (es : List (ℕ × Exchange)) (arrivals : ℕ → Option ℕ) (waiting : WaitIndex)
    (released : Released)
    (by_key : ArrivalsByKey) : Type 0 where
  pub indexes : IndexesMatchExchanges es arrivals (arrival_is_in_wait_index waiting)
  pub releases : ReleasedStatesFirstReleasedArrival released es
  pub asking : ArrivalsByKeyAreExact by_key es
  pub no_empty_waiter_sets : WaitIndexHasNoEmptySet waiting
  pub no_empty_keys : NoIndexOfArrivalsHasEmptySet by_key
