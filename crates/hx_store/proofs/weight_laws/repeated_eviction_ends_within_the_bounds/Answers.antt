use Rattle.std.proofs.Common.{arith}
use Rattle.hx_store.proofs.CountedWeights.{counted_bound, counted_shows}
use Rattle.hx_store.proofs.ShedEntries.{numbers_first, nothing_shed, shed_is_last, shed_until_within, shedding_keeps_the_cut}
use Rattle.hx_store.proofs.weight_laws.repeated_eviction_ends_within_the_bounds.Goals as goal

pub returns : goal.returns
returns c = record {
  last = shed_is_last;
  light = nothing_shed;
  same = shedding_keeps_the_cut;
  end = shed_until_within;
  numbers_first = numbers_first;
  counted = counted_shows;
  fits = λ es h. let b = counted_bound es in omega arith;
}
