use Rattle.std.proofs.Common.{refl}
use Rattle.hx_store.specs.Weights.{weight_of_entry}
use Rattle.hx_store.proofs.Fronts.{cut_is_longest, one_longest, front_of_within, one_more, front_is_within, first_stays, within_stays}
use Rattle.hx_store.proofs.weight_laws.the_longest_prefix_within_its_bounds_stays.Goals as goal

pub returns : goal.returns
returns c = record {
  longest = λ bounds es. cut_is_longest bounds weight_of_entry es;
  one = λ bounds es a b g h. one_longest bounds weight_of_entry es a b g h;
  tail = λ bounds es. front_of_within bounds weight_of_entry es;
  one_more = λ bounds es gone e g h. one_more bounds weight_of_entry es gone e g h;
  front = λ bounds front behind h. front_is_within bounds weight_of_entry front behind h;
  first = λ bounds e behind h. first_stays bounds weight_of_entry e behind h;
  whole = λ bounds es h. within_stays bounds weight_of_entry es h;
  by_number = λ most es. refl;
}
