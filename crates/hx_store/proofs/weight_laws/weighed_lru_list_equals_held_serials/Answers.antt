use Rattle.hx_store.specs.WeightedRecency.{changes_of}
use Rattle.hx_store.proofs.Recency.{Decides-recent}
use Rattle.hx_store.proofs.RecencyOrder.{ordered}
use Rattle.hx_store.proofs.WeightedRecency.{weighed_law, is_in-weighed_held, weighed_held_front, weighed_held_more, weighed_held_within}
use Rattle.hx_store.proofs.weight_laws.weighed_lru_list_equals_held_serials.Goals as goal

pub returns : goal.returns
returns c = record {
  listed = λ past s. Decides-recent (changes_of past) s;
  ordered = λ past a b h k. ordered (changes_of past) a b h k;
  same = weighed_law;
  counted = is_in-weighed_held;
  front = weighed_held_front;
  more = weighed_held_more;
  within = weighed_held_within;
}
