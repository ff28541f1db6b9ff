use Rattle.std.proofs.Common.{ap}
use Rattle.hx_allow.specs.PurgeModes.{purge_mode_of_field_values}
use Rattle.hx_allow.specs.Tags.{purge_tag_of_values}
use Rattle.hx_allow.proofs.PurgeOrders.{orders_known, same_scope}
use Rattle.hx_allow.proofs.purge_mode_cases.purge_is_known_where_each_order_is.Goals as goal

pub returns : goal.returns
returns c = record {
  known = orders_known;
  mode = λ fields other same. ap purge_mode_of_field_values same;
  tag = λ fields other same. ap purge_tag_of_values same;
  scope = same_scope;
}
