use Rattle.std.proofs.Common.{refl}
use Rattle.hx_storable.proofs.TableLemmas.{each_is_listed}
use Rattle.hx_storable.proofs.laws.storing_rule_lists_are_complete_and_in_order.Goals as goal

pub returns : goal.returns
returns c = record { numbers = refl; listed = each_is_listed; words = refl }
