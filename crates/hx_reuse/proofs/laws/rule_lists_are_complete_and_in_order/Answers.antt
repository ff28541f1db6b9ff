use Rattle.std.proofs.Common.{refl}
use Rattle.hx_reuse.proofs.TableLemmas.{each_is_listed, on_the_chosen, against_none, each_error_rule_is_listed}
use Rattle.hx_reuse.proofs.laws.rule_lists_are_complete_and_in_order.Goals as goal

pub returns : goal.returns
returns c =
    record {
      numbers = refl;
      listed = each_is_listed;
      groups = refl;
      named = refl;
      chosen = on_the_chosen;
      others = against_none;
      error_numbers = refl;
      error_listed = each_error_rule_is_listed;
    }
