use Rattle.proxy_core.proofs.Carries.{carries_its_arrival}
use Rattle.proxy_core.proofs.InOrder.{open_in_order_of_arrival}
use Rattle.proxy_core.proofs.laws.an_open_exchange_records_how_it_was_judged.Goals as goal

pub returns : goal.returns
returns c = record { carries = carries_its_arrival; order = open_in_order_of_arrival }
