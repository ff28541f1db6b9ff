use Rattle.hx_store.proofs.RecencyOrder.{place_of_listed, place_of_absent}
use Rattle.hx_store.proofs.laws.count_before_is_the_position_of_a_serial.Goals as goal

pub returns : goal.returns
returns c = record { listed = place_of_listed; absent = place_of_absent }
