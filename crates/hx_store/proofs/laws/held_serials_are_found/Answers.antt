use Rattle.hx_store.proofs.EntryLists.{serials_in_order, held_is_found, found_has_serial}
use Rattle.hx_store.proofs.laws.held_serials_are_found.Goals as goal

pub returns : goal.returns
returns c = record { serials = serials_in_order; held = held_is_found; found = found_has_serial }
