use Rattle.std.proofs.Common.{◌∙◌}
use Rattle.proxy_store_file.proofs.Emptied.{front_of_nothing}
use Rattle.proxy_store_file.proofs.store_reading.read_store.Goals as goal

pub returns-in-Err-clause-emptied : goal.returns-in-Err-clause-emptied
returns-in-Err-clause-emptied g c = c.evict_to_weight.ensures.entries ∙ front_of_nothing (g.S.Shelf.entries c.fill.new.shelf)
