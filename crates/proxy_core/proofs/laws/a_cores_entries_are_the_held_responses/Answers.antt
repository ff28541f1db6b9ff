use Rattle.proxy_core.proofs.HeldLaw.{good_held, good_plain, entries_are_held, exchanges_are_open, next_is_counted}
use Rattle.proxy_core.proofs.laws.a_cores_entries_are_the_held_responses.Goals as goal

pub returns : goal.returns
returns c = record { held = good_held; listed = good_plain; entries = entries_are_held; exchanges = exchanges_are_open; next = next_is_counted }
