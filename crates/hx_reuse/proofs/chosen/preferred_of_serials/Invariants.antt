use Rattle.std.proofs.Common.{◌≡◌, drop}
use Rattle.std.specs.Prelude.{fold}
use Rattle.std.specs.List.{filter_map}
use Rattle.std.specs.Option.{option_copied}
use Rattle.hx_store.specs.Shelf.{find_entry_of_serial}
use Rattle.hx_reuse.specs.Chosen.{preferred_of_two, most_preferred_response}
use Rattle.hx_reuse.proofs.chosen.preferred_of_serials.Given as goal

abbrev pub invariant-loop-serial : goal.invariant-loop-serial
invariant-loop-serial g l =
    fold preferred_of_two (option_copied l.best) (filter_map (λ s. find_entry_of_serial s (g.S.Shelf.entries l.shelf)) (drop l.serial-index l.serials))
    ≡ most_preferred_response (filter_map (λ s. find_entry_of_serial s (g.S.Shelf.entries l.shelf)) l.serials)
