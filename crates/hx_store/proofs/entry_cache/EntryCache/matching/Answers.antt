use Rattle.std.proofs.Common.{ℕ, Bool, sym, ap, ◌∙◌}
use Rattle.std.specs.List.{list_all}
use Rattle.hx_store.specs.Shelf.{find_entry_of_serial, entry_vary_matches_request}
use Rattle.hx_store.proofs.MatchLists.{filter_all}
use Rattle.hx_store.proofs.entry_cache.EntryCache.matching.Goals as goal

pub returns-then-branch : goal.returns-then-branch
returns-then-branch c =
    let is : ℕ → Bool = λ s. entry_vary_matches_request c.args.request.now (find_entry_of_serial s c.args.self.now) in
    sym (filter_all is c.args.serials (ap (list_all is) (sym c.as_slice.ensures) ∙ sym c.in_ok-all_match.ensures ∙ c.if-branch.true))
