use Rattle.std.proofs.Common.{rules, ◌≡◌, ℕ, Bool, List, ap, subst, ◌∙◌}
use Rattle.std.specs.Prelude.{IfOk, nat_eq}
use Rattle.std.specs.HashSet.{contains}
use Rattle.std.specs.List.{filter}
use Rattle.std.specs.Map.{keys_of}
use Rattle.hx_vary.proofs.MarkLemmas.{misses_nothing}
use Rattle.hx_store.specs.Index.{entry_matches_values, serials_that_may_match}
use Rattle.hx_store.specs.Shelf.{find_entry_of_serial, entry_vary_matches_request}
use Rattle.hx_store.proofs.MarkLists.{by_values, looks_enough}
use Rattle.hx_store.proofs.entry_cache.EntryCache.matching_serials_among_marks.Goals as goal

pub returns : goal.returns
returns c =
    let es = c.args.self.now in
    let seed = c.args.seed in
    let request = c.args.request.now in
    let values = c.in_ok-asked.asked.values in
    let has = contains nat_eq c.in_ok-asked.asked.tags in
    let marks = c.args.marks.now in
    let by : ℕ → Bool = λ s. entry_matches_values values (find_entry_of_serial s es) in
    let is : ℕ → Bool = λ s. entry_vary_matches_request request (find_entry_of_serial s es) in
    let marked : c.as_slice.result.now ≡ serials_that_may_match has marks = search rules in
    let all : filter by c.as_slice.result.now ≡ filter is (keys_of marks) =
    ap (filter by) marked ∙ by_values request values c.in_ok-asked.ensures.values es (serials_that_may_match has marks)
    ∙ looks_enough seed request has (λ kept. misses_nothing seed kept request has c.in_ok-asked.ensures.tags) es marks c.requires in
    subst (λ (xs : List ℕ). IfOk c.matching_by_values.result (λ found. found ≡ xs)) all c.matching_by_values.ensures
