use Rattle.std.proofs.Common.{rules, ◌≡◌, ℕ, Bool, List, ap, subst, ◌∙◌}
use Rattle.std.specs.Prelude.{IfOk}
use Rattle.std.specs.List.{filter}
use Rattle.std.specs.Map.{keys_of}
use Rattle.hx_store.specs.Index.{serials_and_marks_at}
use Rattle.hx_store.specs.Shelf.{find_entry_of_serial, entry_vary_matches_request, matching_serials}
use Rattle.hx_store.proofs.indexed_entries.IndexedEntries.find_matching_serials.Goals as goal

pub returns-in-Some-clause-found : goal.returns-in-Some-clause-found
returns-in-Some-clause-found c =
    let es = c.self.inside.entries in
    let key = c.args.key.now in
    let request = c.args.request.now in
    let is : ℕ → Bool = λ s. entry_vary_matches_request request (find_entry_of_serial s es) in
    let at : c.in-Some.marks.now ≡ serials_and_marks_at c.self.inside.index key = search rules in
    let all : filter is (keys_of c.in-Some.marks.now) ≡ matching_serials key request c.args.self.now =
    ap (λ ps. filter is (keys_of ps)) at ∙ ap (filter is) (c.self.invariant.0.1 key) ∙ ap (matching_serials key request) c.self.view_is in
    subst (λ (xs : List ℕ). IfOk c.matching_serials_among_marks.result (λ found. found ≡ xs)) all c.matching_serials_among_marks.ensures
