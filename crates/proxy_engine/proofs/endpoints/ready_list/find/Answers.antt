use Rattle.std.proofs.Common.{rules}
use Rattle.std.specs.Ordering.{nat_cmp}
use Rattle.std.proofs.lemmas.Fn.{always_returns_same}
use Rattle.proxy_engine.proofs.Rising.{found_there, found_behind}
use Rattle.proxy_engine.proofs.endpoints.ready_list.find.Goals as goal

-- the closure compares numbers
pub returns : goal.returns
returns c =
    let facts = c.binary_search_by.ensures in
    let by = facts.position (λ x. nat_cmp x c.args.place) (always_returns_same _ _ _ (λ a r f k. search rules)) in
    record { there = found_there c.args.places.now c.args.place _ facts.bound by; behind = found_behind c.args.places.now c.args.place _ facts.bound by c.requires }
