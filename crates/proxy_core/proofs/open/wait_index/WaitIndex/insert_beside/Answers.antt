use Rattle.std.proofs.Common.{rules, ◌≡◌, ap, sym, ◌∙◌, Some, is_some}
use Rattle.std.specs.Ordering.{nat_cmp}
use Rattle.std.specs.BTreeMap.{WritesThrough, get_by}
use Rattle.proxy_core.specs.declared.open.wait_index.WaitIndex.{WaitIndex}
use Rattle.proxy_core.proofs.Waiters.{not_nothing, some_has, trim-same, trim-written}
use Rattle.proxy_core.proofs.open.wait_index.WaitIndex.insert_beside.Goals as goal

pub returns-in_err-insert-in-Some-clause-trim : goal.returns-in_err-insert-in-Some-clause-trim
returns-in_err-insert-in-Some-clause-trim c o =
    let old = c.args.self.now in
    let id = c.args.id in
    let set = c.insert.new.self in
    let new : WaitIndex = record { alloc = old.alloc; arrivals = c.get_mut.follows.lender set } in
    let u : WritesThrough nat_cmp (nat_cmp id) old.arrivals set new.arrivals = search rules in
    let m : get_by (nat_cmp id) old.arrivals ≡ Some c.in-Some.arrivals.now = search rules in
    trim-written id old new (Some set) (u.3 (ap is_some m)).0
    (some_has set (λ k. o id c.in-Some.arrivals.now m (sym c.in_err-insert-in-Some.ensures.err ∙ k))) o

pub returns-in_ok-insert-in-Some-clause-trim : goal.returns-in_ok-insert-in-Some-clause-trim
returns-in_ok-insert-in-Some-clause-trim c o =
    let old = c.args.self.now in
    let id = c.args.id in
    let set = c.insert.new.self in
    let new : WaitIndex = record { alloc = old.alloc; arrivals = c.get_mut.follows.lender set } in
    let u : WritesThrough nat_cmp (nat_cmp id) old.arrivals set new.arrivals = search rules in
    let m : get_by (nat_cmp id) old.arrivals ≡ Some c.in-Some.arrivals.now = search rules in
    trim-written id old new (Some set) (u.3 (ap is_some m)).0
    (some_has set (λ k. not_nothing c.args.arrival c.in-Some.arrivals.now.keys (sym c.in_ok-insert-in-Some.ensures.keys ∙ k))) o

pub returns-in-None-clause-trim : goal.returns-in-None-clause-trim
returns-in-None-clause-trim c o =
    let e : c.get_mut.follows.lender-at-none ≡ c.args.self.now.arrivals = search rules in
    trim-same c.args.self.now (record { alloc = c.args.self.now.alloc; arrivals = c.get_mut.follows.lender-at-none }) (ap (λ m. m.entries) e) o
