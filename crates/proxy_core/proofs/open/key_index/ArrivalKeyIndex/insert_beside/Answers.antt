use Rattle.std.proofs.Common.{rules, ◌≡◌, ◌||◌, eqb, ap, sym, ◌∙◌, Some, is_some}
use Rattle.std.specs.List.{list_any}
use Rattle.std.specs.Ordering.{nat_cmp}
use Rattle.std.specs.BTreeMap.{WritesThrough, get_by, is_at}
use Rattle.std.specs.BTreeSet.{contains}
use Rattle.hx_target.specs.KeyOrder.{key_cmp}
use Rattle.proxy_core.specs.declared.open.key_index.ArrivalKeyIndex.{ArrivalKeyIndex}
use Rattle.proxy_core.specs.Waiters.{set_contains}
use Rattle.proxy_core.specs.ByKey.{KeyIndexesHaveSameMembers}
use Rattle.proxy_core.proofs.Waiters.{not_nothing, some_has}
use Rattle.proxy_core.proofs.KeyIndices.{entered, put, same, written, trim-same, trim-written}
use Rattle.proxy_core.proofs.open.key_index.ArrivalKeyIndex.insert_beside.Goals as goal

pub returns-in_err-insert-in-Some-clause-err : goal.returns-in_err-insert-in-Some-clause-err
returns-in_err-insert-in-Some-clause-err c =
    let old = c.args.self.now in
    let key = c.args.key.now in
    let set = c.insert.new.self in
    let new : ArrivalKeyIndex = record { alloc = old.alloc; arrivals = c.get_mut.follows.lender set } in
    let u : WritesThrough key_cmp (key_cmp key) old.arrivals set new.arrivals = search rules in
    let m : get_by (key_cmp key) old.arrivals ≡ Some c.in-Some.arrivals.now = search rules in
    let k : KeyIndexesHaveSameMembers old new = same key old new (λ n. contains nat_cmp set n) (written key old new (Some set) (u.3 (ap is_some m)).0)
    (λ n. ap (list_any (is_at (nat_cmp n))) c.in_err-insert-in-Some.ensures.err ∙ sym (ap (λ o. set_contains o n) m)) in
    search rules

pub returns-in_ok-insert-in-Some-clause-ok : goal.returns-in_ok-insert-in-Some-clause-ok
returns-in_ok-insert-in-Some-clause-ok c =
    let old = c.args.self.now in
    let key = c.args.key.now in
    let set = c.insert.new.self in
    let new : ArrivalKeyIndex = record { alloc = old.alloc; arrivals = c.get_mut.follows.lender set } in
    let u : WritesThrough key_cmp (key_cmp key) old.arrivals set new.arrivals = search rules in
    let m : get_by (key_cmp key) old.arrivals ≡ Some c.in-Some.arrivals.now = search rules in
    entered key c.args.arrival old new (λ n. contains nat_cmp set n) (written key old new (Some set) (u.3 (ap is_some m)).0)
    (λ n. put c.args.arrival c.in-Some.arrivals.now set c.in_ok-insert-in-Some.ensures.updates.0 n ∙ ap (λ b. eqb c.args.arrival n || b) (sym (ap (λ o. set_contains o n) m)))

pub returns-in_err-insert-in-Some-clause-trim : goal.returns-in_err-insert-in-Some-clause-trim
returns-in_err-insert-in-Some-clause-trim c o =
    let old = c.args.self.now in
    let key = c.args.key.now in
    let set = c.insert.new.self in
    let new : ArrivalKeyIndex = record { alloc = old.alloc; arrivals = c.get_mut.follows.lender set } in
    let u : WritesThrough key_cmp (key_cmp key) old.arrivals set new.arrivals = search rules in
    let m : get_by (key_cmp key) old.arrivals ≡ Some c.in-Some.arrivals.now = search rules in
    trim-written key old new (Some set) (u.3 (ap is_some m)).0
    (some_has set (λ k. o key c.in-Some.arrivals.now m (sym c.in_err-insert-in-Some.ensures.err ∙ k))) o

pub returns-in_ok-insert-in-Some-clause-trim : goal.returns-in_ok-insert-in-Some-clause-trim
returns-in_ok-insert-in-Some-clause-trim c o =
    let old = c.args.self.now in
    let key = c.args.key.now in
    let set = c.insert.new.self in
    let new : ArrivalKeyIndex = record { alloc = old.alloc; arrivals = c.get_mut.follows.lender set } in
    let u : WritesThrough key_cmp (key_cmp key) old.arrivals set new.arrivals = search rules in
    let m : get_by (key_cmp key) old.arrivals ≡ Some c.in-Some.arrivals.now = search rules in
    trim-written key old new (Some set) (u.3 (ap is_some m)).0
    (some_has set (λ k. not_nothing c.args.arrival c.in-Some.arrivals.now.keys (sym c.in_ok-insert-in-Some.ensures.keys ∙ k))) o

pub returns-in-None-clause-trim : goal.returns-in-None-clause-trim
returns-in-None-clause-trim c o =
    let e : c.get_mut.follows.lender-at-none ≡ c.args.self.now.arrivals = search rules in
    trim-same c.args.self.now (record { alloc = c.args.self.now.alloc; arrivals = c.get_mut.follows.lender-at-none }) (ap (λ m. m.entries) e) o
