use Rattle.std.proofs.Common.{rules, ◌≡◌, ◌||◌, ◌&&◌, false, cond, eqb, ap, sym, subst, ◌∙◌, Some, ℕ}
use Rattle.std.specs.List.{list_any}
use Rattle.std.specs.Ordering.{nat_cmp}
use Rattle.std.specs.BTreeMap.{get, is_at}
use Rattle.std.specs.BTreeSet.{contains}
use Rattle.hx_target.specs.declared.keys.Key.{Key}
use Rattle.hx_target.specs.Keys.{same_key}
use Rattle.hx_target.specs.KeyOrder.{key_cmp}
use Rattle.proxy_core.specs.declared.open.key_index.ArrivalKeyIndex.{ArrivalKeyIndex}
use Rattle.proxy_core.specs.ByKey.{arrival_is_in_key_index, KeyIndexesHaveSameMembers}
use Rattle.proxy_core.proofs.Waiters.{not_nothing, some_has}
use Rattle.proxy_core.proofs.KeyIndices.{entered, put, written, trim-same, trim-written}
use Rattle.proxy_core.proofs.open.key_index.ArrivalKeyIndex.insert.Goals as goal

pub returns-clause-ok : goal.returns-clause-ok
returns-clause-ok c =
    let old = c.args.self.now in
    let key = c.args.key.now in
    let n = c.args.arrival in
    let mid = c.insert_beside.new.self in
    let set = c.insert.new.self in
    let new : ArrivalKeyIndex = record { alloc = mid.alloc; arrivals = c.insert-2.new.self } in
    let b : KeyIndexesHaveSameMembers old mid × ((m : ℕ) → arrival_is_in_key_index old key m ≡ false) = search rules in
    let k : c.in_ok-copy.field-0 ≡ key = search rules in
    let u : (q : Key) → get key_cmp c.insert-2.new.self q ≡ cond (is_at (key_cmp key) q) (Some set) (get key_cmp mid.arrivals q) =
    subst (λ z. (q : Key) → get key_cmp c.insert-2.new.self q ≡ cond (is_at (key_cmp z) q) (Some set) (get key_cmp mid.arrivals q)) k c.in_ok-insert-2.ensures.updates.0 in
    let e = entered key n mid new (λ m. contains nat_cmp set m) (written key mid new (Some set) u)
    (λ m. put n c.new-arrivals.result set c.in_ok-insert.ensures.updates.0 m
    ∙ ap (λ x. eqb n m || x) (ap (list_any (is_at (nat_cmp m))) c.new-arrivals.ensures.empty ∙ sym (b.0 key m ∙ b.1 m))) in
    λ q m. e q m ∙ ap (λ x. (same_key key q && eqb n m) || x) (b.0 q m)

pub returns-clause-trim : goal.returns-clause-trim
returns-clause-trim c o =
    let mid = c.insert_beside.new.self in
    let set = c.insert.new.self in
    let new : ArrivalKeyIndex = record { alloc = mid.alloc; arrivals = c.insert-2.new.self } in
    trim-written c.in_ok-copy.field-0 mid new (Some set) c.in_ok-insert-2.ensures.updates.0
    (some_has set (λ k. not_nothing c.args.arrival c.new-arrivals.result.keys (sym c.in_ok-insert.ensures.keys ∙ k))) (c.insert_beside.ensures.trim o)

pub returns-in_err-insert-2-clause-trim : goal.returns-in_err-insert-2-clause-trim
returns-in_err-insert-2-clause-trim c o =
    let mid = c.insert_beside.new.self in
    trim-same mid (record { alloc = mid.alloc; arrivals = c.insert-2.new.self }) c.in_err-insert-2.ensures.err (c.insert_beside.ensures.trim o)
