use Rattle.std.proofs.Common.{rules, ◌≡◌, ◌&&◌, Bool, true, false, not, eqb, refl, ap, length, sym, ◌∙◌, Some, is_some}
use Rattle.std.proofs.lemmas.Bool.{false≢true}
use Rattle.std.specs.Bool.{OnFalse}
use Rattle.std.specs.Ordering.{nat_cmp}
use Rattle.std.specs.BTreeMap.{WritesThrough, get_by}
use Rattle.std.specs.BTreeSet.{contains}
use Rattle.hx_target.specs.KeyOrder.{key_cmp}
use Rattle.proxy_core.specs.declared.open.key_index.ArrivalKeyIndex.{ArrivalKeyIndex}
use Rattle.proxy_core.specs.Waiters.{set_contains}
use Rattle.proxy_core.specs.ByKey.{KeyIndexHasNoEmptySet}
use Rattle.proxy_core.proofs.Waiters.{some_has}
use Rattle.proxy_core.proofs.KeyIndices.{left, entries_without_serials, written, trim-beside, trim-same, trim-written}
use Rattle.proxy_core.proofs.open.key_index.ArrivalKeyIndex.remove_from_index.Goals as goal

pub returns-in-Some-clause-taken : goal.returns-in-Some-clause-taken
returns-in-Some-clause-taken c =
    let old = c.args.self.now in
    let key = c.args.key.now in
    let set = c.remove.new.self in
    let new : ArrivalKeyIndex = record { alloc = old.alloc; arrivals = c.get_mut.follows.lender set } in
    let u : WritesThrough key_cmp (key_cmp key) old.arrivals set new.arrivals = search rules in
    let m : get_by (key_cmp key) old.arrivals ≡ Some c.in-Some.arrivals.now = search rules in
    left key c.args.arrival old new (λ n. contains nat_cmp set n) (written key old new (Some set) (u.3 (ap is_some m)).0)
    (λ n. entries_without_serials c.args.arrival c.in-Some.arrivals.now set c.remove.ensures.updates.0 n ∙ ap (λ b. not (eqb c.args.arrival n) && b) (sym (ap (λ o. set_contains o n) m)))

pub returns-in-Some-clause-trim_beside : goal.returns-in-Some-clause-trim_beside
returns-in-Some-clause-trim_beside c o =
    let old = c.args.self.now in
    let key = c.args.key.now in
    let set = c.remove.new.self in
    let new : ArrivalKeyIndex = record { alloc = old.alloc; arrivals = c.get_mut.follows.lender set } in
    let u : WritesThrough key_cmp (key_cmp key) old.arrivals set new.arrivals = search rules in
    let m : get_by (key_cmp key) old.arrivals ≡ Some c.in-Some.arrivals.now = search rules in
    trim-beside key old new (Some set) (u.3 (ap is_some m)).0 o

on_false : (b : Bool) (P : Type 0) → (b ≡ false → P) → OnFalse b P
on_false true P f = tt
on_false false P f = f refl

pub returns-in-Some-clause-trim : goal.returns-in-Some-clause-trim
returns-in-Some-clause-trim c o =
    let old = c.args.self.now in
    let key = c.args.key.now in
    let set = c.remove.new.self in
    let new : ArrivalKeyIndex = record { alloc = old.alloc; arrivals = c.get_mut.follows.lender set } in
    let u : WritesThrough key_cmp (key_cmp key) old.arrivals set new.arrivals = search rules in
    let m : get_by (key_cmp key) old.arrivals ≡ Some c.in-Some.arrivals.now = search rules in
    on_false c.is_empty.result (KeyIndexHasNoEmptySet new) (λ f. trim-written key old new (Some set) (u.3 (ap is_some m)).0
    (some_has set (λ k. false≢true (sym f ∙ c.is_empty.ensures.1 (ap length k)))) o)

pub returns-in-None-clause-trim_beside : goal.returns-in-None-clause-trim_beside
returns-in-None-clause-trim_beside c o q f =
    let e : c.get_mut.follows.lender-at-none ≡ c.args.self.now.arrivals = search rules in
    trim-same c.args.self.now (record { alloc = c.args.self.now.alloc; arrivals = c.get_mut.follows.lender-at-none }) (ap (λ m. m.entries) e) o q

pub returns-in-None-clause-trim : goal.returns-in-None-clause-trim
returns-in-None-clause-trim c o =
    let e : c.get_mut.follows.lender-at-none ≡ c.args.self.now.arrivals = search rules in
    trim-same c.args.self.now (record { alloc = c.args.self.now.alloc; arrivals = c.get_mut.follows.lender-at-none }) (ap (λ m. m.entries) e) o
