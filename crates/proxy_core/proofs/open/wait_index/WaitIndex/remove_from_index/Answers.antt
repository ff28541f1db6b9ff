use Rattle.std.proofs.Common.{rules, ◌≡◌, Bool, true, false, refl, ap, length, sym, ◌∙◌, Some, is_some}
use Rattle.std.proofs.lemmas.Bool.{false≢true}
use Rattle.std.specs.Bool.{OnFalse}
use Rattle.std.specs.Ordering.{nat_cmp}
use Rattle.std.specs.BTreeMap.{WritesThrough, get_by}
use Rattle.proxy_core.specs.declared.open.wait_index.WaitIndex.{WaitIndex}
use Rattle.proxy_core.specs.Waiters.{WaitIndexHasNoEmptySet}
use Rattle.proxy_core.proofs.Waiters.{some_has, trim-beside, trim-same, trim-written}
use Rattle.proxy_core.proofs.open.wait_index.WaitIndex.remove_from_index.Goals as goal

pub returns-in-Some-clause-trim_beside : goal.returns-in-Some-clause-trim_beside
returns-in-Some-clause-trim_beside c o =
    let old = c.args.self.now in
    let id = c.args.id in
    let set = c.remove.new.self in
    let new : WaitIndex = record { alloc = old.alloc; arrivals = c.get_mut.follows.lender set } in
    let u : WritesThrough nat_cmp (nat_cmp id) old.arrivals set new.arrivals = search rules in
    let m : get_by (nat_cmp id) old.arrivals ≡ Some c.in-Some.arrivals.now = search rules in
    trim-beside id old new (Some set) (u.3 (ap is_some m)).0 o

on_false : (b : Bool) (P : Type 0) → (b ≡ false → P) → OnFalse b P
on_false true P f = tt
on_false false P f = f refl

pub returns-in-Some-clause-trim : goal.returns-in-Some-clause-trim
returns-in-Some-clause-trim c o =
    let old = c.args.self.now in
    let id = c.args.id in
    let set = c.remove.new.self in
    let new : WaitIndex = record { alloc = old.alloc; arrivals = c.get_mut.follows.lender set } in
    let u : WritesThrough nat_cmp (nat_cmp id) old.arrivals set new.arrivals = search rules in
    let m : get_by (nat_cmp id) old.arrivals ≡ Some c.in-Some.arrivals.now = search rules in
    on_false c.is_empty.result (WaitIndexHasNoEmptySet new) (λ f. trim-written id old new (Some set) (u.3 (ap is_some m)).0
    (some_has set (λ k. false≢true (sym f ∙ c.is_empty.ensures.1 (ap length k)))) o)

pub returns-in-None-clause-trim_beside : goal.returns-in-None-clause-trim_beside
returns-in-None-clause-trim_beside c o q f =
    let e : c.get_mut.follows.lender-at-none ≡ c.args.self.now.arrivals = search rules in
    trim-same c.args.self.now (record { alloc = c.args.self.now.alloc; arrivals = c.get_mut.follows.lender-at-none }) (ap (λ m. m.entries) e) o q

pub returns-in-None-clause-trim : goal.returns-in-None-clause-trim
returns-in-None-clause-trim c o =
    let e : c.get_mut.follows.lender-at-none ≡ c.args.self.now.arrivals = search rules in
    trim-same c.args.self.now (record { alloc = c.args.self.now.alloc; arrivals = c.get_mut.follows.lender-at-none }) (ap (λ m. m.entries) e) o
