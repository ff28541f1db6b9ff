use Rattle.std.specs.Bool.{OnFalse}
use Rattle.std.proofs.lemmas.Bool.{false≢true}
use Rattle.std.specs.Prelude.{◌==◌}
use Rattle.std.proofs.Common.{rules, ◌≡◌, Bool, true, false, refl, length, ap, sym, ◌∙◌, Some, is_some}
use Rattle.std.specs.Ordering.{nat_cmp}
use Rattle.std.specs.Map.{remove_entry}
use Rattle.std.specs.BTreeMap.{is_at}
use Rattle.std.specs.HashMap.{WritesThrough, get_by}
use Rattle.hx_target.specs.Keys.{same_key}
use Rattle.hx_store.specs.declared.key_index.KeyIndex.{KeyIndex}
use Rattle.hx_store.specs.Index.{serials_and_marks_at, IndexHasNoEmptyKey}
use Rattle.hx_store.proofs.Indices.{changed, some_has, trim-beside, trim-same, trim-written, written}
use Rattle.hx_store.proofs.key_index.KeyIndex.take_out.Goals as goal

pub returns-in-Some-clause-taken : goal.returns-in-Some-clause-taken
returns-in-Some-clause-taken c =
    let new : KeyIndex = record { serials = c.get_mut.follows.lender c.remove.new.self } in
    let u : WritesThrough same_key (same_key c.args.key.now) c.args.self.now.serials c.remove.new.self new.serials = search rules in
    let m : get_by (same_key c.args.key.now) c.args.self.now.serials ≡ Some c.in-Some.marks.now = search rules in
    let e : serials_and_marks_at c.args.self.now c.args.key.now ≡ c.in-Some.marks.now = search rules in
    let k : c.remove.new.self ≡ remove_entry (is_at (nat_cmp c.args.serial)) (serials_and_marks_at c.args.self.now c.args.key.now) =
    c.remove.ensures ∙ ap (remove_entry (is_at (nat_cmp c.args.serial))) (sym e) in
    changed (remove_entry (is_at (nat_cmp c.args.serial))) c.args.key.now c.args.self.now new _
    (written c.args.key.now c.args.self.now new (Some c.remove.new.self) (u.3 (ap is_some m)).0) k

pub returns-in-Some-clause-trim_beside : goal.returns-in-Some-clause-trim_beside
returns-in-Some-clause-trim_beside c o =
    let new : KeyIndex = record { serials = c.get_mut.follows.lender c.remove.new.self } in
    let u : WritesThrough same_key (same_key c.args.key.now) c.args.self.now.serials c.remove.new.self new.serials = search rules in
    let m : get_by (same_key c.args.key.now) c.args.self.now.serials ≡ Some c.in-Some.marks.now = search rules in
    trim-beside c.args.key.now c.args.self.now new (Some c.remove.new.self) (u.3 (ap is_some m)).0 o

on_false : (b : Bool) (P : Type 0) → (b ≡ false → P) → OnFalse b P
on_false true P f = tt
on_false false P f = f refl

pub returns-in-Some-clause-trim : goal.returns-in-Some-clause-trim
returns-in-Some-clause-trim c o =
    let new : KeyIndex = record { serials = c.get_mut.follows.lender c.remove.new.self } in
    let u : WritesThrough same_key (same_key c.args.key.now) c.args.self.now.serials c.remove.new.self new.serials = search rules in
    let m : get_by (same_key c.args.key.now) c.args.self.now.serials ≡ Some c.in-Some.marks.now = search rules in
    on_false c.is_empty.result (IndexHasNoEmptyKey new) (λ f. trim-written c.args.key.now c.args.self.now new (Some c.remove.new.self) (u.3 (ap is_some m)).0
    (some_has c.remove.new.self (λ k. false≢true (sym f ∙ c.is_empty.ensures ∙ ap (λ ps. length ps == 0) k))) o)

pub returns-in-None-clause-trim_beside : goal.returns-in-None-clause-trim_beside
returns-in-None-clause-trim_beside c o q f =
    let e : c.get_mut.follows.lender-at-none ≡ c.args.self.now.serials = search rules in
    trim-same c.args.self.now (record { serials = c.get_mut.follows.lender-at-none }) (ap (λ m. m.entries) e) o q

pub returns-in-None-clause-trim : goal.returns-in-None-clause-trim
returns-in-None-clause-trim c o =
    let e : c.get_mut.follows.lender-at-none ≡ c.args.self.now.serials = search rules in
    trim-same c.args.self.now (record { serials = c.get_mut.follows.lender-at-none }) (ap (λ m. m.entries) e) o
