use Rattle.std.proofs.Common.{rules, ◌≡◌, ap, sym, ◌∙◌, Some, is_some}
use Rattle.std.specs.Ordering.{nat_cmp}
use Rattle.std.specs.Map.{set_value}
use Rattle.std.specs.BTreeMap.{is_at}
use Rattle.std.specs.HashMap.{WritesThrough, get_by}
use Rattle.hx_target.specs.Keys.{same_key}
use Rattle.hx_store.specs.declared.key_index.KeyIndex.{KeyIndex}
use Rattle.hx_store.specs.Index.{serials_and_marks_at}
use Rattle.hx_store.proofs.Indices.{changed, some_has, trim-same, trim-written, written}
use Rattle.hx_store.proofs.MarkLists.{set_nothing}
use Rattle.hx_store.proofs.key_index.KeyIndex.mark.Goals as goal

pub returns-in-Some-clause-marked : goal.returns-in-Some-clause-marked
returns-in-Some-clause-marked c =
    let old = c.args.self.now in
    let map = c.set_mark.new.self in
    let new : KeyIndex = record { serials = c.get_mut.follows.lender map } in
    let u : WritesThrough same_key (same_key c.args.key.now) old.serials map new.serials = search rules in
    let m : get_by (same_key c.args.key.now) old.serials ≡ Some c.in-Some.marks.now = search rules in
    let e : serials_and_marks_at old c.args.key.now ≡ c.in-Some.marks.now = search rules in
    let k : map ≡ set_value (is_at (nat_cmp c.args.serial)) (serials_and_marks_at old c.args.key.now) c.args.mark =
    c.set_mark.ensures ∙ ap (λ ps. set_value (is_at (nat_cmp c.args.serial)) ps c.args.mark) (sym e) in
    changed (λ ps. set_value (is_at (nat_cmp c.args.serial)) ps c.args.mark) c.args.key.now old new _
    (written c.args.key.now old new (Some map) (u.3 (ap is_some m)).0) k

pub returns-in-Some-clause-trim : goal.returns-in-Some-clause-trim
returns-in-Some-clause-trim c o =
    let old = c.args.self.now in
    let map = c.set_mark.new.self in
    let new : KeyIndex = record { serials = c.get_mut.follows.lender map } in
    let u : WritesThrough same_key (same_key c.args.key.now) old.serials map new.serials = search rules in
    let m : get_by (same_key c.args.key.now) old.serials ≡ Some c.in-Some.marks.now = search rules in
    trim-written c.args.key.now old new (Some map) (u.3 (ap is_some m)).0
    (some_has map (λ k. o c.args.key.now c.in-Some.marks.now m
    (set_nothing (is_at (nat_cmp c.args.serial)) c.in-Some.marks.now c.args.mark (sym c.set_mark.ensures ∙ k)))) o

pub returns-in_default-clause-trim : goal.returns-in_default-clause-trim
returns-in_default-clause-trim c o =
    let e : c.get_mut.follows.lender-at-none ≡ c.args.self.now.serials = search rules in
    trim-same c.args.self.now (record { serials = c.get_mut.follows.lender-at-none }) (ap (λ m. m.entries) e) o
