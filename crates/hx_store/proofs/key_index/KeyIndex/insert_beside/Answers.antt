use Rattle.std.proofs.Common.{rules, ◌≡◌, ap, sym, ◌∙◌, Some, is_some}
use Rattle.std.specs.Ordering.{nat_cmp}
use Rattle.std.specs.BTreeMap.{insert_entry}
use Rattle.std.specs.HashMap.{WritesThrough, get_by}
use Rattle.hx_target.specs.Keys.{same_key}
use Rattle.hx_store.specs.declared.key_index.KeyIndex.{KeyIndex}
use Rattle.hx_store.specs.Index.{serials_and_marks_at, IsSameKeyIndex}
use Rattle.hx_store.proofs.Indices.{changed, not_unmarked, some_has, trim-same, trim-written, unchanged, written}
use Rattle.hx_store.proofs.key_index.KeyIndex.insert_beside.Goals as goal

pub returns-in_err-insert-in-Some-clause-err : goal.returns-in_err-insert-in-Some-clause-err
returns-in_err-insert-in-Some-clause-err c =
    let old = c.args.self.now in
    let set = c.insert.new.self in
    let new : KeyIndex = record { serials = c.get_mut.follows.lender set } in
    let u : WritesThrough same_key (same_key c.args.key.now) old.serials set new.serials = search rules in
    let m : get_by (same_key c.args.key.now) old.serials ≡ Some c.in-Some.marks.now = search rules in
    let e : serials_and_marks_at old c.args.key.now ≡ c.in-Some.marks.now = search rules in
    let k : set ≡ serials_and_marks_at old c.args.key.now = c.in_err-insert-in-Some.ensures.err ∙ sym e in
    let same : IsSameKeyIndex old new = unchanged c.args.key.now old new _ (written c.args.key.now old new (Some set) (u.3 (ap is_some m)).0) k in
    search rules

pub returns-in_ok-insert-in-Some-clause-ok : goal.returns-in_ok-insert-in-Some-clause-ok
returns-in_ok-insert-in-Some-clause-ok c =
    let old = c.args.self.now in
    let set = c.insert.new.self in
    let new : KeyIndex = record { serials = c.get_mut.follows.lender set } in
    let u : WritesThrough same_key (same_key c.args.key.now) old.serials set new.serials = search rules in
    let m : get_by (same_key c.args.key.now) old.serials ≡ Some c.in-Some.marks.now = search rules in
    let e : serials_and_marks_at old c.args.key.now ≡ c.in-Some.marks.now = search rules in
    let k : set ≡ insert_entry nat_cmp (serials_and_marks_at old c.args.key.now) c.args.serial c.args.mark =
    c.in_ok-insert-in-Some.ensures.ok ∙ ap (λ ps. insert_entry nat_cmp ps c.args.serial c.args.mark) (sym e) in
    changed (λ ps. insert_entry nat_cmp ps c.args.serial c.args.mark) c.args.key.now old new _ (written c.args.key.now old new (Some set) (u.3 (ap is_some m)).0) k

pub returns-in_err-insert-in-Some-clause-trim : goal.returns-in_err-insert-in-Some-clause-trim
returns-in_err-insert-in-Some-clause-trim c o =
    let old = c.args.self.now in
    let set = c.insert.new.self in
    let new : KeyIndex = record { serials = c.get_mut.follows.lender set } in
    let u : WritesThrough same_key (same_key c.args.key.now) old.serials set new.serials = search rules in
    let m : get_by (same_key c.args.key.now) old.serials ≡ Some c.in-Some.marks.now = search rules in
    trim-written c.args.key.now old new (Some set) (u.3 (ap is_some m)).0
    (some_has set (λ k. o c.args.key.now c.in-Some.marks.now m (sym c.in_err-insert-in-Some.ensures.err ∙ k))) o

pub returns-in_ok-insert-in-Some-clause-trim : goal.returns-in_ok-insert-in-Some-clause-trim
returns-in_ok-insert-in-Some-clause-trim c o =
    let old = c.args.self.now in
    let set = c.insert.new.self in
    let new : KeyIndex = record { serials = c.get_mut.follows.lender set } in
    let u : WritesThrough same_key (same_key c.args.key.now) old.serials set new.serials = search rules in
    let m : get_by (same_key c.args.key.now) old.serials ≡ Some c.in-Some.marks.now = search rules in
    trim-written c.args.key.now old new (Some set) (u.3 (ap is_some m)).0
    (some_has set (λ k. not_unmarked c.args.serial c.args.mark c.in-Some.marks.now (sym c.in_ok-insert-in-Some.ensures.ok ∙ k))) o

pub returns-in-None-clause-trim : goal.returns-in-None-clause-trim
returns-in-None-clause-trim c o =
    let e : c.get_mut.follows.lender-at-none ≡ c.args.self.now.serials = search rules in
    trim-same c.args.self.now (record { serials = c.get_mut.follows.lender-at-none }) (ap (λ m. m.entries) e) o
