use Rattle.std.proofs.Common.{rules, ◌≡◌, cond, ap, subst, sym, ◌∙◌, Some, []}
use Rattle.std.specs.Ordering.{nat_cmp}
use Rattle.std.specs.BTreeMap.{insert_entry}
use Rattle.std.specs.HashMap.{get}
use Rattle.hx_target.specs.declared.keys.Key.{Key}
use Rattle.hx_target.specs.Keys.{same_key}
use Rattle.hx_store.specs.declared.key_index.KeyIndex.{KeyIndex}
use Rattle.hx_store.specs.Index.{serials_and_marks_at, IsSameKeyIndex}
use Rattle.hx_store.proofs.Indices.{changed, not_unmarked, some_has, trim-same, trim-written, written}
use Rattle.hx_store.proofs.key_index.KeyIndex.insert.Goals as goal

pub returns-clause-ok : goal.returns-clause-ok
returns-clause-ok c =
    let old = c.args.self.now in
    let mid = c.insert_beside.new.self in
    let new : KeyIndex = record { serials = c.insert.new.self } in
    let b : IsSameKeyIndex old mid × (serials_and_marks_at old c.args.key.now ≡ []) = search rules in
    let k : c.in_ok-key.key ≡ c.args.key.now = search rules in
    let u : (q : Key) → get same_key c.insert.new.self q ≡ cond (same_key c.args.key.now q) (Some c.with_one_mark.result) (get same_key mid.serials q) =
    subst (λ z. (q : Key) → get same_key c.insert.new.self q ≡ cond (same_key z q) (Some c.with_one_mark.result) (get same_key mid.serials q)) k c.in_ok-insert.ensures.updates.0 in
    let w = written c.args.key.now mid new (Some c.with_one_mark.result) u in
    let s : c.with_one_mark.result ≡ insert_entry nat_cmp (serials_and_marks_at old c.args.key.now) c.args.serial c.args.mark =
    c.with_one_mark.ensures ∙ ap (λ ps. insert_entry nat_cmp ps c.args.serial c.args.mark) (sym b.1) in
    changed (λ ps. insert_entry nat_cmp ps c.args.serial c.args.mark) c.args.key.now old new _
    (λ q. w q ∙ ap (cond (same_key c.args.key.now q) c.with_one_mark.result) (b.0 q)) s

pub returns-clause-trim : goal.returns-clause-trim
returns-clause-trim c o =
    let mid = c.insert_beside.new.self in
    let new : KeyIndex = record { serials = c.insert.new.self } in
    trim-written c.in_ok-key.key mid new (Some c.with_one_mark.result) c.in_ok-insert.ensures.updates.0
    (some_has c.with_one_mark.result (λ k. not_unmarked c.args.serial c.args.mark [] (sym c.with_one_mark.ensures ∙ k))) (c.insert_beside.ensures.trim o)

pub returns-in_err-insert-clause-trim : goal.returns-in_err-insert-clause-trim
returns-in_err-insert-clause-trim c o =
    trim-same c.insert_beside.new.self (record { serials = c.insert.new.self }) c.in_err-insert.ensures.err (c.insert_beside.ensures.trim o)
