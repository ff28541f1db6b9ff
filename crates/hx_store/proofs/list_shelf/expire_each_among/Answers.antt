use Rattle.std.proofs.Common.{◌≡◌, ℕ, ◌+◌, suc, List, ◌++◌, length, take, drop, ap, sym, ◌∙◌, set, get_or, arith}
use Rattle.std.proofs.lemmas.List.{append-nil, drop_all, take_all}
use Rattle.hx_store.specs.Stored.{Stored}
use Rattle.hx_store.specs.Shelf.{expired_entry, entries_with_serials_expired}
use Rattle.hx_store.proofs.ExpiredEntries.{front-expired, front-expired-all, front-expired-next, length-expired}
use Rattle.hx_store.proofs.list_shelf.expire_each_among.Goals as goal

pub loop-entry-preserved : goal.loop-entry-preserved
loop-entry-preserved c =
    let i = c.loop-entry.entry-index in
    let es = c.deref_mut-entry-items.result.now in
    let next : suc i ≡ i + 1 = omega arith in
    ap (set c.loop-entry.entry-items i) c.expire_if_serial_among.ensures
    ∙ ap (λ zs. set zs i (expired_entry c.args.serials.now c.args.now (get_or zs i c.entry-item.result))) c.loop-entry.invariant
    ∙ front-expired-next c.args.serials.now c.args.now i es c.entry-item.result c.loop-entry-test.true
    ∙ ap (λ n. front-expired c.args.serials.now c.args.now n es) next

fits : (n : ℕ) (ws zs : List Stored) → n ≡ length zs → length ws ≡ length zs → take n (ws ++ drop (length ws) zs) ≡ ws
fits n ws zs a b =
    ap (λ ys. take n (ws ++ ys)) (drop_all (length ws) zs (omega arith)) ∙ ap (take n) (append-nil ws) ∙ take_all n ws (omega arith)

pub returns-clause-items : goal.returns-clause-items
returns-clause-items c =
    let es = c.args.entries.now.items in
    let end : c.loop-entry.entry-index ≡ length c.deref_mut-entry-items.result.now = omega arith in
    let all : c.loop-entry.entry-items ≡ entries_with_serials_expired c.args.serials.now c.args.now es =
    c.loop-entry.invariant
    ∙ ap (λ n. front-expired c.args.serials.now c.args.now n c.deref_mut-entry-items.result.now) end
    ∙ front-expired-all c.args.serials.now c.args.now c.deref_mut-entry-items.result.now
    ∙ ap (entries_with_serials_expired c.args.serials.now c.args.now) c.deref_mut-entry-items.ensures.value in
    rw all (fits c.args.entries.now.len (entries_with_serials_expired c.args.serials.now c.args.now es) es (sym c.deref_mut-entry-items.ensures.len ∙ ap length c.deref_mut-entry-items.ensures.value) (length-expired c.args.serials.now c.args.now es))
