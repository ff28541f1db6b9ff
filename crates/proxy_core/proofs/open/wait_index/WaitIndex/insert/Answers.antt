use Rattle.std.proofs.Common.{sym, ◌∙◌, Some}
use Rattle.proxy_core.specs.declared.open.wait_index.WaitIndex.{WaitIndex}
use Rattle.proxy_core.proofs.Waiters.{not_nothing, some_has, trim-same, trim-written}
use Rattle.proxy_core.proofs.open.wait_index.WaitIndex.insert.Goals as goal

pub returns-clause-trim : goal.returns-clause-trim
returns-clause-trim c o =
    let mid = c.insert_beside.new.self in
    let set = c.insert.new.self in
    let new : WaitIndex = record { alloc = mid.alloc; arrivals = c.insert-2.new.self } in
    trim-written c.args.id mid new (Some set) c.in_ok-insert-2.ensures.updates.0
    (some_has set (λ k. not_nothing c.args.arrival c.new-arrivals.result.keys (sym c.in_ok-insert.ensures.keys ∙ k))) (c.insert_beside.ensures.trim o)

pub returns-in_err-insert-2-clause-trim : goal.returns-in_err-insert-2-clause-trim
returns-in_err-insert-2-clause-trim c o =
    let mid = c.insert_beside.new.self in
    trim-same mid (record { alloc = mid.alloc; arrivals = c.insert-2.new.self }) c.in_err-insert-2.ensures.err (c.insert_beside.ensures.trim o)
