use Rattle.proxy_core.specs.declared.open.wait_index.WaitIndex.{WaitIndex}
use Rattle.proxy_core.proofs.Waiters.{trim-removed}
use Rattle.proxy_core.proofs.open.wait_index.WaitIndex.remove.Goals as goal

pub returns-then-remove_from_index-clause-trim : goal.returns-then-remove_from_index-clause-trim
returns-then-remove_from_index-clause-trim c o =
    let mid = c.remove_from_index.new.self in
    let new : WaitIndex = record { alloc = mid.alloc; arrivals = c.remove.new.self } in
    trim-removed c.args.id mid new c.remove.ensures.updates.0 (c.remove_from_index.ensures.trim_beside o)
