use Rattle.std.proofs.Common.{None}
use Rattle.proxy_core.specs.declared.open.wait_index.WaitIndex.{WaitIndex}
use Rattle.proxy_core.proofs.Waiters.{nothing_has, trim-written}
use Rattle.proxy_core.proofs.open.wait_index.WaitIndex.take.Goals as goal

pub returns-clause-trim : goal.returns-clause-trim
returns-clause-trim c o =
    let old = c.args.self.now in
    let new : WaitIndex = record { alloc = old.alloc; arrivals = c.remove.new.self } in
    trim-written c.args.id old new None c.remove.ensures.updates.0 nothing_has o
