use Rattle.std.proofs.Common.{Some}
use Rattle.proxy_core.specs.declared.open.wait_index.WaitIndex.{WaitIndex}
use Rattle.proxy_core.proofs.Waiters.{some_has, trim-same, trim-written}
use Rattle.proxy_core.proofs.open.wait_index.WaitIndex.enter_all.Goals as goal

pub returns-in_err-insert-clause-trim : goal.returns-in_err-insert-clause-trim
returns-in_err-insert-clause-trim c o =
    let old = c.args.self.now in
    trim-same old (record { alloc = old.alloc; arrivals = c.insert.new.self }) c.in_err-insert.ensures.err o

pub returns-clause-trim : goal.returns-clause-trim
returns-clause-trim c o =
    let old = c.args.self.now in
    let new : WaitIndex = record { alloc = old.alloc; arrivals = c.insert.new.self } in
    trim-written c.args.id old new (Some c.in_ok-all.all) c.in_ok-insert.ensures.updates.0 (some_has c.in_ok-all.all c.in_ok-all.ensures.members) o
