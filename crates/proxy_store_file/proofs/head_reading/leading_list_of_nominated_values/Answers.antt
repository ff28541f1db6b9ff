use Rattle.std.proofs.Common.{arith, rules}
use Rattle.proxy_store_file.proofs.ListSteps.{values_more, values_stop}
use Rattle.proxy_store_file.proofs.head_reading.leading_list_of_nominated_values.Goals as goal

pub loop-i-preserved : goal.loop-i-preserved
loop-i-preserved c = values_more c.loop-i.values.items c.in-Some.n c.loop-i._i c.loop-i.rest.now c.in-Ok.more.now c.in-Ok.kept _ _ (omega arith) c.loop-i.invariant c.in-Ok.ensures.ok (search rules)

pub returns-in-Err-clause-stop : goal.returns-in-Err-clause-stop
returns-in-Err-clause-stop c = values_stop c.loop-i.values.items c.in-Some.n c.loop-i._i c.loop-i.rest.now _ c.in-Err.stop (omega arith) c.loop-i.invariant c.in-Err.ensures.stop
