use Rattle.std.proofs.Common.{arith}
use Rattle.proxy_store_file.proofs.ListSteps.{lines_more}
use Rattle.proxy_store_file.proofs.head_reading.leading_field_lines.Goals as goal

pub loop-i-preserved : goal.loop-i-preserved
loop-i-preserved c = lines_more c.loop-i.lines c.in-Some.n c.loop-i._i c.loop-i.rest.now c.in-Ok.more.now c.in-Ok.line _ _ (omega arith) c.loop-i.invariant c.in-Ok.ensures.ok c.in_ok-push_line-in-Ok.ensures.ok
