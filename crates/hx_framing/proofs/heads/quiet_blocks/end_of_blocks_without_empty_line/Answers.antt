use Rattle.std.proofs.Common.{arith, ◌∙◌}
use Rattle.hx_framing.proofs.QuietBlocks.{quiet_more}
use Rattle.hx_framing.proofs.heads.quiet_blocks.end_of_blocks_without_empty_line.Goals as goal

pub loop-at-preserved : goal.loop-at-preserved
loop-at-preserved c = record {
  within = omega (arith, c.loop-at-test.true, c.loop-at.invariant.within);
  rest = quiet_more 16 c.loop-at.at c.args.bytes.now (omega (arith, c.loop-at-test.true, c.loop-at.invariant.within)) (c.is_quiet_block.ensures c.if-is_quiet_block.true) ∙ c.loop-at.invariant.rest;
}
