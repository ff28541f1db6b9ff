use Rattle.std.proofs.Common.{arith}
use Rattle.hx_framing.proofs.ChunkSteps.{none_in_fewer, none_at_all}
use Rattle.hx_framing.proofs.contents.chunk_tokens.line_feed_within.Goals as goal

pub returns-then-at-limit-clause-none : goal.returns-then-at-limit-clause-none
returns-then-at-limit-clause-none c = none_in_fewer c.args.limit c.loop-at.at c.args.bytes.now c.if-at-limit.true c.loop-at.invariant

pub returns-clause-none : goal.returns-clause-none
returns-clause-none c = none_at_all c.args.limit c.loop-at.at c.args.bytes.now (omega (arith, c.loop-at-test.false)) c.loop-at.invariant
