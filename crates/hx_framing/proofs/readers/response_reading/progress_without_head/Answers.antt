use Rattle.std.proofs.Common.{arith, length-drop}
use Rattle.hx_framing.proofs.ResponseProgressLemmas.{progress_open}
use Rattle.hx_framing.proofs.readers.response_reading.progress_without_head.Goals as goal

pub returns-else-rest : goal.returns-else-rest
returns-else-rest c = λ to_head.
    progress_open c.args.rest.now.max_body to_head c.args.rest.now.ended c.args.rest.now.bytes.now c.args.at c.if-rest.false
    (omega (arith, c.if-rest-at-gt-MOST_HEAD_BYTES.false, length-drop c.args.at c.args.rest.now.bytes.now)) c.requires.open
