use Rattle.std.proofs.Common.{false, refl}
use Rattle.hx_framing.specs.Reading.{Incomplete}
use Rattle.hx_framing.proofs.HeadSearches.{open_head}
use Rattle.hx_framing.proofs.RequestProgressLemmas.{reads_without, waits_for_head}
use Rattle.hx_framing.proofs.readers.request_reading.progress_without_head.Goals as goal

pub returns-else-rest-2 : goal.returns-else-rest-2
returns-else-rest-2 c = (
  refl,
  reads_without c.args.rest.now.max_body c.args.rest.now.ended false c.args.rest.now.bytes.now Incomplete c.requires (waits_for_head c.args.rest.now.ended c.args.rest.now.bytes.now c.if-rest-2.false c.if-rest-gt-MOST_HEAD_BYTES.false),
  open_head c.args.rest.now.bytes.now c.if-rest-gt-MOST_HEAD_BYTES.false c.requires,
)
