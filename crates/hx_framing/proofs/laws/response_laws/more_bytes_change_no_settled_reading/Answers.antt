use Rattle.hx_framing.proofs.ResponseLemmas.{reads_append}
use Rattle.hx_framing.proofs.laws.response_laws.more_bytes_change_no_settled_reading.Goals as goal

pub returns : goal.returns
returns c = reads_append
