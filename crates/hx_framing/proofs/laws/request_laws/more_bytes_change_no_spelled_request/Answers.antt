use Rattle.hx_framing.proofs.RequestStreams.{spells_append}
use Rattle.hx_framing.proofs.laws.request_laws.more_bytes_change_no_spelled_request.Goals as goal

pub returns : goal.returns
returns c = λ max_body stream more ms rest h. spells_append max_body stream ms rest more h
