use Rattle.hx_framing.proofs.Existence.{response_read, response_answered}
use Rattle.hx_framing.proofs.laws.existence_laws.each_response_stream_is_read.Goals as goal

pub returns-clause-reading : goal.returns-clause-reading
returns-clause-reading c = response_read

pub returns-clause-answer : goal.returns-clause-answer
returns-clause-answer c = response_answered
