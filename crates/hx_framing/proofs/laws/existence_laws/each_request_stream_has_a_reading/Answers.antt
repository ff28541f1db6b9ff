use Rattle.hx_framing.proofs.Existence.{request_read, request_answered}
use Rattle.hx_framing.proofs.laws.existence_laws.each_request_stream_has_a_reading.Goals as goal

pub returns-clause-reading : goal.returns-clause-reading
returns-clause-reading c = request_read

pub returns-clause-answer : goal.returns-clause-answer
returns-clause-answer c = request_answered
