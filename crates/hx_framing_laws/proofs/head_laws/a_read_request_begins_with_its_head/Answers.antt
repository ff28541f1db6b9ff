use Rattle.hx_framing_laws.proofs.ReadRequests.{begins_with_head, heads_are_read, heads_beyond_are_refused}
use Rattle.hx_framing_laws.proofs.head_laws.a_read_request_begins_with_its_head.Goals as goal

pub returns-clause-read : goal.returns-clause-read
returns-clause-read c = begins_with_head

pub returns-clause-front : goal.returns-clause-front
returns-clause-front c = heads_are_read

pub returns-clause-beyond : goal.returns-clause-beyond
returns-clause-beyond c = heads_beyond_are_refused
