use Rattle.hx_framing_laws.proofs.ReadResponses.{begins_with_head, final_heads_are_read, interim_heads_are_passed, heads_beyond_are_refused}
use Rattle.hx_framing_laws.proofs.head_laws.a_read_response_begins_with_its_head.Goals as goal

pub returns-clause-read : goal.returns-clause-read
returns-clause-read c = begins_with_head

pub returns-clause-front : goal.returns-clause-front
returns-clause-front c = final_heads_are_read

pub returns-clause-interim : goal.returns-clause-interim
returns-clause-interim c = interim_heads_are_passed

pub returns-clause-beyond : goal.returns-clause-beyond
returns-clause-beyond c = heads_beyond_are_refused
