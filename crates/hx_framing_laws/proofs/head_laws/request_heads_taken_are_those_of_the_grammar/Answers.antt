use Rattle.hx_framing_laws.proofs.Taken.{request_judged, request_not_refused, request_once}
use Rattle.hx_framing_laws.proofs.Judged.{request_written, other_requests}
use Rattle.hx_framing_laws.proofs.head_laws.request_heads_taken_are_those_of_the_grammar.Goals as goal

pub returns-clause-written : goal.returns-clause-written
returns-clause-written c = request_written

pub returns-clause-taken : goal.returns-clause-taken
returns-clause-taken c = request_judged

pub returns-clause-refused : goal.returns-clause-refused
returns-clause-refused c = request_not_refused

pub returns-clause-once : goal.returns-clause-once
returns-clause-once c = request_once

pub returns-clause-others : goal.returns-clause-others
returns-clause-others c = other_requests
