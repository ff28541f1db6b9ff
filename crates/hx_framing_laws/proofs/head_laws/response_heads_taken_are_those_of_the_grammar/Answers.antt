use Rattle.hx_framing_laws.proofs.Taken.{response_judged, response_not_refused, response_once}
use Rattle.hx_framing_laws.proofs.Judged.{response_written, other_responses}
use Rattle.hx_framing_laws.proofs.head_laws.response_heads_taken_are_those_of_the_grammar.Goals as goal

pub returns-clause-written : goal.returns-clause-written
returns-clause-written c = response_written

pub returns-clause-taken : goal.returns-clause-taken
returns-clause-taken c = response_judged

pub returns-clause-refused : goal.returns-clause-refused
returns-clause-refused c = response_not_refused

pub returns-clause-once : goal.returns-clause-once
returns-clause-once c = response_once

pub returns-clause-others : goal.returns-clause-others
returns-clause-others c = other_responses
