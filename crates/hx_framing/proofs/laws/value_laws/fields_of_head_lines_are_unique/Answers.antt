use Rattle.hx_framing.proofs.GivenLemmas.{messages_spelled_by_a_stream_are_unique, given_once}
use Rattle.hx_framing.proofs.laws.value_laws.fields_of_head_lines_are_unique.Goals as goal

pub returns-clause-line : goal.returns-clause-line
returns-clause-line c = messages_spelled_by_a_stream_are_unique

pub returns-clause-head : goal.returns-clause-head
returns-clause-head c = given_once
