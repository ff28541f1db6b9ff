use Rattle.hx_framing.proofs.WrittenEnds.{head_ends}
use Rattle.hx_framing.proofs.WrittenFields.{head_front, content_after_empty_line}
use Rattle.hx_framing.proofs.laws.writing_laws.written_request_head_ends_at_its_content.Goals as goal

pub returns-clause-size : goal.returns-clause-size
returns-clause-size c = head_ends

pub returns-clause-head : goal.returns-clause-head
returns-clause-head c = head_front

pub returns-clause-behind : goal.returns-clause-behind
returns-clause-behind c = content_after_empty_line
