use Rattle.hx_hop.proofs.SentLines.{keeps_the_status}
use Rattle.hx_hop.proofs.laws.an_answer_keeps_its_status.Goals as goal

pub returns : goal.returns
returns c = keeps_the_status
