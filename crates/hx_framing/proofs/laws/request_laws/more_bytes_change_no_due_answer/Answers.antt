use Rattle.hx_framing.proofs.RequestStreams.{due_fed, due_finished}
use Rattle.hx_framing.proofs.laws.request_laws.more_bytes_change_no_due_answer.Goals as goal

pub returns-clause-piece : goal.returns-clause-piece
returns-clause-piece c = λ p answer piece open_still due h. due_fed p answer piece open_still due h

pub returns-clause-end : goal.returns-clause-end
returns-clause-end c = λ p answer due h. due_finished p answer due h
