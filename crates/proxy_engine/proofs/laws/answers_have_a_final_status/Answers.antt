use Rattle.proxy_engine.proofs.FinalAnswers.{acts_are_spelled, answers_have_a_final_status, answers_are_read}
use Rattle.proxy_engine.proofs.laws.answers_have_a_final_status.Goals as goal

pub returns : goal.returns
returns c = record { spelled = acts_are_spelled; read = answers_are_read; status = answers_have_a_final_status c.responses_read_are_final.ensures.status }
