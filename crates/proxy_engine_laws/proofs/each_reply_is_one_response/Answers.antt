use Rattle.proxy_engine_laws.proofs.SentEach.{answers_one_response_each, gets_one_response_each}
use Rattle.proxy_engine_laws.proofs.each_reply_is_one_response.Goals as goal

pub returns : goal.returns
returns c = record { each_act = answers_one_response_each; all = gets_one_response_each }
