use Rattle.proxy_record_laws.proofs.Messages.{replies_follow}
use Rattle.proxy_record_laws.proofs.record_laws.replies_of_a_server_follow_requests.Goals as goal

pub returns : goal.returns
returns c = replies_follow c.each_reply_answers_its_own_request.ensures c.a_server_lives_by_its_turns.ensures.executed
