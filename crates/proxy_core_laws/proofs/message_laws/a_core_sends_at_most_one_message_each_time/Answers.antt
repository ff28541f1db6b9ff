use Rattle.proxy_core_laws.proofs.SentMessages.{one_request_is_all, one_response_is_all, sends_one_message_each_time}
use Rattle.proxy_core_laws.proofs.message_laws.a_core_sends_at_most_one_message_each_time.Goals as goal

pub returns : goal.returns
returns c = record { each = sends_one_message_each_time; one_request = one_request_is_all; one_response = one_response_is_all }
