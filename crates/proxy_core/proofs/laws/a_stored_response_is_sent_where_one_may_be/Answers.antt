use Rattle.proxy_core.proofs.SendLaws.{sends_what_may_be_sent, sends_nothing_else}
use Rattle.proxy_core.proofs.SentResponses.{sends_what_is_held}
use Rattle.proxy_core.proofs.laws.a_stored_response_is_sent_where_one_may_be.Goals as goal

pub returns : goal.returns
returns c = record { every = sends_what_may_be_sent; only = sends_nothing_else; itself = sends_what_is_held }
