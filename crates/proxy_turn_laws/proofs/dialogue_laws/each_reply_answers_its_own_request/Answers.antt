use Rattle.proxy_turn_laws.proofs.Speaking.{each_reply_answers_its_own_request}
use Rattle.proxy_turn_laws.proofs.dialogue_laws.each_reply_answers_its_own_request.Goals as goal

pub returns : goal.returns
returns c = each_reply_answers_its_own_request c.effects_name_open_ends.ensures.first c.effects_name_open_ends.ensures.takes c.effects_name_open_ends.ensures.acts c.ended_connections_and_links_stay_ended.ensures.takes c.ended_connections_and_links_stay_ended.ensures.acts
