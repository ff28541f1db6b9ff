use Rattle.proxy_turn_laws.proofs.Carrying.{turns_write_their_effects}
use Rattle.proxy_turn_laws.proofs.turn_laws.a_turn_writes_its_effects.Goals as goal

pub returns : goal.returns
returns c = turns_write_their_effects c.effects_name_open_ends.ensures.first c.effects_name_open_ends.ensures.takes c.effects_name_open_ends.ensures.acts c.ended_connections_and_links_stay_ended.ensures.acts c.turns_execute_their_steps.ensures.over
