use Rattle.proxy_record_laws.proofs.Served.{recorded_turn_writes}
use Rattle.proxy_record_laws.proofs.record_laws.a_recorded_turn_sends_its_effects.Goals as goal

pub returns : goal.returns
returns c = recorded_turn_writes c.a_turn_writes_its_effects.ensures c.a_reachable_engine_stays_reachable.ensures.by_steps c.turns_execute_their_steps.ensures.over_reports c.what_a_turn_takes_is_recorded.ensures
