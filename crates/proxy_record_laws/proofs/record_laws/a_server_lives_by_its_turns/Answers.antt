use Rattle.proxy_record_laws.proofs.Replaying.{server_begins, new_server_begins, life_is_executed, turn_is_lived, spent_turn_is_lived}
use Rattle.proxy_record_laws.proofs.record_laws.a_server_lives_by_its_turns.Goals as goal

pub returns : goal.returns
returns c = record {
  server = server_begins;
  begins = new_server_begins;
  executed = life_is_executed c.a_reachable_engine_stays_reachable.ensures.by_steps;
  turn = turn_is_lived c.a_reachable_engine_stays_reachable.ensures.runs;
  spent = spent_turn_is_lived c.a_reachable_engine_stays_reachable.ensures.runs;
}
