use Rattle.proxy_record_laws.proofs.Messages.{writes_messages, life_writes_messages}
use Rattle.proxy_record_laws.proofs.record_laws.each_write_of_a_server_is_one_message.Goals as goal

pub returns : goal.returns
returns c =
    let messages = c.each_write_of_a_turn_is_one_message.ensures.over in
    record {
      turn = writes_messages messages;
      life = life_writes_messages messages c.a_reachable_engine_stays_reachable.ensures.turns c.a_reachable_engine_stays_reachable.ensures.table c.a_server_lives_by_its_turns.ensures.executed;
    }
