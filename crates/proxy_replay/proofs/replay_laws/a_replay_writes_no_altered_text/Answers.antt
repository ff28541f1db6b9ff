use Rattle.proxy_replay.proofs.OnePlay.{has_one_play, has_one_text}
use Rattle.proxy_replay.proofs.OneReplay.{no_other_text, not_before_its_end, no_read_fails_at_the_end, nothing_by_a_refused_table}
use Rattle.proxy_replay.proofs.replay_laws.a_replay_writes_no_altered_text.Goals as goal

pub returns : goal.returns
returns c =
    let play = has_one_play c.one_act_is_due_first.ensures c.an_act_is_done_in_one_way.ensures in
    record {
      text = no_other_text (has_one_text c.items_are_found_as_they_are_spelled.ensures.again play c.reading_of_a_table_is_unique.ensures);
      whole = not_before_its_end;
      read = no_read_fails_at_the_end;
      refused = nothing_by_a_refused_table;
    }
