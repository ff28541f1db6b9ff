use Rattle.proxy_replay.proofs.OnePlay.{has_one_play, has_one_text}
use Rattle.proxy_replay.proofs.laws.a_script_has_one_play.Goals as goal

pub returns : goal.returns
returns c =
    let play = has_one_play c.one_act_is_due_first.ensures c.an_act_is_done_in_one_way.ensures in
    record { play = play; text = has_one_text c.items_are_found_as_they_are_spelled.ensures.again play c.reading_of_a_table_is_unique.ensures }
