use Rattle.proxy_record_laws.proofs.Playing.{play_goes_on}
use Rattle.proxy_record_laws.proofs.record_laws.a_whole_play_extends_the_play_so_far.Goals as goal

pub returns : goal.returns
returns c = play_goes_on c.one_act_is_due_first.ensures c.an_act_is_done_in_one_way.ensures c.a_script_has_one_play.ensures.play
