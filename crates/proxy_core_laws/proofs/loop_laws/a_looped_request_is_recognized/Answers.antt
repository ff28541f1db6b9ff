use Rattle.proxy_core_laws.proofs.ComingBack.{each_pass_is_named, who_came_back_waits_for_nobody}
use Rattle.proxy_core_laws.proofs.loop_laws.a_looped_request_is_recognized.Goals as goal

pub returns : goal.returns
returns c = record { named = each_pass_is_named; waits = who_came_back_waits_for_nobody }
