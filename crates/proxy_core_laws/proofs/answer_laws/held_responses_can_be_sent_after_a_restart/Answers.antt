use Rattle.proxy_core_laws.proofs.LeftStores.{leaves_sound}
use Rattle.proxy_core_laws.proofs.answer_laws.held_responses_can_be_sent_after_a_restart.Goals as goal

pub returns : goal.returns
returns c = leaves_sound
