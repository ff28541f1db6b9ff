use Rattle.proxy_engine_laws.proofs.HandedOver.{hands_what_was_read}
use Rattle.proxy_engine_laws.proofs.a_core_is_handed_what_was_read.Goals as goal

pub returns : goal.returns
returns c = hands_what_was_read
