use Rattle.proxy_engine.proofs.SendingEnds.{sending_has_number, readable_may_send, sending_is_readable, accept_adds, accept_keeps}
use Rattle.proxy_engine.proofs.laws.readable_ends_may_send.Goals as goal

pub returns-clause-numbered : goal.returns-clause-numbered
returns-clause-numbered c = sending_has_number

pub returns-clause-each : goal.returns-clause-each
returns-clause-each c = readable_may_send

pub returns-clause-no_other : goal.returns-clause-no_other
returns-clause-no_other c = sending_is_readable

pub returns-clause-accept : goal.returns-clause-accept
returns-clause-accept c = accept_adds

pub returns-clause-kept : goal.returns-clause-kept
returns-clause-kept c = accept_keeps
