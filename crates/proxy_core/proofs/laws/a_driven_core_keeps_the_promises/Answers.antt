use Rattle.proxy_core.proofs.Driven.{promises_of_a_driven_core}
use Rattle.proxy_core.proofs.laws.a_driven_core_keeps_the_promises.Goals as goal

pub returns : goal.returns
returns c = promises_of_a_driven_core
