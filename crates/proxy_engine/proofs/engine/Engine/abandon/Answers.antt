use Rattle.std.proofs.Common.{◌∙◌}
use Rattle.proxy_engine.proofs.ActivityCases.{waiting_from}
use Rattle.proxy_engine.proofs.engine.Engine.abandon.Goals as goal

pub abandon_waiting-requires-clause-waiting : goal.abandon_waiting-requires-clause-waiting
abandon_waiting-requires-clause-waiting g c = waiting_from _ c.requires.open (c.requires.linked ∙ c.in-None.is)
