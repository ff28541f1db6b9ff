use Rattle.std.proofs.Common.{ap, ◌∙◌, map}
use Rattle.proxy_core.specs.State.{exchange_released_from_leader}
use Rattle.proxy_core.proofs.open.exchanges.Exchanges.close.Goals as goal

pub returns-clause-after : goal.returns-clause-after
returns-clause-after c = c.release.ensures ∙ ap (map (exchange_released_from_leader c.args.id)) c.remove_from_index-taken.ensures.after
