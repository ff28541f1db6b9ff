use Rattle.proxy_core.proofs.OpenLaws.{exchanges_are_overtaken_where_invalidated}
use Rattle.proxy_core.proofs.laws.exchanges_are_overtaken_where_invalidated.Goals as goal

pub returns : goal.returns
returns c = exchanges_are_overtaken_where_invalidated
