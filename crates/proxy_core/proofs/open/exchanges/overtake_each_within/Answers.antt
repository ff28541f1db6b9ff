use Rattle.std.proofs.Common.{rules, ◌≡◌}
use Rattle.std.proofs.lemmas.Map.Made.{map_same_pairs}
use Rattle.proxy_core.specs.Scopes.{scope_without_tag}
use Rattle.proxy_core.specs.State.{exchange_overtaken_if_in_scope}
use Rattle.proxy_core.proofs.open.exchanges.overtake_each_within.Goals as goal

pub returns : goal.returns
returns c = map_same_pairs _ (exchange_overtaken_if_in_scope (scope_without_tag c.args.reach c.args.asked.now)) _ (λ k v b w f' t. search rules) _ _ c.retain.ensures.filtered
