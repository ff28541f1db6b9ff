use Rattle.std.proofs.Common.{ap, map, ◌∙◌}
use Rattle.hx_allow.specs.Tags.{purge_tag_or_none}
use Rattle.hx_allow.specs.declared.purges.PurgeScope.{PurgeScope}
use Rattle.proxy_core.specs.Scopes.{scope_without_tag}
use Rattle.proxy_core.specs.State.{exchange_overtaken_if_in_scope}
use Rattle.proxy_core.proofs.PurgedTags.{overtaken_whatever_the_tag}
use Rattle.proxy_core.proofs.steps.purging.overtake_purged.Goals as goal

pub returns : goal.returns
returns c =
    let key = c.args.asked.now.target.key in
    c.overtake_within.ensures
    ∙ (ap (λ (reach : PurgeScope). map (exchange_overtaken_if_in_scope (scope_without_tag reach key)) c.args.exchanges.now) c.purge_scope_of_request-reach.ensures
    ∙ overtaken_whatever_the_tag _ key (purge_tag_or_none c.args.asked.now.fields) c.args.exchanges.now)
