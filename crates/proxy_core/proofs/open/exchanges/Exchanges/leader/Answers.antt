use Rattle.std.proofs.Common.{◌∙◌, false, ap, sym}
use Rattle.proxy_core.specs.Leading.{leader}
use Rattle.proxy_core.specs.Waiters.{set_contains}
use Rattle.proxy_core.specs.ByKey.{is_get_at_origin_for_key}
use Rattle.proxy_core.proofs.Indexed.{passes}
use Rattle.proxy_core.proofs.AskedArrivals.{none_asks}
use Rattle.proxy_core.proofs.open.exchanges.Exchanges.leader.Goals as goal

pub first_to_lead-requires : goal.first_to_lead-requires
first_to_lead-requires c =
    let key = c.args.asked.now.target.key in
    passes (is_get_at_origin_for_key key) _ c.self.inside.by_arrival.entries c.self.invariant.indexes.ids.apart
    (λ m. ap (λ o. set_contains o m) c.in-Some.ensures ∙ c.self.invariant.asking.0 key m)

pub returns-in-None : goal.returns-in-None
returns-in-None c =
    let key = c.args.asked.now.target.key in
    let es = c.self.inside.by_arrival.entries in
    sym (none_asks c.args.policy c.args.awaited c.args.asked.now es (passes (is_get_at_origin_for_key key) (λ m. false) es c.self.invariant.indexes.ids.apart
    (λ m. ap (λ o. set_contains o m) c.in-None.ensures ∙ c.self.invariant.asking.0 key m)))
    ∙ ap (leader c.args.policy c.args.awaited c.args.asked.now) c.self.view_is
