use Rattle.std.proofs.Common.{Some, Option, ap, ◌∙◌, map}
use Rattle.proxy_core.specs.declared.open.as_next_leader.NextLeader.{NextLeader}
use Rattle.proxy_core.specs.LeadingOn.{waiter_after_abandon, exchanges_without}
use Rattle.proxy_core.proofs.LedOn.{without-led_on}
use Rattle.proxy_core.proofs.open.exchanges.Exchanges.abandon.Goals as goal

pub returns-in_ok-lead_on-in-Some-clause-ok : goal.returns-in_ok-lead_on-in-Some-clause-ok
returns-in_ok-lead_on-in-Some-clause-ok c =
    let old = c.args.self.now in
    let id = c.args.id in
    c.remove_from_index.ensures.after
    ∙ (ap (exchanges_without id) c.in_ok-lead_on-in-Some.ensures.ok
    ∙ (without-led_on c.args.config.now (Some c.in-Some.next) id id old
    ∙ ap (λ (n : Option NextLeader). map (waiter_after_abandon c.args.config.now n id) (exchanges_without id old)) c.in-Some.ensures.next))

pub returns-in-None-clause-ok : goal.returns-in-None-clause-ok
returns-in-None-clause-ok c =
    let old = c.args.self.now in
    let id = c.args.id in
    c.close.ensures.after ∙ ap (λ (n : Option NextLeader). map (waiter_after_abandon c.args.config.now n id) (exchanges_without id old)) c.in-None.ensures.next
