use Rattle.std.proofs.Common.{rules, ◌≡◌, true}
use Rattle.hx_vary.specs.Vary.{vary_counts_as_star}
use Rattle.hx_hop.specs.Answering.{answered_of}
use Rattle.proxy_core.specs.Storing.{is_storable}
use Rattle.proxy_core.proofs.Storable.{no_star}
use Rattle.proxy_core.proofs.core_state.Core.decide_storage.Goals as goal

-- what nominates nothing has a rule against it
pub returns-in-Star-clause-serial : goal.returns-in-Star-clause-serial
returns-in-Star-clause-serial g c =
    let s = c.args.self.now in
    let x = c.args.answer.now.exchange.now in
    let r = c.args.answer.now.response.now in
    let now = c.args.answer.now.response_time in
    let storable : is_storable s.table x r now s.next ≡ true = search rules in
    let star : vary_counts_as_star (answered_of r now).fields ≡ true = search rules in
    absurd (no_star c.the_least_storage_rule_is_named.ensures.none s.table x r now s.next storable star)
