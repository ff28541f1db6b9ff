use Rattle.std.proofs.Common.{rules, ◌≡◌, [], true, false, cond, ap, sym, ◌∙◌}
use Rattle.proxy_core.specs.Allowing.{is_refused_as_loop}
use Rattle.proxy_core.specs.Leading.{leader_id_if_awaited}
use Rattle.proxy_core.proofs.Leads.{nobody_to_wait_for}
use Rattle.proxy_core.proofs.core_state.Core.leader_for.Goals as goal

pub returns-then-is_refused_as_loop : goal.returns-then-is_refused_as_loop
returns-then-is_refused_as_loop g c =
    let s = c.args.self.now in
    let back : is_refused_as_loop s.table c.args.line c.args.asked.now ≡ true = search rules in
    sym (ap (λ b. leader_id_if_awaited c.args.policy c.args.asked.now (cond b [] s.exchanges) c.args.awaited) back ∙ nobody_to_wait_for c.args.policy c.args.asked.now c.args.awaited)

pub returns-else-is_refused_as_loop : goal.returns-else-is_refused_as_loop
returns-else-is_refused_as_loop g c =
    let s = c.args.self.now in
    let stays : is_refused_as_loop s.table c.args.line c.args.asked.now ≡ false = search rules in
    c.leader_among.ensures ∙ sym (ap (λ b. leader_id_if_awaited c.args.policy c.args.asked.now (cond b [] s.exchanges) c.args.awaited) stays)
