use Rattle.hx_reuse.proofs.RuleLemmas.{by_operator}
use Rattle.hx_reuse.proofs.decision.decide.Goals as goal

pub returns-else-policy : goal.returns-else-policy
returns-else-policy g c = by_operator c.args.policy (g.S.Shelf.entries c.args.shelf.now) c.args.asked.now c.args.now c.if-policy.false
