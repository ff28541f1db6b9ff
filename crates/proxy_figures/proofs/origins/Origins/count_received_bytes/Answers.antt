use Rattle.std.proofs.Common.{rules}
use Rattle.proxy_figures.specs.Origins.{origin_heard_with_received_bytes}
use Rattle.proxy_figures.proofs.OriginLemmas.{same_counted, changed_at, unchanged_past}
use Rattle.proxy_figures.proofs.origins.Origins.count_received_bytes.Goals.{in-Some, in_default}
use Rattle.proxy_figures.proofs.origins.Origins.count_received_bytes.Goals as goal

pub invariant_of-self : goal.invariant_of-self
invariant_of-self c = elim c.match-get_mut.branch [
  | in-Some w ↦ rw w.self-inside-is (same_counted _ _ _ _ (search rules) w.in-Some.ensures.value _ _ c.self.invariant (rw w.hear.ensures) (rw w.hear.ensures))
  | in_default w ↦ rw w.self-inside-is c.self.invariant
]

pub returns-clause-at : goal.returns-clause-at
returns-clause-at c = elim c.match-get_mut.branch [
  | in-Some w ↦ rw (w.self-inside-is, ← c.self.view_is) (changed_at _ _ _ _ (search rules) w.in-Some.ensures.value (origin_heard_with_received_bytes _) w.hear.ensures)
  | in_default w ↦ rw (w.self-inside-is, ← c.self.view_is) (unchanged_past _ _ _ (search rules))
]
