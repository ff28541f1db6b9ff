use Rattle.std.proofs.Common.{rules}
use Rattle.proxy_figures.specs.Origins.{origin_with_written_bytes}
use Rattle.proxy_figures.proofs.OriginLemmas.{same_counted, changed_at, unchanged_past}
use Rattle.proxy_figures.proofs.origins.Origins.add_written.Goals.{in-Some, in_default}
use Rattle.proxy_figures.proofs.origins.Origins.add_written.Goals as goal

pub invariant_of-self : goal.invariant_of-self
invariant_of-self c = elim c.match-get_mut.branch [
  | in-Some w ↦ rw w.self-inside-is (same_counted _ _ _ _ (search rules) w.in-Some.ensures.value _ _ c.self.invariant (rw w.add_written.ensures) (rw w.add_written.ensures))
  | in_default w ↦ rw w.self-inside-is c.self.invariant
]

pub returns-clause-at : goal.returns-clause-at
returns-clause-at c = elim c.match-get_mut.branch [
  | in-Some w ↦ rw (w.self-inside-is, ← c.self.view_is) (changed_at _ _ _ _ (search rules) w.in-Some.ensures.value (origin_with_written_bytes _) w.add_written.ensures)
  | in_default w ↦ rw (w.self-inside-is, ← c.self.view_is) (unchanged_past _ _ _ (search rules))
]
