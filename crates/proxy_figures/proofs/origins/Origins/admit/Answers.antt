use Rattle.std.proofs.Common.{rules, refl}
use Rattle.std.proofs.lemmas.Option.{slice_get_read, slice_get_past}
use Rattle.proxy_figures.specs.Origins.{admission_of_link_to_origin, origin_with_refusal_if_not_admitted}
use Rattle.proxy_figures.proofs.OriginLemmas.{same_counted, changed_at, unchanged_past, admission-address, admission-open}
use Rattle.proxy_figures.proofs.origins.Origins.admit.Goals.{in-Some, in-None}
use Rattle.proxy_figures.proofs.origins.Origins.admit.Goals as goal

pub invariant_of-self : goal.invariant_of-self
invariant_of-self c = elim c.match-get_mut.branch [
  | in-Some w ↦ rw w.self-inside-is (same_counted _ _ _ _ (search rules) w.in-Some.ensures.value _ _ c.self.invariant (rw w.admit.ensures.counted (admission-address (admission_of_link_to_origin c.self.inside.most c.args.probes w.in-Some.origin.now) c.self.inside.most w.in-Some.origin.now)) (rw w.admit.ensures.counted (admission-open (admission_of_link_to_origin c.self.inside.most c.args.probes w.in-Some.origin.now) c.self.inside.most w.in-Some.origin.now)))
  | in-None w ↦ rw w.self-inside-is c.self.invariant
]

pub returns-clause-admission : goal.returns-clause-admission
returns-clause-admission c = elim c.match-get_mut.branch [
  | in-Some w ↦ rw (w.result-is, ← c.self.view_is, slice_get_read c.self.inside.items.items _ c.args.place w.in-Some.origin.now refl (search rules) w.in-Some.ensures.value) w.admit.ensures.admission
  | in-None w ↦ rw (w.result-is, ← c.self.view_is, slice_get_past c.self.inside.items.items c.args.place (search rules)) refl
]

pub returns-clause-counted : goal.returns-clause-counted
returns-clause-counted c = elim c.match-get_mut.branch [
  | in-Some w ↦ rw (w.self-inside-is, ← c.self.view_is) (changed_at _ _ _ _ (search rules) w.in-Some.ensures.value (λ origin. origin_with_refusal_if_not_admitted (admission_of_link_to_origin _ _ origin) _ origin) w.admit.ensures.counted)
  | in-None w ↦ rw (w.self-inside-is, ← c.self.view_is) (unchanged_past _ _ _ (search rules))
]
