use Rattle.std.proofs.Common.{rules, refl}
use Rattle.std.proofs.lemmas.Option.{slice_get_read, slice_get_past}
use Rattle.proxy_figures.specs.Origins.{origin_with_one_more_silence}
use Rattle.proxy_figures.proofs.OriginLemmas.{same_counted, changed_at}
use Rattle.proxy_figures.proofs.origins.Origins.count_silent_exchange.Goals as goal

pub invariant_of-self : goal.invariant_of-self
invariant_of-self c = same_counted _ _ _ _ (search rules) c.in-Some.ensures.value _ _ c.self.invariant (rw c.count_silent_exchange-falls_silent.ensures.once_more) (rw c.count_silent_exchange-falls_silent.ensures.once_more)

pub returns-in-Some-clause-at : goal.returns-in-Some-clause-at
returns-in-Some-clause-at c = rw (← c.self.view_is) (changed_at _ _ _ _ (search rules) c.in-Some.ensures.value origin_with_one_more_silence c.count_silent_exchange-falls_silent.ensures.once_more)

pub returns-in-Some-clause-fallen : goal.returns-in-Some-clause-fallen
returns-in-Some-clause-fallen c = rw (← c.self.view_is, slice_get_read c.self.inside.items.items _ c.args.place c.in-Some.origin.now refl (search rules) c.in-Some.ensures.value, ← c.count_silent_exchange-falls_silent.ensures.falls) c.count_plus_one_if-self-inside.ensures

pub returns-in_default-clause-fallen : goal.returns-in_default-clause-fallen
returns-in_default-clause-fallen c = rw (← c.self.view_is, slice_get_past c.self.inside.items.items c.args.place (search rules)) refl
