use Rattle.std.proofs.Common.{ℕ, Option, sym, subst, ◌∙◌}
use Rattle.proxy_core.specs.Releases.{is_between_arrivals, ReleasedArrivalsPassTest}
use Rattle.proxy_core.proofs.Releases.{none_first}
use Rattle.proxy_core.proofs.open.released.Released.settle.Goals as goal

pub first_between-self-requires : goal.first_between-self-requires
first_between-self-requires c =
    subst (λ (o : Option ℕ). ReleasedArrivalsPassTest (is_between_arrivals o c.args.self.now.last) c.args.by_arrival.now.entries) c.in-Some.is c.requires

pub returns-in_default-clause-settled : goal.returns-in_default-clause-settled
returns-in_default-clause-settled c =
    record {
      first_is = c.in_default.is ∙ sym (none_first c.args.by_arrival.now.entries
          (subst (λ (o : Option ℕ). ReleasedArrivalsPassTest (is_between_arrivals o c.args.self.now.last) c.args.by_arrival.now.entries) c.in_default.is c.requires));
      within = c.requires;
    }
