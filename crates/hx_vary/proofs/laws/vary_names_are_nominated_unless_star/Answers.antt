use Rattle.std.proofs.Common.{refl}
use Rattle.hx_vary.proofs.laws.vary_names_are_nominated_unless_star.Goals as goal

pub returns : goal.returns
returns c = record { star = λ response request h. rw h refl; names = λ response request h. rw h refl }
