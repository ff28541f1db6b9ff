use Rattle.std.proofs.Common.{Option, ℕ, subst}
use Rattle.memchr.specs.Find.{IsFirstByte, is_byte}
use Rattle.hx_framing.proofs.PlaceSteps.{first_place, no_place}
use Rattle.hx_framing.proofs.slices.index_of_byte.Goals as goal

pub returns-in-Some-clause-place : goal.returns-in-Some-clause-place
returns-in-Some-clause-place c = first_place c.args.byte c.in-Some.at c.args.text.now (subst (λ (r : Option ℕ). IsFirstByte (is_byte c.args.byte) c.args.text.now r) c.in-Some.is c.memchr.ensures)

pub returns-in-None-clause-place : goal.returns-in-None-clause-place
returns-in-None-clause-place c = no_place c.args.byte c.args.text.now (subst (λ (r : Option ℕ). IsFirstByte (is_byte c.args.byte) c.args.text.now r) c.in-None.is c.memchr.ensures)
