use Rattle.std.proofs.Common.{refl}
use Rattle.std.specs.Fmt.{digits}
use Rattle.hx_status.proofs.worked_cases.worked_texts.Goals as goal

pub returns-clause-hit : goal.returns-clause-hit
unfolding digits
returns-clause-hit c = refl

pub returns-clause-stored : goal.returns-clause-stored
unfolding digits
returns-clause-stored c = refl

pub returns-clause-over : goal.returns-clause-over
unfolding digits
returns-clause-over c = refl

pub returns-clause-denied : goal.returns-clause-denied
unfolding digits
returns-clause-denied c = refl

pub returns-clause-looped : goal.returns-clause-looped
unfolding digits
returns-clause-looped c = refl
