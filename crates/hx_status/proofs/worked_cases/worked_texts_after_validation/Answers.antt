use Rattle.std.proofs.Common.{refl}
use Rattle.std.specs.Fmt.{digits}
use Rattle.hx_status.proofs.worked_cases.worked_texts_after_validation.Goals as goal

pub returns-clause-stored : goal.returns-clause-stored
unfolding digits
returns-clause-stored c = refl

pub returns-clause-freshened : goal.returns-clause-freshened
unfolding digits
returns-clause-freshened c = refl

pub returns-clause-after_304 : goal.returns-clause-after_304
unfolding digits
returns-clause-after_304 c = refl

pub returns-clause-after_error : goal.returns-clause-after_error
unfolding digits
returns-clause-after_error c = refl
