use Rattle.std.proofs.Common.{refl}
use Rattle.std.specs.Fmt.{digits}
use Rattle.hx_framing.proofs.laws.text_laws.worked_reply_texts.Goals as goal

pub returns-clause-stored : goal.returns-clause-stored
unfolding digits
returns-clause-stored c = refl

pub returns-clause-stored_size : goal.returns-clause-stored_size
unfolding digits
returns-clause-stored_size c = refl

pub returns-clause-hit : goal.returns-clause-hit
unfolding digits
returns-clause-hit c = refl

pub returns-clause-hit_size : goal.returns-clause-hit_size
unfolding digits
returns-clause-hit_size c = refl

pub returns-clause-closed : goal.returns-clause-closed
unfolding digits
returns-clause-closed c = refl

pub returns-clause-no_length : goal.returns-clause-no_length
unfolding digits
returns-clause-no_length c = refl
