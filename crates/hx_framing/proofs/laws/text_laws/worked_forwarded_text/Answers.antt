use Rattle.std.proofs.Common.{refl}
use Rattle.std.specs.Fmt.{digits}
use Rattle.hx_framing.proofs.laws.text_laws.worked_forwarded_text.Goals as goal

pub returns-clause-text : goal.returns-clause-text
returns-clause-text c = refl

pub returns-clause-size : goal.returns-clause-size
returns-clause-size c = refl

pub returns-clause-content : goal.returns-clause-content
unfolding digits
returns-clause-content c = refl
