use Rattle.std.proofs.Common.{refl}
use Rattle.std.specs.Fmt.{digits}
use Rattle.hx_status.proofs.worked_cases.worked_collapsed_answer_text.Goals as goal

pub returns : goal.returns
unfolding digits
returns c = refl
