use Rattle.std.proofs.Common.{refl}
use Rattle.std.specs.Fmt.{digits}
use Rattle.hx_status.proofs.worked_cases.worked_text_while_revalidating.Goals as goal

pub returns : goal.returns
unfolding digits
returns c = refl
