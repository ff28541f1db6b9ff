use Rattle.std.proofs.Common.{refl}
use Rattle.std.specs.Fmt.{digits}
use Rattle.proxy_script.proofs.script_cases.worked_effects_are_spelled.Goals as goal

pub returns-clause-closes : goal.returns-clause-closes
unfolding digits
returns-clause-closes c = refl

pub returns-clause-bytes : goal.returns-clause-bytes
unfolding digits
returns-clause-bytes c = refl

pub returns-clause-reply : goal.returns-clause-reply
unfolding digits
returns-clause-reply c = refl

pub returns-clause-forward : goal.returns-clause-forward
unfolding digits
returns-clause-forward c = refl

pub returns-clause-nothing : goal.returns-clause-nothing
unfolding digits
returns-clause-nothing c = refl
