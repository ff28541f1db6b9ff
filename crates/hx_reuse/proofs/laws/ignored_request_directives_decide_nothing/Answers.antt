use Rattle.hx_reuse.proofs.LineLemmas.{advice_never_applies, advice_never_on_error, advice_decides_nothing}
use Rattle.hx_reuse.proofs.laws.ignored_request_directives_decide_nothing.Goals as goal

pub returns : goal.returns
returns c = record { rules = advice_never_applies; on_error = advice_never_on_error; decision = advice_decides_nothing }
