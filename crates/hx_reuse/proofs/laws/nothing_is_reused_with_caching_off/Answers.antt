use Rattle.std.proofs.Common.{sym}
use Rattle.hx_reuse.proofs.RuleLemmas.{by_operator}
use Rattle.hx_reuse.proofs.laws.nothing_is_reused_with_caching_off.Goals as goal

pub returns : goal.returns
returns c = λ policy held asked now off. sym (by_operator policy held asked now off)
