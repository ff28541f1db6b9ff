use Rattle.hx_target.proofs.Judgements.{one_judgement}
use Rattle.hx_target.proofs.laws.judgement_of_a_target_is_unique.Goals as goal

pub returns : goal.returns
returns c = one_judgement
