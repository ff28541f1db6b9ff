use Rattle.hx_reuse.proofs.MeaningLemmas.{is_sent, may_be_sent}
use Rattle.hx_reuse.proofs.laws.chosen_is_sent_iff_no_rule_applies.Goals as goal

pub returns : goal.returns
returns c = record { every = is_sent; only = may_be_sent }
