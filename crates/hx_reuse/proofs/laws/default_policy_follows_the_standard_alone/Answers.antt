use Rattle.hx_reuse.proofs.LineLemmas.{plain_lifetime, plain_rule, plain_decides, plain_error_rule, plain_leaves}
use Rattle.hx_reuse.proofs.KeptConditions.{none_stays}
use Rattle.hx_reuse.proofs.FilledRanges.{none_filled}
use Rattle.hx_reuse.proofs.WhileRevalidatingLemmas.{plain_sends_nothing}
use Rattle.hx_reuse.proofs.laws.default_policy_follows_the_standard_alone.Goals as goal

pub returns : goal.returns
returns c = record { lifetime = plain_lifetime; rules = plain_rule; decision = plain_decides; error_rules = plain_error_rule; leave = plain_leaves; while_revalidating = plain_sends_nothing; conditions = none_stays; ranges = none_filled }
