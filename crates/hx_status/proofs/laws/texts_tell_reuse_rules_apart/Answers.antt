use Rattle.hx_status.proofs.TextLemmas.{texts_differ}
use Rattle.hx_status.proofs.laws.texts_tell_reuse_rules_apart.Goals as goal

pub returns : goal.returns
returns c = texts_differ
