use Rattle.hx_reuse.proofs.WhileRevalidatingLemmas.{may_be_sent, sent_may_be}
use Rattle.hx_reuse.proofs.laws.sent_while_revalidating_where_it_may_be.Goals as goal

pub returns : goal.returns
returns c = record { every = may_be_sent; only = sent_may_be }
