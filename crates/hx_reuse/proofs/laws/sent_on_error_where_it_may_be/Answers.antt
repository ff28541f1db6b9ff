use Rattle.hx_reuse.proofs.OnErrorLemmas.{may_be_sent_on_error, sent_may_be}
use Rattle.hx_reuse.proofs.laws.sent_on_error_where_it_may_be.Goals as goal

pub returns : goal.returns
returns c = record { every = may_be_sent_on_error; only = sent_may_be }
