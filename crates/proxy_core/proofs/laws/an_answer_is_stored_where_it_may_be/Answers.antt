use Rattle.proxy_core.proofs.Expiring.{expires_just_that}
use Rattle.proxy_core.proofs.Purged.{purges_where_said}
use Rattle.proxy_core.proofs.StoredAnswers.{stores_where_allowed, stores_nowhere_else, removes_just_that}
use Rattle.proxy_core.proofs.laws.an_answer_is_stored_where_it_may_be.Goals as goal

pub returns : goal.returns
returns c = record { every = stores_where_allowed; only = stores_nowhere_else; removed = removes_just_that; purges = purges_where_said; expired = expires_just_that }
